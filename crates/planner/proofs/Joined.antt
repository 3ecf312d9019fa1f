-- What joins the calls: the part that `planner::part` gives of the two buffers and the value that `planner::plan` or `planner::plan_with_page` left,
-- the sheet that `planner::chosen_sheet` gives of the two sheets and the value that `planner::choose` gave, and the one that `planner::slots_part`
-- gives of the buffer and the value that `planner::least_slots` left. Assumes nothing.
use mathlib.Core.Path.{◌≡◌, refl, sym, ap, ◌∙◌}
use mathlib.Core.List.{List, []}
use mathlib.Core.Option.{Option, none, some}
use Prim.Native.Nat.{ℕ}
use lib.ListN.{length, take}
use Rattle.bits.specs.Reading.{Answer, given, refused}
use Rattle.model.specs.Calls.{is_first, is_second, of_two, handed, short_after, sparing_after, returned, part_of, part_after, plan_given, ChosenSheet, choose_answer, returned_choice, sheet_handed, sheet_after}
use Rattle.model.specs.Calls.{Which as WhichGiven}
use Rattle.model.specs.Calls.{Planned as PlanGiven}
use Rattle.model.specs.Calls.{PlannedPage as PageGiven}
use Rattle.slot_counts.specs.Slots.{SlotsFound, slots_after, returned_slots, slots_part}
use Rattle.model.proofs.Promises.{part-handed, plan_refused, page_exactly, sheet-handed, choose_refused}
use Rattle.slot_counts.proofs.Promises.{slots-written, none_written, slots-refused}
use Rattle.returning.specs.Returning.{planned_as, which_as, which_given, chosen_as, least_as}
use Rattle.planner.specs.Planner.{plan_into, page_into, slots_into, slots_length}
use Rattle.planner.specs.Planner.{part_given as planner_part}
use Rattle.planner.specs.Planner.{sheet_given as planner_sheet}

-- by the contracts of both: what `part` gives after a planning call that gave `a`
abbrev pub part_of_call : Answer PlanGiven → List ℕ → List ℕ → List ℕ
part_of_call a short sparing =
    planner_part (planned_as (returned a)) (short_after a short) (sparing_after a sparing)

same_part : (a : Answer PlanGiven) (short sparing : List ℕ) → part_of_call a short sparing ≡ part_after a short sparing
unfolding planned_as returned part_after part_of
same_part (given p) short sparing = refl
same_part (refused n) short sparing = refl

-- After a planning call that is not refused it is the sheet handed back, byte for byte;
pub part-given : (t : List ℕ) (stop : ℕ) (short sparing : List ℕ) (p : PlanGiven) → plan_into t stop short sparing ≡ given p → part_of_call (plan_into t stop short sparing) short sparing ≡ handed p
part-given t stop short sparing p e = ap (λ (a : Answer PlanGiven). part_of_call a short sparing) e ∙ same_part (given p) short sparing ∙ part-handed t stop short sparing p e

-- after a refusal it is empty.
pub part-refused : (t : List ℕ) (stop : ℕ) (short sparing : List ℕ) (n : ℕ) → plan_into t stop short sparing ≡ refused n → part_of_call (plan_into t stop short sparing) short sparing ≡ []
part-refused t stop short sparing n e = ap (λ (a : Answer PlanGiven). part_of_call a short sparing) e ∙ same_part (refused n) short sparing ∙ (plan_refused n short sparing).1

-- After planning with a page it is the same.
pub page-part-given : (t : List ℕ) (stop : ℕ) (short sparing page : List ℕ) (p : PageGiven) → page_into t stop short sparing page ≡ given p
    → part_of_call (plan_given (page_into t stop short sparing page)) short sparing ≡ handed p.planned
unfolding plan_given
page-part-given t stop short sparing page p e =
    let planned = ((page_exactly t stop (length short) (length sparing) (length page) p).0 e).2 in
    ap (λ (a : Answer PageGiven). part_of_call (plan_given a) short sparing) e
    ∙ ap (λ (a : Answer PlanGiven). part_of_call a short sparing) (sym planned) ∙ part-given t stop short sparing p.planned planned

pub page-part-refused : (t : List ℕ) (stop : ℕ) (short sparing page : List ℕ) (n : ℕ) → page_into t stop short sparing page ≡ refused n
    → part_of_call (plan_given (page_into t stop short sparing page)) short sparing ≡ []
unfolding plan_given
page-part-refused t stop short sparing page n e =
    ap (λ (a : Answer PageGiven). part_of_call (plan_given a) short sparing) e ∙ same_part (refused n) short sparing ∙ (plan_refused n short sparing).1

-- by the contracts of both: what `chosen_sheet` gives after a choice that gave `a`
abbrev pub sheet_of_call : Answer ChosenSheet → List ℕ → List ℕ → List ℕ
sheet_of_call a first second =
    planner_sheet (chosen_as (returned_choice a)) first second

same_which : (w : WhichGiven) → which_given (which_as w) ≡ w
same_which is_first = refl
same_which is_second = refl

same_sheet : (a : Answer ChosenSheet) (first second : List ℕ) → sheet_of_call a first second ≡ sheet_after a first second
unfolding chosen_as returned_choice sheet_after sheet_handed
same_sheet (given c) first second = ap (λ (w : WhichGiven). sheet_handed (some w) c.sheet_length first second) (same_which c.which)
same_sheet (refused n) first second = refl

-- After a choice that is not refused it is the sheet handed back, byte for byte;
pub sheet-given : (t : List ℕ) (stop : ℕ) (first second : List ℕ) (c : ChosenSheet) → choose_answer t stop first second ≡ given c
    → sheet_of_call (choose_answer t stop first second) first second ≡ of_two c.which first second
sheet-given t stop first second c e = ap (λ (a : Answer ChosenSheet). sheet_of_call a first second) e ∙ same_sheet (given c) first second ∙ sheet-handed t stop first second c e

-- after a refusal it is empty.
pub sheet-refused : (t : List ℕ) (stop : ℕ) (first second : List ℕ) (n : ℕ) → choose_answer t stop first second ≡ refused n → sheet_of_call (choose_answer t stop first second) first second ≡ []
sheet-refused t stop first second n e = ap (λ (a : Answer ChosenSheet). sheet_of_call a first second) e ∙ same_sheet (refused n) first second ∙ (choose_refused n first second []).1

-- by the contracts of both: what `slots_part` gives after a call for the least slots that gave `a`
abbrev pub slots_part_of_call : Answer (Option SlotsFound) → List ℕ → List ℕ
slots_part_of_call a short = take (slots_length (least_as (returned_slots a))) (slots_after a short)

same_slots : (a : Answer (Option SlotsFound)) (short : List ℕ) → slots_part_of_call a short ≡ slots_part a short
unfolding least_as returned_slots slots_part
same_slots (given (some f)) short = refl
same_slots (given none) short = refl
same_slots (refused n) short = refl

-- After a call that found a count it is the short sheet for it, byte for byte;
pub slots-part-given : (t : List ℕ) (stop d wanted : ℕ) (short : List ℕ) (f : SlotsFound) → slots_into t stop d wanted short ≡ given (some f)
    → slots_part_of_call (slots_into t stop d wanted short) short ≡ f.sheet
slots-part-given t stop d wanted short f e =
    ap (λ (a : Answer (Option SlotsFound)). slots_part_of_call a short) e ∙ same_slots (given (some f)) short ∙ (slots-written t stop d wanted short f e).1

-- where there is none, and after a refusal, it is empty.
pub slots-part-none : (t : List ℕ) (stop d wanted : ℕ) (short : List ℕ) → slots_into t stop d wanted short ≡ given none → slots_part_of_call (slots_into t stop d wanted short) short ≡ []
slots-part-none t stop d wanted short e = ap (λ (a : Answer (Option SlotsFound)). slots_part_of_call a short) e ∙ same_slots (given none) short ∙ (none_written short).1

pub slots-part-refused : (t : List ℕ) (stop d wanted : ℕ) (short : List ℕ) (n : ℕ) → slots_into t stop d wanted short ≡ refused n
    → slots_part_of_call (slots_into t stop d wanted short) short ≡ []
slots-part-refused t stop d wanted short n e = ap (λ (a : Answer (Option SlotsFound)). slots_part_of_call a short) e ∙ same_slots (refused n) short ∙ (slots-refused n short).1
