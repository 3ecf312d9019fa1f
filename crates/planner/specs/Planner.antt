-- The calls for lent buffers, and the promises that their contracts carry, each for every ticket and stop. Assumes nothing.
use Rattle.std.specs.Prelude.{◌≡◌, ◌↔◌, List, [], ℕ, ◌≤◌, length, get_or, Option, None, Some, Result, Ok, Err, IsOk}
use Rattle.std.proofs.Math.Option.{none, some}
use Rattle.std.proofs.Math.Option.{Option as OptionGiven}
use Rattle.bits.specs.Reading.{Answer, given, refused}
use Rattle.model.specs.Job.{Job}
use Rattle.model.specs.Ticket.{ticket_of}
use Rattle.model.specs.Playing.{Schedule}
use Rattle.model.specs.Valid.{ValidSheet}
use Rattle.model.specs.Calls.{job_up_to, Counts, counts_of, fetches_on, short_counts, sparing_counts, SparingWithin, of_two, is_sparing, mark_for, chosen, part_of, sheet_handed, handed_counts, Planned, plan_answer, PlannedPage, page_answer, check_answer, ChosenSheet}
use Rattle.slot_counts.specs.Slots.{ticket_with, Least, NoneEnough, SlotsFound, slots_answer}
use Rattle.checking.specs.Checking.{checked_of}
use Rattle.playing.specs.declared.Counts.{Counts as CountsOf}
use Rattle.refusal.specs.declared.Refusal.{Refusal}
use Rattle.returning.specs.Returning.{which_given, of_which}
use Rattle.returning.specs.declared.Planned.{Planned as PlannedOf}
use Rattle.returning.specs.declared.Chosen.{Chosen}
use Rattle.returning.specs.declared.LeastSlots.{LeastSlots}

-- A planning call for a ticket, a stop and two lent buffers, of which only the lengths count.
abbrev pub plan_into : List ℕ → ℕ → List ℕ → List ℕ → Answer Planned
plan_into ticket stop short sparing = plan_answer ticket stop (length short) (length sparing)

-- A planning call with a page, likewise.
abbrev pub page_into : List ℕ → ℕ → List ℕ → List ℕ → List ℕ → Answer PlannedPage
page_into ticket stop short sparing page = page_answer ticket stop (length short) (length sparing) (length page)

-- A call for the least slots of a disk, likewise.
abbrev pub slots_into : List ℕ → ℕ → ℕ → ℕ → List ℕ → Answer (OptionGiven SlotsFound)
slots_into ticket stop d wanted short = slots_answer ticket stop d wanted (length short)

-- The part with the chosen sheet, of two buffers and of what a planning call gave: after a refusal it is empty,
abbrev pub part_given : Result PlannedOf Refusal → List ℕ → List ℕ → List ℕ
part_given (Ok p) lent₁ lent₂ = part_of p.length p.short.rounds p.sparing.rounds lent₁ lent₂
part_given (Err refusal) lent₁ lent₂ = []

-- and begins where the sparing buffer does
abbrev pub part_begins : {A : Type 0} → Result PlannedOf Refusal → A → A → A
part_begins (Ok p) short sparing = chosen (mark_for p.short.rounds p.sparing.rounds) short sparing
part_begins (Err refusal) short sparing = sparing

-- The chosen sheet, of two sheets and of what a choice gave: after a refusal it is empty,
abbrev pub sheet_given : Result Chosen Refusal → List ℕ → List ℕ → List ℕ
sheet_given (Ok c) first second = sheet_handed (some (which_given c.which)) c.length first second
sheet_given (Err refusal) first second = []

-- and begins where the first sheet does
abbrev pub sheet_begins : {A : Type 0} → Result Chosen Refusal → A → A → A
sheet_begins (Ok c) first second = of_which c.which first second
sheet_begins (Err refusal) first second = first

-- The length of the sheet of a call for the least slots: 0 after a refusal, or where there is no count.
abbrev pub slots_length : Result (Option LeastSlots) Refusal → ℕ
slots_length (Ok (Some found)) = found.length
slots_length (Ok None) = 0
slots_length (Err refusal) = 0

-- Demand 2, of what a check returns: it passes a sheet exactly if that is a valid schedule of the ticket's job up to the stop, and with that
-- schedule's counts.
unfoldable pub Exact : List ℕ → ℕ → List ℕ → Result CountsOf Refusal → Type 0
unfolding job_up_to counts_of checked_of
Exact ticket stop sheet r =
    (IsOk r ↔ ((j : Job) × (schedule : Schedule) × (job_up_to ticket stop ≡ given j) × ValidSheet j sheet schedule))
    × ((j : Job) (schedule : Schedule) → job_up_to ticket stop ≡ given j → ValidSheet j sheet schedule → r ≡ checked_of (given (counts_of j schedule)))

-- Demand 3, of what a check returns: a sheet that passes takes at least the short plan's rounds, and on every disk at least the sparing plan's
-- fetches.
unfoldable pub Unbeaten : List ℕ → ℕ → Result CountsOf Refusal → Type 0
unfolding job_up_to short_counts sparing_counts
Unbeaten ticket stop r = (c : CountsOf) → r ≡ Ok c
    → (j : Job) → job_up_to ticket stop ≡ given j → ((short_counts j).rounds ≤ c.rounds) × ((d : ℕ) → fetches_on (sparing_counts j) d ≤ get_or c.fetches d 0)

-- Demands 2 and 3, of planning: either sheet passes the check with the counts given; the mark is sparing exactly when both plans take equally many
-- rounds; and no sheet that passes takes fewer rounds than the one handed back, or on any disk fewer fetches than the sparing one. Request L8: of the
-- counts given, the sparing plan's rounds are at most D times the short plan's.
unfoldable pub Promised : List ℕ → ℕ → Answer Planned → Type 0
unfolding job_up_to check_answer SparingWithin
Promised ticket stop (given p) =
    (check_answer ticket stop p.short_sheet ≡ given p.short)
    × (check_answer ticket stop p.sparing_sheet ≡ given p.sparing)
    × ((p.mark ≡ is_sparing) ↔ (p.short.rounds ≡ p.sparing.rounds))
    × ((s : List ℕ) (c : Counts) → check_answer ticket stop s ≡ given c → ((handed_counts p).rounds ≤ c.rounds) × ((d : ℕ) → fetches_on p.sparing d ≤ fetches_on c d))
    × ((j : Job) → job_up_to ticket stop ≡ given j → SparingWithin j p.short p.sparing)
Promised ticket stop (refused n) = Unit {0}

-- Request L1, of a choice: the sheet handed back passes the check, and so does the other, which takes no fewer rounds.
unfoldable pub Preferred : List ℕ → ℕ → List ℕ → List ℕ → Answer ChosenSheet → Type 0
unfolding check_answer
Preferred ticket stop first second (given c) =
    (a : Counts) × (b : Counts)
    × (check_answer ticket stop (of_two c.which first second) ≡ given a)
    × (check_answer ticket stop (of_two c.which second first) ≡ given b)
    × (a.rounds ≤ b.rounds)
Preferred ticket stop first second (refused n) = Unit {0}

-- Request L10, of a call for the least slots: a count given is the least of those with which some sheet is within the wanted rounds, and the sheet
-- given passes the check for the ticket with that count, with the counts given, in at most as many rounds as wanted; where none is given, no count is
-- enough.
unfoldable pub LeastGiven : List ℕ → ℕ → ℕ → ℕ → Answer (OptionGiven SlotsFound) → Type 0
unfolding ticket_of ticket_with check_answer NoneEnough
LeastGiven ticket stop d wanted (given (some f)) =
    (j : Job) × (ticket_of ticket ≡ given j) × Least j stop d wanted f.slots
    × (check_answer (ticket_with d f.slots j) stop f.sheet ≡ given f.counts) × (f.counts.rounds ≤ wanted)
LeastGiven ticket stop d wanted (given none) = (j : Job) × (ticket_of ticket ≡ given j) × NoneEnough j stop d wanted
LeastGiven ticket stop d wanted (refused n) = Unit {0}
