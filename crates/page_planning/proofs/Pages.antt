-- What planning of a job with a page gives, from what the parts of the call give. Assumes nothing.
use mathlib.Core.Path.{◌≡◌, refl, sym, ap, ◌∙◌, subst}
use mathlib.Core.List.{List, map}
use Prim.Native.Nat.{ℕ, ◌+◌, ◌*◌, ◌≤◌}
use native.Mathlib.Nat.{mul-le-mul}
use native.Mathlib.Omega.{arith}
use lib.Dec.{ltb}
use Rattle.std.specs.Prelude.{Result, Ok, Err}
use lib.ListN.{length, replicate, length-map, length-replicate}
use borrow.Author.Tests.{ltb-false}
use Rattle.bits.specs.Bits.{bytes, pack, over, laid, bytes_for, Below}
use Rattle.bits.specs.Fields.{laid_at}
use Rattle.bits.specs.Reading.{Answer, given, refused}
use Rattle.bits.proofs.Logic.{by_test, get_d_same}
use Rattle.bits.proofs.Bits.{length-bytes}
use Rattle.bits.proofs.Fields.{laid-over, length-laid, laid_below}
use Rattle.model.specs.Job.{Job, Sound, disk_count, ref_count}
use Rattle.model.specs.Playing.{charged, start}
use Rattle.model.specs.Rules.{Choice, action, short, sparing}
use Rattle.model.specs.Plans.{plan_of, schedule_of}
use Rattle.model.specs.Sheet.{sheet_bits, sheet_of}
use Rattle.model.specs.Page.{page_of, reasons_of}
use Rattle.model.specs.Calls.{counts_of, short_counts, sparing_counts, Which, is_first, is_second, of_two, which_for, is_short, is_sparing, chosen, mark_for, planned_of, planned_for, plan_handed, with_page, page_for, plan_given, page_length, page_after, short_after, sparing_after, returned, written}
use Rattle.model.specs.Calls.{PlannedPage as PageGiven}
use Rattle.model.proofs.Choosing.{Lawful, short_lawful, sparing_lawful}
use Rattle.model.proofs.Page.{SmallRounds, plan_small, reasons_length, reasons_below, page_size}
use Rattle.model.proofs.Charged.{schedule_charged}
use Rattle.model.proofs.Stop.{sound_job}
use Rattle.model.proofs.Promises.{short-rounds, sparing-rounds}
use Rattle.choosing.specs.Choosing.{rule_of}
use Rattle.choosing.specs.declared.Rule.{Rule}
use Rattle.choosing.specs.declared.Rule.TheVariants.{Short, Sparing}
use Rattle.driving.specs.declared.Totals.{Totals}
use Rattle.planning.specs.Planning.{plans_of}
use Rattle.planning.specs.declared.Plans.{Plans}
use Rattle.printing.specs.Printing.{page_read}
use Rattle.printing.proofs.ReadBack.{page-read}
use Rattle.refusal.specs.Refusals.{refusal_of}
use Rattle.refusal.specs.declared.Refusal.{Refusal}
use Rattle.refusal.specs.declared.Refusal.TheVariants.{PageRoom}
use Rattle.returning.specs.Returning.{planned_as, with_length, planned_page_as, which_as, of_which, fits}
use Rattle.returning.specs.declared.Planned.{Planned}
use Rattle.returning.specs.declared.PlannedPage.{PlannedPage}
use Rattle.returning.specs.declared.Which.{Which as WhichOf}
use Rattle.returning.proofs.TwoSheets.{two_chosen}
use Rattle.handing.proofs.Rooms.{totals_charged, short_totals, sparing_totals, sheet-long, both_plans, Gives}

lawful : (rule : Rule) → Lawful (rule_of rule)
lawful Short = short_lawful
lawful Sparing = sparing_lawful

-- One plan of a sound job: its rounds, its reasons and its page.
module _ (j : Job) (sound : Sound j) (rule : Rule) where
  abbrev plan : List (List Choice)
  plan = plan_of (rule_of rule) j

  small : SmallRounds (disk_count j) plan
  unfolding plan_of
  small = plan_small (rule_of rule) (lawful rule) j sound (ref_count j) (start j)

  rounds_are : charged j (schedule_of (rule_of rule) j) ≡ length plan
  unfolding schedule_of
  rounds_are = schedule_charged (rule_of rule) j ∙ length-map plan (map action)

  most_rounds : (r : Rule) → charged j (schedule_of (rule_of r) j) ≤ 2048
  unfolding short_counts sparing_counts counts_of
  most_rounds Short = (short-rounds _ _ j (sound_job j sound)).2
  most_rounds Sparing = (sparing-rounds _ _ j (sound_job j sound)).2

  few-rounds : length plan ≤ 2048
  few-rounds = let e = rounds_are in let m = most_rounds rule in omega (arith, e, m)

  few_lines : length plan * disk_count j ≤ 16384
  few_lines = let m = mul-le-mul {n₂ = 2048} {m₂ = 8} few-rounds sound.few_disks in omega (arith, m)

  page-bytes : length (page_of plan) ≡ length plan * disk_count j * 17 + 85
  page-bytes = page_size (disk_count j) sound.few_disks plan small few-rounds

  reasons_fit : length (reasons_of plan) ≤ 16384
  reasons_fit = let e = reasons_length (disk_count j) plan small in let m = few_lines in omega (arith, e, m)

  -- the reasons, in a buffer of 16,384 zeros
  module _ {reasons : List ℕ} (e : reasons ≡ laid (reasons_of plan) (replicate 16384 0)) where
    pub reasons_long : length reasons ≡ 16384
    unfolding laid_at
    reasons_long = ap length e ∙ length-laid 0 (reasons_of plan) (replicate 16384 0) ∙ length-replicate {A = ℕ} 16384 0

    reasons_small : Below 5 reasons
    reasons_small = subst (Below 5) (sym e) (laid_below 5 (reasons_of plan) (replicate 16384 0) (reasons_below plan)
        (λ i l. let z = get_d_same {A = ℕ} 16384 i 0 in omega (arith, z)))

    page_from : {sheet : List ℕ} → sheet ≡ bytes 40968 (sheet_bits (schedule_of (rule_of rule) j))
        → page_read sheet reasons (disk_count j) (length plan * disk_count j) ≡ page_of plan
    unfolding schedule_of sheet_of pack
    page_from {sheet} es =
        let long = sheet-long j sound rule in
        let packed = length-bytes (bytes_for (length (sheet_bits (schedule_of (rule_of rule) j)))) (sheet_bits (schedule_of (rule_of rule) j)) in
        let zeros = length-replicate {A = ℕ} 16384 0 in
        let fits = reasons_fit in
        page-read (disk_count j) sound.some_disk sound.few_disks plan small few-rounds (omega (arith, long, packed)) sheet reasons (replicate 16384 0) es e
        (omega (arith, zeros, fits))

-- The plan handed back.
abbrev rule_for : Which → Rule
rule_for w = of_two w Short Sparing

module _ (j : Job) (sound : Sound j) (p : Plans) (q : p ≡ plans_of j) where
  abbrev w : Which
  w = which_for p.short.rounds p.sparing.rounds

  abbrev handed_plan : List (List Choice)
  handed_plan = plan_of (rule_of (rule_for w)) j

  abbrev pub lines : ℕ
  lines = length handed_plan * disk_count j

  short_is : p.short.rounds ≡ charged j (schedule_of (rule_of Short) j)
  short_is = ap (λ (t : Totals). t.rounds) (short_totals j sound p q ∙ totals_charged j sound Short)

  sparing_is : p.sparing.rounds ≡ charged j (schedule_of (rule_of Sparing) j)
  sparing_is = ap (λ (t : Totals). t.rounds) (sparing_totals j sound p q ∙ totals_charged j sound Sparing)

  -- it has the page that the definition takes
  handed_is : plan_handed (both_plans j sound p q).mark j ≡ handed_plan
  unfolding planned_of mark_for plan_handed
  handed_is =
      (λ i. plan_of (chosen (of_two (which_for (sym short_is i) (sym sparing_is i)) is_short is_sparing) short sparing) j)
      ∙ go w
    where
      go : (x : Which) → plan_of (chosen (of_two x is_short is_sparing) short sparing) j ≡ plan_of (rule_of (rule_for x)) j
      go is_first = refl
      go is_second = refl

  -- and so many lines
  lines_are : {which : WhichOf} → which ≡ which_as w → of_which which p.short.rounds p.sparing.rounds ≡ length handed_plan
  lines_are e =
      ap (λ (x : WhichOf). of_which x p.short.rounds p.sparing.rounds) e ∙ two_chosen {A = ℕ} w p.short.rounds p.sparing.rounds
      ∙ (λ i. of_two w (short_is i) (sparing_is i)) ∙ go w
    where
      go : (x : Which) → of_two x (charged j (schedule_of (rule_of Short) j)) (charged j (schedule_of (rule_of Sparing) j)) ≡ length (plan_of (rule_of (rule_for x)) j)
      go is_first = rounds_are j sound Short
      go is_second = rounds_are j sound Sparing

  -- as the code counts them, with the disks of the job by value
  pub counted_are : {which : WhichOf} {rounds' disks : ℕ} → which ≡ which_as w → rounds' ≡ of_which which p.short.rounds p.sparing.rounds
      → disk_count j ≡ disks → rounds' * disks ≡ lines
  counted_are ew er ed = λ i. (er ∙ lines_are ew) i * sym ed i

  pub lines_few : lines ≤ 16384
  lines_few = few_lines j sound (rule_for w)

  -- Which of two slices is handed out, where one belongs to each plan.
  handed_two : (of : Rule → List ℕ) {which : WhichOf} {x y s : List ℕ} → which ≡ which_as w → x ≡ of Short → y ≡ of Sparing → s ≡ of_which which x y
      → s ≡ of (rule_for w)
  handed_two of ew ex ey es = es ∙ (λ i. of_which (ew i) (ex i) (ey i)) ∙ go w
    where
      go : (v : Which) → of_which (which_as v) (of Short) (of Sparing) ≡ of (rule_for v)
      go is_first = refl
      go is_second = refl

  abbrev made_sheet : Rule → List ℕ
  made_sheet r = bytes 40968 (sheet_bits (schedule_of (rule_of r) j))

  abbrev made_reasons : Rule → List ℕ
  made_reasons r = laid (reasons_of (plan_of (rule_of r) j)) (replicate 16384 0)

  -- The page from what is handed out: what `put_page` asks, and what it then gives.
  module _ {which : WhichOf} (ew : which ≡ which_as w) {x y sheet : List ℕ} (ex : x ≡ made_sheet Short) (ey : y ≡ made_sheet Sparing)
      (es : sheet ≡ of_which which x y) {u v reasons : List ℕ} (eu : u ≡ made_reasons Short) (ev : v ≡ made_reasons Sparing)
      (er : reasons ≡ of_which which u v) (page : List ℕ) (room : lines * 17 + 85 ≤ length page) where
    sheet_is : sheet ≡ made_sheet (rule_for w)
    sheet_is = handed_two made_sheet ew ex ey es

    reasons_are : reasons ≡ made_reasons (rule_for w)
    reasons_are = handed_two made_reasons ew eu ev er

    pub page_asks : (lines ≤ 16384) × (lines * 17 + 85 ≤ length page) × (lines ≤ length reasons) × Below 5 reasons
    page_asks =
        let long = reasons_long j sound (rule_for w) reasons_are in
        let few = lines_few in
        (few, room, omega (arith, long, few), reasons_small j sound (rule_for w) reasons_are)

    pub page_gives : {page' : List ℕ} → page' ≡ laid (page_read sheet reasons (disk_count j) lines) page
        → page' ≡ over (page_of (plan_handed (both_plans j sound p q).mark j)) page
    page_gives h =
        let size = page-bytes j sound (rule_for w) in
        h ∙ ap (λ (t : List ℕ). laid t page) (page_from j sound (rule_for w) reasons_are sheet_is)
        ∙ laid-over (page_of handed_plan) page (omega (arith, size, room)) ∙ ap (λ (t : List (List Choice)). over (page_of t) page) (sym handed_is)

  abbrev pub both_and_page : PageGiven
  both_and_page = record { planned = both_plans j sound p q; page = page_of (plan_handed (both_plans j sound p q).mark j) }

  page_is_long : length (page_of (plan_handed (both_plans j sound p q).mark j)) ≡ lines * 17 + 85
  page_is_long = ap (λ (t : List (List Choice)). length (page_of t)) handed_is ∙ page-bytes j sound (rule_for w)

  pub length_is : lines * 17 + 85 ≡ page_length (given both_and_page)
  unfolding page_length
  length_is = sym page_is_long

  -- What planning with a page gives for three rooms, from what planning gives for two of them.
  module _ (a b c : ℕ) where
    pub page_sheets : (k : ℕ) → planned_for a b (given j) ≡ refused k → page_for a b c (given j) ≡ refused k
    unfolding page_for with_page
    page_sheets k e = ap (with_page c j) e

    module _ (two : planned_for a b (given j) ≡ given (both_plans j sound p q)) where
      pub page-refused : (refusal : Refusal) → fits (lines * 17 + 85) c PageRoom ≡ Err refusal → (k : ℕ) × (page_for a b c (given j) ≡ refused k) × (refusal ≡ refusal_of k)
      unfolding page_for with_page refusal_of
      page-refused refusal e =
          by_test (ltb c (lines * 17 + 85))
          (λ l. (19, rw (two, page_is_long, l) refl, let k = rw l at e in cc))
          (λ l. (let k = rw l at e in cc))

      pub page-given : fits (lines * 17 + 85) c PageRoom ≡ Ok tt → (lines * 17 + 85 ≤ c) × (page_for a b c (given j) ≡ given both_and_page)
      unfolding page_for with_page
      page-given e =
          by_test (ltb c (lines * 17 + 85))
          (λ l. (let k = rw l at e in cc))
          (λ l. (ltb-false c (lines * 17 + 85) l, rw (two, page_is_long, l) refl))

-- What a planning call with a page returns, and the three buffers after it.
abbrev pub GivesPage : Answer PageGiven → List ℕ → List ℕ → List ℕ → Result PlannedPage Refusal → List ℕ → List ℕ → List ℕ → Type 0
GivesPage a short sparing page r short' sparing' page' =
    (r ≡ planned_page_as a) × (short' ≡ short_after (plan_given a) short) × (sparing' ≡ sparing_after (plan_given a) sparing) × (page' ≡ page_after a page)

pub gives_page-refused : (a : Answer PageGiven) (short sparing page : List ℕ) (r : Result PlannedPage Refusal) (n : ℕ) → a ≡ refused n → r ≡ Err (refusal_of n)
    → GivesPage a short sparing page r short sparing page
unfolding written plan_given planned_page_as planned_as returned
gives_page-refused a short sparing page r n e q =
    subst (λ (x : Answer PageGiven). GivesPage x short sparing page r short sparing page) (sym e) (q, refl, refl, refl)

pub gives_page-given : (a : Answer PageGiven) (short sparing page : List ℕ) {planned : Planned} {length' : ℕ} {short' sparing' page' : List ℕ} (p : PageGiven)
    → a ≡ given p → Gives (given p.planned) short sparing (Ok planned) short' sparing' → length' ≡ page_length (given p) → page' ≡ over p.page page
    → GivesPage a short sparing page (Ok (record { planned = planned; length = length' })) short' sparing' page'
unfolding written plan_given planned_page_as
gives_page-given a short sparing page {planned} {length'} {short'} {sparing'} {page'} p e g l h =
    subst (λ (x : Answer PageGiven). GivesPage x short sparing page (Ok (record { planned = planned; length = length' })) short' sparing' page') (sym e)
    ((λ i. with_length (l i) (g.0 i)), g.1, g.2, h)
