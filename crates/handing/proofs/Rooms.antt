-- What planning of a job gives, from what the parts of the call give. Assumes nothing.
use mathlib.Core.Path.{◌≡◌, refl, sym, ap, ◌∙◌, subst}
use mathlib.Core.List.{List}
use Prim.Native.Nat.{ℕ, ◌+◌, ◌/◌, ◌^◌, ◌≤◌, ◌<◌}
use native.Mathlib.Omega.{arith}
use lib.Dec.{ltb}
use Rattle.std.specs.Prelude.{Result, Ok, Err}
use lib.ListN.{length, take}
use borrow.Author.Tests.{ltb-false}
use Rattle.bits.specs.Bits.{bytes, pack, over, bytes_for}
use Rattle.bits.specs.Reading.{Answer, given, refused}
use Rattle.bits.proofs.Logic.{by_test}
use Rattle.bits.proofs.Bits.{length-bytes}
use Rattle.bits.proofs.Fields.{take-pack}
use Rattle.model.specs.Job.{Job, Sound}
use Rattle.model.specs.Playing.{Schedule, charged, fetches}
use Rattle.model.specs.Plans.{each, schedule_of}
use Rattle.model.specs.Sheet.{sheet_bits, sheet_of}
use Rattle.model.specs.Calls.{which_for, counts_of, planned_for, with_rooms, planned_of, short_after, sparing_after, written, returned}
use Rattle.model.specs.Calls.{Planned as PlanGiven}
use Rattle.model.proofs.Charged.{schedule_charged}
use Rattle.model.proofs.Stop.{sound_job}
use Rattle.model.proofs.Promises.{short-rounds, sparing-rounds}
use Rattle.choosing.specs.Choosing.{rule_of}
use Rattle.choosing.specs.declared.Rule.{Rule}
use Rattle.choosing.specs.declared.Rule.TheVariants.{Short, Sparing}
use Rattle.driving.specs.Driving.{totals_of}
use Rattle.driving.specs.declared.Totals.{Totals}
use Rattle.planning.specs.Planning.{plans_of}
use Rattle.planning.specs.declared.Plans.{Plans}
use Rattle.refusal.specs.Refusals.{refusal_of}
use Rattle.refusal.specs.declared.Refusal.{Refusal}
use Rattle.returning.specs.Returning.{which_as, mark_of, of_which, planned_as}
use Rattle.returning.specs.declared.Planned.{Planned}
use Rattle.returning.proofs.TwoSheets.{mark-chosen, two_marked}
use Rattle.handing.specs.Handing.{total_counts, both_fit, outcome_of}

-- What a planning call returns, and the two buffers after it.
abbrev pub Gives : Answer PlanGiven → List ℕ → List ℕ → Result Planned Refusal → List ℕ → List ℕ → Type 0
Gives a short sparing r short' sparing' = (r ≡ planned_as (returned a)) × (short' ≡ short_after a short) × (sparing' ≡ sparing_after a sparing)

pub gives_refused : (a : Answer PlanGiven) (short sparing : List ℕ) (r : Result Planned Refusal) (n : ℕ) → a ≡ refused n → r ≡ Err (refusal_of n)
    → Gives a short sparing r short sparing
unfolding planned_as returned written
gives_refused a short sparing r n e q = subst (λ (x : Answer PlanGiven). Gives x short sparing r short sparing) (sym e) (q, refl, refl)

-- What two plans give, by which of their sheets is handed back.
pub outcome_is : (a : Totals) (m : ℕ) (b : Totals) (n : ℕ)
    → outcome_of a m b n ≡ record {
      mark = mark_of (which_as (which_for a.rounds b.rounds));
      length = of_which (which_as (which_for a.rounds b.rounds)) m n;
      short = total_counts a;
      sparing = total_counts b;
    }
unfolding outcome_of
outcome_is a m b n = rw (mark-chosen a.rounds b.rounds, two_marked {A = ℕ} a.rounds b.rounds m n) refl

-- Rooms that are too small for a plan's sheets, and rooms that are not.
module _ (a b : ℕ) (p : PlanGiven) where
  abbrev fit : Result (Unit {0}) Refusal
  fit = both_fit (length p.short_sheet) a (length p.sparing_sheet) b

  no_room : (refusal : Refusal) → fit ≡ Err refusal → (n : ℕ) × (with_rooms a b p ≡ refused n) × (refusal ≡ refusal_of n)
  unfolding with_rooms refusal_of
  no_room refusal e =
      by_test (ltb a (length p.short_sheet))
      (λ x. (17, rw x refl, let k = rw x at e in cc))
      (λ x. by_test (ltb b (length p.sparing_sheet)) (λ y. (18, rw (x, y) refl, let k = rw (x, y) at e in cc)) (λ y. (let k = rw (x, y) at e in cc)))

  room : fit ≡ Ok tt → (with_rooms a b p ≡ given p) × (length p.short_sheet ≤ a) × (length p.sparing_sheet ≤ b)
  unfolding with_rooms
  room e =
      by_test (ltb a (length p.short_sheet))
      (λ x. (let k = rw x at e in cc))
      (λ x. by_test (ltb b (length p.sparing_sheet))
      (λ y. (let k = rw (x, y) at e in cc))
      (λ y. (rw (x, y) refl, ltb-false a (length p.short_sheet) x, ltb-false b (length p.sparing_sheet) y)))

-- The plans of a sound job.
module _ (j : Job) (sound : Sound j) where
  -- the schedule of the short or the sparing rule
  abbrev the_schedule : Rule → Schedule
  the_schedule rule = schedule_of (rule_of rule) j

  -- What a plan's driver counts. All rounds that it starts are charged.
  abbrev charged_totals : Rule → Totals
  charged_totals rule = record {
    rounds = charged j (the_schedule rule);
    fetches = each (fetches (the_schedule rule)) 0 8;
    bits = length (sheet_bits (the_schedule rule));
  }

  pub totals_charged : (rule : Rule) → totals_of (the_schedule rule) ≡ charged_totals rule
  unfolding totals_of
  totals_charged rule = λ i. record {
    rounds = sym (schedule_charged (rule_of rule) j) i;
    fetches = each (fetches (the_schedule rule)) 0 8;
    bits = length (sheet_bits (the_schedule rule));
  }

  pub sheet-long : (rule : Rule) → length (sheet_of (the_schedule rule)) ≤ 40962
  sheet-long Sparing = (sparing-rounds _ _ j (sound_job j sound)).3
  sheet-long Short = (short-rounds _ _ j (sound_job j sound)).3

  module _ (rule : Rule) (r : Totals) (q : r ≡ totals_of (the_schedule rule)) where
    -- a sheet's bytes, from its bits
    pub sheet-bytes : (r.bits + 7) / 8 ≡ length (sheet_of (the_schedule rule))
    unfolding totals_of sheet_of pack
    sheet-bytes = ap (λ (x : Totals). (x.bits + 7) / 8) q ∙ sym (length-bytes (bytes_for (length (sheet_bits (the_schedule rule)))) (sheet_bits (the_schedule rule)))

    bytes-few : (r.bits + 7) / 8 ≤ 40962
    bytes-few = let l = sheet-bytes in let m = sheet-long rule in omega (arith, l, m)

    -- a count of bits is small
    pub bits-few : r.bits < 2 ^ 32
    bits-few = let m = bytes-few in omega (arith, m)

    -- the scratch bytes have room for the sheet, and their front is the sheet
    pub scratch_room : (s : List ℕ) → s ≡ bytes 40968 (sheet_bits (the_schedule rule)) → (length s ≡ 40968) × ((r.bits + 7) / 8 ≤ 40968)
    scratch_room s p = (ap length p ∙ length-bytes 40968 (sheet_bits (the_schedule rule)), let few = bytes-few in omega (arith, few))

    pub copied : (s lent lent' : List ℕ) → s ≡ bytes 40968 (sheet_bits (the_schedule rule)) → lent' ≡ over (take ((r.bits + 7) / 8) s) lent
        → lent' ≡ over (sheet_of (the_schedule rule)) lent
    unfolding totals_of sheet_of pack
    copied s lent lent' p w =
        let b = ap (λ (x : Totals). x.bits) q in
        let few = bytes-few in
        w ∙ ap (λ (x : List ℕ). over x lent) ((λ i. take ((b i + 7) / 8) (p i)) ∙ take-pack 40968 (sheet_bits (the_schedule rule)) (omega (arith, b, few)))

  module _ (p : Plans) (q : p ≡ plans_of j) where
    pub short_totals : p.short ≡ totals_of (the_schedule Short)
    unfolding plans_of
    short_totals = ap (λ (x : Plans). x.short) q

    pub sparing_totals : p.sparing ≡ totals_of (the_schedule Sparing)
    unfolding plans_of
    sparing_totals = ap (λ (x : Plans). x.sparing) q

    -- the bytes of both sheets
    abbrev m : ℕ
    m = (p.short.bits + 7) / 8

    abbrev n : ℕ
    n = (p.sparing.bits + 7) / 8

    m_is : m ≡ length (sheet_of (the_schedule Short))
    m_is = sheet-bytes Short p.short short_totals

    n_is : n ≡ length (sheet_of (the_schedule Sparing))
    n_is = sheet-bytes Sparing p.sparing sparing_totals

    abbrev pub both_plans : PlanGiven
    both_plans = planned_of j (the_schedule Short) (the_schedule Sparing)

    -- what planning gives for two rooms
    module _ (a b : ℕ) where
      fit_is : both_fit m a n b ≡ both_fit (length (sheet_of (the_schedule Short))) a (length (sheet_of (the_schedule Sparing))) b
      fit_is = λ i. both_fit (m_is i) a (n_is i) b

      pub job_refused : (refusal : Refusal) → both_fit m a n b ≡ Err refusal → (k : ℕ) × (planned_for a b (given j) ≡ refused k) × (refusal ≡ refusal_of k)
      unfolding planned_for planned_of
      job_refused refusal e = no_room a b both_plans refusal (sym fit_is ∙ e)

      pub job_given : both_fit m a n b ≡ Ok tt → (planned_for a b (given j) ≡ given both_plans) × (m ≤ a) × (n ≤ b)
      unfolding planned_for planned_of
      job_given e =
          let g = room a b both_plans (sym fit_is ∙ e) in
          let x = m_is in
          let y = n_is in
          (g.0, omega (arith, x, g), omega (arith, y, g))

    -- what `hand_out` asks, and what it then gives
    module _ {first second : List ℕ} (e₁ : first ≡ bytes 40968 (sheet_bits (the_schedule Short))) (e₂ : second ≡ bytes 40968 (sheet_bits (the_schedule Sparing))) where
      pub hand_asks : {a b : ℕ} → m ≤ a → n ≤ b
          → ((p.short.bits < 2 ^ 32) × (m ≤ length first) × (m ≤ a)) × ((p.sparing.bits < 2 ^ 32) × (n ≤ length second) × (n ≤ b))
      hand_asks fits₁ fits₂ =
          let s = scratch_room Short p.short short_totals first e₁ in
          let t = scratch_room Sparing p.sparing sparing_totals second e₂ in
          ((bits-few Short p.short short_totals, omega (arith, s), fits₁), (bits-few Sparing p.sparing sparing_totals, omega (arith, t), fits₂))

      pub hand_gives : (a : Answer PlanGiven) (short sparing : List ℕ) {r : Planned} {short' sparing' : List ℕ} → a ≡ given both_plans
          → (r ≡ outcome_of p.short m p.sparing n) × (short' ≡ over (take m first) short) × (sparing' ≡ over (take n second) sparing)
          → Gives a short sparing (Ok r) short' sparing'
      unfolding outcome_of planned_as returned planned_of counts_of written
      hand_gives a short sparing {r} {short'} {sparing'} e h =
          subst (λ (x : Answer PlanGiven). Gives x short sparing (Ok r) short' sparing') (sym e) (
            ap Ok h.0 ∙ (λ i. Ok (outcome_of ((short_totals ∙ totals_charged Short) i) (m_is i) ((sparing_totals ∙ totals_charged Sparing) i) (n_is i))),
            copied Short p.short short_totals first short _ e₁ h.1,
            copied Sparing p.sparing sparing_totals second sparing _ e₂ h.2,
          )
