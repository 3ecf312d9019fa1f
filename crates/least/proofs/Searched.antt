-- The search: where it begins, what a count that is or is not within the wanted rounds says of it, and what is given for a count. Assumes nothing.
use mathlib.Core.Path.{◌≡◌, refl, sym, ap, ◌∙◌}
use mathlib.Core.Bool.{false, cond}
use mathlib.Core.List.{List}
use mathlib.Core.Option.{none, some}
use mathlib.Core.Option.{Option as OptionGiven}
use Rattle.std.specs.Prelude.{Option, None, Some, Result, Ok, Err}
use Prim.Native.Nat.{ℕ, suc, ◌+◌, ◌-◌, ◌^◌, ◌≤◌, ◌<◌}
use native.Mathlib.Omega.{arith}
use lib.Dec.{ltb, leb}
use lib.ListN.{length, take}
use borrow.Author.Tests.{le-leb, lt-leb}
use Rattle.bits.specs.Bits.{bytes, over, bytes_for}
use Rattle.bits.specs.Reading.{Answer, given, refused}
use Rattle.bits.proofs.Logic.{by_test, and_true, and_false_left, and_false_right}
use Rattle.model.specs.Job.{Job, Sound, ref_count, carried_on}
use Rattle.model.specs.Playing.{Schedule}
use Rattle.model.specs.Rules.{short}
use Rattle.model.specs.Plans.{schedule_of}
use Rattle.model.specs.Sheet.{sheet_bits, sheet_of}
use Rattle.model.specs.Calls.{counts_of, short_counts, written}
use Rattle.slot_counts.specs.Slots.{with_slots, Allowed, first_of, within, least_slots, SlotsFound, found_with, with_sheet, slots_after, returned_slots}
use Rattle.model.proofs.Charged.{schedule_charged}
use Rattle.slot_counts.proofs.Slots.{with_sound, first_yes, first_no, first_skip}
use Rattle.choosing.specs.declared.Rule.TheVariants.{Short}
use Rattle.driving.specs.Driving.{totals_of}
use Rattle.driving.specs.declared.Totals.{Totals}
use Rattle.handing.specs.Handing.{total_counts}
use Rattle.handing.proofs.Rooms.{totals_charged, sheet-bytes, bits-few, scratch_room, copied}
use Rattle.refusal.specs.Refusals.{refusal_of}
use Rattle.refusal.specs.declared.Refusal.{Refusal}
use Rattle.returning.specs.Returning.{least_as}
use Rattle.returning.specs.declared.LeastSlots.{LeastSlots}
use Rattle.least.specs.Least.{lowest_count, tried_rounds, handed_for}
use Rattle.least.proofs.Tried.{played_in, tried_within, tried_beyond}

-- no more rounds are driven than there are references
pub tried_few : (wanted count : ℕ) → tried_rounds wanted count ≤ count
tried_few wanted count = omega arith

-- The count is still to be found from s on.
abbrev pub ToFind : Job → ℕ → ℕ → ℕ → Type 0
ToFind j d wanted s = least_slots j d wanted ≡ first_of (within j d wanted) s (65 - s)

-- A count that is given for a disk is some count.
abbrev pub some_of : Result LeastSlots Refusal → Result (Option LeastSlots) Refusal
some_of (Ok least) = Ok (Some least)
some_of (Err refusal) = Err refusal

-- What is returned, and the buffer after and before the call.
abbrev pub Answered : Job → ℕ → ℕ → Result (Option LeastSlots) Refusal → List ℕ → List ℕ → Type 0
Answered j d wanted r after lent =
    let a = with_sheet (length lent) d j (least_slots j d wanted) in
    (r ≡ least_as (returned_slots a)) × (after ≡ slots_after a lent)

module _ (j : Job) (sound : Sound j) (d wanted : ℕ) where
  below_carried : (s : ℕ) → s < length (carried_on j d) → within j d wanted s ≡ false
  unfolding within
  below_carried s l = and_false_left _ (lt-leb (length (carried_on j d)) s l)

  pub search_from : (carried s : ℕ) → length (carried_on j d) ≡ carried → carried ≤ 64 → s ≡ lowest_count carried → ToFind j d wanted s
  unfolding least_slots
  search_from carried s e few q =
      let from : 1 ≤ s = omega (arith, q) in
      let all : 64 ≡ (s - 1) + (65 - s) = omega (arith, q, few) in
      let at : 1 + (s - 1) ≡ s = omega (arith, from) in
      ap (first_of (within j d wanted) 1) all
      ∙ first_skip (within j d wanted) 1 (s - 1) (65 - s) (λ i l m. below_carried i (omega (arith, l, m, q, e)))
      ∙ ap (λ (x : ℕ). first_of (within j d wanted) x (65 - s)) at

  module _ (s : ℕ) (allowed : Allowed j d s) (find : ToFind j d wanted s) where
    abbrev k : Job
    k = with_slots d s j

    k_sound : Sound k
    k_sound = with_sound j d s sound allowed

    rounds_are : (short_counts k).rounds ≡ length (schedule_of short k)
    unfolding short_counts counts_of
    rounds_are = schedule_charged short k

    steps_on : 65 - s ≡ suc (64 - s)
    steps_on = let few = allowed.few_slots in omega (arith, few)

    pub search_found : length (schedule_of short k) ≤ wanted → least_slots j d wanted ≡ some s
    unfolding within
    search_found l =
        find ∙ ap (first_of (within j d wanted) s) steps_on
        ∙ first_yes (within j d wanted) s (64 - s)
        (and_true (le-leb (length (carried_on j d)) s allowed.few_carried) (le-leb (short_counts k).rounds wanted (let e = rounds_are in omega (arith, e, l))))

    pub search_next : wanted < length (schedule_of short k) → ToFind j d wanted (s + 1)
    unfolding within
    search_next l =
        let more = allowed.few_slots in
        let at : suc s ≡ s + 1 = omega arith in
        let left : 64 - s ≡ 65 - (s + 1) = omega (arith, more) in
        find ∙ ap (first_of (within j d wanted) s) steps_on
        ∙ first_no (within j d wanted) s (64 - s)
        (and_false_right (leb (length (carried_on j d)) s) (lt-leb (short_counts k).rounds wanted (let e = rounds_are in omega (arith, e, l))))
        ∙ (λ i. first_of (within j d wanted) (at i) (left i))

    -- The plan for that count, as far as it is driven.
    module _ {n : ℕ} (en : n ≡ tried_rounds wanted (ref_count k)) {plan : Totals} (ep : plan ≡ totals_of (played_in k n)) where
      played-rounds : plan.rounds ≡ length (played_in k n)
      unfolding totals_of
      played-rounds = ap (λ (x : Totals). x.rounds) ep

      pub plan_beyond : wanted < plan.rounds → ToFind j d wanted (s + 1)
      plan_beyond l = search_next (tried_beyond k k_sound wanted n en (let e = played-rounds in omega (arith, e, l)))

      module _ (l : plan.rounds ≤ wanted) {sheet : List ℕ} (es : sheet ≡ bytes 40968 (sheet_bits (played_in k n))) where
        all_played : played_in k n ≡ schedule_of short k
        all_played = tried_within k k_sound wanted n en (let e = played-rounds in omega (arith, e, l))

        plan_is : plan ≡ totals_of (schedule_of short k)
        plan_is = ep ∙ ap totals_of all_played

        sheet_is : sheet ≡ bytes 40968 (sheet_bits (schedule_of short k))
        sheet_is = es ∙ ap (λ (x : Schedule). bytes 40968 (sheet_bits x)) all_played

        found_is : least_slots j d wanted ≡ some s
        found_is = search_found (let e = played-rounds in let f = ap length all_played in omega (arith, e, f, l))

        -- what `hand_out` asks,
        pub hand_asks : (plan.bits < 2 ^ 32) × (bytes_for plan.bits ≤ length sheet)
        hand_asks = let room = scratch_room k k_sound Short plan plan_is sheet sheet_is in (bits-few k k_sound Short plan plan_is, omega (arith, room))

        -- and what it then gives
        abbrev m : ℕ
        m = bytes_for plan.bits

        m_is : m ≡ length (sheet_of (schedule_of short k))
        m_is = sheet-bytes k k_sound Short plan plan_is

        unfoldable answer : ℕ → Answer (OptionGiven SlotsFound)
        answer room = cond (ltb room m) (refused 17) (given (some (found_with d j s)))

        answer_is : (room : ℕ) → with_sheet room d j (least_slots j d wanted) ≡ answer room
        unfolding with_sheet found_with answer
        answer_is room = ap (with_sheet room d j) found_is ∙ ap (λ (x : ℕ). cond (ltb room x) (refused 17) (given (some (found_with d j s)))) (sym m_is)

        returned_is : (room : ℕ) → some_of (handed_for s plan m room) ≡ least_as (returned_slots (answer room))
        unfolding found_with least_as returned_slots short_counts counts_of answer refusal_of
        returned_is room =
            by_test (ltb room m)
            (λ y. rw y refl)
            (λ y. rw y (λ i. Ok (Some (record { slots = s; length = m_is i; counts = total_counts ((plan_is ∙ totals_charged k k_sound Short) i) }))))

        written_is : (lent : List ℕ) → cond (ltb (length lent) m) lent (over (take m sheet) lent) ≡ slots_after (answer (length lent)) lent
        unfolding found_with written answer
        written_is lent =
            by_test (ltb (length lent) m)
            (λ y. rw y refl)
            (λ y. rw y (copied k k_sound Short plan plan_is sheet lent _ sheet_is refl))

        pub hand_gives : (lent : List ℕ) {lent' : List ℕ} {r : Result LeastSlots Refusal} {given' : Result (Option LeastSlots) Refusal}
            → (r ≡ handed_for s plan m (length lent)) × (lent' ≡ cond (ltb (length lent) m) lent (over (take m sheet) lent)) → given' ≡ some_of r
            → Answered j d wanted given' lent' lent
        hand_gives lent h g =
            let e = sym (answer_is (length lent)) in (
              g ∙ ap some_of h.0 ∙ returned_is (length lent) ∙ ap (λ (x : Answer (OptionGiven SlotsFound)). least_as (returned_slots x)) e,
              h.1 ∙ written_is lent ∙ ap (λ (x : Answer (OptionGiven SlotsFound)). slots_after x lent) e,
            )

  -- Past 64 there is none.
  pub search_ends : (s : ℕ) → 65 ≤ s → ToFind j d wanted s → (lent : List ℕ) → Answered j d wanted (Ok None) lent lent
  unfolding with_sheet first_of written over least_as returned_slots
  search_ends s most find lent =
      let none_left : least_slots j d wanted ≡ none = find ∙ ap (first_of (within j d wanted) s) (let z : 65 - s ≡ 0 = omega (arith, most) in z) in
      let a = ap (with_sheet (length lent) d j) none_left in
      (sym (ap (λ (x : Answer (OptionGiven SlotsFound)). least_as (returned_slots x)) a), ap (λ (x : Answer (OptionGiven SlotsFound)). slots_after x lent) (sym a))
