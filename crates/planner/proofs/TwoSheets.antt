-- What the choice gives, from what the checks of its two sheets give. Assumes nothing.
use mathlib.Core.Path.{◌≡◌, refl, sym, ap, ◌∙◌}
use mathlib.Core.List.{List}
use Rattle.std.specs.Prelude.{Result, Ok, Err}
use Prim.Native.Nat.{ℕ, ◌≤◌}
use native.Mathlib.Omega.{arith}
use lib.ListN.{length}
use Rattle.bits.specs.Reading.{Answer, given, refused}
use Rattle.model.specs.Calls.{Counts, Which, is_first, is_second, of_two, which_for, check_answer, check_for, ChosenSheet, chosen_of, choose_answer, returned_choice}
use Rattle.model.proofs.TwoSheets.{chosen-given, both_pass, first-refused, second_refused, length_two}
use Rattle.model.proofs.Promises.{chosen_passes}
use Rattle.checking.specs.Checking.{checked_of}
use Rattle.ticket.specs.Meaning.{job_read_up_to}
use Rattle.ticket.proofs.Laws.{read-refused}
use Rattle.playing.specs.declared.Counts.{Counts as CountsOf}
use Rattle.refusal.specs.Refusals.{number, refusal_of}
use Rattle.refusal.specs.declared.Refusal.{Refusal}
use Rattle.returning.specs.Returning.{which_as, chosen_as, preference_of}
use Rattle.returning.specs.declared.Chosen.{Chosen}
use Rattle.planner.specs.Planner.{Preferred}
use Rattle.planner.proofs.Laws.{passing, failing, same-refusal}

-- the other sheet takes no fewer rounds than the one handed back
no_fewer : (a b : Counts) (w : Which) → (of_two w a b).rounds ≤ a.rounds → (of_two w a b).rounds ≤ b.rounds → (of_two w a b).rounds ≤ (of_two w b a).rounds
no_fewer a b is_first p q = q
no_fewer a b is_second p q = p

other_passes : (t : List ℕ) (stop : ℕ) (first second : List ℕ) (a b : Counts) (w : Which) → check_answer t stop first ≡ given a → check_answer t stop second ≡ given b
    → check_answer t stop (of_two w second first) ≡ given (of_two w b a)
other_passes t stop first second a b is_first p q = q
other_passes t stop first second a b is_second p q = p

module _ (t : List ℕ) (stop : ℕ) (first second : List ℕ) where
  pub preferred : Preferred t stop first second (choose_answer t stop first second)
  unfolding Preferred
  preferred = go (choose_answer t stop first second) refl
    where
      go : (x : Answer ChosenSheet) → choose_answer t stop first second ≡ x → Preferred t stop first second x
      go (refused n) e = tt
      go (given c) e =
          let g = chosen-given t stop first second c e in
          let a = g.0 in
          let b = g.1 in
          let h = chosen_passes t stop first second a b c g.2 g.3 e in
          let l = no_fewer a b c.which h.3 h.4 in
          (of_two c.which a b, of_two c.which b a, h.1, other_passes t stop first second a b c.which g.2 g.3, omega (arith, l))

  -- What is said of a choice.
  abbrev pub Chooses : Result Chosen Refusal → Type 0
  Chooses r = (r ≡ chosen_as (returned_choice (choose_answer t stop first second))) × Preferred t stop first second (choose_answer t stop first second)

  stops : {r : Result Chosen Refusal} (n : ℕ) → choose_answer t stop first second ≡ refused n → r ≡ Err (refusal_of n) → Chooses r
  unfolding chosen_as returned_choice
  stops n e q = (q ∙ ap (λ (x : Answer ChosenSheet). chosen_as (returned_choice x)) (sym e), preferred)

  -- It is refused where the ticket or the stop is,
  pub ticket_stops : {refusal : Refusal} → job_read_up_to t stop ≡ Err refusal → {r : Result Chosen Refusal} → r ≡ Err refusal → Chooses r
  unfolding check_answer check_for
  ticket_stops {refusal} e q =
      stops (number refusal) (first-refused t stop first second _ (ap (check_for first) (read-refused t stop e))) (same-refusal q)

  pub choose_stops : {refusal : Refusal} → job_read_up_to t stop ≡ Err refusal → chosen_as (returned_choice (choose_answer t stop first second)) ≡ Err refusal
  choose_stops e = sym (ticket_stops e refl).0

  -- where the check of the first sheet is,
  pub first_stops : {refusal : Refusal} → checked_of (check_answer t stop first) ≡ Err refusal → {r : Result Chosen Refusal} → r ≡ Err refusal → Chooses r
  first_stops e q = let f = failing (check_answer t stop first) e in stops f.0 (first-refused t stop first second f.0 f.1) (q ∙ ap Err f.2)

  module _ {a : CountsOf} (e : checked_of (check_answer t stop first) ≡ Ok a) where
    -- and, where that passes, where the check of the second is;
    pub second_stops : {refusal : Refusal} → checked_of (check_answer t stop second) ≡ Err refusal → {r : Result Chosen Refusal} → r ≡ Err refusal → Chooses r
    second_stops f q =
        let p = passing (check_answer t stop first) e in
        let s = failing (check_answer t stop second) f in
        stops s.0 (second_refused t stop first second p.0 s.0 p.1 s.1) (q ∙ ap Err s.2)

    -- where both pass, their rounds decide.
    pub both_chosen : {b : CountsOf} → checked_of (check_answer t stop second) ≡ Ok b → {c : Chosen} → c ≡ preference_of a.rounds (length first) b.rounds (length second)
        → Chooses (Ok c)
    unfolding preference_of chosen_as returned_choice chosen_of
    both_chosen {b} f {c} q =
        let p = passing (check_answer t stop first) e in
        let s = passing (check_answer t stop second) f in
        let w = which_for p.0.rounds s.0.rounds in (
          ap Ok (q ∙ (λ i. preference_of (p.2 i).rounds (length first) (s.2 i).rounds (length second))
              ∙ ap (λ (l : ℕ). record { which = which_as w; length = l }) (sym (length_two w first second)))
              ∙ ap (λ (x : Answer ChosenSheet). chosen_as (returned_choice x)) (sym (both_pass t stop first second p.0 s.0 p.1 s.1)),
          preferred,
        )
