-- What is laid for what a call returns is what the call writes. Assumes nothing.
use mathlib.Core.Path.{◌≡◌, refl, sym, ap, ◌∙◌}
use mathlib.Core.List.{List, ◌∷◌, ◌++◌}
use Prim.Native.Nat.{ℕ, ◌≤◌}
use native.Mathlib.Omega.{arith}
use Rattle.std.specs.Prelude.{Option, Some, None, Result, Ok, Err}
use Rattle.bits.specs.Reading.{Answer, given, refused}
use Rattle.model.specs.Plans.{each}
use Rattle.model.specs.Job.{Job}
use Rattle.model.specs.Playing.{Schedule}
use Rattle.model.specs.Calls.{counts_of, is_short, is_sparing, chosen, check_answer, plan_answer, planned_of, returned, ChosenSheet, choose_answer, returned_choice, number_of, counts_numbers, planning_numbers, choice_numbers, counts_written}
use Rattle.model.specs.Calls.{Planned as PlanGiven}
use Rattle.model.specs.Calls.{Mark as MarkGiven}
use Rattle.model.proofs.Numbers.{check_within, plan_within}
use Rattle.model.proofs.TwoSheets.{choose_within}
use Rattle.model.proofs.Bytes
use Rattle.playing.specs.declared.Counts.{Counts as CountsOf}
use Rattle.refusal.specs.Refusals.{refusal_of}
use Rattle.refusal.specs.declared.Refusal.{Refusal}
use Rattle.returning.specs.Returning.{mark_as, counts_as, which_as, planned_as, chosen_as}
use Rattle.returning.specs.declared.Planned.{Planned}
use Rattle.returning.specs.declared.Chosen.{Chosen}
use Rattle.returning.proofs.TwoSheets.{two_chosen}
use Rattle.counts.specs.Counts.{numbered, number_in, mark_number, checked_numbers, planned_numbers, chosen_numbers, counts_laid}
use Rattle.refusal.proofs.Numbers.{number-refusal_of}

-- What is returned for an answer: what is given, by value, or the refusal of its number.
abbrev pub by_value : {A B : Type 0} → (A → B) → Answer A → Result B Refusal
by_value f (given v) = Ok (f v)
by_value f (refused n) = Err (refusal_of n)

-- What is laid for a value returned is what is written for an answer, and so is the number.
abbrev pub Writes : {A B : Type 0} → (A → List ℕ) → (B → List ℕ) → Answer A → Result B Refusal → Type 0
Writes {A} {B} numbers laid a r = (s : Result B ℕ) → s ≡ numbered r → (n : ℕ) (lent lent' : List ℕ) → n ≡ number_in s → lent' ≡ counts_laid laid s lent
    → (n ≡ number_of a) × (lent' ≡ counts_written numbers a lent)

-- The numbers of a value, with what is given beside it: that of the value itself.
abbrev pub beside : {A B : Type 0} → (A → B) → (Option B → A → List ℕ) → A → List ℕ
beside own numbers x = numbers (Some (own x)) x

abbrev pub own_in : {A B : Type 0} → (A → B) → Result A ℕ → Option B
own_in own (Ok x) = Some (own x)
own_in own (Err number) = None

pub laid_beside : {A B : Type 0} (own : A → B) (numbers : Option B → A → List ℕ) (s : Result A ℕ) (b : Option B) → b ≡ own_in own s → (lent : List ℕ)
    → counts_laid (numbers b) s lent ≡ counts_laid (beside own numbers) s lent
laid_beside own numbers (Ok x) b e lent = rw e refl
laid_beside own numbers (Err number) b e lent = refl

-- It is for an answer whose refusals have small numbers, none of them 0.
module _ {A B : Type 0} (f : A → B) (a : Answer A) (few : (n : ℕ) → a ≡ refused n → (1 ≤ n) × (n ≤ 26)) (numbers : A → List ℕ) (laid : B → List ℕ)
    (same : (v : A) → a ≡ given v → laid (f v) ≡ numbers v) where
  wrote : (r : Result B Refusal) → r ≡ by_value f a → Writes numbers laid a r
  unfolding counts_written
  wrote r e s t n lent lent' h w =
      let g = go a refl in
      let u = t ∙ ap (λ (x : Result B Refusal). numbered x) e in (h ∙ ap number_in u ∙ g.0, w ∙ ap (λ (x : Result B ℕ). counts_laid laid x lent) u ∙ g.1)
    where
      go : (x : Answer A) → a ≡ x → (number_in (numbered (by_value f x)) ≡ number_of x)
          × (counts_laid laid (numbered (by_value f x)) lent ≡ counts_written numbers x lent)
      go (given v) q = (refl, ap (λ (l : List ℕ). counts_written (λ (x : A). l) (given v) lent) (same v q))
      go (refused n) q = let b = few n q in (number-refusal_of n b.0 (omega (arith, b)), refl)

-- The check.

counts_same : (j : Job) (schedule : Schedule) → checked_numbers (counts_as (counts_of j schedule)) ≡ counts_numbers (counts_of j schedule)
unfolding counts_of each
counts_same j schedule = refl

pub check_wrote : (t : List ℕ) (stop : ℕ) (s : List ℕ) (r : Result CountsOf Refusal) → r ≡ by_value counts_as (check_answer t stop s)
    → Writes counts_numbers checked_numbers (check_answer t stop s) r
check_wrote t stop s = wrote counts_as (check_answer t stop s) (check_within t stop s) counts_numbers checked_numbers
    (λ c q. (let v = Bytes.passes_valid t stop s c q in rw (sym v.4) (counts_same v.0 v.1)))

-- Planning.

-- The numbers of a planning call with its own mark.
abbrev pub marked_numbers : Planned → List ℕ
marked_numbers = beside (λ p. p.mark) planned_numbers

mark_same : (m : MarkGiven) → mark_number (Some (mark_as m)) ≡ chosen m 0 1
mark_same is_short = refl
mark_same is_sparing = refl

abbrev plan_value : PlanGiven → Planned
plan_value p = record { mark = mark_as p.mark; length = p.part_length; short = counts_as p.short; sparing = counts_as p.sparing }

planned_same : (j : Job) (a b : Schedule) → marked_numbers (plan_value (planned_of j a b)) ≡ planning_numbers (planned_of j a b)
unfolding planned_of counts_of each
planned_same j a b = let p = planned_of j a b in ap (λ (m : ℕ). m ∷ p.part_length ∷ (counts_numbers p.short ++ counts_numbers p.sparing)) (mark_same p.mark)

planned_is : (a : Answer PlanGiven) → planned_as (returned a) ≡ by_value plan_value a
unfolding planned_as returned
planned_is (given p) = refl
planned_is (refused n) = refl

pub plan_wrote : (t : List ℕ) (stop a b : ℕ) (r : Result Planned Refusal) → r ≡ planned_as (returned (plan_answer t stop a b))
    → Writes planning_numbers marked_numbers (plan_answer t stop a b) r
plan_wrote t stop a b r e = wrote plan_value (plan_answer t stop a b) (plan_within t stop a b) planning_numbers marked_numbers
    (λ p q. (let w = Bytes.planned t stop a b p q in rw (sym w.2) (planned_same _ _ _))) r (e ∙ planned_is (plan_answer t stop a b))

-- The choice.

abbrev choice_value : ChosenSheet → Chosen
choice_value c = record { which = which_as c.which; length = c.sheet_length }

-- The numbers of a choice with its own sheet.
abbrev pub sheet_numbers : Chosen → List ℕ
sheet_numbers = beside (λ c. c.which) chosen_numbers

choice_same : (c : ChosenSheet) → sheet_numbers (choice_value c) ≡ choice_numbers c
choice_same c = rw (two_chosen {A = ℕ} c.which 0 1) refl

chosen_is : (a : Answer ChosenSheet) → chosen_as (returned_choice a) ≡ by_value choice_value a
unfolding chosen_as returned_choice
chosen_is (given c) = refl
chosen_is (refused n) = refl

pub choice_wrote : (t : List ℕ) (stop : ℕ) (first second : List ℕ) (r : Result Chosen Refusal) → r ≡ chosen_as (returned_choice (choose_answer t stop first second))
    → Writes choice_numbers sheet_numbers (choose_answer t stop first second) r
choice_wrote t stop first second r e = wrote choice_value (choose_answer t stop first second) (choose_within t stop first second) choice_numbers sheet_numbers
    (λ c q. choice_same c) r (e ∙ chosen_is (choose_answer t stop first second))
