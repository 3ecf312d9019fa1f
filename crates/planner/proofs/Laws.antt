-- A ticket that is read, and what the check then gives. Assumes nothing.
use mathlib.Core.Path.{◌≡◌, refl, sym, ap, ◌∙◌, subst}
use mathlib.Core.Bool.{true}
use mathlib.Core.List.{List}
use Prim.Native.Nat.{ℕ, ◌≤◌}
use lib.ListN.{get_or}
use Rattle.std.specs.Prelude.{Result, Ok, Err, is_ok}
use Rattle.bits.specs.Reading.{Answer, given, refused}
use Rattle.job.specs.Meaning.{job_of}
use Rattle.job.specs.declared.Job.{Job as Stored}
use Rattle.model.specs.Job.{Job}
use Rattle.model.specs.Playing.{Schedule}
use Rattle.model.specs.Sheet.{schedule_read}
use Rattle.model.specs.Valid.{ValidSheet}
use Rattle.model.specs.Calls.{job_up_to, Counts, counts_of, fetches_on, short_counts, sparing_counts, check_answer, check_for, pass_of}
use Rattle.model.proofs.Promises.{passes_exactly, unbeaten}
use Rattle.ticket.specs.Meaning.{job_read_up_to}
use Rattle.ticket.proofs.Laws.{read-given, read-refused}
use Rattle.checking.specs.Checking.{checked_of}
use Rattle.playing.specs.declared.Counts.{Counts as CountsOf}
use Rattle.refusal.specs.Refusals.{number, refusal_of}
use Rattle.refusal.specs.declared.Refusal.{Refusal}
use Rattle.refusal.proofs.Numbers.{refusal_of-number}
use Rattle.returning.specs.Returning.{counts_as}
use Rattle.planner.specs.Planner.{Unbeaten, Exact}

-- What the check returns says what its answer is.
pub passing : (a : Answer Counts) {c : CountsOf} → checked_of a ≡ Ok c → (v : Counts) × (a ≡ given v) × (c ≡ counts_as v)
unfolding checked_of
passing (given v) e = (v, refl, cc)
passing (refused n) e = cc

pub failing : (a : Answer Counts) {r : Refusal} → checked_of a ≡ Err r → (n : ℕ) × (a ≡ refused n) × (r ≡ refusal_of n)
unfolding checked_of
failing (given v) e = cc
failing (refused n) e = (n, refl, cc)

is_given : (a : Answer Counts) → is_ok (checked_of a) ≡ true → (v : Counts) × (a ≡ given v)
unfolding checked_of
is_given (given v) e = (v, refl)
is_given (refused n) e = cc

-- Demands 2 and 3 hold of it.
check_valid : (t : List ℕ) (stop : ℕ) (s : List ℕ) (j : Job) (schedule : Schedule) → job_up_to t stop ≡ given j → ValidSheet j s schedule → checked_of (check_answer t stop s) ≡ checked_of (given (counts_of j schedule))
check_valid t stop s j schedule e v = ap checked_of ((passes_exactly t stop s (counts_of j schedule)).1 (j, schedule, e, v, refl))

pub check_promised : (t : List ℕ) (stop : ℕ) (s : List ℕ) → Exact t stop s (checked_of (check_answer t stop s)) × Unbeaten t stop (checked_of (check_answer t stop s))
unfolding Exact Unbeaten checked_of
check_promised t stop s = (
  (
    (
      λ z. (let p = is_given (check_answer t stop s) z in let w = (passes_exactly t stop s p.0).0 p.1 in (w.0, w.1, w.2, w.3)),
      λ w. ap is_ok (check_valid t stop s w.0 w.1 w.2 w.3),
    ),
    check_valid t stop s,
  ),
  λ c z j e. (let p = passing (check_answer t stop s) z in
      subst (λ (x : CountsOf). ((short_counts j).rounds ≤ x.rounds) × ((d : ℕ) → fetches_on (sparing_counts j) d ≤ get_or x.fetches d 0)) (sym p.2)
      (unbeaten t stop s j p.0 e p.1)),
)

-- what is said of a value that is the answer's
abbrev pub Checks : List ℕ → ℕ → List ℕ → Result CountsOf Refusal → Type 0
Checks t stop s r = (r ≡ checked_of (check_answer t stop s)) × Exact t stop s r × Unbeaten t stop r

check_returned : (t : List ℕ) (stop : ℕ) (s : List ℕ) (r : Result CountsOf Refusal) → r ≡ checked_of (check_answer t stop s) → Checks t stop s r
check_returned t stop s r e = (e, subst (Exact t stop s) (sym e) (check_promised t stop s).0, subst (Unbeaten t stop) (sym e) (check_promised t stop s).1)

-- the refusal of a refusal's number
pub same-refusal : {A : Type 0} {refusal : Refusal} {r : Result A Refusal} → r ≡ Err refusal → r ≡ Err (refusal_of (number refusal))
same-refusal {A} {refusal} e = e ∙ ap Err (sym (refusal_of-number refusal))

module _ (t : List ℕ) (stop : ℕ) (s : List ℕ) where
  -- What the check gives where the ticket or the stop is refused,
  pub check_refused : {refusal : Refusal} → job_read_up_to t stop ≡ Err refusal → {r : Result CountsOf Refusal} → r ≡ Err refusal → Checks t stop s r
  unfolding checked_of check_answer check_for
  check_refused e {r} q = check_returned t stop s r (same-refusal q ∙ sym (ap (λ x. checked_of (check_for s x)) (read-refused t stop e)))

  -- part by part,
  pub check_stops : {refusal : Refusal} → job_read_up_to t stop ≡ Err refusal → checked_of (check_answer t stop s) ≡ Err refusal
  check_stops e = sym (check_refused e refl).0

  pub exact_stops : {refusal : Refusal} → job_read_up_to t stop ≡ Err refusal → Exact t stop s (Err refusal)
  exact_stops e = (check_refused e refl).1

  pub unbeaten_stops : {refusal : Refusal} → job_read_up_to t stop ≡ Err refusal → Unbeaten t stop (Err refusal)
  unbeaten_stops e = (check_refused e refl).2

  -- and where neither is.
  pub check_is : {c : Stored} → job_read_up_to t stop ≡ Ok c → checked_of (pass_of (job_of c) (schedule_read (job_of c) s)) ≡ checked_of (check_answer t stop s)
  unfolding check_answer check_for
  check_is e = sym (ap (λ x. checked_of (check_for s x)) (read-given t stop e))

  pub check_given : {c : Stored} → job_read_up_to t stop ≡ Ok c → {r : Result CountsOf Refusal}
      → r ≡ checked_of (pass_of (job_of c) (schedule_read (job_of c) s)) → Checks t stop s r
  check_given e {r} q = check_returned t stop s r (q ∙ check_is e)
