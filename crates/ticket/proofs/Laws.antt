-- What reading says of a ticket and a stop: the job that they say, or the number with which one of them is refused; and of the ticket's references.
-- Assumes nothing.
use mathlib.Core.Path.{◌≡◌, refl, sym, ap, ◌∙◌, subst}
use mathlib.Core.Bool.{cond}
use mathlib.Core.Logic.{inl, inr}
use mathlib.Core.List.{List}
use Prim.Native.Nat.{ℕ, ◌≤◌}
use native.Mathlib.Omega.{arith}
use lib.Dec.{ltb}
use borrow.Author.Tests.{ltb-true, ltb-false}
use Rattle.std.specs.Prelude.{Result, Ok, Err}
use Rattle.refusal.specs.declared.Refusal.{Refusal}
use Rattle.refusal.specs.declared.Refusal.TheVariants.{Stop}
use Rattle.refusal.specs.Refusals.{number, refusal_of}
use Rattle.refusal.proofs.Numbers.{number-refusal_of}
use Rattle.bits.proofs.Logic.{by_test}
use Rattle.bits.specs.Reading.{Answer, given, refused}
use Rattle.model.specs.Job.{Job, ref_count, up_to}
use Rattle.model.specs.Ticket.{ticket_of}
use Rattle.model.specs.Calls.{job_up_to, references_of}
use Rattle.model.proofs.Ticket.{ticket_sound}
use Rattle.model.proofs.Stop.{stops_exactly, stop_refusals}
use Rattle.model.proofs.Numbers.{ticket_within}
use Rattle.job.specs.Meaning.{job_of, stored, counting, Fits}
use Rattle.job.specs.declared.Job.{Job as Stored}
use Rattle.job.proofs.Laws.{job_of_stored, stored_fits, job_of_counting, counting_fits, refs_are}
use Rattle.ticket.specs.Meaning.{answer_of, ticket_read, answer_up_to, job_read_up_to}

module _ (t : List ℕ) where
  -- The ticket's two answers, each with the value that is read.
  data Answered : Result Stored Refusal → Type 0 where
    held : (j : Job) → ticket_of t ≡ given j → Answered (Ok (stored j))
    none : (r : Refusal) → ticket_of t ≡ refused (number r) → Answered (Err r)

  answered : Answered (ticket_read t)
  unfolding ticket_read answer_of
  answered = go (ticket_of t) refl
    where
      go : (a : Answer Job) → ticket_of t ≡ a → Answered (answer_of a)
      go (given j) e = held j e
      go (refused n) e = let few = ticket_within t n e in none (refusal_of n) (e ∙ ap refused (sym (number-refusal_of n few.0 (omega (arith, few.1)))))

  -- the same of the ticket up to a stop, where the stop is within
  pub up_to_stop : (stop : ℕ) {c : Stored} → ticket_read t ≡ Ok c → job_read_up_to t stop ≡ cond (ltb c.count stop) (Err Stop) (Ok (counting stop c))
  unfolding ticket_read answer_of job_read_up_to answer_up_to stored
  up_to_stop stop {c} e = go (ticket_of t) e
    where
      go : (a : Answer Job) → answer_of a ≡ Ok c → answer_up_to stop a ≡ cond (ltb c.count stop) (Err Stop) (Ok (counting stop c))
      go (given j) q = let same : stored j ≡ c = cc in ap (λ (x : Stored). cond (ltb x.count stop) (Err Stop) (Ok (counting stop x))) same
      go (refused n) q = absurd (let z : ◌≡◌ {A = ℕ} 0 1 = cc in omega arith)

  -- the same of a ticket that is refused
  pub up_to_refused : (stop : ℕ) {r : Refusal} → ticket_read t ≡ Err r → job_read_up_to t stop ≡ Err r
  unfolding ticket_read answer_of job_read_up_to answer_up_to
  up_to_refused stop {r} e = go (ticket_of t) e
    where
      go : (a : Answer Job) → answer_of a ≡ Err r → answer_up_to stop a ≡ Err r
      go (given j) q = absurd (let z : ◌≡◌ {A = ℕ} 0 1 = cc in omega arith)
      go (refused n) q = q

  -- A ticket that is read is that of a job, which is within the ticket's limits, and its references are N.
  pub ticket_job : {c : Stored} → ticket_read t ≡ Ok c → (ticket_of t ≡ given (job_of c)) × Fits c
  unfolding stored
  ticket_job {c} e = go answered e
    where
      go : {x : Result Stored Refusal} → Answered x → x ≡ Ok c → (ticket_of t ≡ given (job_of c)) × Fits c
      go (held j e) q =
          let same : stored j ≡ c = cc in
          let sound = ticket_sound t j e in
          subst (λ (x : Stored). (ticket_of t ≡ given (job_of x)) × Fits x) same (e ∙ ap given (sym (job_of_stored j sound)), stored_fits j sound)
      go (none r e) q = absurd (let z : ◌≡◌ {A = ℕ} 0 1 = cc in omega arith)

  pub references_are : {c : Stored} → ticket_read t ≡ Ok c → c.count ≡ references_of (ticket_of t)
  references_are {c} e = let a = ticket_job e in sym (refs_are c a.1) ∙ ap references_of (sym a.0)

  -- One that is refused has the number of its refusal.
  pub ticket_refused : {r : Refusal} → ticket_read t ≡ Err r → ticket_of t ≡ refused (number r)
  ticket_refused {r} e = go answered e
    where
      go : {x : Result Stored Refusal} → Answered x → x ≡ Err r → ticket_of t ≡ refused (number r)
      go (held j e) q = absurd (let z : ◌≡◌ {A = ℕ} 0 1 = cc in omega arith)
      go (none s e) q = let same : s ≡ r = cc in e ∙ ap (λ (x : Refusal). refused (number x)) same

module _ (t : List ℕ) (stop : ℕ) where
  -- The two answers up to a stop, each with the value that is read.
  data AnsweredUpTo : Result Stored Refusal → Type 0 where
    held : (j : Job) → ticket_of t ≡ given j → stop ≤ ref_count j → AnsweredUpTo (Ok (counting stop (stored j)))
    none : (r : Refusal) → job_up_to t stop ≡ refused (number r) → AnsweredUpTo (Err r)

  answered_up_to : AnsweredUpTo (job_read_up_to t stop)
  unfolding job_read_up_to answer_up_to
  answered_up_to = go (ticket_of t) refl
    where
      go : (a : Answer Job) → ticket_of t ≡ a → AnsweredUpTo (answer_up_to stop a)
      go (given j) e =
          by_test (ltb (ref_count j) stop)
          (λ y. rw y (none Stop ((stop_refusals t stop 21).1 (inr (refl, j, e, ltb-true _ _ y)))))
          (λ y. rw y (held j e (ltb-false _ _ y)))
      go (refused n) e =
          let few = ticket_within t n e in
          none (refusal_of n) ((stop_refusals t stop n).1 (inl e) ∙ ap refused (sym (number-refusal_of n few.0 (omega (arith, few.1)))))

  module _ {c : Stored} (e : job_read_up_to t stop ≡ Ok c) where
    -- The ticket and the stop say the job that is read,
    pub read-given : job_up_to t stop ≡ given (job_of c)
    unfolding stored
    read-given = go answered_up_to e
      where
        go : {x : Result Stored Refusal} → AnsweredUpTo x → x ≡ Ok c → job_up_to t stop ≡ given (job_of c)
        go (held j e few) q =
            let same : counting stop (stored j) ≡ c = cc in
            let back = job_of_stored j (ticket_sound t j e) in
            let up : up_to stop j ≡ job_of (counting stop (stored j)) = ap (up_to stop) (sym back) ∙ sym (job_of_counting stop (stored j) few) in
            (stops_exactly t stop _).1 (j, e, few, up ∙ ap job_of same)
        go (none r e) q = absurd (let z : ◌≡◌ {A = ℕ} 0 1 = cc in omega arith)

    -- and that job is within the ticket's limits.
    pub read_fits : Fits c
    unfolding stored
    read_fits = go answered_up_to e
      where
        go : {x : Result Stored Refusal} → AnsweredUpTo x → x ≡ Ok c → Fits c
        go (held j e few) q =
            let same : counting stop (stored j) ≡ c = cc in
            subst Fits same (counting_fits stop (stored j) few (stored_fits j (ticket_sound t j e)))
        go (none r e) q = absurd (let z : ◌≡◌ {A = ℕ} 0 1 = cc in omega arith)

  -- A refusal has the number with which the ticket or the stop is refused.
  pub read-refused : {r : Refusal} → job_read_up_to t stop ≡ Err r → job_up_to t stop ≡ refused (number r)
  read-refused {r} e = go answered_up_to e
    where
      go : {x : Result Stored Refusal} → AnsweredUpTo x → x ≡ Err r → job_up_to t stop ≡ refused (number r)
      go (held j e few) q = absurd (let z : ◌≡◌ {A = ℕ} 0 1 = cc in omega arith)
      go (none s e) q = let same : s ≡ r = cc in e ∙ ap (λ (x : Refusal). refused (number x)) same
