-- A plan of references that repeat themselves: where its state after some rounds comes again one repetition later, each repetition takes as many
-- rounds as lie between. Assumes nothing.
use mathlib.Core.Path.{◌≡◌, refl, ap, ◌∙◌}
use mathlib.Core.Bool.{Bool, true}
use mathlib.Core.List.{List, ◌++◌}
use Prim.Native.Nat.{ℕ, zero, suc, ◌+◌, ◌-◌, ◌*◌, ◌≤◌}
use native.Mathlib.Omega.{arith}
use native.Mathlib.Nat.{suc-mul}
use lib.Dec.{ltb}
use lib.ListN.{length}
use borrow.Author.Tests.{ltb-true}
use Rattle.bits.proofs.Logic.{by_test}
use Rattle.grammar.specs.Note.{repeated}
use Rattle.grammar.proofs.Lists.{repeated_more}
use Rattle.model.specs.Job.{Job, ref_count}
use Rattle.model.specs.Playing.{State}
use Rattle.model.specs.Rules.{Rule}
use Rattle.model.specs.Plans.{plan_from}
use Rattle.tight.proofs.Alike.{job_on, at, Local}
use Rattle.tight.proofs.Window.{after_rounds, started, plan_starts, plan_after, Covers, rounds-within, started_within}

repeated_one_more : (k m : ℕ) (refs : List ℕ) → repeated (k + suc m) refs ≡ refs ++ repeated (k + m) refs
unfolding repeated
repeated_one_more k m refs = ap (λ (n : ℕ). repeated n refs) (let e : k + suc m ≡ suc (k + m) = omega arith in e)

-- A plan that has read everything starts no round.
plan_ends : (rule : Rule) (j : Job) (most : ℕ) (s : State) → s.next ≡ ref_count j → length (plan_from rule j most s) ≡ 0
unfolding plan_from
plan_ends rule j zero s e = refl
plan_ends rule j (suc most) s e =
    by_test (ltb s.next (ref_count j))
    (λ t. let l = ltb-true s.next (ref_count j) t in absurd (omega (arith, l, e)))
    (λ t. rw (t, plan_from) refl)

module _ (rule : Rule) (local : Local rule) (slots disks period : List ℕ) (k : ℕ) (s : State) where
  abbrev job : ℕ → Job
  job n = job_on slots disks (repeated n period)

  -- The plan of k repetitions: after `first` rounds and after `each` more the same blocks are resident, and one repetition more is read; after
  -- `rounds` all is read.
  pub record Returns (each rounds : ℕ) : Type 0 where
    pub first : ℕ
    pub next : ℕ
    pub marks : List Bool
    pub reach : ℕ
    pub middle : ℕ
    pub covers : Covers (length disks) (repeated k period) reach middle
    pub within : length period + next ≤ reach
    pub once : after_rounds rule (job k) first s ≡ at marks next first
    pub again : after_rounds rule (job k) (first + each) s ≡ at marks (length period + next) (first + each)
    pub few : first ≤ rounds
    pub starts : started rule (job k) rounds s ≡ true
    pub ends : (after_rounds rule (job k) rounds s).next ≡ ref_count (job k)

  module _ (each rounds : ℕ) (returns : Returns each rounds) where
    abbrev first : ℕ
    first = returns.first

    abbrev reach : ℕ
    reach = returns.reach

    -- so many rounds are the same for more repetitions
    rounds_more : (m n most : ℕ) → (after_rounds rule (job k) n s).next ≤ reach
        → length (plan_from rule (job (k + m)) (n + most) s) ≡ n + length (plan_from rule (job (k + m)) most (after_rounds rule (job k) n s))
    rounds_more m n most l =
        let whole = job_on slots disks (repeated k period ++ repeated m period) in
        let started = started_within rule local slots disks (repeated k period) (repeated m period) reach returns.middle returns.covers n s l in
        let same = rounds-within rule local slots disks (repeated k period) (repeated m period) reach returns.middle returns.covers n s l in
        rw (repeated_more k m period) (plan_starts rule whole n most s started ∙ ap (λ (t : State). n + length (plan_from rule whole most t)) same)

    -- one repetition more takes `each` rounds more
    one_more : (m most : ℕ) → length (plan_from rule (job (k + suc m)) (first + each + most) s) ≡ each + length (plan_from rule (job (k + m)) (first + most) s)
    one_more m most =
        let w = returns.within in
        let next = ap (λ (t : State). t.next) returns.once in
        let further = ap (λ (t : State). t.next) returns.again in
        let a = rounds_more (suc m) (first + each) most (omega (arith, w, further)) in
        let b = rounds_more m first most (omega (arith, w, next)) in
        let after = plan_after period (repeated (k + m) period) rule local slots disks most returns.marks returns.next (first + each) first in
        let c : length (plan_from rule (job (k + suc m)) most (after_rounds rule (job k) (first + each) s)) ≡ length (plan_from rule (job (k + m)) most (after_rounds rule (job k) first s)) =
        rw (repeated_one_more k m period, returns.again, returns.once) after in
        omega (arith, a, b, c)

    -- So the rounds of k + m repetitions are those of k, and `each` more for each of the m.
    pub rounds-repeated : (m spare : ℕ) → length (plan_from rule (job (k + m)) (rounds + m * each + spare) s) ≡ rounds + m * each
    rounds-repeated zero spare =
        let a = plan_starts rule (job k) rounds spare s returns.starts in
        let b = plan_ends rule (job k) spare (after_rounds rule (job k) rounds s) returns.ends in
        let e : k + 0 ≡ k = omega arith in
        let f : rounds + 0 * each + spare ≡ rounds + spare = omega arith in
        rw (e, f) (omega (arith, a, b))
    rounds-repeated (suc m) spare =
        let ih = rounds-repeated m spare in
        let few = returns.few in
        let more = suc-mul m each in
        let most = rounds - first + m * each + spare in
        let e : rounds + suc m * each + spare ≡ first + each + most = omega (arith, more, few) in
        let f : rounds + m * each + spare ≡ first + most = omega (arith, few) in
        let one = one_more m most in
        let same = ap (λ (x : ℕ). length (plan_from rule (job (k + m)) x s)) f in
        rw e (omega (arith, one, same, ih, more))
