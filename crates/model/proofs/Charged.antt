-- Request L7: the charged rounds of a schedule. They are the least rounds after which no reference is left; a plan is charged all rounds that it
-- starts; and what follows the last reference changes nothing. Assumes nothing.
use mathlib.Core.Path.{◌≡◌, refl, sym, ap, ◌∙◌}
use mathlib.Core.Logic.{◌↔◌}
use mathlib.Core.List.{[], ◌∷◌, ◌++◌, map}
use Prim.Native.Nat.{ℕ, zero, suc, ◌+◌, ◌≤◌}
use native.Mathlib.Omega.{arith}
use lib.Dec.{ltb}
use lib.ListN.{length, get_or, take, length-map}
use borrow.Author.Tests.{ltb-true, ltb-false}
use Rattle.bits.proofs.Logic.{by_test}
use Rattle.model.specs.Job.{Job, ref_count}
use Rattle.model.specs.Playing.{Action, idle, fetch, replace, Schedule, State, start, play_round, play, charged_from, charged, fetched, total}
use Rattle.model.specs.Rules.{action, Rule}
use Rattle.model.specs.Plans.{choices, plan_from, plan_of, schedule_of}
use Rattle.model.specs.Valid.{ValidFrom}
use Rattle.model.proofs.Playing.{round_plays}

-- where no reference is left nothing is charged
pub charged-none : (j : Job) (s : State) (schedule : Schedule) → ref_count j ≤ s.next → charged_from j s schedule ≡ 0
unfolding charged_from
charged-none j s [] l = refl
charged-none j s (actions ∷ more) l =
    by_test (ltb s.next (ref_count j))
    (λ e. let k = ltb-true s.next (ref_count j) e in absurd (omega (arith, k, l)))
    (λ e. rw (e, charged_from))

-- no more rounds are charged than there are
pub charged_most : (j : Job) (s : State) (schedule : Schedule) → charged_from j s schedule ≤ length schedule
unfolding charged_from
charged_most j s [] = omega arith
charged_most j s (actions ∷ more) =
    let ih = charged_most j (play_round j s actions) more in
    by_test (ltb s.next (ref_count j))
    (λ e. rw (e, charged_from) (omega (arith, ih)))
    (λ e. rw (e, charged_from) (omega arith))

-- "Planning starts a round only while references remain": a plan is charged all its rounds.
pub plan_charged : (rule : Rule) (j : Job) (most : ℕ) (s : State) → charged_from j s (map (map action) (plan_from rule j most s)) ≡ length (plan_from rule j most s)
unfolding plan_from charged_from
plan_charged rule j zero s = refl
plan_charged rule j (suc most) s =
    let ih = plan_charged rule j most (play_round j s (map action (choices rule j s))) in
    by_test (ltb s.next (ref_count j))
    (λ e. rw (e, plan_from, e, charged_from) (omega (arith, ih)))
    (λ e. rw (e, plan_from) refl)

pub schedule_charged : (rule : Rule) (j : Job) → charged j (schedule_of rule j) ≡ length (schedule_of rule j)
unfolding charged schedule_of plan_of
schedule_charged rule j =
    plan_charged rule j (ref_count j) (start j) ∙ sym (length-map (plan_from rule j (ref_count j) (start j)) (map action))

-- The charged rounds of a schedule that consumes all references are the least after which none is left: "the round in which the last reference is
-- consumed".
pub charged_exactly : (j : Job) (s : State) (schedule : Schedule) → ValidFrom j s schedule → (k : ℕ) → ((play j s (take k schedule)).next ≡ ref_count j) ↔ (charged_from j s schedule ≤ k)
unfolding ValidFrom play charged_from
charged_exactly j s [] v zero = (λ e. omega arith, λ l. v)
charged_exactly j s [] v (suc k) = (λ e. omega arith, λ l. v)
charged_exactly j s (actions ∷ more) v zero =
    by_test (ltb s.next (ref_count j))
    (λ e. let l = ltb-true s.next (ref_count j) e in
    rw (e, charged_from) (λ q. absurd (omega (arith, q, l)), λ q. absurd (omega (arith, q))))
    (λ e. let l = ltb-false s.next (ref_count j) e in
    let o = v.1.onward in
    let w = v.1.within in
    rw (e, charged_from) (λ q. omega arith, λ q. omega (arith, l, o, w)))
charged_exactly j s (actions ∷ more) v (suc k) =
    let t = v.0 in
    let same = round_plays j s actions t v.1 in
    let ih = charged_exactly j t more v.2 k in
    let next = ap (λ (x : State). (play j x (take k more)).next) same in
    let rest = ap (λ (x : State). charged_from j x more) same in
    by_test (ltb s.next (ref_count j))
    (λ e. rw (e, charged_from) (λ q. let m = ih.0 (next ∙ q) in omega (arith, m, rest), λ q. sym next ∙ ih.1 (omega (arith, q, rest))))
    (λ e. let l = ltb-false s.next (ref_count j) e in
    let o = v.1.onward in
    let z = charged-none j t more (omega (arith, l, o)) in
    rw (e, charged_from) (λ q. omega arith, λ q. sym next ∙ ih.1 (omega (arith, z))))

-- "Idle rounds at the end are not charged", nor any others
pub charged-after : (j : Job) (s : State) (schedule more : Schedule) → ValidFrom j s schedule → charged_from j s (schedule ++ more) ≡ charged_from j s schedule
unfolding ValidFrom charged_from
charged-after j s [] more v = charged-none j s more (omega (arith, v))
charged-after j s (actions ∷ schedule) more v =
    let same = round_plays j s actions v.0 v.1 in
    let ih = charged-after j v.0 schedule more v.2 in
    let with = ap (λ (x : State). charged_from j x (schedule ++ more)) same in
    let without = ap (λ (x : State). charged_from j x schedule) same in
    by_test (ltb s.next (ref_count j))
    (λ e. rw (e, charged_from) (omega (arith, ih, with, without)))
    (λ e. rw (e, charged_from) refl)

-- while what they fetch is counted
pub total-after : (of : Action → ℕ) (d : ℕ) (schedule more : Schedule) → total of d (schedule ++ more) ≡ total of d schedule + total of d more
unfolding total
total-after of d [] more = omega arith
total-after of d (actions ∷ schedule) more = let ih = total-after of d schedule more in omega (arith, ih)

-- at most once in a round
fetched_most : (a : Action) → fetched a ≤ 1
fetched_most idle = omega arith
fetched_most (fetch x) = omega arith
fetched_most (replace x z) = omega arith

pub total_most : (d : ℕ) (schedule : Schedule) → total fetched d schedule ≤ length schedule
unfolding total
total_most d [] = omega arith
total_most d (actions ∷ more) = let ih = total_most d more in let one = fetched_most (get_or actions d idle) in omega (arith, ih, one)
