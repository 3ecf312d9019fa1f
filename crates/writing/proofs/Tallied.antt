-- The tally of a round adds to each disk's fetches what its action fetches. Assumes nothing.
use mathlib.Core.Path.{◌≡◌, refl, sym, ap, ◌∙◌}
use mathlib.Core.List.{List, [], ◌∷◌}
use Prim.Native.Nat.{ℕ, zero, suc, ◌+◌, ◌≤◌, ◌<◌}
use native.Mathlib.Numerals.{add-one}
use native.Mathlib.Omega.{arith}
use lib.ListN.{length, get_or, set, take, length-take, get_or-eq_default}
use Rattle.model.specs.Playing.{Action as JobAction}
use Rattle.model.specs.Playing.{idle, fetch, replace, fetched}
use Rattle.writing.specs.declared.Action.{Action}
use Rattle.writing.specs.Writing.{action_in, idle_action}
use Rattle.writing.specs.Tallying.{tallied}

pub fetched_most : (a : JobAction) → fetched a ≤ 1
fetched_most idle = omega arith
fetched_most (fetch x) = omega arith
fetched_most (replace x z) = omega arith

pub tallied-length : (f : List ℕ) (acts : List Action) → length (tallied f acts) ≡ length f
unfolding tallied
tallied-length [] acts = refl
tallied-length (n ∷ more) [] = refl
tallied-length (n ∷ more) (a ∷ rest) = ap suc (tallied-length more rest)

-- each disk's fetches, and no more for a disk without an action
pub tallied_at : (f : List ℕ) (acts : List Action) (d : ℕ) → d < length f
    → get_or (tallied f acts) d 0 ≡ get_or f d 0 + fetched (action_in (get_or acts d idle_action))
unfolding tallied
tallied_at [] acts d l = absurd (omega arith)
tallied_at (n ∷ more) [] d l = omega arith
tallied_at (n ∷ more) (a ∷ rest) zero l = refl
tallied_at (n ∷ more) (a ∷ rest) (suc d) l = tallied_at more rest d (omega arith)

pub tallied_none : (f : List ℕ) → tallied f [] ≡ f
unfolding tallied
tallied_none [] = refl
tallied_none (n ∷ more) = refl

-- one disk more
tallied_disk : (f : List ℕ) (acts : List Action) (d : ℕ) (x : Action) → d < length acts
    → set (tallied f (take d acts)) d (get_or (tallied f (take d acts)) d 0 + fetched (action_in (get_or acts d x))) ≡ tallied f (take (suc d) acts)
unfolding tallied
tallied_disk [] acts d x l = refl
tallied_disk (n ∷ more) [] d x l = absurd (omega arith)
tallied_disk (n ∷ more) (a ∷ rest) zero x l = ap (λ (t : List ℕ). (n + fetched (action_in a)) ∷ t) (sym (tallied_none more))
tallied_disk (n ∷ more) (a ∷ rest) (suc d) x l = ap (λ (t : List ℕ). (n + fetched (action_in a)) ∷ t) (tallied_disk more rest d x (omega arith))

module _ (f : List ℕ) (acts : List Action) (d : ℕ) {t : List ℕ} (so_far : t ≡ tallied f (take d acts)) where
  -- what a disk has before its own action is counted
  pub tallied_before : d < length f → get_or t d 0 ≡ get_or f d 0
  tallied_before l =
      let none = get_or-eq_default (take d acts) idle_action {n = d} (omega (arith, length-take d acts)) in
      ap (λ (x : List ℕ). get_or x d 0) so_far ∙ tallied_at f (take d acts) d l ∙ (rw none (omega arith))

  -- and after it
  pub tallied_more : d < length acts → (x : Action) → set t d (get_or t d 0 + fetched (action_in (get_or acts d x))) ≡ tallied f (take (d + 1) acts)
  tallied_more l x = rw (add-one d, ← tallied_disk f acts d x l, ← so_far) refl
