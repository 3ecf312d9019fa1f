-- A pointer on its way: one step, where it stops, and that it stays within the references. Assumes nothing.
use mathlib.Core.Path.{◌≡◌, refl, ap}
use mathlib.Core.Bool.{Bool, true, false}
use mathlib.Core.List.{List}
use Prim.Native.Nat.{ℕ, zero, suc, ◌≤◌, ◌<◌}
use native.Mathlib.Omega.{arith}
use lib.Dec.{ltb}
use lib.ListN.{length, get_or}
use borrow.Author.Tests.{lt-ltb, le-ltb, ltb-true}
use Rattle.bits.proofs.Logic.{by_test, and_false_right}
use Rattle.lookup.specs.declared.Steps.{Steps}
use Rattle.lookup.specs.Desk.{passed}
use Rattle.moving.specs.Moving.{Ahead, move_from}

module _ (refs : List ℕ) (resident : List Bool) (steps : Steps) where
  -- past a resident block it goes on from the next reference of its disk, and the row of distances from the pointer changes,
  pub move_step : (n p : ℕ) (later : List ℕ) → p < length refs → get_or resident (get_or refs p 0) false ≡ true
      → move_from refs resident steps n (get_or steps.of_disk p 0) (passed refs steps p later) ≡ move_from refs resident steps (suc n) p later
  unfolding move_from
  move_step n p later more here = rw (lt-ltb p (length refs) more, here)

  -- and it stops at a missing one
  pub move_missing : (n p : ℕ) (later : List ℕ) → get_or resident (get_or refs p 0) false ≡ false
      → move_from refs resident steps n p later ≡ (p, later)
  unfolding move_from
  move_missing zero p later out = refl
  move_missing (suc n) p later out = rw (and_false_right (ltb p (length refs)) out)

  -- or at the end
  pub move_end : (n p : ℕ) (later : List ℕ) → length refs ≤ p → move_from refs resident steps n p later ≡ (p, later)
  unfolding move_from
  move_end zero p later past = refl
  move_end (suc n) p later past = rw (le-ltb p (length refs) past)

  -- it never leaves the references,
  move_within : Ahead (length refs) steps.of_disk → (n p : ℕ) (later : List ℕ) → p ≤ length refs
      → (move_from refs resident steps n p later).0 ≤ length refs
  unfolding move_from
  move_within ahead zero p later l = l
  move_within ahead (suc n) p later l =
      by_test (ltb p (length refs))
      (λ more. by_test (get_or resident (get_or refs p 0) false)
      (λ here. rw (more, here) (move_within ahead n (get_or steps.of_disk p 0) _ (ahead p (ltb-true p (length refs) more)).1))
      (λ out. rw (and_false_right (ltb p (length refs)) out) l))
      (λ past. rw past l)

  -- so that where it stopped is one, or the end
  pub stop-within : Ahead (length refs) steps.of_disk → (n p : ℕ) (later : List ℕ) (stop : ℕ) (after : List ℕ) → p ≤ length refs
      → (stop, after) ≡ move_from refs resident steps n p later → stop ≤ length refs
  stop-within ahead n p later stop after l way =
      let at = ap (λ (m : ℕ × List ℕ). m.0) way in
      let within = move_within ahead n p later l in
      omega (arith, at, within)
