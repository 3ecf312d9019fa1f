-- The invariant of `advance`: the way from p on is the rest of the way from `look` on. The measure is what is left of the references.
use Rattle.std.proofs.Common.{ℕ, ◌≡◌, ◌+◌, ◌-◌, ◌≤◌, length}
use Rattle.moving.specs.Moving.{move_from}
use Rattle.moving.proofs.advance.Given as goal

abbrev pub invariant-loop-p : goal.invariant-loop-p
invariant-loop-p l =
    (n : ℕ)
    × (length l.refs ≤ l.p + n)
    × (move_from l.refs l.resident l.steps n l.p l.later ≡ move_from l.refs l.resident l.steps 2048 l.look l.initial.later)

abbrev pub decreases-loop-p : goal.decreases-loop-p
decreases-loop-p l = length l.refs - l.p
