-- The invariant of `last`: after the residents up to a place, `best` is `last_place` of them, and `most` its key.
use Rattle.std.proofs.Common.{◌≡◌, ◌-◌}
use Rattle.choosing.specs.Choosing.{key_at, last_place}
use Rattle.choosing.proofs.last.Given as goal

abbrev pub invariant-loop-i : goal.invariant-loop-i
invariant-loop-i l =
    (l.best ≡ last_place l.desk.held l.desk.next l.base (l.i - l.base - 1)) × (l.most ≡ key_at l.desk.held l.desk.next l.best)
