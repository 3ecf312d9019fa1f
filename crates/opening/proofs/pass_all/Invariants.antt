-- The invariant of `pass_all`: the references below i are read.
use Rattle.std.proofs.Common.{◌≡◌}
use Rattle.opening.specs.Opening.{passed_all}
use Rattle.opening.proofs.pass_all.Given as goal

abbrev pub invariant-loop-i : goal.invariant-loop-i
invariant-loop-i l = l.desk ≡ passed_all l.refs l.steps l.i l.fn.desk
