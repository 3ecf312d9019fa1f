-- `entries::fill` meets its contract. The invariant: the answer is what the rest gives from here. Assumes nothing.
use Rattle.std.proofs.Common.{◌≤◌}
use Rattle.entries.proofs.Filling.{Going}
use Rattle.entries.proofs.fill.Given as goal

abbrev pub invariant-loop-i : goal.invariant-loop-i
invariant-loop-i g l = Going g.e l.count l.fn.at l.from l.fn.table l.next l.least l.i l.table × (l.least ≤ 65536)
