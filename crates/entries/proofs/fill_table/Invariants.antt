-- `entries::fill_table` meets its contract. The invariant: the answer is what the rest gives from here. Assumes nothing.
use Rattle.std.proofs.Common.{ℕ}
use Rattle.entries.specs.Parts.{of_row}
use Rattle.entries.proofs.Filling.{Going}
use Rattle.entries.proofs.fill_table.Given as goal

abbrev pub invariant-loop-i : goal.invariant-loop-i
invariant-loop-i g l = (least : ℕ) × Going (of_row l.t l.row) l.count l.fn.at 0 l.fn.table l.next least l.i l.table
