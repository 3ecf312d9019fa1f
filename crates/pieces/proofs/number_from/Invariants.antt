-- The invariant of `pieces::number_from`: what has been read of the number, and what is left, give the number. Assumes nothing.
use Rattle.std.proofs.Common.{◌≡◌, ◌≤◌, drop}
use Rattle.pieces.specs.Pieces.{digits_from}
use Rattle.pieces.proofs.number_from.Given as goal

abbrev pub invariant-loop-next : goal.invariant-loop-next
invariant-loop-next l = (l.value ≤ l.most) × (digits_from l.most l.first l.at (drop l.at l.text) ≡ digits_from l.most l.value l.next (drop l.next l.text))
