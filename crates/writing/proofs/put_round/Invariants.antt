-- The invariant of `put_round`: the actions of the disks so far are written. Assumes nothing.
use Rattle.writing.proofs.Packing.{Wrote}
use Rattle.writing.proofs.put_round.Given as goal

abbrev pub invariant-loop-a : goal.invariant-loop-a
invariant-loop-a l = Wrote l.initial.sheet l.start l.acts l.a-index l.sheet l.at
