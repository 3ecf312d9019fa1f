-- `repeat`. The invariant: the first i references are those of the whole, and the first time is among them. Assumes
-- nothing.
use Rattle.std.proofs.Common.{take}
use Rattle.grammar.specs.Note.{repeated}
use Rattle.mixing.proofs.Laws.{Begins}
use Rattle.mixing.proofs.repeat.Given as goal

abbrev pub invariant-loop-i : goal.invariant-loop-i
invariant-loop-i l = Begins (repeated l.times (take l.one l.fn.part)) l.i l.part
