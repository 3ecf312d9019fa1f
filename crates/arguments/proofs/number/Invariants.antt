-- The invariant of `arguments::number`: the value stands for the digits read so far. Assumes nothing.
use Rattle.arguments.proofs.Digits.{ReadTo}
use Rattle.arguments.proofs.number.Given as goal

abbrev pub invariant-loop-c : goal.invariant-loop-c
invariant-loop-c l = ReadTo l.text l.c-index l.value
