-- The invariant of `mixing::mix`: what is mixed after i turns, and what is left mixed after it, are both sides mixed. Assumes nothing.
use Rattle.mixing.proofs.Laws.{Mixed}
use Rattle.mixing.proofs.mix.Given as goal

abbrev pub invariant-loop-i : goal.invariant-loop-i
invariant-loop-i l = Mixed l.right l.initial.left l.m l.i l.left
