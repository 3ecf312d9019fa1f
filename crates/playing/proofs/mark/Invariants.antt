-- The invariant of `mark`: the blocks so far are marked.
use Rattle.std.proofs.Common.{◌≡◌, take}
use Rattle.model.specs.Playing.{marked}
use Rattle.playing.proofs.mark.Given as goal

abbrev pub invariant-loop-b : goal.invariant-loop-b
invariant-loop-b l = l.resident ≡ marked l.initial.resident (take l.b-index l.blocks)
