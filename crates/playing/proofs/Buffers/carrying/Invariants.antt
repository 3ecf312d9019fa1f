-- The invariant of `carrying`: the blocks of the disks below d are marked.
use Rattle.std.proofs.Common.{◌≡◌}
use Rattle.model.specs.Playing.{none_resident, marked_all}
use Rattle.model.specs.Plans.{each}
use Rattle.job.specs.Meaning.{carried_in}
use Rattle.playing.proofs.Buffers.carrying.Given as goal

abbrev pub invariant-loop-d : goal.invariant-loop-d
invariant-loop-d l = l.resident ≡ marked_all none_resident (each (carried_in l.held l.blocks) 0 l.d)
