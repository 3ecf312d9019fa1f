-- The invariant of `lay_reasons`: the reasons of the disks below d are laid. Assumes nothing.
use Rattle.std.proofs.Common.{◌≡◌, take}
use Rattle.bits.specs.Fields.{laid_at}
use Rattle.writing.specs.Writing.{reasons_in}
use Rattle.writing.proofs.lay_reasons.Given as goal

abbrev pub invariant-loop-d : goal.invariant-loop-d
invariant-loop-d l = l.reasons ≡ laid_at l.start (reasons_in (take l.d l.acts)) l.initial.reasons
