-- The invariant of `tally`: the disks below d are counted. Assumes nothing.
use Rattle.std.proofs.Common.{◌≡◌, take}
use Rattle.writing.specs.Tallying.{tallied}
use Rattle.writing.proofs.tally.Given as goal

abbrev pub invariant-loop-d : goal.invariant-loop-d
invariant-loop-d l = l.fetches ≡ tallied l.initial.fetches (take l.d l.acts)
