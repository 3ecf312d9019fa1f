-- The invariant of `put_disks`'s loop: the lines of the first d disks are put, each of at most 8 bytes. Assumes nothing.
use Rattle.std.proofs.Common.{◌+◌, ◌*◌, ◌≤◌, get_or}
use Rattle.texts.specs.Texts.{Put}
use Rattle.report.specs.Report.{disk_lines}
use Rattle.report.proofs.put_disks.Given as goal

abbrev pub invariant-loop-d : goal.invariant-loop-d
invariant-loop-d l = record {
  few : l.at ≤ l.start + l.d * 8;
  put : Put l.start (disk_lines (λ k. get_or l.fn.fetches k 0) l.d) l.initial.out l.out l.at;
}
