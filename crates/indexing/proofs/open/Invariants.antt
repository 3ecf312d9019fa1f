-- `open`. The invariant: the tables are those of the references from i on, and of their disks.
use Rattle.std.proofs.Common.{◌≡◌}
use Rattle.lookup.specs.Lookup.{ref_disks}
use Rattle.indexing.proofs.Backward.{Done}
use Rattle.indexing.proofs.open.Given as goal

abbrev pub invariant-loop-i : goal.invariant-loop-i
invariant-loop-i l = record {
  blocks : Done l.refs 512 l.i l.desk.next l.steps.of_block l.fn.steps.of_block;
  disks : Done (ref_disks l.disk_of l.refs) 512 l.i l.desk.look l.steps.of_disk l.fn.steps.of_disk;
  held : l.desk.held ≡ l.fn.desk.held;
}
