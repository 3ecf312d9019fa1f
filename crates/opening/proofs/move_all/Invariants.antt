-- The invariant of `move_all`: the pointers of the disks below d have moved on, and all are within the references.
use Rattle.std.proofs.Common.{◌≡◌, suc, length}
use Rattle.bits.specs.Bits.{Below}
use Rattle.opening.specs.Opening.{moved_all}
use Rattle.opening.proofs.move_all.Given as goal

abbrev pub invariant-loop-d : goal.invariant-loop-d
invariant-loop-d l = record {
  moved : l.desk ≡ moved_all l.refs l.resident l.steps l.d l.fn.desk;
  within : Below (suc (length l.refs)) l.desk.look;
}
