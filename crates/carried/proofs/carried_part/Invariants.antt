-- `carried::carried_part` meets its contract. The invariant: the answer is what the rest gives from here. Assumes nothing.
use Rattle.carried.proofs.DiskByDisk.{AllGoing}
use Rattle.carried.proofs.carried_part.Given as goal

abbrev pub invariant-loop-d : goal.invariant-loop-d
invariant-loop-d l = AllGoing l.t l.disk l.fn.at l.slots l.fn.held l.fn.carried l.next l.d l.held l.carried
