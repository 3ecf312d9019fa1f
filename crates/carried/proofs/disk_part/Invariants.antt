-- `carried::disk_part` meets its contract. The entries are the blocks of the disk. Assumes nothing.
use Rattle.carried.specs.Carried.{blocks_on}
use Rattle.carried.proofs.disk_part.Given as goal

abbrev pub ghost-fill : goal.ghost-fill
ghost-fill a = blocks_on a.entry.0.now a.entry.1.now a.entry.2.now
