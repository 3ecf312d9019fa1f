-- `changed` looks from the end back, at most to the start. Assumes nothing.
use Rattle.std.proofs.Common.{length}
use Rattle.cases.proofs.changed.Given as goal

abbrev pub decreases-loop-front : goal.decreases-loop-front
decreases-loop-front g l = length l.front
