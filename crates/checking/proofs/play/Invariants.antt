-- Each loop's invariant says that the answer is what the rest of the sheet gives from here (`Rounds`). The measure is the number of references that
-- are left.
use Rattle.std.proofs.Common.{◌-◌, ◌+◌}
use Rattle.checking.proofs.Rounds.{BeforeRound, BeforeDisk, AtReading}
use Rattle.checking.proofs.play.Given as goal

abbrev pub invariant-loop-d : goal.invariant-loop-d
invariant-loop-d l = BeforeDisk l.job l.sheet l.rounds l.k l.counts.rounds l.b l.counts.fetches l.at l.d

abbrev pub invariant-loop-b : goal.invariant-loop-b
invariant-loop-b l = AtReading l.job l.sheet l.rounds l.counts.fetches l.at (l.k + 1) l.b l.counts.rounds

abbrev pub decreases-loop-b : goal.decreases-loop-b
decreases-loop-b l = l.job.count - l.b.next

abbrev pub invariant-rounds : goal.invariant-rounds
invariant-rounds l = BeforeRound l.job l.sheet l.rounds l.b l.counts.fetches l.at l.k l.counts.rounds
