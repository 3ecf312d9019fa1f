-- `find`: the buffer is as it was lent, and the count is still to be found, from s on. Assumes nothing.
use Rattle.std.proofs.Common.{◌≡◌}
use Rattle.job.specs.Meaning.{job_of}
use Rattle.least.proofs.Searched.{ToFind}
use Rattle.least.proofs.find.Given as goal

abbrev pub invariant-loop-s : goal.invariant-loop-s
invariant-loop-s l = (l.short ≡ l.initial.short) × ToFind (job_of l.fn.job) l.disk l.wanted l.s
