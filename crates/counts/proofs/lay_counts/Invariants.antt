-- `lay_counts`: after the rounds the first d fetch counts are written. Assumes nothing.
use Rattle.std.proofs.Common.{◌≡◌, ◌+◌, ◌*◌, get_or}
use Rattle.bits.specs.Fields.{laid_at}
use Rattle.model.specs.Plans.{each}
use Rattle.model.specs.Calls.{halves}
use Rattle.counts.proofs.lay_counts.Given as goal

abbrev pub invariant-loop-d : goal.invariant-loop-d
invariant-loop-d l = l.counts ≡ laid_at ((l.from + 1) * 2) (halves (each (λ d. get_or l.fn.taken.fetches d 0) 0 l.d)) l.initial.counts
