-- `counts::lay_counts` meets its contract. Assumes nothing.
use Rattle.std.proofs.Common.{◌≡◌, sym, ◌∙◌, refl, arith}
use Rattle.bits.proofs.Fields.{laid_at_nil}
use Rattle.model.specs.Plans.{each}
use Rattle.model.specs.Calls.{halves}
use Rattle.counts.proofs.Laying.{laid_next, laid-counts}
use Rattle.counts.proofs.lay_counts.Goals as goal

pub loop-d-init : goal.loop-d-init
unfolding each halves
loop-d-init c = sym (laid_at_nil _ _)

pub loop-d-preserved : goal.loop-d-preserved
loop-d-preserved c = c.lay16-in-loop-d.ensures ∙ laid_next _ _ _ c.loop-d.d _ _ refl c.loop-d.invariant

pub returns : goal.returns
returns c =
    let all : c.loop-d.d ≡ 8 = omega arith in
    c.loop-d.invariant ∙ rw (all, c.lay16.ensures) (laid-counts c.args.taken.rounds _ c.args.from _ _ refl)
