-- `planner_c::planner_plan` meets its contract. Assumes nothing.
use Rattle.std.proofs.Common.{◌≡◌, ◌∙◌, rules}
use Rattle.returning.specs.declared.Planned.{Planned}
use Rattle.counts.specs.Counts.{planned_numbers}
use Rattle.counts.proofs.Written.{own_in, laid_beside, plan_wrote}
use Rattle.planner_c.proofs.planner_plan.Goals as goal

pub returns : goal.returns
returns c =
    let k = c.plan.ensures in
    let l = c.lay_planned.ensures in
    let mark : c.map.result ≡ own_in (λ (x : Planned). x.mark) c.numbered-planned.result = search rules in
    let m = laid_beside _ planned_numbers _ _ mark c.args.counts.now in
    let u = plan_wrote _ _ _ _ _ k.0 _ c.numbered-planned.ensures _ _ _ l.0 (l.1 ∙ m) in
    (u.0, k.1, k.2, u.1, k.3)
