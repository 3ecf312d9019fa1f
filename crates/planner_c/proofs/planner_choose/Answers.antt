-- `planner_c::planner_choose` meets its contract. Assumes nothing.
use Rattle.std.proofs.Common.{◌≡◌, ◌∙◌, rules}
use Rattle.returning.specs.declared.Chosen.{Chosen}
use Rattle.counts.specs.Counts.{chosen_numbers}
use Rattle.counts.proofs.Written.{own_in, laid_beside, choice_wrote}
use Rattle.planner_c.proofs.planner_choose.Goals as goal

pub returns : goal.returns
returns c =
    let k = c.choose.ensures in
    let l = c.lay_chosen.ensures in
    let which : c.map.result ≡ own_in (λ (x : Chosen). x.which) c.numbered-chosen.result = search rules in
    let m = laid_beside _ chosen_numbers _ _ which c.args.counts.now in
    let u = choice_wrote _ _ _ _ _ k.0 _ c.numbered-chosen.ensures _ _ _ l.0 (l.1 ∙ m) in
    (u.0, u.1, k.1)
