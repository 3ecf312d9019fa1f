-- `put_legend` meets its contract. Assumes nothing.
use Rattle.std.proofs.Common.{◌+◌, ◌*◌, [], ◌∷◌, refl, ap, ◌∙◌, arith}
use Rattle.bits.specs.Fields.{laid_at}
use Rattle.model.specs.Plans.{each}
use Rattle.model.specs.Text.{text, filled_to}
use Rattle.model.specs.Page.{legend}
use Rattle.printing.proofs.Legend.{legend-first, legend-next, legend_all}
use Rattle.printing.proofs.put_legend.Goals as goal

pub loop-rule-init : goal.loop-rule-init
loop-rule-init c = legend-first _ _

pub loop-rule-preserved : goal.loop-rule-preserved
unfolding legend text filled_to each
loop-rule-preserved c =
    let l = c.loop-rule in
    let a = c.args in
    legend-next a.page.now a.at l.rule c.loop-rule-test.true l.invariant refl
    (c.put_text-in-loop-rule.ensures ∙ ap (laid_at (a.at + l.rule * 17 + 16) (10 ∷ [])) c.put_text.ensures)

pub returns : goal.returns
returns c = legend_all c.args.page.now c.args.at c.loop-rule.rule (omega arith) c.loop-rule.invariant
