-- `report::put_plan` meets its contract: three texts, one after the other. Assumes nothing.
use Rattle.std.proofs.Common.{arith}
use Rattle.texts.proofs.Laws.{end_seven, put_then}
use Rattle.report.specs.Text.{plan_text}
use Rattle.report.proofs.put_plan.Goals as goal

pub put_disks-requires-clause-start_bound : goal.put_disks-requires-clause-start_bound
put_disks-requires-clause-start_bound c =
    let seven = end_seven c.args.plan.rounds (omega (arith, c.requires.rounds_bound)) in
    omega (arith, seven)

pub returns-clause-text : goal.returns-clause-text
unfolding plan_text
returns-clause-text c = put_then c.put_word-rounds.ensures (put_then c.put_end-start.ensures c.put_disks.ensures.text)

pub returns-clause-few : goal.returns-clause-few
returns-clause-few c =
    let seven = end_seven c.args.plan.rounds (omega (arith, c.requires.rounds_bound)) in
    omega (arith, seven)
