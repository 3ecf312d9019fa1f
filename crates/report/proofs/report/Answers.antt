-- `report::report` meets its contract, for a ticket that is read and for one that is refused. Assumes nothing.
use Rattle.std.proofs.Common.{sym, ap}
use Rattle.texts.specs.Texts.{refusal_line}
use Rattle.texts.proofs.Laws.{put_same}
use Rattle.report.proofs.Printed.{small, disks_few, refusal_printed, plan_printed}
use Rattle.report.proofs.report.Goals as goal

pub returns-in-Err-clause-bytes : goal.returns-in-Err-clause-bytes
returns-in-Err-clause-bytes c = (refusal_printed c.args.ticket.now (sym c.in-Err.ensures) (put_same (ap refusal_line c.number.ensures) c.put_refusal.ensures.text)).0

pub returns-in-Err-clause-count : goal.returns-in-Err-clause-count
returns-in-Err-clause-count c = (refusal_printed c.args.ticket.now (sym c.in-Err.ensures) (put_same (ap refusal_line c.number.ensures) c.put_refusal.ensures.text)).1

pub put_planned-requires-clause-small : goal.put_planned-requires-clause-small
put_planned-requires-clause-small c = small _ _ _ _ _ c.plan-planned.ensures.0

pub put_planned-requires-clause-disks_bound : goal.put_planned-requires-clause-disks_bound
put_planned-requires-clause-disks_bound c = disks_few c.args.ticket.now (sym c.in-Ok.ensures)

pub returns-clause-bytes : goal.returns-clause-bytes
returns-clause-bytes c = (plan_printed c.args.ticket.now (sym c.in-Ok.ensures) c.plan-planned.ensures.0 c.put_planned.ensures.text).0

pub returns-clause-count : goal.returns-clause-count
returns-clause-count c = (plan_printed c.args.ticket.now (sym c.in-Ok.ensures) c.plan-planned.ensures.0 c.put_planned.ensures.text).1
