-- `planner::check` meets its contract, for a ticket or a stop that is refused and for others. Assumes nothing.
use Rattle.std.proofs.Common.{sym, ◌∙◌, rules}
use Rattle.ticket.proofs.Laws.{read_fits}
use Rattle.planner.proofs.Laws.{check_refused, check_given}
use Rattle.planner.proofs.check.Goals as goal

pub returns-in_err-job : goal.returns-in_err-job
returns-in_err-job c = check_refused c.args.ticket.now c.args.stop c.args.sheet.now (sym c.read_up_to.ensures ∙ c.in_err-job.was) (search rules)

pub check-requires : goal.check-requires
check-requires c = read_fits _ _ (sym c.read_up_to.ensures ∙ c.in_ok-job.was)

pub returns : goal.returns
returns c = check_given c.args.ticket.now c.args.stop c.args.sheet.now (sym c.read_up_to.ensures ∙ c.in_ok-job.was) c.check.ensures
