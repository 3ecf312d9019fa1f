-- `planner::plan_with_page` meets its contract, for a ticket or a stop that is refused and for others. Assumes nothing.
use Rattle.std.proofs.Common.{sym, ◌∙◌, rules}
use Rattle.ticket.proofs.Laws.{read_fits}
use Rattle.planner.proofs.Promised.{page-refused, page-given}
use Rattle.planner.proofs.plan_with_page.Goals as goal

pub returns-in_err-job : goal.returns-in_err-job
returns-in_err-job c =
    let a = c.args in
    page-refused a.ticket.now a.stop a.short.now a.sparing.now a.page.now (sym c.read_up_to.ensures ∙ c.in_err-job.was) (search rules)

pub page_job-requires : goal.page_job-requires
page_job-requires c = read_fits _ _ (sym c.read_up_to.ensures ∙ c.in_ok-job.was)

pub returns : goal.returns
returns c =
    let a = c.args in
    page-given a.ticket.now a.stop a.short.now a.sparing.now a.page.now (sym c.read_up_to.ensures ∙ c.in_ok-job.was) c.page_job.ensures
