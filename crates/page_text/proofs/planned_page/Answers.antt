-- `page_text::planned_page` meets its contract, for a ticket or a call that is refused and for others. Assumes nothing.
use Rattle.std.proofs.Common.{sym, ◌∙◌, rules}
use Rattle.page_text.proofs.PagePrinted.{page_given, page-refused, ticket-refused}
use Rattle.page_text.proofs.planned_page.Goals as goal

pub returns-in_err-job : goal.returns-in_err-job
returns-in_err-job c = ticket-refused c.args.ticket.now c.args.out.now (sym c.read.ensures ∙ c.in_err-job.was) (search rules)

pub returns-in_err-paged : goal.returns-in_err-paged
returns-in_err-paged c =
    let called = c.plan_with_page.ensures in
    page-refused c.args.ticket.now c.args.out.now (sym c.read.ensures ∙ c.in_ok-job.was) called.0 called.3 c.in_err-paged.was (search rules)

pub returns : goal.returns
returns c =
    let called = c.plan_with_page.ensures in
    page_given c.args.ticket.now c.args.out.now (sym c.read.ensures ∙ c.in_ok-job.was) called.0 called.3 c.in_ok-paged.was
