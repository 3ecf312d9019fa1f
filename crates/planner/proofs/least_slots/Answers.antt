-- `planner::least_slots` meets its contract, for a ticket or a stop that is refused, for a disk that is not in the ticket, and for others. Assumes
-- nothing.
use Rattle.std.proofs.Common.{sym, ◌∙◌, arith, rules}
use Rattle.ticket.proofs.Laws.{read_fits}
use Rattle.planner.proofs.Slots.{slots_ticket, slots_no_disk, slots_sought}
use Rattle.planner.proofs.least_slots.Goals as goal

pub returns-in_err-job : goal.returns-in_err-job
returns-in_err-job c =
    let a = c.args in
    slots_ticket a.ticket.now a.stop a.disk a.wanted a.short.now (sym c.read_up_to.ensures ∙ c.in_err-job.was) (search rules)

pub returns-then-job-disk : goal.returns-then-job-disk
returns-then-job-disk c =
    let a = c.args in
    slots_no_disk a.ticket.now a.stop a.disk a.wanted a.short.now (sym c.read_up_to.ensures ∙ c.in_ok-job.was) (omega arith)

pub find-requires : goal.find-requires
find-requires c = (read_fits _ _ (sym c.read_up_to.ensures ∙ c.in_ok-job.was), omega arith)

pub returns : goal.returns
returns c =
    let a = c.args in
    slots_sought a.ticket.now a.stop a.disk a.wanted a.short.now (sym c.read_up_to.ensures ∙ c.in_ok-job.was) (omega arith) c.find.ensures
