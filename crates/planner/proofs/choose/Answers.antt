-- `planner::choose` meets its contract: where the ticket or the stop is refused, where the first sheet is, where the second is, and where both
-- pass. Assumes nothing.
use Rattle.std.proofs.Common.{sym, ◌∙◌, rules}
use Rattle.ticket.proofs.Laws.{read_fits}
use Rattle.planner.proofs.Laws.{check_is}
use Rattle.planner.proofs.TwoSheets.{ticket_stops, first_stops, second_stops, both_chosen}
use Rattle.planner.proofs.choose.Goals as goal

pub returns-in_err-job : goal.returns-in_err-job
returns-in_err-job c =
    let a = c.args in
    ticket_stops a.ticket.now a.stop a.first.now a.second.now (sym c.read_up_to.ensures ∙ c.in_err-job.was) (search rules)

pub check-requires : goal.check-requires
check-requires c = read_fits _ _ (sym c.read_up_to.ensures ∙ c.in_ok-job.was)

pub returns-in_err-a : goal.returns-in_err-a
returns-in_err-a c =
    let a = c.args in
    let read = sym c.read_up_to.ensures ∙ c.in_ok-job.was in
    first_stops a.ticket.now a.stop a.first.now a.second.now
    (sym (check_is a.ticket.now a.stop a.first.now read) ∙ sym c.check.ensures ∙ c.in_err-a.was) (search rules)

pub check-requires-2 : goal.check-requires-2
check-requires-2 c = read_fits _ _ (sym c.read_up_to.ensures ∙ c.in_ok-job.was)

pub returns-in_err-b : goal.returns-in_err-b
returns-in_err-b c =
    let a = c.args in
    let read = sym c.read_up_to.ensures ∙ c.in_ok-job.was in
    second_stops a.ticket.now a.stop a.first.now a.second.now
    (sym (check_is a.ticket.now a.stop a.first.now read) ∙ sym c.check.ensures ∙ c.in_ok-a.was)
    (sym (check_is a.ticket.now a.stop a.second.now read) ∙ sym c.check-2.ensures ∙ c.in_err-b.was) (search rules)

pub returns : goal.returns
returns c =
    let a = c.args in
    let read = sym c.read_up_to.ensures ∙ c.in_ok-job.was in
    both_chosen a.ticket.now a.stop a.first.now a.second.now
    (sym (check_is a.ticket.now a.stop a.first.now read) ∙ sym c.check.ensures ∙ c.in_ok-a.was)
    (sym (check_is a.ticket.now a.stop a.second.now read) ∙ sym c.check-2.ensures ∙ c.in_ok-b.was) c.preference.ensures
