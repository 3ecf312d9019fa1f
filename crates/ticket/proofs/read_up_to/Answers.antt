-- `ticket::read_up_to` meets its contract: the ticket is refused, or its stop, or the stop is the count. Assumes nothing.
use Rattle.std.proofs.Common.{sym, arith}
use Rattle.std.proofs.lemmas.Bool.Decides.{nat_tests}
use Rattle.job.specs.Meaning.{counting}
use Rattle.ticket.proofs.Laws.{up_to_stop, up_to_refused}
use Rattle.ticket.proofs.read_up_to.Goals as goal

pub returns-in_err-fill : goal.returns-in_err-fill
returns-in_err-fill c =
    let e = up_to_refused c.args.t.now c.args.stop (sym (rw c.in_err-fill.was at c.fill.ensures)) in grind (arith, e)

pub returns-then-job-stop : goal.returns-then-job-stop
returns-then-job-stop c =
    let e = up_to_stop c.args.t.now c.args.stop (sym (rw c.in_ok-fill.was at c.fill.ensures)) in grind (arith, nat_tests, e)

pub returns : goal.returns
unfolding counting
returns c = let e = up_to_stop c.args.t.now c.args.stop (sym (rw c.in_ok-fill.was at c.fill.ensures)) in grind (arith, nat_tests, e)
