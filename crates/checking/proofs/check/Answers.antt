-- `check` meets its contract: the law of each way from the round count on. Assumes nothing.
use Rattle.std.proofs.Common.{sym, ap, ◌∙◌, rules}
use Rattle.job.specs.Meaning.{job_of}
use Rattle.checking.specs.Checking.{checked_of}
use Rattle.checking.proofs.Laws.{check_ended, check_long, check_plays}
use Rattle.checking.proofs.check.Goals as goal

pub returns-in_err-rounds : goal.returns-in_err-rounds
unfolding checked_of
returns-in_err-rounds c =
    let ended = rw (c.field.ensures, c.in_err-rounds.was) at c.ok_or.ensures.ok_part in
    let e = ap checked_of (check_ended (job_of c.args.job.now) c.args.sheet.now ended) in
    search rules

pub returns-then-rounds-gt2048 : goal.returns-then-rounds-gt2048
unfolding checked_of
returns-then-rounds-gt2048 c =
    let read = rw (c.field.ensures, c.in_ok-rounds.was) at c.ok_or.ensures.ok_part in
    sym (ap checked_of (check_long (job_of c.args.job.now) c.args.sheet.now _ read c.if-rounds-gt2048.true))

pub returns : goal.returns
returns c =
    let read = rw (c.field.ensures, c.in_ok-rounds.was) at c.ok_or.ensures.ok_part in
    c.play.ensures ∙ ap checked_of (sym (check_plays (job_of c.args.job.now) c.args.sheet.now _ read c.if-rounds-gt2048.false))
