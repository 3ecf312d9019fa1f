-- `play` meets its contract. Assumes nothing.
use Rattle.std.proofs.Common.{ap, ◌∙◌, arith, rules}
use Rattle.playing.specs.Playing.{consume_one}
use Rattle.playing.proofs.Started.{reading_asks, started}
use Rattle.checking.specs.Checking.{checked_of}
use Rattle.checking.proofs.Rounds as step
use Rattle.checking.proofs.Rounds.{BeforeDisk}
use Rattle.checking.proofs.play.Goals as goal
use Rattle.checking.proofs.play.Goals.{in-Idle, in-Fetch, in-Replace}

pub read_on-b-requires : goal.read_on-b-requires
read_on-b-requires c = reading_asks c.args.job.now c.requires.0 _ (omega arith)

pub rounds-init : goal.rounds-init
rounds-init c = step.round_same (started c.args.job.now c.requires.0 c.carrying.ensures c.read_on-b.ensures) (step.round-first c.requires.0)

pub loop-d-init : goal.loop-d-init
loop-d-init c = step.disk_first c.requires.0 c.rounds.invariant c.rounds-test.true

pub fetch-b-requires : goal.fetch-b-requires
fetch-b-requires c =
    step.fetch_fits c.requires.0 c.loop-d.invariant c.loop-d-test.true (rw (c.from.ensures, c.in_ok-action.was, c.in-Fetch.is) at c.action.ensures)

pub replace-b-requires : goal.replace-b-requires
replace-b-requires c =
    step.replace_fits c.requires.0 c.loop-d.invariant c.loop-d-test.true (rw (c.from.ensures, c.in_ok-action.was, c.in-Replace.is) at c.action.ensures)

pub returns-in_err-action : goal.returns-in_err-action
returns-in_err-action c =
    let e = step.disk_refused c.requires.0 c.loop-d.invariant c.loop-d-test.true (rw (c.from.ensures, c.in_err-action.was) at c.action.ensures) in
    search rules

pub loop-d-preserved : goal.loop-d-preserved
loop-d-preserved c =
    let fits = c.requires.0 in
    let inv = c.loop-d.invariant in
    let more = c.loop-d-test.true in
    let read = rw (c.from.ensures, c.in_ok-action.was) at c.action.ensures in
    elim c.match-branch-2.branch [
      | in-Idle w ↦ step.disk_same w.b-is w.counts-is w.at-is (step.disk_idle fits inv more (rw w.in-Idle.is at read))
      | in-Fetch w ↦ step.disk_same (w.b-is ∙ w.fetch-b.ensures) w.counts-is w.at-is (step.disk_fetch fits inv more (rw w.in-Fetch.is at read))
      | in-Replace w ↦
          step.disk_same (w.b-is ∙ w.replace-b.ensures) w.counts-is w.at-is (step.disk_replace fits inv more (rw w.in-Replace.is at read))
    ]

pub loop-b-init : goal.loop-b-init
loop-b-init c = step.reading_first c.requires.0 c.loop-d.invariant c.loop-d-test.false c.rounds-test.true

pub rounds-preserved : goal.rounds-preserved
rounds-preserved c = step.reading_over c.requires.0 c.loop-b.invariant c.loop-b-test.false

pub bounds-b-job : goal.bounds-b-job
bounds-b-job c = step.ref_below c.requires.0 c.loop-b-test.true

pub rounds-preserved-then-not-b-job : goal.rounds-preserved-then-not-b-job
rounds-preserved-then-not-b-job c = step.reading_missing c.requires.0 c.loop-b.invariant c.loop-b-test.true c.if-not-b-job.true

pub loop-b-smaller : goal.loop-b-smaller
unfolding consume_one
loop-b-smaller c = omega (arith, ap (λ b. b.next) c.consume-b.ensures)

pub loop-b-preserved : goal.loop-b-preserved
loop-b-preserved c =
    step.reading_same c.consume-b.ensures (step.reading_more c.requires.0 c.loop-b.invariant c.loop-b-test.true c.if-not-b-job.false)

pub returns : goal.returns
returns c = c.ending.ensures ∙ ap checked_of (step.rounds-over c.requires.0 c.rounds.invariant c.rounds-test.false)
