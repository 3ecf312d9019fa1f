-- `handing::plan_job` meets its contract, for rooms that are too small and for rooms that are not. Assumes nothing.
use Rattle.std.proofs.Common.{◌≡◌, Err, sym, ◌∙◌, rules, ap}
use Rattle.choosing.specs.declared.Rule.TheVariants.{Short, Sparing}
use Rattle.handing.proofs.Rooms.{gives_refused, short_totals, sparing_totals, bits-few, job_refused, job_given, hand_asks, hand_gives}
use Rattle.handing.proofs.plan_job.Goals as goal

pub both_fit-requires : goal.both_fit-requires
both_fit-requires c =
    let run = c.run-plans.ensures.planned in (
      bits-few _ c.requires.sound Short _ (short_totals _ c.requires.sound _ run.0),
      bits-few _ c.requires.sound Sparing _ (sparing_totals _ c.requires.sound _ run.0),
    )

pub returns-in_err-both_fit : goal.returns-in_err-both_fit
returns-in_err-both_fit c =
    let refused = job_refused _ c.requires.sound _ c.run-plans.ensures.planned.0 _ _ _ (sym c.both_fit.ensures ∙ c.in_err-both_fit.was) in
    let e : c.from_residual.result ≡ Err c.in_err-both_fit.field-0.0 = search rules in
    gives_refused _ c.args.short.now c.args.sparing.now _ _ refused.1 (e ∙ ap Err refused.2)

pub hand_out-requires : goal.hand_out-requires
hand_out-requires c =
    let run = c.run-plans.ensures.planned in
    let fits = job_given _ c.requires.sound _ run.0 _ _ (sym c.both_fit.ensures ∙ c.in_ok-both_fit.was) in
    let asks = hand_asks _ c.requires.sound _ run.0 run.1 run.2 fits.1 fits.2 in
    record { bits_bound = asks.0; bits_bound_2 = asks.1 }

pub returns : goal.returns
returns c =
    let run = c.run-plans.ensures.planned in
    let fits = job_given _ c.requires.sound _ run.0 _ _ (sym c.both_fit.ensures ∙ c.in_ok-both_fit.was) in
    hand_gives _ c.requires.sound _ run.0 run.1 run.2 _ c.args.short.now c.args.sparing.now fits.0 c.hand_out.ensures
