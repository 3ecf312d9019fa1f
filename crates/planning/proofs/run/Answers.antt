-- `run`: both plans are driven from the buffers and the desk before round 1. Assumes nothing.
use Rattle.std.proofs.Common.{refl}
use Rattle.choosing.specs.declared.Rule.TheVariants.{Short, Sparing}
use Rattle.opening.proofs.Started.{refs_lent}
use Rattle.planning.proofs.Opened.{slots_lent, drive_asks, drive_gives, drive_reasons, run_gives}
use Rattle.planning.proofs.run.Goals as goal

pub slice_bounds-refs-end : goal.slice_bounds-refs-end
slice_bounds-refs-end c = refs_lent c.args.job c.requires.0

pub slice_bounds-slots-end : goal.slice_bounds-slots-end
slice_bounds-slots-end c = slots_lent c.args.job c.requires.0

pub open-b-requires : goal.open-b-requires
open-b-requires c = (c.requires.0, refl, refl)

pub drive-short-requires : goal.drive-short-requires
drive-short-requires c =
    let start = c.open-b.ensures in
    drive_asks c.args.job c.requires.0 Short start.0 start.1 start.2 _ c.requires.0.few_refs c.requires.1

pub drive-sparing-requires : goal.drive-sparing-requires
drive-sparing-requires c =
    let start = c.open-b.ensures in
    drive_asks c.args.job c.requires.0 Sparing start.0 start.1 start.2 _ c.requires.0.few_refs c.requires.2

pub returns-clause-planned : goal.returns-clause-planned
returns-clause-planned c =
    let job = c.args.job in
    let fits = c.requires.0 in
    let start = c.open-b.ensures in
    let one = c.drive-short.ensures.driven in
    let two = c.drive-sparing.ensures.driven in
    let gives = run_gives job fits
    (drive_gives job fits Short start.0 start.1 start.2)
    (drive_gives job fits Sparing start.0 start.1 start.2)
    one.0 two.0 one.1 two.1 in (
      gives.0,
      gives.1,
      gives.2,
      drive_reasons job fits Short start.0 start.1 start.2 c.args.short.now.reasons.now one.2,
      drive_reasons job fits Sparing start.0 start.1 start.2 c.args.sparing.now.reasons.now two.2,
    )
