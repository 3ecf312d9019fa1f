-- `open`: the buffers before round 1, the desk of empty buffers, and that of the blocks carried in. Assumes nothing.
use Rattle.std.proofs.Common.{suc, length, take, sym, ap, subst, ◌∙◌, arith}
use Rattle.bits.specs.Bits.{Below}
use Rattle.lookup.specs.declared.Desk.{Desk}
use Rattle.indexing.specs.Indexing.{opened, stepped}
use Rattle.playing.proofs.Started.{reading_asks, started}
use Rattle.opening.specs.Opening.{moved_all}
use Rattle.opening.proofs.Started.{refs-few, refs-small, first_looks, ahead-made, read_within, open_gives}
use Rattle.opening.proofs.open.Goals as goal

pub read_on-b-requires : goal.read_on-b-requires
read_on-b-requires c = reading_asks c.args.job.now c.requires.0 _ (omega arith)

pub open-requires : goal.open-requires
open-requires c = (refs-few c.args.job.now c.requires.0, refs-small c.args.job.now c.requires.0, λ i l. c.requires.0.small_disk i)

pub move_all-requires-clause-disks_bound : goal.move_all-requires-clause-disks_bound
move_all-requires-clause-disks_bound c =
    let job = c.args.job.now in
    let fits = c.requires.0 in
    let first = c.open.ensures.desk_after ∙ ap (opened job.disk (take job.count job.refs)) c.requires.1 in
    let within : Desk → Type 0 = λ x. Below (suc (length (take job.count job.refs))) x.look in
    let few = fits.few_disks in
    (omega (arith, few), subst within (sym c.put_residents.ensures) (first_looks job fits first))

pub move_all-requires-clause-refs_len_bound : goal.move_all-requires-clause-refs_len_bound
move_all-requires-clause-refs_len_bound c =
    let job = c.args.job.now in
    let fits = c.requires.0 in
    let steps = c.open.ensures.steps_after ∙ ap (stepped job.disk (take job.count job.refs)) c.requires.2 in
    (refs-few job fits, refs-small job fits, ahead-made job fits steps)

pub pass_all-requires : goal.pass_all-requires
pass_all-requires c =
    let job = c.args.job.now in
    let fits = c.requires.0 in
    let read = read_within job fits (started job fits c.carrying.ensures c.read_on-b.ensures) in
    (omega (arith, read), refs-few job fits, refs-small job fits)

pub returns : goal.returns
returns c =
    let job = c.args.job.now in
    let fits = c.requires.0 in
    let refs = take job.count job.refs in
    let first = c.open.ensures.desk_after ∙ ap (opened job.disk refs) c.requires.1 in
    let steps = c.open.ensures.steps_after ∙ ap (stepped job.disk refs) c.requires.2 in
    let listed = ap (moved_all refs c.read_on-b.result.resident c.open.new.steps job.disks) c.put_residents.ensures in
    open_gives job fits (started job fits c.carrying.ensures c.read_on-b.ensures) first steps (c.move_all.ensures ∙ listed) c.pass_all.ensures
