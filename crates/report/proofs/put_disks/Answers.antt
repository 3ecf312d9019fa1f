-- `report::put_disks` meets its contract: the lines of no disk are put, and a disk's line, of at most 8 bytes, is put after those before it.
-- Assumes nothing.
use Rattle.std.proofs.Common.{◌<◌, get_or, ◌∙◌, arith, rules, Fits}
use Rattle.std.proofs.lemmas.List.{get_or-take, length-take}
use mir.Syntax.{w16}
use Rattle.model.proofs.Text.{digit_one}
use Rattle.texts.proofs.Laws.{end_seven, put_start}
use Rattle.report.specs.Report.{disk_lines}
use Rattle.report.proofs.Laws.{put_disk}
use Rattle.report.proofs.put_disks.Goals as goal

pub loop-d-init : goal.loop-d-init
unfolding disk_lines
loop-d-init c = record { few = omega arith; put = put_start _ _ }

pub put_end-at-requires-clause-at_bound : goal.put_end-at-requires-clause-at_bound
put_end-at-requires-clause-at_bound c =
    let due : c.loop-d.d < c.args.disks = omega (arith, length-take c.args.disks c.args.fetches) in
    let one = digit_one c.loop-d.d (omega arith) in
    omega (arith, one)

pub loop-d-preserved : goal.loop-d-preserved
loop-d-preserved c =
    let d = c.loop-d.d in
    let due : d < c.args.disks = omega (arith, length-take c.args.disks c.args.fetches) in
    let fetches = c.from.ensures ∙ get_or-take c.args.disks c.args.fetches d 0 due in
    let small : Fits w16 (get_or c.args.fetches d 0) = search rules in
    let one = digit_one d (omega arith) in
    let seven = end_seven c.from.result (omega (arith, small, fetches)) in
    record {
      few = let x = c.put_decimal-next.ensures.next in let y = c.put_end-at.ensures.next in omega (arith, x, y, one, seven);
      put = put_disk (λ k. get_or c.args.fetches k 0) d c.loop-d.invariant.put c.put_decimal-next.ensures fetches c.put_end-at.ensures;
    }
