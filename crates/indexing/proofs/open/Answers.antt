-- `open` meets its contract: each turn takes the tables one reference back. Assumes nothing.
use Rattle.std.proofs.Common.{ℕ, ◌-◌, ◌<◌, List, length, get_or, refl, sym, ap, ap₂, ◌∙◌, arith}
use Rattle.bits.proofs.Fields.{below_any}
use Rattle.lookup.specs.Lookup.{ref_disks}
use Rattle.lookup.specs.declared.Steps.{Steps}
use Rattle.lookup.proofs.Laws.{ref_disks-length, ref_disks_at}
use Rattle.indexing.specs.Indexing.{stepped}
use Rattle.indexing.proofs.Backward.{done_start, done_back, done_again}
use Rattle.indexing.proofs.open.Goals as goal

pub loop-i-init : goal.loop-i-init
loop-i-init c =
    let refs = c.args.refs.now in
    let disks = c.args.disk_of.now in
    let steps = c.args.steps.now in
    let never = c.position-never in
    let l = ref_disks-length disks refs in
    record {
      blocks = done_start refs 512 (length refs) never.result steps.of_block refl never.ensures;
      disks = done_start (ref_disks disks refs) 512 (length refs) never.result steps.of_disk (sym l) (never.ensures ∙ sym l);
      held = refl;
    }

pub loop-i-preserved : goal.loop-i-preserved
loop-i-preserved c =
    let refs = c.args.refs.now in
    let disks = c.args.disk_of.now in
    let inv = c.loop-i.invariant in
    let within = inv.blocks.within in
    let more : c.loop-i.i - 1 < length refs = omega arith in
    let block = c.requires.1 (c.loop-i.i - 1) more in
    let disk = below_any 8 disks (omega arith) c.requires.2 c.from-block.result in
    let on = ref_disks_at disks refs (c.loop-i.i - 1) more ∙ ap (λ (b : ℕ). get_or disks b 0) (sym c.from-block.ensures) ∙ sym c.from-disk.ensures in
    let a = c.step_back.ensures in
    let b = c.step_back-in-loop-i.ensures in
    record {
      blocks = done_back inv.blocks (omega arith) (sym c.from-block.ensures) (omega (arith, block, c.from-block.ensures)) a.first_after a.again_after;
      disks = done_back inv.disks (omega arith) on (omega (arith, disk, c.from-disk.ensures)) b.first_after b.again_after;
      held = inv.held;
    }

pub returns-clause-steps_after : goal.returns-clause-steps_after
unfolding stepped
returns-clause-steps_after c =
    let inv = c.loop-i.invariant in
    let made : List ℕ → List ℕ → Steps = λ of_block of_disk. record { of_block = of_block; of_disk = of_disk } in
    ap₂ made (done_again inv.blocks (omega arith)) (done_again inv.disks (omega arith))
