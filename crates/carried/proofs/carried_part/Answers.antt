-- `carried::carried_part` meets its contract: each disk's part takes the loop a disk further, or ends it. Assumes nothing.
use Rattle.std.proofs.Common.{◌≡◌, Ok, sym, ◌∙◌, ℕ, List, ◌+◌, ◌<◌, ◌≤◌, length, get_or, arith}
use Rattle.bits.specs.Bits.{Below}
use Rattle.entries.specs.declared.Part.{Part}
use Rattle.carried.specs.Carried.{disk_part}
use Rattle.carried.proofs.CarriedParts.{disk_bounds}
use Rattle.carried.proofs.DiskByDisk.{all_start, all_on, all_stopped, all_whole}
use Rattle.carried.proofs.carried_part.Goals as goal

-- what was read of this disk
bounds : (t disk slots table : List ℕ) (next d : ℕ) {part : Part} → Below 65 slots → d < length slots
    → (disk_part t disk next d (get_or slots d 0) table).part ≡ Ok part → (part.count ≤ 64) × (part.next ≤ next + 583)
bounds t disk slots table next d below l e = let small = below d l in disk_bounds t disk next d (get_or slots d 0) table (omega (arith, small)) e

pub loop-d-init : goal.loop-d-init
loop-d-init c = all_start c.args.t.now c.args.disk.now c.args.at c.args.slots.now c.args.held.now c.args.carried.now

pub returns-in_err-part : goal.returns-in_err-part
returns-in_err-part c =
    let ends = all_stopped c.loop-d.invariant c.loop-d-test.true c.disk_part.ensures.carried_after (sym c.disk_part.ensures.value ∙ c.in_err-part.was) in
    (grind (arith, ends.0), ends.1, ends.2)

pub overflow_cast-held : goal.overflow_cast-held
overflow_cast-held c =
    let few =
    (bounds c.args.t.now c.args.disk.now c.args.slots.now c.loop-d.carried c.loop-d.next c.loop-d.d c.requires.2 c.loop-d-test.true
    (sym c.disk_part.ensures.value ∙ c.in_ok-part.was)).0
    in
    omega (arith, few)

pub loop-d-preserved : goal.loop-d-preserved
loop-d-preserved c =
    let e = sym c.disk_part.ensures.value ∙ c.in_ok-part.was in
    all_on c.loop-d.invariant c.loop-d-test.true c.disk_part.ensures.carried_after e
    (bounds c.args.t.now c.args.disk.now c.args.slots.now c.loop-d.carried c.loop-d.next c.loop-d.d c.requires.2 c.loop-d-test.true e).1

pub returns : goal.returns
returns c = all_whole c.loop-d.invariant c.loop-d-test.false
