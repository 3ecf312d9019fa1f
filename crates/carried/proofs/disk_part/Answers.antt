-- `carried::disk_part` meets its contract: a count within the slots has room in the places of its disk. Assumes nothing.
use Rattle.std.proofs.Common.{◌≡◌, ℕ, ◌*◌, ◌<◌, Ok, rules, of_calls, refl, arith}
use Rattle.carried.specs.Carried.{carried_row, block_at, blocks_on}
use contract.BorrowLft.{⊑_meet, ⊑_static}
use Rattle.entries.proofs.Entries.{entry-within}
use Rattle.entries.proofs.Filling.{part_entries, part-refused}
use Rattle.carried.proofs.Blocks.{row_entry, block_within}
use Rattle.carried.proofs.disk_part.Goals as goal

pub returns-in_err-count-clause-value : goal.returns-in_err-count-clause-value
returns-in_err-count-clause-value c =
    let ends =
    part-refused c.args.t.now c.args.at (carried_row c.args.slots) (blocks_on c.args.t.now c.args.disk.now c.args.d) (c.args.d * 64)
    c.args.carried.now
    (row_entry c.args.t.now c.args.at c.carried_row.ensures c.checked.ensures c.in_err-count.was)
    in
    grind (arith, ends.0)

pub returns-in_err-count-clause-carried_after : goal.returns-in_err-count-clause-carried_after
returns-in_err-count-clause-carried_after c =
    (part-refused c.args.t.now c.args.at (carried_row c.args.slots) (blocks_on c.args.t.now c.args.disk.now c.args.d) (c.args.d * 64)
    c.args.carried.now
    (row_entry c.args.t.now c.args.at c.carried_row.ensures c.checked.ensures c.in_err-count.was)).1

pub fill-requires : goal.fill-requires
fill-requires c κs within =
    let n = entry-within _ _ _ (row_entry c.args.t.now c.args.at c.carried_row.ensures c.checked.ensures c.in_ok-count.was) in
    let small : (b least v : ℕ) → block_at c.args.t.now c.args.disk.now c.args.d b least ≡ Ok v → v < 65536 =
    λ b least v e. let w = block_within _ _ _ _ _ e in omega (arith, w)
    in
    (search ⊑_static, (search (⊑_meet, ⊑_static, within.0, within.1.0, within.1.1.0) depth 8, (refl, search (of_calls, rules, n.1, small))))

pub returns-clause-value : goal.returns-clause-value
returns-clause-value c =
    (part_entries c.args.t.now c.args.at (carried_row c.args.slots) (blocks_on c.args.t.now c.args.disk.now c.args.d) (c.args.d * 64)
    c.args.carried.now
    (row_entry c.args.t.now c.args.at c.carried_row.ensures c.checked.ensures c.in_ok-count.was)
    (c.fill.ensures.value, c.fill.ensures.table_after)).0

pub returns-clause-carried_after : goal.returns-clause-carried_after
returns-clause-carried_after c =
    (part_entries c.args.t.now c.args.at (carried_row c.args.slots) (blocks_on c.args.t.now c.args.disk.now c.args.d) (c.args.d * 64)
    c.args.carried.now
    (row_entry c.args.t.now c.args.at c.carried_row.ensures c.checked.ensures c.in_ok-count.was)
    (c.fill.ensures.value, c.fill.ensures.table_after)).1
