-- `carried::block_at` meets its contract: the field within its row, and then the disk of its block. Assumes nothing.
use Rattle.std.proofs.Common.{arith}
use Rattle.entries.proofs.Entries.{entry-within}
use Rattle.carried.proofs.Blocks.{row_entry, block_own, block_other, block_refused}
use Rattle.carried.proofs.block_at.Goals as goal

pub returns-in_err-b : goal.returns-in_err-b
returns-in_err-b c =
    let a = c.args in
    let e = block_refused a.t.now a.disk.now a.d a.at a.least (row_entry a.t.now a.at c.block_row.ensures c.checked.ensures c.in_err-b.was) in
    grind (arith, e)

pub bounds-disk-b : goal.bounds-disk-b
bounds-disk-b c = (entry-within _ _ _ (row_entry c.args.t.now c.args.at c.block_row.ensures c.checked.ensures c.in_ok-b.was)).1

pub offset_bounds-disk-b : goal.offset_bounds-disk-b
offset_bounds-disk-b c =
    let small = (entry-within _ _ _ (row_entry c.args.t.now c.args.at c.block_row.ensures c.checked.ensures c.in_ok-b.was)).1 in
    omega (arith, small)

pub returns-then-disk-b : goal.returns-then-disk-b
returns-then-disk-b c =
    let a = c.args in
    block_other a.t.now a.disk.now a.d a.at a.least (row_entry a.t.now a.at c.block_row.ensures c.checked.ensures c.in_ok-b.was) c.if-disk-b.true

pub returns : goal.returns
returns c =
    let a = c.args in
    block_own a.t.now a.disk.now a.d a.at a.least (row_entry a.t.now a.at c.block_row.ensures c.checked.ensures c.in_ok-b.was) c.if-disk-b.false
