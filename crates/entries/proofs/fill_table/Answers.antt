-- `entries::fill_table` meets its contract: each entry that is read takes the loop a place further, or ends it. Assumes nothing.
use Rattle.std.proofs.Common.{sym, ◌∙◌, refl, arith}
use Rattle.entries.specs.Parts.{of_row}
use Rattle.entries.proofs.Entries.{entry-within}
use Rattle.entries.proofs.Filling.{going_start, going_on, going_stopped, going_whole}
use Rattle.entries.proofs.fill_table.Goals as goal

pub loop-i-init : goal.loop-i-init
loop-i-init g c = (0, going_start (of_row c.args.t.now c.args.row) c.args.count c.args.at 0 c.args.table.now)

pub returns-in_err-v-clause-value : goal.returns-in_err-v-clause-value
returns-in_err-v-clause-value g c =
    let ends = going_stopped c.loop-i.invariant.1 (omega (arith, c.loop-i-test.true)) (sym c.checked.ensures ∙ c.in_err-v.was) in
    grind (arith, ends.0)

pub returns-in_err-v-clause-table_after : goal.returns-in_err-v-clause-table_after
returns-in_err-v-clause-table_after g c =
    (going_stopped c.loop-i.invariant.1 (omega (arith, c.loop-i-test.true)) (sym c.checked.ensures ∙ c.in_err-v.was)).1

pub overflow_cast-table : goal.overflow_cast-table
overflow_cast-table g c =
    let small = (entry-within c.args.t.now c.loop-i.next c.args.row (sym c.checked.ensures ∙ c.in_ok-v.was)).1 in
    omega (arith, small)

pub loop-i-preserved : goal.loop-i-preserved
loop-i-preserved g c =
    (_, going_on c.loop-i.invariant.1 refl c.requires.width_bound (omega (arith, c.loop-i-test.true)) (sym c.checked.ensures ∙ c.in_ok-v.was))

pub returns-clause-value : goal.returns-clause-value
returns-clause-value g c = (going_whole c.loop-i.invariant.1 (omega (arith, c.loop-i-test.false))).0

pub returns-clause-table_after : goal.returns-clause-table_after
returns-clause-table_after g c = (going_whole c.loop-i.invariant.1 (omega (arith, c.loop-i-test.false))).1
