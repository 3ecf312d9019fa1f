-- `entries::table_part` meets its contract: a count within its row has room in the table. Assumes nothing.
use Rattle.std.proofs.Common.{sym, ◌∙◌, arith}
use Rattle.entries.specs.Parts.{of_row}
use Rattle.entries.proofs.Entries.{entry-within}
use Rattle.entries.proofs.Filling.{part_entries, part-refused}
use Rattle.entries.proofs.table_part.Goals as goal

pub returns-in_err-count-clause-value : goal.returns-in_err-count-clause-value
returns-in_err-count-clause-value g c =
    let ends =
    part-refused c.args.t.now c.args.at c.args.counts (of_row c.args.t.now c.args.entries) 0 c.args.table.now
    (sym c.checked.ensures ∙ c.in_err-count.was)
    in
    grind (arith, ends.0)

pub returns-in_err-count-clause-table_after : goal.returns-in_err-count-clause-table_after
returns-in_err-count-clause-table_after g c =
    (part-refused c.args.t.now c.args.at c.args.counts (of_row c.args.t.now c.args.entries) 0 c.args.table.now
    (sym c.checked.ensures ∙ c.in_err-count.was)).1

pub fill_table-requires-clause-count_bound : goal.fill_table-requires-clause-count_bound
fill_table-requires-clause-count_bound g c =
    let n = entry-within c.args.t.now c.args.at c.args.counts (sym c.checked.ensures ∙ c.in_ok-count.was) in
    omega (arith, n.1)

pub fill_table-requires-clause-count_in_bounds : goal.fill_table-requires-clause-count_in_bounds
fill_table-requires-clause-count_in_bounds g c =
    let n = entry-within c.args.t.now c.args.at c.args.counts (sym c.checked.ensures ∙ c.in_ok-count.was) in
    omega (arith, n.1)

pub returns-clause-value : goal.returns-clause-value
returns-clause-value g c =
    (part_entries c.args.t.now c.args.at c.args.counts (of_row c.args.t.now c.args.entries) 0 c.args.table.now
    (sym c.checked.ensures ∙ c.in_ok-count.was) (c.fill_table.ensures.value, c.fill_table.ensures.table_after)).0

pub returns-clause-table_after : goal.returns-clause-table_after
returns-clause-table_after g c =
    (part_entries c.args.t.now c.args.at c.args.counts (of_row c.args.t.now c.args.entries) 0 c.args.table.now
    (sym c.checked.ensures ∙ c.in_ok-count.was) (c.fill_table.ensures.value, c.fill_table.ensures.table_after)).1
