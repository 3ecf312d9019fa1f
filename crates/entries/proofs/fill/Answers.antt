-- `entries::fill` meets its contract: each entry that is read takes the loop a place further, or ends it. Assumes nothing.
use Rattle.std.proofs.Common.{◌≡◌, sym, ◌∙◌, rules, of_calls, arith}
use Rattle.entries.proofs.Filling.{going_start, going_on, going_stopped, going_whole}
use Rattle.entries.proofs.fill.Goals as goal

pub loop-i-init : goal.loop-i-init
loop-i-init g c = (going_start g.e c.args.count c.args.at c.args.from c.args.table.now, omega arith)

pub returns-in_err-v-clause-value : goal.returns-in_err-v-clause-value
returns-in_err-v-clause-value g c =
    let q : c.entry.result ≡ g.e.entry c.loop-i.next c.loop-i.least = search (of_calls, rules) in
    let ends = going_stopped c.loop-i.invariant.0 c.loop-i-test.true (sym q ∙ c.in_err-v.was) in
    grind (arith, ends.0)

pub returns-in_err-v-clause-table_after : goal.returns-in_err-v-clause-table_after
returns-in_err-v-clause-table_after g c =
    let q : c.entry.result ≡ g.e.entry c.loop-i.next c.loop-i.least = search (of_calls, rules) in
    (going_stopped c.loop-i.invariant.0 c.loop-i-test.true (sym q ∙ c.in_err-v.was)).1

pub loop-i-preserved : goal.loop-i-preserved
loop-i-preserved g c =
    let q : c.entry.result ≡ g.e.entry c.loop-i.next c.loop-i.least = search (of_calls, rules) in
    (going_on c.loop-i.invariant.0 (search rules) (omega arith) c.loop-i-test.true (sym q ∙ c.in_ok-v.was), search rules)

pub returns-clause-value : goal.returns-clause-value
returns-clause-value g c = (going_whole c.loop-i.invariant.0 c.loop-i-test.false).0

pub returns-clause-table_after : goal.returns-clause-table_after
returns-clause-table_after g c = (going_whole c.loop-i.invariant.0 c.loop-i-test.false).1
