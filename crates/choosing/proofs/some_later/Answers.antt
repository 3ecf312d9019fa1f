-- `some_later`: what `any` finds in the disk's part of the residents. Assumes nothing.
use Rattle.std.proofs.Common.{rules, arith, tests, ◌≡◌, ◌∙◌, ap, ◌+◌, ◌-◌, ℕ, take, drop, get_or, ltb}
use Rattle.std.specs.List.{list_any}
use Rattle.std.proofs.lemmas.Iterator.{YieldsList-from_slice}
use Rattle.std.proofs.lemmas.Iterator.Adapters.{serves_from_places}
use Rattle.std.proofs.lemmas.Iterator.Search.{any_from_yields_List}
use Rattle.choosing.proofs.Scanning.{beyond_list, part_below}
use Rattle.choosing.proofs.some_later.Goals as goal

pub any-requires-clause-callable : goal.any-requires-clause-callable
any-requires-clause-callable c =
    let a = c.args in
    let all = take (a.base + a.count - a.base) (drop a.base a.desk.now.held) in
    serves_from_places (YieldsList-from_slice all cc) (λ x q k. search rules)
    (λ x k l e. let small = part_below 512 a.desk.now.held a.base _ k x.now c.requires.1 (omega arith) l e in search rules)

pub returns : goal.returns
returns c =
    let a = c.args in
    let all = take (a.base + a.count - a.base) (drop a.base a.desk.now.held) in
    any_from_yields_List (λ b. ltb a.bound (get_or a.desk.now.later b 0)) _ _ c.any.result c.any.ensures.ran (YieldsList-from_slice all cc) (λ x b q k. search (rules, tests))
    ∙ ap (λ (n : ℕ). list_any (λ b. ltb a.bound (get_or a.desk.now.later b 0)) (take n (drop a.base a.desk.now.held))) (let e : a.base + a.count - a.base ≡ a.count = omega arith in e)
    ∙ beyond_list a.desk.now.held a.desk.now.later a.bound a.base a.count (omega arith)
