-- `tally` meets its contract. Assumes nothing.
use Rattle.std.proofs.Common.{◌<◌, ◌+◌, ℕ, length, get_or, set, sym, ap, ◌∙◌, arith}
use Rattle.writing.proofs.Tallied.{fetched_most, tallied_none, tallied_before, tallied_more}
use Rattle.writing.proofs.tally.Goals as goal

pub loop-d-init : goal.loop-d-init
loop-d-init c = sym (tallied_none c.args.fetches.now)

pub overflow_add-fetches : goal.overflow_add-fetches
overflow_add-fetches c =
    let f = c.args.fetches.now in
    let l : c.loop-d.d < length f = omega arith in
    omega (arith, tallied_before f c.args.acts.now c.loop-d.d c.loop-d.invariant l, c.requires.1 c.loop-d.d l, c.fetched.ensures, fetched_most)

pub loop-d-preserved : goal.loop-d-preserved
loop-d-preserved c =
    let l = c.loop-d in
    ap (λ (n : ℕ). set l.fetches l.d (get_or l.fetches l.d 0 + n)) c.fetched.ensures
    ∙ tallied_more c.args.fetches.now c.args.acts.now l.d l.invariant c.loop-d-test.true _
