-- `mixing::mix` meets its contract: what `Invariants.antt` says holds at first, each turn keeps it, and when the right side is used up all is mixed.
-- Assumes nothing.
use Rattle.std.proofs.Common.{arith, sym, subst, ◌+◌, ◌-◌, length}
use Rattle.mixing.proofs.Laws.{Mixed, mixed-none, mixed_both, mixed_right, mixed_all}
use Rattle.mixing.proofs.mix.Goals as goal
use Rattle.mixing.proofs.mix.Goals.{then-i-m, else-i-m}

pub loop-i-init : goal.loop-i-init
loop-i-init c = mixed-none c.args.right.now c.args.left.now _ (omega arith)

pub loop-i-preserved : goal.loop-i-preserved
loop-i-preserved c =
    let right = c.args.right.now in
    let before = c.args.left.now in
    let m = length before - length right in
    let next = Mixed right before m (c.loop-i.i + 1) in
    elim c.if-i-m.branch [
      | then-i-m w ↦ subst next (sym w.left-is) (mixed_both right before m c.loop-i.i c.loop-i.left c.loop-i.invariant c.loop-i-test.true w.if-i-m.true)
      | else-i-m w ↦ subst next (sym w.left-is) (mixed_right right before m c.loop-i.i c.loop-i.left c.loop-i.invariant c.loop-i-test.true w.if-i-m.false)
    ]

pub returns : goal.returns
returns c = mixed_all c.args.right.now c.args.left.now _ c.loop-i.i c.loop-i.left c.loop-i.invariant (omega arith)
