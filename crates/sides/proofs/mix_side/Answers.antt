-- `sides::mix_side` meets its contract: the left, with and without room, and where the side is not complete. Assumes nothing.
use Rattle.std.proofs.Common.{arith, sym, ◌∙◌, ◌-◌}
use Rattle.sides.proofs.Laws.{part-mixed, side_begun, side_full, side_fits}
use Rattle.sides.proofs.mix_side.Goals as goal
use Rattle.sides.proofs.mix_side.Goals.{then-begin-from-le2048, else-begin-from-le2048}

pub returns-then-not-complete-clause-mixes : goal.returns-then-not-complete-clause-mixes
returns-then-not-complete-clause-mixes c = rw c.if-not-complete.true (sym (side_begun _ _ _ _))

pub returns-clause-mixes : goal.returns-clause-mixes
returns-clause-mixes c =
    rw c.if-not-complete.false (elim c.if-begin-from-le2048.branch [
      | then-begin-from-le2048 w ↦ w.left-is
          ∙ part-mixed c.args.from.line c.args.sides.side c.args.sides.mixed (2048 - c.args.from.left) c.args.line.now c.args.left.now _ (omega arith) (omega arith)
          (omega arith) w.mix.ensures
          ∙ sym (side_fits _ _ _ _ w.if-begin-from-le2048.true)
      | else-begin-from-le2048 w ↦ w.left-is ∙ sym (side_full _ _ _ _ w.if-begin-from-le2048.false)
    ])
