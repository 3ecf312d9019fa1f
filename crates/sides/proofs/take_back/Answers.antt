-- `sides::take_back` meets its contract: the line, with and without room. Assumes nothing.
use Rattle.std.proofs.Common.{arith, sym, ◌∙◌, ◌-◌}
use Rattle.sides.proofs.Laws.{part_copied, back_fits, back_full}
use Rattle.sides.proofs.take_back.Goals as goal

pub returns-then-begin-from-le2048 : goal.returns-then-begin-from-le2048
returns-then-begin-from-le2048 c =
    part_copied c.args.from.line c.args.mixed (2048 - c.args.from.left) c.args.line.now _ _ (omega arith) c.copy_from_slice.ensures.after
    ∙ sym (back_fits _ _ _ _ c.if-begin-from-le2048.true)

pub returns-else-begin-from-le2048 : goal.returns-else-begin-from-le2048
returns-else-begin-from-le2048 c = sym (back_full _ _ _ _ c.if-begin-from-le2048.false)
