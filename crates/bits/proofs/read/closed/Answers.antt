-- `bits::read::closed` meets its contract: the law of each case. Assumes nothing.
use Rattle.std.proofs.Common.{sym, ◌-◌, ◌%◌, arith}
use borrow.Author.Tests.{lt-leb}
use Rattle.bits.proofs.Closing.{one_shifted, closed-not, closed_by_low_bits}
use Rattle.bits.proofs.read.closed.Goals as goal

pub returns-then-s-at : goal.returns-then-s-at
returns-then-s-at c =
    rw (c.byte_at.ensures.value, one_shifted (8 - c.args.at % 8) (omega arith)) (sym (closed_by_low_bits c.args.at c.args.s.now c.if-s-at.true))

pub returns-else-s-at : goal.returns-else-s-at
returns-else-s-at c = rw (lt-leb _ _ c.if-s-at.false) (sym (closed-not c.args.at c.args.s.now c.if-s-at.false))
