-- `bits::lay16` meets its contract: two stores, of which one past the end changes nothing. Assumes nothing.
use Rattle.std.proofs.Common.{sym, ◌*◌, ◌/◌, ◌%◌, arith}
use Rattle.bits.proofs.Fields.{laid_two, laid_one, laid_none}
use Rattle.bits.proofs.lay16.Goals as goal

pub returns-then-at-buf : goal.returns-then-at-buf
returns-then-at-buf c = sym (laid_two (c.args.index * 2) (c.args.value / 256 % 256) (c.args.value % 256) c.args.buf.now)

pub returns-then-at-buf-2 : goal.returns-then-at-buf-2
returns-then-at-buf-2 c = sym (laid_one (c.args.index * 2) (c.args.value / 256 % 256) (c.args.value % 256) c.args.buf.now (omega arith))

pub returns-else-at-buf-2 : goal.returns-else-at-buf-2
returns-else-at-buf-2 c = sym (laid_none (c.args.index * 2) (c.args.value / 256 % 256) (c.args.value % 256) c.args.buf.now (omega arith))
