-- `bits::put` meets its contract: the four stores are those of the field. Assumes nothing.
use Rattle.std.proofs.Common.{sym, arith}
use Rattle.bits.proofs.Stores.{put_stored, word_shifted}
use Rattle.bits.proofs.put.Goals as goal

pub overflow_cast-buf-2 : goal.overflow_cast-buf-2
overflow_cast-buf-2 c =
    let r = c.requires in
    let fits = (put_stored c.args.at c.args.width c.args.value c.args.buf.now r.clear_from r.at_in_bounds r.width_bound r.value_bound).fits in
    rw (word_shifted c.args.at c.args.width c.args.value r.width_bound r.value_bound) (omega (arith, fits))

pub returns : goal.returns
returns c =
    let r = c.requires in
    rw (word_shifted c.args.at c.args.width c.args.value r.width_bound r.value_bound)
    (sym (put_stored c.args.at c.args.width c.args.value c.args.buf.now r.clear_from r.at_in_bounds r.width_bound r.value_bound).stores)
