-- `texts::put_decimal` meets its contract. Assumes nothing.
use Rattle.std.proofs.Common.{◌/◌, sym, arith}
use Rattle.model.proofs.Text.{decimal_one, decimal_more, digits_five}
use Rattle.texts.proofs.Laws.{put_then, put_same}
use Rattle.texts.proofs.+put_decimal.Goals as goal

pub returns-then-n-lt10 : goal.returns-then-n-lt10
returns-then-n-lt10 t c = put_same (sym (decimal_one _ c.if-n-lt10.true)) c.put.ensures

pub put-requires-2 : goal.put-requires-2
put-requires-2 t c =
    let e = c.put_decimal-next.ensures.next in
    let few = digits_five (c.args.n / 10) (omega (arith, c.requires.n_bound)) in
    omega (arith, e, few, c.requires.at_bound)

pub returns : goal.returns
returns t c = put_same (sym (decimal_more _ c.if-n-lt10.false)) (put_then c.put_decimal-next.ensures c.put-2.ensures)
