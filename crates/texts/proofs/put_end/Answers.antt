-- `texts::put_end` meets its contract: three texts, one after the other. Assumes nothing.
use Rattle.std.proofs.Common.{arith}
use Rattle.model.proofs.Text.{digits_five}
use Rattle.texts.specs.Texts.{line_end}
use Rattle.texts.proofs.Laws.{put_then}
use Rattle.texts.proofs.put_end.Goals as goal

pub put-requires : goal.put-requires
put-requires c =
    let few = digits_five _ c.requires.n_bound in
    let number = c.put-number.ensures.next in
    let next = c.put_decimal-next.ensures.next in
    omega (arith, few, number, next)

pub returns : goal.returns
unfolding line_end
returns c = put_then c.put-number.ensures (put_then c.put_decimal-next.ensures c.put.ensures)
