-- `pieces::number_from` meets its contract: a number stops at the first character with which it does not go on, or at the end. Assumes nothing.
use Rattle.std.proofs.Common.{◌≡◌, length, get_or, add-one, arith, sym, ◌∙◌}
use Rattle.pieces.proofs.Laws.{char_at, drop_past, goes, goes_so, goes_not, digits_more, digits-stop, digits_end}
use Rattle.pieces.proofs.number_from.Goals as goal

pub returns-in-None : goal.returns-in-None
returns-in-None c =
    let off = goes_not c.args.most c.loop-next.value (get_or c.args.text.now c.loop-next.next 0) (sym c.in-None.ensures) in
    sym (c.loop-next.invariant.1 ∙ rw (char_at _ _ c.loop-next-test.true) (digits-stop _ _ _ _ _ off))

pub loop-next-preserved : goal.loop-next-preserved
loop-next-preserved c =
    let on = goes_so c.args.most c.loop-next.value (get_or c.args.text.now c.loop-next.next 0) (sym c.in-Some.ensures) in
    let few = (goes c.args.most c.loop-next.value (get_or c.args.text.now c.loop-next.next 0) on.0).within in
    (omega (arith, on.1, few), c.loop-next.invariant.1 ∙ rw (char_at _ _ c.loop-next-test.true, add-one, on.1) (digits_more _ _ _ _ _ on.0))

pub returns : goal.returns
returns c =
    let last : length c.args.text.now ≡ c.loop-next.next = omega arith in
    sym (c.loop-next.invariant.1 ∙ rw (drop_past _ _ c.loop-next-test.false, last) (digits_end _ _ _))
