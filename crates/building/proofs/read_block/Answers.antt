-- `building::read_block` meets its contract: the first digit is within the text, and the number is at most 511. Assumes nothing.
use Rattle.std.proofs.Common.{◌≤◌, arith, sym}
use Rattle.pieces.proofs.Laws.{digit_is_within, digit-few, digits-within}
use Rattle.building.proofs.Laws.{block-number, block_none, laid-number, laid-full, laid_none}
use Rattle.building.proofs.read_block.Goals as goal

pub returns-in_default-clause-piece : goal.returns-in_default-clause-piece
returns-in_default-clause-piece c = rw c.malformed.ensures (sym (block_none _ _ (sym c.in_default.ensures)))

pub returns-in_default-clause-laid : goal.returns-in_default-clause-laid
returns-in_default-clause-laid c = sym (laid_none _ _ _ (sym c.in_default.ensures))

pub overflow_add-at : goal.overflow_add-at
overflow_add-at c = omega (arith, digit_is_within c.args.text.now c.args.from.at (sym c.in-Some.ensures))

pub number_from-n-requires-clause-at_in_bounds : goal.number_from-n-requires-clause-at_in_bounds
number_from-n-requires-clause-at_in_bounds c = omega (arith, digit_is_within c.args.text.now c.args.from.at (sym c.in-Some.ensures))

pub number_from-n-requires-clause-first_le_most : goal.number_from-n-requires-clause-first_le_most
number_from-n-requires-clause-first_le_most c = omega (arith, digit-few _ (sym c.in-Some.ensures))

pub overflow_cast-line : goal.overflow_cast-line
overflow_cast-line c =
    let few : c.number_from-n.result.value ≤ 511 = rw c.number_from-n.ensures (digits-within 511 _ _ _ (omega (arith, digit-few _ (sym c.in-Some.ensures)))) in
    omega arith

pub returns-then-place-from-le2048-clause-piece : goal.returns-then-place-from-le2048-clause-piece
returns-then-place-from-le2048-clause-piece c = rw c.number_from-n.ensures (sym (block-number _ _ _ (sym c.in-Some.ensures)))

pub returns-then-place-from-le2048-clause-laid : goal.returns-then-place-from-le2048-clause-laid
returns-then-place-from-le2048-clause-laid c = rw c.number_from-n.ensures (sym (laid-number _ _ _ _ (sym c.in-Some.ensures) c.if-place-from-le2048.true))

pub returns-else-place-from-le2048-clause-piece : goal.returns-else-place-from-le2048-clause-piece
returns-else-place-from-le2048-clause-piece c = rw c.number_from-n.ensures (sym (block-number _ _ _ (sym c.in-Some.ensures)))

pub returns-else-place-from-le2048-clause-laid : goal.returns-else-place-from-le2048-clause-laid
returns-else-place-from-le2048-clause-laid c = sym (laid-full _ _ _ _ (sym c.in-Some.ensures) c.if-place-from-le2048.false)
