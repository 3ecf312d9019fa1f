-- `pieces::count_after` meets its contract: the characters that were seen are within the text, and each branch is a case of `count_at`. Assumes nothing.
use Rattle.std.proofs.Common.{◌+◌, Ok, arith, sym, ap, ◌∙◌}
use Rattle.pieces.specs.Pieces.{count_of}
use Rattle.pieces.proofs.Laws.{begins_within, digit_is_within, digit-few, count_none, count-number, count_zero, count_off}
use Rattle.pieces.proofs.count_after.Goals as goal
use Rattle.pieces.proofs.count_after.Goals.{in_default-via-in-Some+else-first-gt0, in_default-via-in_default}

pub returns-then-not-is_at : goal.returns-then-not-is_at
returns-then-not-is_at c = sym (count_none _ _ (sym c.if-not-is_at.ensures))

pub overflow_add-at : goal.overflow_add-at
overflow_add-at c = omega (arith, begins_within _ c.args.text.now c.args.at c.is_at.ensures c.if-not-is_at.false)

pub overflow_add-at-in-Some : goal.overflow_add-at-in-Some
overflow_add-at-in-Some c = omega (arith, digit_is_within c.args.text.now (c.args.at + 1) (sym c.in-Some.ensures))

pub number_from-n-requires-clause-at_in_bounds : goal.number_from-n-requires-clause-at_in_bounds
number_from-n-requires-clause-at_in_bounds c = omega (arith, digit_is_within c.args.text.now (c.args.at + 1) (sym c.in-Some.ensures))

pub number_from-n-requires-clause-first_le_most : goal.number_from-n-requires-clause-first_le_most
number_from-n-requires-clause-first_le_most c = omega (arith, digit-few _ (sym c.in-Some.ensures))

pub returns-in-Some : goal.returns-in-Some
returns-in-Some c =
    ap (λ n. Ok (count_of n)) c.number_from-n.ensures
    ∙ sym (count-number _ _ (sym c.if-not-is_at.ensures) _ (sym c.in-Some.ensures) (omega (arith, c.if-first-gt0.true)))

pub overflow_add-at-in_default : goal.overflow_add-at-in_default
overflow_add-at-in_default c = omega (arith, begins_within _ c.args.text.now c.args.at c.is_at.ensures c.if-not-is_at.false)

pub returns-in_default : goal.returns-in_default
returns-in_default c =
    rw c.malformed.ensures (elim c.in_default.branch [
      | in_default-via-in-Some+else-first-gt0 w ↦
          sym (count_zero _ _ (sym c.if-not-is_at.ensures) _ (sym w.in-Some.ensures) (omega (arith, w.if-first-gt0.false)))
      | in_default-via-in_default w ↦ sym (count_off _ _ (sym c.if-not-is_at.ensures) (sym w.in_default.ensures))
    ])
