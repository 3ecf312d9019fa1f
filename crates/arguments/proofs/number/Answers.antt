-- `arguments::number` meets its contract: digit after digit, to the end of the text or to what is no digit. Assumes nothing.
use Rattle.std.proofs.Common.{◌≡◌, ℕ, ◌+◌, length, get_or, Some, sym, subst, arith}
use borrow.Author.Tests.{eqb-true, eqb-false}
use Rattle.pieces.specs.Pieces.{digit_of}
use Rattle.arguments.specs.Arguments.{with_digit}
use Rattle.arguments.proofs.Digits.{ReadTo, read-start, read_on, read_other, read_end, read_empty}
use Rattle.arguments.proofs.number.Goals as goal

pub returns-then-is_empty : goal.returns-then-is_empty
returns-then-is_empty c = read_empty c.args.text.now (eqb-true (length c.args.text.now) 0 (sym c.if-is_empty.ensures))

pub loop-c-init : goal.loop-c-init
loop-c-init c = read-start c.args.text.now (eqb-false (length c.args.text.now) 0 (sym c.if-is_empty.ensures))

pub returns-in_err-digit : goal.returns-in_err-digit
returns-in_err-digit c =
    let other = read_other c.args.text.now c.loop-c.c-index c.loop-c.value c.loop-c.invariant c.loop-c-test.true in
    grind (arith, other)

pub loop-c-preserved : goal.loop-c-preserved
loop-c-preserved c =
    let on : (d : ℕ) → digit_of (get_or c.args.text.now c.loop-c.c-index 0) ≡ Some d → ReadTo c.args.text.now (c.loop-c.c-index + 1) (with_digit c.loop-c.value d) =
    λ d. read_on c.args.text.now c.loop-c.c-index c.loop-c.value c.loop-c.invariant c.loop-c-test.true {d = d} in
    let e : digit_of (get_or c.args.text.now c.loop-c.c-index 0) ≡ Some _ = grind arith in
    subst (ReadTo c.args.text.now (c.loop-c.c-index + 1)) (sym c.with_digit-value.ensures) (on _ e)

pub returns : goal.returns
returns c = read_end c.args.text.now c.loop-c.c-index c.loop-c.value c.loop-c.invariant c.loop-c-test.false
