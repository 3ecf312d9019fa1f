-- `pieces::digit_at` meets its contract: past the end there is no digit, and before it a character is. Assumes nothing.
use Rattle.std.proofs.Common.{◌≡◌, ℕ, List, Bor, Some, drop, arith, refl, ap, ◌∙◌}
use Rattle.std.specs.Slice.{IsItemAt}
use Rattle.pieces.specs.Pieces.{digit_of, first_digit}
use Rattle.pieces.proofs.Laws.{char_at, drop_past}
use Rattle.pieces.proofs.digit_at.Goals as goal

stands : (t : List ℕ) (at : ℕ) (x : Bor ℕ) → IsItemAt t at (Some x) → digit_of x.now ≡ first_digit (drop at t)
unfolding first_digit
stands t at x h = rw (char_at t at h.3.0, h.3.1 0) refl

pub returns-in_err-get : goal.returns-in_err-get
unfolding first_digit
returns-in_err-get c = rw (drop_past c.args.text.now c.args.at (omega (arith, c.in_err-get.ensures.lookup.3))) c.from_residual.ensures

pub returns : goal.returns
returns c =
    c.digit.ensures ∙ stands c.args.text.now _ c.in_ok-get.field-0 c.in_ok-get.ensures.lookup
    ∙ ap (λ (k : ℕ). first_digit (drop k c.args.text.now)) (omega arith)
