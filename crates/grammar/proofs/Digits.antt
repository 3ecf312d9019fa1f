-- Decimal numbers, digit by digit. Assumes nothing.
use mathlib.Core.Path.{◌≡◌}
use mathlib.Core.List.{[], ◌∷◌, ◌++◌}
use Prim.Native.Nat.{ℕ, zero, suc, ◌+◌, ◌*◌, ◌/◌, ◌%◌, ◌≤◌, ◌<◌}
use native.Mathlib.Omega.{arith}
use lib.Dec.{ltb}
use borrow.Author.Tests.{ltb-true, ltb-false}
use Rattle.bits.proofs.Logic.{by_test}
use Rattle.model.specs.Text.{decimal}
use Rattle.model.proofs.Text.{decimal_more}

-- one digit more
pub decimal-longer : (v d : ℕ) → 1 ≤ v → d < 10 → decimal (v * 10 + d) ≡ decimal v ++ (48 + d) ∷ []
decimal-longer v d p q =
    let high : (v * 10 + d) / 10 ≡ v = omega arith in
    let low : (v * 10 + d) % 10 ≡ d = omega arith in
    rw (decimal_more (v * 10 + d) (omega arith), high, low)

-- A fact of numbers holds if it holds for each digit, and for a number with a digit more wherever it holds without.
pub by_digits : (P : ℕ → Type 0) → ((d : ℕ) → d < 10 → P d) → ((v d : ℕ) → 1 ≤ v → d < 10 → P v → P (v * 10 + d)) → (n : ℕ) → P n
by_digits P one more n = go (suc n) n (omega arith)
  where
    go : (f m : ℕ) → m < f → P m
    go zero m h = absurd (omega arith)
    go (suc f) m h =
        by_test (ltb m 10)
        (λ t. one m (ltb-true m 10 t))
        (λ t. let ten = ltb-false m 10 t in
        let e : m / 10 * 10 + m % 10 ≡ m = omega arith in
        rw e at (more (m / 10) (m % 10) (omega arith) (omega arith) (go f (m / 10) (omega arith))))
