-- Decimal digits, and texts in columns. Assumes nothing.
use mathlib.Core.Path.{◌≡◌, sym, ap, ◌∙◌}
use mathlib.Core.List.{List, [], ◌∷◌, ◌++◌}
use Prim.Native.Nat.{ℕ, zero, suc, ◌+◌, ◌-◌, ◌/◌, ◌%◌, ◌^◌, ◌≤◌, ◌<◌}
use native.Mathlib.Nat.{pow-suc}
use native.Mathlib.Omega.{arith}
use lib.Dec.{ltb}
use lib.ListN.{length, replicate, length-append, length-replicate}
use borrow.Author.Tests.{lt-ltb, le-ltb, ltb-true, ltb-false}
use Rattle.bits.proofs.Logic.{by_test}
use Rattle.model.specs.Text.{decimal_in, decimal, right_in}

last_digit : (f n : ℕ) → n < 10 → decimal_in (suc f) n ≡ (48 + n) ∷ []
unfolding decimal_in
last_digit f n h = rw (lt-ltb n 10 h, decimal_in)

more_digits : (f n : ℕ) → 10 ≤ n → decimal_in (suc f) n ≡ decimal_in f (n / 10) ++ (48 + n % 10) ∷ []
unfolding decimal_in
more_digits f n h = rw (le-ltb n 10 h, decimal_in)

-- more digits than a number can have change nothing
enough : (f g n : ℕ) → n < f → n < g → decimal_in f n ≡ decimal_in g n
enough zero g n p q = absurd (omega arith)
enough (suc f) zero n p q = absurd (omega arith)
enough (suc f) (suc g) n p q =
    by_test (ltb n 10)
    (λ t. let h = ltb-true n 10 t in last_digit f n h ∙ sym (last_digit g n h))
    (λ t. let h = ltb-false n 10 t in
    more_digits f n h ∙ ap (λ (l : List ℕ). l ++ (48 + n % 10) ∷ []) (enough f g (n / 10) (omega arith) (omega arith)) ∙ sym (more_digits g n h))

pub decimal_one : (n : ℕ) → n < 10 → decimal n ≡ (48 + n) ∷ []
unfolding decimal
decimal_one n h = last_digit n n h

pub decimal_more : (n : ℕ) → 10 ≤ n → decimal n ≡ decimal (n / 10) ++ (48 + n % 10) ∷ []
unfolding decimal
decimal_more n h = more_digits n n h ∙ ap (λ (l : List ℕ). l ++ (48 + n % 10) ∷ []) (enough n (suc (n / 10)) (n / 10) (omega arith) (omega arith))

-- a number below 10 to the k has at most k digits
few-digits : (f k n : ℕ) → n < 10 ^ suc k → length (decimal_in f n) ≤ suc k
unfolding decimal_in
few-digits zero k n h = omega arith
few-digits (suc f) zero n h = rw (last_digit f n h) (omega arith)
few-digits (suc f) (suc k) n h =
    by_test (ltb n 10)
    (λ t. rw (last_digit f n (ltb-true n 10 t)) (omega arith))
    (λ t. let e = length-append (decimal_in f (n / 10)) ((48 + n % 10) ∷ []) in
    let r = few-digits f k (n / 10) (omega (arith, pow-suc 10 (suc k))) in
    rw (more_digits f n (ltb-false n 10 t)) (omega (arith, e, r)))

pub decimal-few : (k n : ℕ) → n < 10 ^ suc k → length (decimal n) ≤ suc k
unfolding decimal
decimal-few k n h = few-digits (suc n) k n h

pub digit_one : (n : ℕ) → n < 10 → length (decimal n) ≤ 1
digit_one n h = decimal-few 0 n h

pub digits_five : (n : ℕ) → n < 65536 → length (decimal n) ≤ 5
digits_five n h = decimal-few 4 n (omega arith)

-- a text that is right aligned in w columns fills them
pub right_length : (w : ℕ) (s : List ℕ) → length s ≤ w → length (right_in w s) ≡ w
unfolding right_in
right_length w s h =
    let e = length-append (replicate (w - length s) 32) s in
    let r = length-replicate {A = ℕ} (w - length s) 32 in
    omega (arith, e, r)
