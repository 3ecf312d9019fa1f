-- The end of a string of bytes, seen from a position: by the number of bytes, and by the low bits of the last byte. Assumes nothing.
use mathlib.Core.Path.{◌≡◌, sym, ap, ◌∙◌}
use mathlib.Core.Bool.{Bool, true, false, ◌&&◌}
use mathlib.Core.List.{List, [], ◌∷◌, append-nil}
use Prim.Native.Nat.{ℕ, zero, suc, ◌+◌, ◌-◌, ◌*◌, ◌/◌, ◌%◌, ◌^◌, ◌≤◌, ◌<◌}
use native.Mathlib.Nat.{zero-mod, zero-add, sub-zero, suc-sub-suc, mod-one, not-suc-le-zero, zero-mul, one-mul, suc-mul, div-add-mod'}
use native.Mathlib.Omega.{arith}
use lib.Arith.{mod-mul}
use lib.Dec.{eqb, ltb, lit<}
use lib.ListN.{length, drop, get_or, length-drop, drop_of_length-le, get_or-eq_default}
use lib.Pow.{pow_pos, shl_exact}
use lib.Seq.{drop-cons, drop-drop}
use borrow.Author.Tests.{lt-ltb, le-ltb, ne_eqb, ltb-true, ltb-false}
use Rattle.bits.proofs.Logic.{by_test}
use Rattle.bits.specs.Bits.{digits, bits}
use Rattle.bits.specs.Reading.{all_zero, is_closed}
use Rattle.bits.proofs.Bits.{two, length-bits}
use Rattle.bits.proofs.Leading.{drop-bytes}

-- the digits of a number after its first r
drop-digits : (r w v : ℕ) → r ≤ w → drop r (digits w v) ≡ digits (w - r) v
unfolding digits
drop-digits zero w v h = rw (sub-zero w)
drop-digits (suc r) zero v h = absurd (not-suc-le-zero h)
drop-digits (suc r) (suc w) v h = rw (suc-sub-suc w r) (drop-digits r w v (omega arith))

-- a bit above w digits: their number is 0 where the bit and the digits are
zero_number : (b w x : ℕ) → eqb b 0 && eqb x 0 ≡ eqb (b * 2 ^ w + x) 0
zero_number zero w x = rw (zero-mul (2 ^ w), zero-add x)
zero_number (suc b) w x =
    let p = pow_pos w in
    let m = suc-mul b (2 ^ w) in
    rw (ne_eqb (suc b) 0 (omega arith), ne_eqb (suc b * 2 ^ w + x) 0 (omega (arith, p, m)))

zero-digits : (w v : ℕ) → all_zero (digits w v) ≡ eqb (v % 2 ^ w) 0
unfolding digits all_zero
zero-digits zero v = rw (mod-one v)
zero-digits (suc w) v =
    let split : v % 2 ^ suc w ≡ v / 2 ^ w % 2 * 2 ^ w + v % 2 ^ w = ap (λ (y : ℕ). v % y) (two w) ∙ mod-mul v (lit< tt) (pow_pos w) in
    ap (λ (t : Bool). eqb (v / 2 ^ w % 2) 0 && t) (zero-digits w v) ∙ zero_number (v / 2 ^ w % 2) w (v % 2 ^ w) ∙ ap (λ (y : ℕ). eqb y 0) (sym split)

-- the bits of the last byte from the bit `at` on
last_bits : (at : ℕ) (s : List ℕ) → at / 8 + 1 ≡ length s → drop at (bits s) ≡ digits (8 - at % 8) (get_or s (at / 8) 0)
unfolding bits
last_bits at s e =
    let i = at / 8 in
    let one : drop i s ≡ get_or s i 0 ∷ [] =
    drop-cons s i 0 (omega arith) ∙ ap (λ (l : List ℕ). get_or s i 0 ∷ l) (drop_of_length-le s {i = suc i} (omega arith)) in
    ap (λ (k : ℕ). drop k (bits s)) (sym (div-add-mod' at 8))
    ∙ sym (drop-drop (at % 8) (i * 8) (bits s))
    ∙ ap (drop (at % 8)) (drop-bytes i s ∙ ap bits one ∙ append-nil (digits 8 (get_or s i 0)))
    ∙ drop-digits (at % 8) 8 (get_or s i 0) (omega arith)

-- a one shifted left by at most eight places
pub one_shifted : (r : ℕ) → r ≤ 8 → 1 * 2 ^ r % 2 ^ 64 ≡ 2 ^ r
one_shifted r h = shl_exact {a = 1} 1 r 64 (lit< tt) (omega arith) ∙ one-mul (2 ^ r)

module _ (at : ℕ) (s : List ℕ) where
  -- a byte follows
  pub closed-not : (at + 7) / 8 < length s → is_closed (drop at (bits s)) ≡ false
  unfolding is_closed
  closed-not h =
      let l = length-drop at (bits s) in
      let n = length-bits s in
      rw (le-ltb (length (drop at (bits s))) 8 (omega (arith, l, n)))

  -- the last byte is begun
  closed_last : length s ≤ (at + 7) / 8 → at / 8 < length s → is_closed (drop at (bits s)) ≡ eqb (get_or s (at / 8) 0 % 2 ^ (8 - at % 8)) 0
  unfolding is_closed
  closed_last p h =
      let l = length-drop at (bits s) in
      let n = length-bits s in
      rw (lt-ltb (length (drop at (bits s))) 8 (omega (arith, l, n)))
      (ap all_zero (last_bits at s (omega arith)) ∙ zero-digits (8 - at % 8) (get_or s (at / 8) 0))

  -- all bytes are read
  closed_none : length s ≤ at / 8 → is_closed (drop at (bits s)) ≡ true
  unfolding is_closed all_zero
  closed_none h =
      let n = length-bits s in
      rw (drop_of_length-le (bits s) {i = at} (omega (arith, n)))

  -- no byte follows: past the end there is a 0
  pub closed_by_low_bits : length s ≤ (at + 7) / 8 → is_closed (drop at (bits s)) ≡ eqb (get_or s (at / 8) 0 % 2 ^ (8 - at % 8)) 0
  closed_by_low_bits h =
      by_test (ltb (at / 8) (length s)) (λ t. closed_last h (ltb-true (at / 8) (length s) t)) λ f.
      let out = ltb-false (at / 8) (length s) f in
      let p = pow_pos (8 - at % 8) in
      rw (get_or-eq_default s 0 out, zero-mod (2 ^ (8 - at % 8))) (closed_none out)
