-- A sheet whose first 12 bits are zero has room for the round count, and holds it then. Assumes nothing.
use mathlib.Core.Path.{◌≡◌, sym, ap, ◌∙◌}
use mathlib.Core.List.{List, ◌∷◌, ◌++◌, append_assoc}
use Prim.Native.Nat.{ℕ, zero, suc, ◌+◌, ◌*◌, ◌/◌, ◌%◌, ◌^◌, ◌≤◌, ◌<◌}
use native.Mathlib.Omega.{arith}
use lib.ListN.{get_or, replicate, drop}
use lib.Seq.{drop_at}
use Rattle.bits.specs.Bits.{digits, leading, bytes}
use Rattle.bits.proofs.Bits.{Bits, length_digits}
use Rattle.bits.proofs.Leading.{leading_add, leading_above, leading_below, leading-field}
use Rattle.writing.specs.Heading.{headed}
use Rattle.writing.proofs.Packing.{digits_join}

-- a byte, and a half byte with what stands below it
whole_byte : (x : ℕ) (m : List ℕ) → x < 256 → leading 8 0 (digits 8 x ++ m) ≡ x
whole_byte x m h = let e = leading-field 8 0 x m in omega (arith, e)

half_byte : (y : ℕ) (m : List ℕ) → y < 16 → leading 8 0 (digits 4 y ++ m) ≡ leading 4 0 m + y * 16
half_byte y m h =
    let more = leading_add 4 4 0 (digits 4 y ++ m) ∙ ap (leading 4 (leading 4 0 (digits 4 y ++ m))) (drop_at (digits 4 y) m 4 (length_digits 4 y)) in
    let above = leading_above 4 (leading 4 0 (digits 4 y ++ m)) m in
    let field = leading-field 4 0 y m in
    omega (arith, more, above, field)

-- a field of 12 bits takes the first byte and the upper half of the second
field-bytes : (k r : ℕ) (m : List ℕ) → r < 4096
    → bytes (suc (suc k)) (digits 12 r ++ m) ≡ (r / 16) ∷ (leading 4 0 m + r % 16 * 16) ∷ bytes k (drop 4 m)
unfolding bytes digits
field-bytes k r m p =
    let x = r / 16 in
    let y = r % 16 in
    let e : r ≡ x * 2 ^ 4 + y = omega arith in
    let split : digits 12 r ++ m ≡ digits 8 x ++ (digits 4 y ++ m) =
    ap (λ (v : ℕ). digits 12 v ++ m) e ∙ ap (λ (l : List ℕ). l ++ m) (digits_join 8 4 x y (omega arith)) ∙ append_assoc (digits 8 x) (digits 4 y) m in
    let first = whole_byte x (digits 4 y ++ m) (omega arith) in
    let second = half_byte y m (omega arith) in
    ap (bytes (suc (suc k))) split ∙ (λ i. first i ∷ second i ∷ bytes k (drop 4 m))

-- The round count put into 12 zero bits is its field,
pub headed-bytes : (n r : ℕ) (m : List ℕ) → r < 4096 → Bits m → 2 ≤ n → headed (bytes n (replicate 12 0 ++ m)) r ≡ bytes n (digits 12 r ++ m)
unfolding headed bytes
headed-bytes zero r m p h l = absurd (omega arith)
headed-bytes (suc zero) r m p h l = absurd (omega arith)
headed-bytes (suc (suc k)) r m p h l = sym (field-bytes k r m p)

-- and where they are zero, it fits.
pub header_room : (n : ℕ) (m s : List ℕ) → Bits m → 2 ≤ n → s ≡ bytes n (replicate 12 0 ++ m) → (get_or s 0 0 ≡ 0) × (get_or s 1 0 < 16)
unfolding bytes
header_room zero m s h l e = absurd (omega arith)
header_room (suc zero) m s h l e = absurd (omega arith)
header_room (suc (suc k)) m s h l e =
    let below = leading_below 4 m h in
    let second = ap (λ (t : List ℕ). get_or t 1 0) e in
    (ap (λ (t : List ℕ). get_or t 0 0) e, omega (arith, below, second))
