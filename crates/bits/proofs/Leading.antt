-- The leading bits of a list as a number, and the bits of bytes from a byte on. Assumes nothing.
use mathlib.Core.Path.{◌≡◌, refl, sym, ap, ◌∙◌}
use mathlib.Core.List.{List, [], ◌∷◌, ◌++◌, append-nil}
use Prim.Native.Nat.{ℕ, zero, suc, ◌+◌, ◌-◌, ◌*◌, ◌%◌, ◌^◌, ◌<◌, ◌≤◌}
use native.Mathlib.Nat.{zero-add, suc-add, zero-mul, add-mul, mul_assoc, sub-zero, suc-sub-suc, not-suc-le-zero}
use native.Mathlib.Omega.{arith}
use lib.ListN.{length, take, drop, get_or, length-append}
use lib.Seq.{drop-nil, drop-drop, drop-append-add}
use Rattle.bits.specs.Bits.{digits, bits, leading, bytes}
use Rattle.bits.specs.Reading.{got, stop, field_after}
use Rattle.bits.proofs.Bits.{Bits, length_digits, two, shift_in, leading_high, field_after-digits}
use Rattle.bits.proofs.Reading.{got_value}

-- Bits.

-- no bits: zeros
pub leading_nil : (w high : ℕ) → leading w high [] ≡ high * 2 ^ w
unfolding leading
leading_nil zero high = omega arith
leading_nil (suc w) high = leading_nil w (high * 2) ∙ mul_assoc high 2 (2 ^ w) ∙ ap (λ (x : ℕ). high * x) (sym (two w))

-- a bits, and then b more
pub leading_add : (a b high : ℕ) (l : List ℕ) → leading (a + b) high l ≡ leading b (leading a high l) (drop a l)
unfolding leading
leading_add zero b high l = ap (λ (k : ℕ). leading k high l) (zero-add b)
leading_add (suc a) b high [] = rw suc-add (leading_add a b (high * 2) [] ∙ ap (leading b (leading a (high * 2) [])) (drop-nil a))
leading_add (suc a) b high (x ∷ l) = rw suc-add (leading_add a b (high * 2 + x) l)

-- what stands above them
pub leading_above : (w high : ℕ) (l : List ℕ) → leading w high l ≡ high * 2 ^ w + leading w 0 l
unfolding leading
leading_above zero high l = omega arith
leading_above (suc w) high [] =
    let e = leading_nil (suc w) high in
    let z = leading_nil (suc w) 0 in
    let u = zero-mul (2 ^ suc w) in
    omega (arith, e, z, u)
leading_above (suc w) high (b ∷ l) =
    let x = leading w 0 l in
    let e = leading_above w (high * 2 + b) l in
    let z = leading_above w (0 * 2 + b) l in
    let s = shift_in high b w x in
    let t = shift_in 0 b w x in
    let u = zero-mul (2 ^ suc w) in
    omega (arith, e, z, s, t, u)

-- a number of w binary digits
pub leading_below : (w : ℕ) (l : List ℕ) → Bits l → leading w 0 l < 2 ^ w
leading_below w l h =
    let r = leading_high w 0 l h in
    let z = zero-mul (2 ^ w) in
    let e = r.2 in
    let p = r.1 in
    omega (arith, z, e, p)

-- the bits after the first w
pub leading_front : (w high : ℕ) (l m : List ℕ) → w ≤ length l → leading w high (l ++ m) ≡ leading w high l
unfolding leading
leading_front zero high l m h = refl
leading_front (suc w) high [] m h = absurd (not-suc-le-zero h)
leading_front (suc w) high (b ∷ l) m h = leading_front w (high * 2 + b) l m (omega arith)

-- one bit more
pub leading_snoc : (w high b : ℕ) (l : List ℕ) → length l ≤ w → leading (suc w) high (l ++ b ∷ []) ≡ leading (suc w) high l + b * 2 ^ (w - length l)
unfolding leading
leading_snoc w high b [] h =
    let e = leading_nil w (high * 2 + b) in
    let z = leading_nil w (high * 2) in
    let s = add-mul (high * 2) b (2 ^ w) in
    rw (sub-zero w) (omega (arith, e, z, s))
leading_snoc zero high b (x ∷ l) h = absurd (not-suc-le-zero h)
leading_snoc (suc w) high b (x ∷ l) h = rw (suc-sub-suc w (length l)) (leading_snoc w (high * 2 + x) b l (omega arith))

-- what a reader makes of them
pub field_after_reads : (n w high : ℕ) (l : List ℕ) → w ≤ length l → field_after n w high l ≡ got (leading w high l) (drop w l)
unfolding field_after leading
field_after_reads n zero high l h = refl
field_after_reads n (suc w) high [] h = absurd (not-suc-le-zero h)
field_after_reads n (suc w) high (b ∷ l) h = field_after_reads n w (high * 2 + b) l (omega arith)

pub field_after-stops : (n w high : ℕ) (l : List ℕ) → length l < w → field_after n w high l ≡ stop n
unfolding field_after
field_after-stops n zero high l h = absurd (not-suc-le-zero h)
field_after-stops n (suc w) high [] h = refl
field_after-stops n (suc w) high (b ∷ l) h = field_after-stops n w (high * 2 + b) l (omega arith)

-- a field written reads back, also where it ends the list
pub leading-field : (w high v : ℕ) (l : List ℕ) → leading w high (digits w v ++ l) ≡ high * 2 ^ w + v % 2 ^ w
leading-field w high v l =
    let len = length-append (digits w v) l in
    let d = length_digits w v in
    got_value (sym (field_after_reads 0 w high (digits w v ++ l) (omega arith)) ∙ field_after-digits 0 w high v l)

pub leading-digits : (w high v : ℕ) → leading w high (digits w v) ≡ high * 2 ^ w + v % 2 ^ w
leading-digits w high v = ap (leading w high) (sym (append-nil (digits w v))) ∙ leading-field w high v []

-- Bytes.

-- a list of bytes from byte i on
pub drop-bytes : (i : ℕ) (s : List ℕ) → drop (i * 8) (bits s) ≡ bits (drop i s)
unfolding bits
drop-bytes zero s = refl
drop-bytes (suc i) [] = drop-nil (suc i * 8)
drop-bytes (suc i) (b ∷ s) =
    let e : suc i * 8 ≡ 8 + i * 8 = omega arith in
    ap (λ (k : ℕ). drop k (bits (b ∷ s))) e ∙ drop-append-add (digits 8 b) (bits s) (i * 8) ∙ drop-bytes i s

-- the first byte, and then n more bits
pub leading_byte : (n high : ℕ) (s : List ℕ) → leading (8 + n) high (bits s) ≡ leading n (high * 256 + get_or s 0 0 % 256) (bits (drop 1 s))
unfolding bits leading
leading_byte n high [] =
    let e : leading 8 high [] ≡ high * 256 + 0 = omega arith in
    leading_add 8 n high [] ∙ ap (λ (x : ℕ). leading n x []) e
leading_byte n high (b ∷ s) =
    leading_add 8 n high (bits (b ∷ s)) ∙ ap (λ (x : ℕ). leading n x (bits s)) (leading-field 8 high b (bits s))

-- the byte i of packed bits
pub get_d_bytes : (i n : ℕ) (l : List ℕ) → i < n → get_or (bytes n l) i 0 ≡ leading 8 0 (drop (i * 8) l)
unfolding bytes
get_d_bytes zero zero l h = absurd (not-suc-le-zero h)
get_d_bytes (suc i) zero l h = absurd (not-suc-le-zero h)
get_d_bytes zero (suc n) l h = refl
get_d_bytes (suc i) (suc n) l h =
    let e : 8 + i * 8 ≡ suc i * 8 = omega arith in
    get_d_bytes i n (drop 8 l) (omega arith) ∙ ap (leading 8 0) (drop-drop (i * 8) 8 l ∙ ap (λ (k : ℕ). drop k l) e)

pub take-bytes : (k n : ℕ) (l : List ℕ) → k ≤ n → take k (bytes n l) ≡ bytes k l
unfolding bytes
take-bytes zero n l h = refl
take-bytes (suc k) zero l h = absurd (not-suc-le-zero h)
take-bytes (suc k) (suc n) l h = ap (λ (s : List ℕ). leading 8 0 l ∷ s) (take-bytes k n (drop 8 l) (omega arith))
