-- How a window of three bytes shows a field: what `read` computes. Assumes nothing.
use mathlib.Core.Path.{◌≡◌, ap, ◌∙◌}
use mathlib.Core.List.{List}
use Prim.Native.Nat.{ℕ, ◌+◌, ◌-◌, ◌*◌, ◌/◌, ◌%◌, ◌^◌, ◌<◌, ◌≤◌}
use native.Mathlib.Nat.{add-zero, one-mul, mod-eq_of_lt, div-add-mod'}
use native.Mathlib.Omega.{arith}
use lib.ListN.{drop, get_or}
use lib.Seq.{drop-drop, get_or-drop}
use Rattle.bits.specs.Bits.{bits, leading}
use Rattle.bits.proofs.Bits.{Bits, bits_are, drop_bits, digit_of}
use Rattle.bits.proofs.Leading.{leading_add, leading_above, leading_below, drop-bytes, leading_byte}

-- the w bits after `skip`, out of a number that r more bits close
window_field : (skip w r : ℕ) (l : List ℕ) → Bits l → leading (skip + (w + r)) 0 l / 2 ^ r % 2 ^ w ≡ leading w 0 (drop skip l)
window_field skip w r l h =
    let m = drop skip l in
    let high = leading skip 0 l in
    let all : leading (skip + (w + r)) 0 l ≡ leading r (leading w high m) (drop w m) = leading_add skip (w + r) 0 l ∙ leading_add w r high m in
    let hm = drop_bits skip l h in
    rw (all, digit_of r (leading w high m) (drop w m) (drop_bits w m hm), leading_above w high m) (lib.Pow.low high w (leading_below w m hm))

-- the byte k places after byte i
byte_after : (i k : ℕ) (s : List ℕ) → get_or (drop k (drop i s)) 0 0 ≡ get_or s (i + k) 0
byte_after i k s = rw (drop-drop k i s) (get_or-drop (i + k) s 0 0 ∙ ap (λ (n : ℕ). get_or s n 0) (add-zero (i + k)))

-- three bytes are 24 bits
pub window_bytes : (i : ℕ) (s : List ℕ) → get_or s i 0 < 256 → get_or s (i + 1) 0 < 256 → get_or s (i + 2) 0 < 256
    → get_or s i 0 * 65536 + get_or s (i + 1) 0 * 256 + get_or s (i + 2) 0 ≡ leading 24 0 (drop (i * 8) (bits s))
unfolding leading
window_bytes i s p q r =
    let t = drop i s in
    let shown = leading_byte 16 0 t ∙ leading_byte 8 _ (drop 1 t) ∙ leading_byte 0 _ (drop 1 (drop 1 t)) in
    let b0 = byte_after i 0 s ∙ ap (λ (n : ℕ). get_or s n 0) (add-zero i) in
    let b1 = byte_after i 1 s in
    let b2 = ap (λ (l : List ℕ). get_or l 0 0) (drop-drop 1 1 t) ∙ byte_after i 2 s in
    rw drop-bytes (omega (arith, shown, b0, b1, b2))

-- the field in the window that starts at the byte of its first bit
pub window_shows : (w at : ℕ) (s : List ℕ) → w ≤ 12
    → leading 24 0 (drop (at / 8 * 8) (bits s)) / 2 ^ (24 - at % 8 - w) % 2 ^ w ≡ leading w 0 (drop at (bits s))
window_shows w at s h =
    let skip = at % 8 in
    let l = drop (at / 8 * 8) (bits s) in
    let r = 24 - skip - w in
    let e : 24 ≡ skip + (w + r) = omega arith in
    ap (λ (k : ℕ). leading k 0 l / 2 ^ r % 2 ^ w) e
    ∙ window_field skip w r l (drop_bits (at / 8 * 8) (bits s) (bits_are s))
    ∙ ap (leading w 0) (drop-drop skip (at / 8 * 8) (bits s) ∙ ap (λ (k : ℕ). drop k (bits s)) (div-add-mod' at 8))

-- a one shifted left, in 64 bits
pub one_shifted : (w : ℕ) → w < 64 → 1 * 2 ^ w % 2 ^ 64 ≡ 2 ^ w
one_shifted w h = rw (one-mul (2 ^ w)) (mod-eq_of_lt (lib.Pow.pow-lt h))
