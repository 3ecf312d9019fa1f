-- How four stores put a field into a buffer: what `put` computes. Assumes nothing.
use mathlib.Core.Path.{◌≡◌, sym, ap, ap₂, ◌∙◌, subst₂}
use mathlib.Core.List.{List, [], ◌∷◌, ◌++◌}
use Prim.Native.Nat.{ℕ, zero, suc, ◌+◌, ◌-◌, ◌*◌, ◌/◌, ◌%◌, ◌^◌, ◌<◌, ◌≤◌}
use native.Mathlib.Nat.{add-mul, mul_assoc, mod-eq_of_lt, le_of_eq}
use native.Mathlib.Numerals.{add-one, add-two, add-three}
use native.Mathlib.Omega.{arith}
use lib.ListN.{length, take, drop, get_or, set, length-append, length-drop, drop_of_length-le}
use lib.Seq.{length-take-le, drop-length, drop-drop, drop-append-le, drop-append_seam, sets}
use Rattle.bits.specs.Bits.{digits, bits, leading, bytes}
use Rattle.bits.specs.Fields.{put_bits, ClearFrom}
use Rattle.bits.proofs.Bits.{Bits, bits_are, digits-bits, append_bits, take-bits, drop_bits, length_digits, length-bits}
use Rattle.bits.proofs.Leading.{leading_nil, leading_add, leading_above, leading_below, leading_front, leading-digits, get_d_bytes}
use Rattle.bits.proofs.Fields.{put_bytes}

drop_four : (l : List ℕ) → length l ≤ 32 → drop 8 (drop 8 (drop 8 (drop 8 l))) ≡ []
drop_four l h = simp drop-drop (drop_of_length-le l h)

-- bits that end within four bytes from byte i on change only those
bytes_stores : (i n : ℕ) (l m : List ℕ) → i * 8 ≤ length l → length l < i * 8 + 8 → length m ≤ 20 → i + 4 ≤ n
    → bytes n (l ++ m) ≡ sets (bytes n l) i (bytes 4 (drop (i * 8) (l ++ m)))
unfolding bytes
bytes_stores zero zero l m p q r h = absurd (omega arith)
bytes_stores zero (suc zero) l m p q r h = absurd (omega arith)
bytes_stores zero (suc (suc zero)) l m p q r h = absurd (omega arith)
bytes_stores zero (suc (suc (suc zero))) l m p q r h = absurd (omega arith)
bytes_stores zero (suc (suc (suc (suc n)))) l m p q r h =
    let len = length-append l m in
    let old = drop_four l (omega arith) in
    let new = drop_four (l ++ m) (omega arith) in
    rw (old, new)
bytes_stores (suc i) zero l m p q r h = absurd (omega arith)
bytes_stores (suc i) (suc n) l m p q r h =
    let len = length-drop 8 l in
    let room : 8 ≤ length l = omega arith in
    let e : 8 + i * 8 ≡ suc i * 8 = omega arith in
    let ih = bytes_stores i n (drop 8 l) m (omega arith) (omega arith) r (omega arith) in
    let tail = drop-append-le 8 l m room in
    let same : drop (i * 8) (drop 8 l ++ m) ≡ drop (suc i * 8) (l ++ m) =
    ap (drop (i * 8)) (sym tail) ∙ drop-drop (i * 8) 8 (l ++ m) ∙ ap (λ (k : ℕ). drop k (l ++ m)) e in
    ap₂ (λ (x : ℕ) (s : List ℕ). x ∷ s) (leading_front 8 0 l m room) (ap (bytes n) tail ∙ ih)
    ∙ ap (λ (x : List ℕ). sets (bytes (suc n) l) (suc i) (bytes 4 x)) same

-- four bytes are the base-256 digits of 32 bits
quad : ℕ → List ℕ
quad x = (x / 16777216) ∷ (x / 65536 % 256) ∷ (x / 256 % 256) ∷ (x % 256) ∷ []

bytes_quad : (l : List ℕ) → Bits l → bytes 4 l ≡ quad (leading 32 0 l)
unfolding bytes quad
bytes_quad l h =
    let l1 = drop 8 l in
    let l2 = drop 8 l1 in
    let l3 = drop 8 l2 in
    let h1 = drop_bits 8 l h in
    let h2 = drop_bits 8 l1 h1 in
    let x0 = leading 8 0 l in
    let x1 = leading 8 x0 l1 in
    let x2 = leading 8 x1 l2 in
    let all = leading_add 8 24 0 l ∙ leading_add 8 16 x0 l1 ∙ leading_add 8 8 x1 l2 in
    let a1 = leading_above 8 x0 l1 in
    let a2 = leading_above 8 x1 l2 in
    let a3 = leading_above 8 x2 l3 in
    let p1 = leading_below 8 l1 h1 in
    let p2 = leading_below 8 l2 h2 in
    let p3 = leading_below 8 l3 (drop_bits 8 l2 h2) in
    let e0 : x0 ≡ leading 32 0 l / 16777216 = omega (arith, all, a1, a2, a3, p1, p2, p3) in
    let e1 : leading 8 0 l1 ≡ leading 32 0 l / 65536 % 256 = omega (arith, all, a1, a2, a3, p1, p2, p3) in
    let e2 : leading 8 0 l2 ≡ leading 32 0 l / 256 % 256 = omega (arith, all, a1, a2, a3, p1, p2, p3) in
    let e3 : leading 8 0 l3 ≡ leading 32 0 l % 256 = omega (arith, all, a1, a2, a3, p1, p2, p3) in
    λ i. e0 i ∷ e1 i ∷ e2 i ∷ e3 i ∷ []

-- the bytes of a number over a first byte
quad_over : (c x y : ℕ) → y ≡ c * 16777216 + x → quad y ≡ (c + x / 16777216) ∷ (x / 65536 % 256) ∷ (x / 256 % 256) ∷ (x % 256) ∷ []
unfolding quad
quad_over c x y e =
    let e0 : y / 16777216 ≡ c + x / 16777216 = omega arith in
    let e1 : y / 65536 % 256 ≡ x / 65536 % 256 = omega arith in
    let e2 : y / 256 % 256 ≡ x / 256 % 256 = omega arith in
    let e3 : y % 256 ≡ x % 256 = omega arith in
    λ i. e0 i ∷ e1 i ∷ e2 i ∷ e3 i ∷ []

-- 32 bits, of which w after the first few are the field
leading_put : (w v : ℕ) (l : List ℕ) → length l < 8 → w ≤ 20 → v < 2 ^ w
    → leading 32 0 (l ++ digits w v) ≡ leading 8 0 l * 16777216 + v * 2 ^ (32 - length l - w)
leading_put w v l p q h =
    let off = length l in
    let k = 32 - off - w in
    let d = digits w v in
    let high = leading off 0 l in
    let e : 32 ≡ off + (w + k) = omega arith in
    let f : 8 ≡ off + (8 - off) = omega arith in
    let g : 8 - off + 24 ≡ w + k = omega arith in
    let first = leading_front off 0 l d (omega arith) in
    let field = leading-digits w high v ∙ ap (λ (x : ℕ). high * 2 ^ w + x) (mod-eq_of_lt h) in
    let past = drop_of_length-le d {i = w} (le_of_eq (length_digits w v)) in
    let whole : leading 32 0 (l ++ d) ≡ (high * 2 ^ w + v) * 2 ^ k =
    ap (λ (j : ℕ). leading j 0 (l ++ d)) e
    ∙ leading_add off (w + k) 0 (l ++ d)
    ∙ ap₂ (λ (x : ℕ) (m : List ℕ). leading (w + k) x m) first (drop-append_seam l d)
    ∙ leading_add w k high d
    ∙ ap₂ (λ (x : ℕ) (m : List ℕ). leading k x m) field past
    ∙ leading_nil k (high * 2 ^ w + v) in
    let top : leading 8 0 l ≡ high * 2 ^ (8 - off) =
    ap (λ (j : ℕ). leading j 0 l) f
    ∙ leading_add off (8 - off) 0 l
    ∙ ap (leading (8 - off) high) (drop-length l)
    ∙ leading_nil (8 - off) high in
    let left = mul_assoc high (2 ^ w) (2 ^ k) ∙ ap (λ (x : ℕ). high * x) (sym (lib.Pow.pow-add 2 w k)) in
    let right = mul_assoc high (2 ^ (8 - off)) (2 ^ 24)
    ∙ ap (λ (x : ℕ). high * x) (sym (lib.Pow.pow-add 2 (8 - off) 24) ∙ ap (λ (j : ℕ). 2 ^ j) g) in
    let split = add-mul (high * 2 ^ w) v (2 ^ k) in
    omega (arith, whole, top, left, right, split)

-- the word of a field, from the byte of its first bit on, and what is stored of it
abbrev pub word_of : ℕ → ℕ → ℕ → ℕ
word_of at w v = v * 2 ^ (32 - at % 8 - w)

pub record Stored (s : List ℕ) (at w v : ℕ) : Type 0 where
  pub fits : get_or s (at / 8) 0 + word_of at w v / 16777216 < 256
  pub stores : put_bits s at (digits w v)
      ≡ set (set (set (set s (at / 8) (get_or s (at / 8) 0 + word_of at w v / 16777216)) (at / 8 + 1) (word_of at w v / 65536 % 256))
      (at / 8 + 2) (word_of at w v / 256 % 256)) (at / 8 + 3) (word_of at w v % 256)

bytes-stored : (n w v : ℕ) (l : List ℕ) → Bits l → length l / 8 + 4 ≤ n → w ≤ 20 → v < 2 ^ w → Stored (bytes n l) (length l) w v
bytes-stored n w v l b p q h =
    let at = length l in
    let i = at / 8 in
    let m = digits w v in
    let lenm = length_digits w v in
    let front = drop (i * 8) l in
    let len = length-drop (i * 8) l in
    let e : length front ≡ at % 8 = omega arith in
    let rest = drop-append-le (i * 8) l m (omega arith) in
    let are = append_bits front m (drop_bits (i * 8) l b) (digits-bits w v) in
    let byte = get_d_bytes i n l (omega arith) in
    let whole = leading_put w v front (omega arith) q h ∙ ap₂ (λ (x k : ℕ). x * 16777216 + v * 2 ^ (32 - k - w)) (sym byte) e in
    let below = leading_below 32 (front ++ m) are in
    let over = quad_over (get_or (bytes n l) i 0) (word_of at w v) (leading 32 0 (front ++ m)) whole in
    let four = ap (bytes 4) rest ∙ bytes_quad (front ++ m) are ∙ over in
    record {
      fits = omega (arith, whole, below);
      stores =
          rw (add-one, add-two, add-three)
          (put_bytes n l m b (digits-bits w v) (omega arith)
          ∙ bytes_stores i n l m (omega arith) (omega arith) (omega arith) p
          ∙ ap (sets (bytes n l) i) four);
    }

-- Where a buffer is clear, the four stores put the field's bits.
pub put_stored : (at w v : ℕ) (s : List ℕ) → ClearFrom at s → at / 8 + 4 ≤ length s → w ≤ 20 → v < 2 ^ w → Stored s at w v
unfolding ClearFrom
put_stored at w v s c p q h =
    let l = take at (bits s) in
    let all = length-bits s in
    let e = length-take-le at (bits s) (omega arith) in
    subst₂ (λ (t : List ℕ) (k : ℕ). Stored t k w v) (sym c) e
    (bytes-stored (length s) w v l (take-bits at (bits s) (bits_are s)) (omega arith) q h)

-- the word, shifted in 64 bits
pub word_shifted : (at w v : ℕ) → w ≤ 20 → v < 2 ^ w → word_of at w v % 2 ^ 64 ≡ word_of at w v
word_shifted at w v q h = lib.Pow.shl_exact w (32 - at % 8 - w) 64 h (omega arith)
