-- The laws of fields and of what is written: a field read at a position is what a reader reads there, bits put one after the other are
-- packed bytes, and strings written one after the other are one string. Assumes nothing.
use mathlib.Core.Path.{◌≡◌, refl, sym, ap, ap₂, ◌∙◌}
use mathlib.Core.Bool.{Bool, true, false, cond}
use Rattle.std.specs.Prelude.{Option, Some, None}
use mathlib.Core.List.{List, [], ◌∷◌, ◌++◌, append-nil}
use Prim.Native.Nat.{ℕ, zero, suc, ◌+◌, ◌-◌, ◌*◌, ◌/◌, ◌%◌, ◌^◌, ◌<◌, ◌≤◌}
use native.Mathlib.Numerals.{add-one}
use native.Mathlib.Omega.{arith}
use lib.Dec.{leb, ltb}
use lib.ListN.{length, take, drop, get_or, set, replicate, length-append, length-drop, length-set, drop_of_length-le, get_or-eq_default}
use lib.Seq.{length-take-le, append_snoc, take-append_seam, drop-drop, drop-append-le, set_out}
use borrow.Author.Tests.{ltb-true, ltb-false, leb-true, leb-false}
use Rattle.bits.specs.Bits.{bits, leading, bytes, bytes_for, pack, over, laid, Below}
use Rattle.bits.specs.Reading.{Read, stop, Reader, bind, ◌>>=◌, field}
use Rattle.bits.specs.Fields.{field_at, read_of, put_bit, put_bits, ClearFrom, laid_at}
use Rattle.bits.proofs.Logic.{by_test}
use Rattle.bits.proofs.Bits.{Bits, bits_are, drop_bits, length-bits, length-bytes, bits-bytes}
use Rattle.bits.proofs.Leading.{leading_below, leading_front, leading_snoc, field_after_reads, field_after-stops, take-bytes}

-- Reading a field.

-- Where the reader stands at the bit `at`, it reads the field at `at`, and stands after it.
pub field_reads : (n w at : ℕ) (s : List ℕ) → 0 < w → field n w (drop at (bits s)) ≡ read_of n (drop (at + w) (bits s)) (field_at s at w)
unfolding field field_at read_of
field_reads n w at s p =
    let l = drop at (bits s) in
    let len = length-drop at (bits s) in
    let all = length-bits s in
    by_test (leb (at + w) (length s * 8))
    (λ t. let h = leb-true (at + w) (length s * 8) t in
    rw (t, ← drop-drop w at (bits s)) (field_after_reads n w 0 l (omega arith)))
    (λ t. let h = leb-false (at + w) (length s * 8) t in rw t (field_after-stops n w 0 l (omega arith)))

-- A reader that reads a field and goes on gives what the field at `at` leads to.
pub field_then : {A : Type 0} (n w at : ℕ) (s : List ℕ) (f : ℕ → Reader A) (r : Option ℕ → Read A) → 0 < w → stop n ≡ r None
    → ((v : ℕ) → f v (drop (at + w) (bits s)) ≡ r (Some v)) → (field n w >>= f) (drop at (bits s)) ≡ r (field_at s at w)
unfolding ◌>>=◌ bind read_of
field_then n w at s f r p e h = rw (field_reads n w at s p) (go (field_at s at w))
  where
    go : (x : Option ℕ) → bind (read_of n (drop (at + w) (bits s)) x) f ≡ r x
    go (Some v) = h v
    go None = e

-- Its value is a number of w binary digits.
pub field_below : (w at : ℕ) (s : List ℕ) {v : ℕ} → field_at s at w ≡ Some v → v < 2 ^ w
unfolding field_at
field_below w at s {v} e = go (leb (at + w) (length s * 8)) e
  where
    l : List ℕ
    l = drop at (bits s)

    go : (t : Bool) → cond t (Some (leading w 0 l)) None ≡ Some v → v < 2 ^ w
    go true q = let same : leading w 0 l ≡ v = cc in rw same at (leading_below w l (drop_bits at (bits s) (bits_are s)))
    go false q = let z : ◌≡◌ {A = ℕ} 0 1 = cc in absurd (omega arith)

-- Packing bits into bytes.

-- a bit of the first byte, and one of a later byte
put_bit_first : (a i b : ℕ) (s : List ℕ) → i < 8 → put_bit (a ∷ s) i b ≡ (a + b * 2 ^ (7 - i)) ∷ s
unfolding put_bit
put_bit_first a i b s h =
    let q : i / 8 ≡ 0 = omega arith in
    let r : i % 8 ≡ i = omega arith in
    rw (q, r)

put_bit_later : (a i j b : ℕ) (s : List ℕ) → i ≡ j + 8 → put_bit (a ∷ s) i b ≡ a ∷ put_bit s j b
unfolding put_bit
put_bit_later a i j b s e =
    let q : i / 8 ≡ suc (j / 8) = omega arith in
    let r : i % 8 ≡ j % 8 = omega arith in
    rw (q, r)

-- one bit after those that are there
put-bit : (n b : ℕ) (l : List ℕ) → length l < n * 8 → put_bit (bytes n l) (length l) b ≡ bytes n (l ++ b ∷ [])
unfolding bytes
put-bit zero b l h = absurd (omega arith)
put-bit (suc n) b l h =
    let len = length-drop 8 l in
    let more = length-append l (b ∷ []) in
    by_test (ltb (length l) 8)
    (λ t. let p = ltb-true (length l) 8 t in
    put_bit_first (leading 8 0 l) (length l) b (bytes n (drop 8 l)) p
    ∙ ap₂ (λ (x : ℕ) (s : List ℕ). x ∷ s)
    (sym (leading_snoc 7 0 b l (omega arith)))
    (ap (bytes n) (drop_of_length-le l {i = 8} (omega arith) ∙ sym (drop_of_length-le (l ++ b ∷ []) {i = 8} (omega arith)))))
    (λ t. let p = ltb-false (length l) 8 t in
    put_bit_later (leading 8 0 l) (length l) (length (drop 8 l)) b (bytes n (drop 8 l)) (omega arith)
    ∙ ap₂ (λ (x : ℕ) (s : List ℕ). x ∷ s)
    (sym (leading_front 8 0 l (b ∷ []) p))
    (put-bit n b (drop 8 l) (omega arith) ∙ ap (bytes n) (sym (drop-append-le 8 l (b ∷ []) p))))

-- bits put one by one after those that are there
put_all : (n : ℕ) (l m : List ℕ) → length l + length m ≤ n * 8 → put_bits (bytes n l) (length l) m ≡ bytes n (l ++ m)
unfolding put_bits
put_all n l [] h = rw append-nil
put_all n l (b ∷ m) h =
    let len = length-append l (b ∷ []) in
    let e : length (l ++ b ∷ []) ≡ suc (length l) = omega arith in
    rw (put-bit n b l (omega arith), ← e, ← append_snoc l b m) (put_all n (l ++ b ∷ []) m (omega arith))

pub put_bytes : (n : ℕ) (l m : List ℕ) → Bits l → Bits m → length l + length m ≤ n * 8 → put_bits (bytes n l) (length l) m ≡ bytes n (l ++ m)
put_bytes n l m hl hm h = put_all n l m h

-- The same of a buffer and a position that are known by equations.
pub put_packed : (n at : ℕ) (l m s : List ℕ) → s ≡ bytes n l → at ≡ length l → Bits l → Bits m → at + length m ≤ n * 8
    → put_bits s at m ≡ bytes n (l ++ m)
put_packed n at l m s e f hl hm h = rw (e, f) (put_bytes n l m hl hm (omega arith))

-- A buffer of zeros has no bits yet.
pub bytes-none : (n : ℕ) → replicate n 0 ≡ bytes n []
unfolding bytes
bytes-none zero = refl
bytes-none (suc n) = ap (λ (s : List ℕ). 0 ∷ s) (bytes-none n)

-- The bytes of a buffer that hold its bits.
pub take-pack : (n : ℕ) (l : List ℕ) → bytes_for (length l) ≤ n → take (bytes_for (length l)) (bytes n l) ≡ pack l
unfolding pack
take-pack n l h = take-bytes (bytes_for (length l)) n l h

-- A buffer is clear after the bits put into it.
pub clear_bytes : (n : ℕ) (l : List ℕ) → Bits l → length l ≤ n * 8 → ClearFrom (length l) (bytes n l)
unfolding ClearFrom
clear_bytes n l b h = sym (rw (length-bytes n l, bits-bytes n l b h, take-append_seam l (replicate (n * 8 - length l) 0)))

pub clear_packed : (n at : ℕ) (l s : List ℕ) → s ≡ bytes n l → at ≡ length l → Bits l → at ≤ n * 8 → ClearFrom at s
clear_packed n at l s e f b h = rw (e, f) (clear_bytes n l b (omega arith))

-- Writing a string at the start of a slice.

pub over-take : (n : ℕ) (s lent : List ℕ) → n ≤ length s → over (take n s) lent ≡ take n s ++ drop n lent
unfolding over
over-take n s lent h = rw (length-take-le n s h)

-- Writing as far as a slice reaches.

laid_empty : (s : List ℕ) → laid s [] ≡ []
unfolding laid
laid_empty [] = refl
laid_empty (x ∷ s) = refl

pub laid_at_nil : (k : ℕ) (lent : List ℕ) → laid_at k [] lent ≡ lent
unfolding laid_at
laid_at_nil zero lent = refl
laid_at_nil (suc k) [] = refl
laid_at_nil (suc k) (y ∷ lent) = ap (λ (l : List ℕ). y ∷ l) (laid_at_nil k lent)

-- one string, and then another after it
pub laid_then : (k n : ℕ) (s t lent : List ℕ) → n ≡ k + length s → laid_at n t (laid_at k s lent) ≡ laid_at k (s ++ t) lent
unfolding laid_at
laid_then zero zero [] t lent e = refl
laid_then zero (suc n) [] t lent e = absurd (omega arith)
laid_then zero zero (x ∷ s) t lent e = absurd (omega arith)
laid_then zero (suc n) (x ∷ s) t [] e = laid_empty t
laid_then zero (suc n) (x ∷ s) t (y ∷ lent) e = ap (λ (l : List ℕ). x ∷ l) (laid_then zero n s t lent (omega arith))
laid_then (suc k) zero s t lent e = absurd (omega arith)
laid_then (suc k) (suc n) s t [] e = rw (laid_empty s, laid_empty t, laid_empty (s ++ t))
laid_then (suc k) (suc n) s t (y ∷ lent) e = ap (λ (l : List ℕ). y ∷ l) (laid_then k n s t lent (omega arith))

-- the slice keeps its length
pub length-laid : (k : ℕ) (s lent : List ℕ) → length (laid_at k s lent) ≡ length lent
unfolding laid_at
length-laid zero [] lent = refl
length-laid zero (x ∷ s) [] = refl
length-laid zero (x ∷ s) (y ∷ lent) = ap suc (length-laid zero s lent)
length-laid (suc k) s [] = ap length (laid_empty s)
length-laid (suc k) s (y ∷ lent) = ap suc (length-laid k s lent)

-- where there is room for it, a string is written whole
pub laid-over : (s lent : List ℕ) → length s ≤ length lent → laid s lent ≡ over s lent
unfolding laid over
laid-over [] lent h = refl
laid-over (x ∷ s) [] h = absurd (omega arith)
laid-over (x ∷ s) (y ∷ lent) h = ap (λ (l : List ℕ). x ∷ l) (laid-over s lent (omega arith))

-- one byte is a store
pub laid_byte : (k b : ℕ) (lent : List ℕ) → laid_at k (b ∷ []) lent ≡ set lent k b
unfolding laid_at laid
laid_byte zero b [] = refl
laid_byte zero b (y ∷ lent) = refl
laid_byte (suc k) b [] = refl
laid_byte (suc k) b (y ∷ lent) = ap (λ (l : List ℕ). y ∷ l) (laid_byte k b lent)

-- two bytes are two stores; one past the end changes nothing
laid_stores : (k x y : ℕ) (lent : List ℕ) → laid_at k (x ∷ y ∷ []) lent ≡ set (set lent k x) (suc k) y
unfolding laid_at
laid_stores zero x y [] = refl
laid_stores zero x y (a ∷ []) = refl
laid_stores zero x y (a ∷ b ∷ lent) = refl
laid_stores (suc k) x y [] = refl
laid_stores (suc k) x y (a ∷ lent) = ap (λ (l : List ℕ). a ∷ l) (laid_stores k x y lent)

pub laid_two : (k x y : ℕ) (lent : List ℕ) → laid_at k (x ∷ y ∷ []) lent ≡ set (set lent k x) (k + 1) y
laid_two k x y lent = rw add-one (laid_stores k x y lent)

pub laid_one : (k x y : ℕ) (lent : List ℕ) → length lent ≤ k + 1 → laid_at k (x ∷ y ∷ []) lent ≡ set lent k x
laid_one k x y lent h =
    let e = length-set lent k x in
    laid_two k x y lent ∙ set_out (set lent k x) (k + 1) y (omega arith)

pub laid_none : (k x y : ℕ) (lent : List ℕ) → length lent ≤ k → laid_at k (x ∷ y ∷ []) lent ≡ lent
laid_none k x y lent h = laid_one k x y lent (omega arith) ∙ set_out lent k x h

-- Numbers below a bound: past its end a list has the number 0,
pub below_any : (n : ℕ) (l : List ℕ) → 0 < n → Below n l → (i : ℕ) → get_or l i 0 < n
below_any n l h below i =
    by_test (ltb i (length l))
    (λ e. below i (ltb-true i (length l) e))
    (λ e. rw (get_or-eq_default l 0 {n = i} (ltb-false i (length l) e)) h)

-- and numbers laid over others are small where both are.
pub laid_below : (n : ℕ) (s l : List ℕ) → Below n s → Below n l → Below n (laid s l)
unfolding laid
laid_below n [] l p q i h = q i h
laid_below n (x ∷ s) [] p q i h = absurd (omega arith)
laid_below n (x ∷ s) (y ∷ l) p q zero h = p 0 (omega arith)
laid_below n (x ∷ s) (y ∷ l) p q (suc i) h = laid_below n s l (λ k m. p (suc k) (omega arith)) (λ k m. q (suc k) (omega arith)) i (omega arith)
