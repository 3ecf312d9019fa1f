-- Lengths, and the way there and back: a number written as a field reads back, a field that was read is the field written, and the bits of
-- packed bytes are the bits with zeros after them. Assumes nothing.
use mathlib.Core.Path.{◌≡◌, refl, sym, ap, ap₂, ◌∙◌, subst}
use mathlib.Core.List.{List, [], ◌∷◌, ◌++◌, append-nil}
use Prim.Native.Nat.{ℕ, zero, suc, ◌+◌, ◌-◌, ◌*◌, ◌/◌, ◌%◌, ◌^◌, ◌<◌, ◌≤◌}
use native.Mathlib.Nat.{add-zero, zero-add, add_assoc, mul-one, zero-mul, suc-mul, mul_assoc, mul_comm, add-mul, pow-suc, mod-lt, mod-one, mod-eq_of_lt, mul-mod_left, mul-add-div_right, mul-add-mod_self_right}
use native.Mathlib.Omega.{arith}
use lib.Arith.{mod-mul, digits_lt}
use lib.Dec.{lit<}
use lib.ListN.{length, take, drop, replicate, length-append, length-drop}
use lib.Seq.{drop-nil}
use lib.Pow.{pow_pos}
use Rattle.bits.specs.Bits.{digits, bits, leading, bytes, bytes_for, pack}
use Rattle.bits.specs.Reading.{got, field_after, field}
use Rattle.bits.proofs.Logic.{Each}
use Rattle.bits.proofs.Reading.{got_value, got_rest, stop-got}

-- one more digit: b below `high`, above the w digits of x
pub two : (w : ℕ) → 2 ^ suc w ≡ 2 * 2 ^ w
two w = pow-suc 2 w ∙ mul_comm (2 ^ w) 2

pub shift_in : (high b w x : ℕ) → (high * 2 + b) * 2 ^ w + x ≡ high * 2 ^ suc w + (b * 2 ^ w + x)
shift_in high b w x =
    ap (λ (y : ℕ). y + x) (add-mul (high * 2) b (2 ^ w) ∙ ap (λ (y : ℕ). y + b * 2 ^ w) (mul_assoc high 2 (2 ^ w) ∙ ap (λ (y : ℕ). high * y) (sym (two w))))
    ∙ add_assoc (high * 2 ^ suc w) (b * 2 ^ w) x

more_below : (w b x : ℕ) → b < 2 → x < 2 ^ w → b * 2 ^ w + x < 2 ^ suc w
more_below w b x hb hx = subst (λ (y : ℕ). b * 2 ^ w + x < y) (sym (two w)) (digits_lt hb hx)

-- lengths

pub length_digits : (w v : ℕ) → length (digits w v) ≡ w
unfolding digits
length_digits zero v = refl
length_digits (suc w) v = ap suc (length_digits w v)

pub length-bits : (s : List ℕ) → length (bits s) ≡ length s * 8
unfolding bits
length-bits [] = refl
length-bits (b ∷ s) =
    let e = length-append (digits 8 b) (bits s) in
    let d = length_digits 8 b in
    let ih = length-bits s in
    omega (arith, e, d, ih)

pub length-bytes : (n : ℕ) (l : List ℕ) → length (bytes n l) ≡ n
unfolding bytes
length-bytes zero l = refl
length-bytes (suc n) l = ap suc (length-bytes n (drop 8 l))

pub length-pack : (l : List ℕ) → length (pack l) ≡ bytes_for (length l)
unfolding pack
length-pack l = length-bytes (bytes_for (length l)) l

-- a bit is 0 or 1

unfoldable pub Bits : List ℕ → Type 0
Bits l = Each (λ (b : ℕ). b < 2) l

pub digits_are : (w v : ℕ) (l : List ℕ) → Bits l → Bits (digits w v ++ l)
unfolding digits Bits Each
digits_are zero v l h = h
digits_are (suc w) v l h = (mod-lt (v / 2 ^ w) (lit< tt), digits_are w v l h)

pub bits_are : (s : List ℕ) → Bits (bits s)
unfolding bits Bits Each
bits_are [] = tt
bits_are (b ∷ s) = digits_are 8 b (bits s) (bits_are s)

pub digits-bits : (w v : ℕ) → Bits (digits w v)
unfolding Bits Each
digits-bits w v = rw append-nil at (digits_are w v [] tt)

pub append_bits : (l m : List ℕ) → Bits l → Bits m → Bits (l ++ m)
unfolding Bits Each
append_bits [] m hl hm = hm
append_bits (b ∷ l) m hl hm = (hl.0, append_bits l m hl.1 hm)

pub take-bits : (w : ℕ) (l : List ℕ) → Bits l → Bits (take w l)
unfolding Bits Each
take-bits zero l h = tt
take-bits (suc w) [] h = h
take-bits (suc w) (b ∷ l) h = (h.0, take-bits w l h.1)

pub drop_bits : (w : ℕ) (l : List ℕ) → Bits l → Bits (drop w l)
unfolding Bits Each
drop_bits zero l h = h
drop_bits (suc w) [] h = h
drop_bits (suc w) (b ∷ l) h = drop_bits w l h.1

-- the digits of a number do not see what stands above them
pub digits_low : (w a v : ℕ) → digits w (a * 2 ^ w + v) ≡ digits w v
unfolding digits
digits_low zero a v = refl
digits_low (suc w) a v =
    let e : a * 2 ^ suc w ≡ a * 2 * 2 ^ w = ap (λ (x : ℕ). a * x) (two w) ∙ sym (mul_assoc a 2 (2 ^ w)) in
    let head : (a * 2 ^ suc w + v) / 2 ^ w % 2 ≡ v / 2 ^ w % 2 =
    ap (λ (x : ℕ). (x + v) / 2 ^ w % 2) e ∙ ap (λ (x : ℕ). x % 2) (mul-add-div_right (pow_pos w) (a * 2) v) ∙ mul-add-mod_self_right a 2 (v / 2 ^ w) in
    let tail : digits w (a * 2 ^ suc w + v) ≡ digits w v = ap (λ (x : ℕ). digits w (x + v)) e ∙ digits_low w (a * 2) v in
    ap₂ (λ (x : ℕ) (l : List ℕ). x ∷ l) head tail

-- the digit above w others
digits_top : (w b x : ℕ) → b < 2 → x < 2 ^ w → digits (suc w) (b * 2 ^ w + x) ≡ b ∷ digits w x
unfolding digits
digits_top w b x hb hx =
    ap₂ (λ (y : ℕ) (l : List ℕ). y ∷ l)
    (ap (λ (y : ℕ). y % 2) (lib.Pow.high b w hx) ∙ mod-eq_of_lt hb)
    (digits_low w b x)

-- A number written as a field reads back.

pub field_after-digits : (n w high v : ℕ) (l : List ℕ) → field_after n w high (digits w v ++ l) ≡ got (high * 2 ^ w + v % 2 ^ w) l
unfolding field_after digits
field_after-digits n zero high v l = ap (λ (x : ℕ). got x l) (sym (ap₂ (λ (x y : ℕ). x + y) (mul-one high) (mod-one v) ∙ add-zero high))
field_after-digits n (suc w) high v l =
    let bit = v / 2 ^ w % 2 in
    let split : bit * 2 ^ w + v % 2 ^ w ≡ v % 2 ^ suc w = sym (ap (λ (y : ℕ). v % y) (two w) ∙ mod-mul v (lit< tt) (pow_pos w)) in
    field_after-digits n w (high * 2 + bit) v l
    ∙ ap (λ (x : ℕ). got x l) (shift_in high bit w (v % 2 ^ w) ∙ ap (λ (y : ℕ). high * 2 ^ suc w + y) split)

pub field-digits : (n w v : ℕ) (l : List ℕ) → v < 2 ^ w → field n w (digits w v ++ l) ≡ got v l
unfolding field
field-digits n w v l h =
    field_after-digits n w 0 v l ∙ ap (λ (x : ℕ). got x l) (ap₂ (λ (x y : ℕ). x + y) (zero-mul (2 ^ w)) (mod-eq_of_lt h) ∙ zero-add v)

-- A field that was read is the field written.

field_after_wrote : (n w high : ℕ) (l : List ℕ) {v : ℕ} {rest : List ℕ} → Bits l → field_after n w high l ≡ got v rest
    → (x : ℕ) × (x < 2 ^ w) × (v ≡ high * 2 ^ w + x) × (l ≡ digits w x ++ rest) × Bits rest
unfolding field_after digits Bits Each
field_after_wrote n zero high l h e =
    (0, lit< tt, sym (got_value e) ∙ sym (add-zero (high * 1) ∙ mul-one high), got_rest e, subst Bits (got_rest e) h)
field_after_wrote n (suc w) high [] h e = stop-got e
field_after_wrote n (suc w) high (b ∷ l) {v} {rest} h e =
    let r = field_after_wrote n w (high * 2 + b) l h.1 e in
    let x = r.0 in (
      b * 2 ^ w + x,
      more_below w b x h.0 r.1,
      r.2 ∙ shift_in high b w x,
      ap (λ (m : List ℕ). b ∷ m) r.3 ∙ ap (λ (m : List ℕ). m ++ rest) (sym (digits_top w b x h.0 r.1)),
      r.4,
    )

pub field_wrote : (n w : ℕ) (l : List ℕ) {v : ℕ} {rest : List ℕ} → Bits l → field n w l ≡ got v rest
    → (v < 2 ^ w) × (l ≡ digits w v ++ rest) × Bits rest
unfolding field
field_wrote n w l {v} {rest} h e =
    let r = field_after_wrote n w 0 l h e in
    let same : v ≡ r.0 = r.2 ∙ ap (λ (y : ℕ). y + r.0) (zero-mul (2 ^ w)) ∙ zero-add r.0 in
    (rw same r.1, rw same r.3, r.4)

-- The bits of packed bytes.

-- the first w bits of a list, zeros where it ends
first : ℕ → List ℕ → List ℕ
first zero l = []
first (suc w) [] = 0 ∷ first w []
first (suc w) (b ∷ l) = b ∷ first w l

pub leading_high : (w high : ℕ) (l : List ℕ) → Bits l → (x : ℕ) × (x < 2 ^ w) × (leading w high l ≡ high * 2 ^ w + x)
unfolding leading Bits Each
leading_high zero high l h = (0, lit< tt, sym (add-zero (high * 1) ∙ mul-one high))
leading_high (suc w) high [] h =
    let r = leading_high w (high * 2) [] h in (
      r.0,
      (let p = r.1 in let q = two w in omega (arith, p, q)),
      r.2 ∙ ap (λ (y : ℕ). y + r.0) (mul_assoc high 2 (2 ^ w) ∙ ap (λ (y : ℕ). high * y) (sym (two w))),
    )
leading_high (suc w) high (b ∷ l) h =
    let r = leading_high w (high * 2 + b) l h.1 in
    (b * 2 ^ w + r.0, more_below w b r.0 h.0 r.1, r.2 ∙ shift_in high b w r.0)

-- the digit that stands at place w of a number of which `high` stands above it
pub digit_of : (w high : ℕ) (l : List ℕ) → Bits l → leading w high l / 2 ^ w ≡ high
digit_of w high l h = let r = leading_high w high l h in ap (λ (y : ℕ). y / 2 ^ w) r.2 ∙ lib.Pow.high high w r.1

digits-leading : (w high : ℕ) (l : List ℕ) → Bits l → digits w (leading w high l) ≡ first w l
unfolding digits leading first Bits Each
digits-leading zero high l h = refl
digits-leading (suc w) high [] h =
    ap₂ (λ (x : ℕ) (m : List ℕ). x ∷ m)
    (ap (λ (y : ℕ). y % 2) (digit_of w (high * 2) [] h) ∙ mul-mod_left high 2)
    (digits-leading w (high * 2) [] h)
digits-leading (suc w) high (b ∷ l) h =
    ap₂ (λ (x : ℕ) (m : List ℕ). x ∷ m)
    (ap (λ (y : ℕ). y % 2) (digit_of w (high * 2 + b) l h.1) ∙ mul-add-mod_self_right high 2 b ∙ mod-eq_of_lt h.0)
    (digits-leading w (high * 2 + b) l h.1)

-- w bits, and after them the rest of the list with zeros up to m in all
first_rest : (w m : ℕ) (l : List ℕ) → first w l ++ (drop w l ++ replicate (m - length (drop w l)) 0) ≡ l ++ replicate (w + m - length l) 0
unfolding first
first_rest zero m l = let e : 0 + m - length l ≡ m - length l = omega arith in rw e
first_rest (suc w) m [] =
    let e : suc w + m - 0 ≡ suc (w + m - 0) = omega arith in rw e (ap (λ (x : List ℕ). 0 ∷ x) (subst (λ (z : List ℕ). first w [] ++ (z ++ replicate (m - length z) 0) ≡ replicate (w + m - 0) 0) (drop-nil w) (first_rest w m [])))
first_rest (suc w) m (b ∷ l) =
    let e : suc w + m - suc (length l) ≡ w + m - length l = omega arith in rw e (ap (λ (x : List ℕ). b ∷ x) (first_rest w m l))

pub bits-bytes : (n : ℕ) (l : List ℕ) → Bits l → length l ≤ n * 8 → bits (bytes n l) ≡ l ++ replicate (n * 8 - length l) 0
unfolding bits bytes
bits-bytes zero [] h p = refl
bits-bytes zero (b ∷ l) h p = absurd (omega arith)
bits-bytes (suc n) l h p =
    let len = length-drop 8 l in
    let s = suc-mul n 8 in
    let ih = bits-bytes n (drop 8 l) (drop_bits 8 l h) (omega (arith, len, s)) in
    let e : suc n * 8 - length l ≡ 8 + n * 8 - length l = omega (arith, s) in
    ap₂ (λ (x y : List ℕ). x ++ y) (digits-leading 8 0 l h) ih ∙ first_rest 8 (n * 8) l ∙ ap (λ (k : ℕ). l ++ replicate k 0) (sym e)

-- "zero bits up to the next byte edge, fewer than eight, with no byte after"
pub bits-pack : (l : List ℕ) → Bits l → (k : ℕ) × (k < 8) × (bits (pack l) ≡ l ++ replicate k 0)
unfolding pack
bits-pack l h = (bytes_for (length l) * 8 - length l, omega arith, bits-bytes (bytes_for (length l)) l h (omega arith))
