-- References repeated, and two sides taken in turn: how many they are, and where they stand. Assumes nothing.
use mathlib.Core.Path.{◌≡◌, refl, sym, ap, ◌∙◌}
use mathlib.Core.List.{List, [], ◌∷◌, ◌++◌, append_assoc, append-nil}
use Prim.Native.Nat.{ℕ, zero, suc, ◌+◌, ◌*◌, ◌<◌}
use native.Mathlib.Nat.{suc-mul}
use native.Mathlib.Omega.{arith}
use lib.ListN.{length, get_or, length-append, get_or-append}
use lib.Seq.{get_or-append-add}
use Rattle.bits.proofs.Logic.{Each}
use Rattle.grammar.specs.Note.{repeated, in_turn}

pub repeated-length : (k : ℕ) (l : List ℕ) → length (repeated k l) ≡ k * length l
unfolding repeated
repeated-length zero l = omega arith
repeated-length (suc k) l =
    let both = length-append l (repeated k l) in
    let more = suc-mul k (length l) in
    omega (arith, repeated-length k l)

-- what is true of all references is true of them one after the other, and repeated
pub each_both : (Q : ℕ → Type 0) (a b : List ℕ) → Each Q a → Each Q b → Each Q (a ++ b)
unfolding Each
each_both Q [] b p q = q
each_both Q (x ∷ a) b p q = (p.0, each_both Q a b p.1 q)

pub each-repeated : (Q : ℕ → Type 0) (k : ℕ) (l : List ℕ) → Each Q l → Each Q (repeated k l)
unfolding repeated Each
each-repeated Q zero l h = tt
each-repeated Q (suc k) l h = each_both Q l (repeated k l) h (each-repeated Q k l h)

-- so many times, and more of them
pub repeated_more : (k m : ℕ) (l : List ℕ) → repeated (k + m) l ≡ repeated k l ++ repeated m l
unfolding repeated
repeated_more zero m l = ap (λ (n : ℕ). repeated n l) (let e : 0 + m ≡ m = omega arith in e)
repeated_more (suc k) m l =
    ap (λ (n : ℕ). repeated n l) (let e : suc k + m ≡ suc (k + m) = omega arith in e) ∙ ap (λ (r : List ℕ). l ++ r) (repeated_more k m l)
    ∙ sym (append_assoc l (repeated k l) (repeated m l))

-- one time more at the end is one time more at the start
pub repeated_last : (k : ℕ) (l : List ℕ) → repeated k l ++ l ≡ repeated (suc k) l
unfolding repeated
repeated_last zero l = sym (append-nil l)
repeated_last (suc k) l = append_assoc l (repeated k l) l ∙ ap (λ (m : List ℕ). l ++ m) (repeated_last k l)

-- after the first time, each reference is the one that stands as many places before it as are repeated
pub repeated_before : (k i j : ℕ) (l : List ℕ) → i ≡ length l + j → i < length (repeated k l) → get_or (repeated k l) i 0 ≡ get_or (repeated k l) j 0
unfolding repeated
repeated_before zero i j l e h = absurd (omega arith)
repeated_before (suc k) i j l e h =
    let both = length-append l (repeated k l) in
    ap (λ (n : ℕ). get_or (l ++ repeated k l) n 0) e
    ∙ get_or-append-add l (repeated k l) j 0
    ∙ sym (get_or-append (repeated k l) l 0 j (omega arith))
    ∙ ap (λ (m : List ℕ). get_or m j 0) (repeated_last k l)

pub in_turn_length : (left right : List ℕ) → length (in_turn left right) ≡ length left + length right
unfolding in_turn
in_turn_length [] right = omega arith
in_turn_length (a ∷ left) [] = omega arith
in_turn_length (a ∷ left) (b ∷ right) = omega (arith, in_turn_length left right)

-- nothing on the right
pub in_turn_none : (left : List ℕ) → in_turn left [] ≡ left
unfolding in_turn
in_turn_none [] = refl
in_turn_none (a ∷ left) = refl
