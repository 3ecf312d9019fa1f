-- Texts put one after the other. Assumes nothing.
use mathlib.Core.Path.{◌≡◌, refl, sym, ap, subst, ◌∙◌}
use mathlib.Core.List.{List, [], ◌∷◌, ◌++◌}
use Prim.Native.Nat.{ℕ, suc, ◌+◌, ◌≤◌, ◌<◌}
use native.Mathlib.Omega.{arith}
use lib.ListN.{length, take, get_or, set, length-append}
use lib.Seq.{take-suc, set_out}
use Rattle.bits.specs.Bits.{laid}
use Rattle.bits.specs.Fields.{laid_at}
use Rattle.bits.proofs.Fields.{laid_at_nil, laid_then, length-laid, laid_byte}
use Rattle.model.specs.Text.{decimal}
use Rattle.model.proofs.Text.{digits_five}
use Rattle.texts.specs.Texts.{Put, line_end}

-- the end of a line has at most seven bytes
pub end_seven : (n : ℕ) → n < 65536 → length (line_end n) ≤ 7
unfolding line_end
end_seven n h = let e = length-append (decimal n) (10 ∷ []) in let d = digits_five n h in omega (arith, e, d)

-- one byte, past the end of the slice and before it
pub put_past : (at b : ℕ) (lent : List ℕ) → length lent ≤ at → Put at (b ∷ []) lent lent (at + 1)
put_past at b lent h = record { bytes = sym (laid_byte at b lent ∙ set_out lent at b h); next = refl }

pub put_byte : (at b : ℕ) (lent : List ℕ) → Put at (b ∷ []) lent (set lent at b) (at + 1)
put_byte at b lent = record { bytes = sym (laid_byte at b lent); next = refl }

pub put_start : (at : ℕ) (lent : List ℕ) → Put at [] lent lent at
put_start at lent = record { bytes = sym (laid_at_nil at lent); next = omega arith }

pub put_then : {at : ℕ} {s t a b c : List ℕ} {m n : ℕ} → Put at s a b m → Put m t b c n → Put at (s ++ t) a c n
put_then {at} {s} {t} {a} {b} {c} {m} {n} p q =
    let e = length-append s t in
    record { bytes = q.bytes ∙ ap (laid_at m t) p.bytes ∙ laid_then at m s t a p.next; next = let x = p.next in let y = q.next in omega (arith, e, x, y) }

-- one byte more of a word
pub put_byte_more : {at m n : ℕ} {a b c : List ℕ} (i : ℕ) (word : List ℕ) → i < length word → Put at (take i word) a b m → Put m (get_or word i 0 ∷ []) b c n
    → Put at (take (i + 1) word) a c n
put_byte_more {at} {m} {n} {a} {b} {c} i word h p q =
    let k : suc i ≡ i + 1 = omega arith in
    rw (← k, take-suc word i 0 h) (put_then p q)

-- a text that is known by an equation
pub put_same : {at n : ℕ} {s t a b : List ℕ} → s ≡ t → Put at s a b n → Put at t a b n
put_same {at} {n} {s} {t} {a} {b} e p = subst (λ (x : List ℕ). Put at x a b n) e p

-- the slice keeps its length
pub put_length : {at n : ℕ} {s a b : List ℕ} → Put at s a b n → length b ≡ length a
put_length {at} {n} {s} {a} {b} p = ap length p.bytes ∙ length-laid at s a

-- a text at the start of a slice, known by an equation
pub put_laid : {n : ℕ} {s t a b : List ℕ} → s ≡ t → Put 0 s a b n → (b ≡ laid t a) × (n ≡ length t)
unfolding laid_at
put_laid {n} {s} {t} {a} {b} e p =
    let next = p.next in
    let long = ap length e in
    (p.bytes ∙ ap (λ (x : List ℕ). laid x a) e, omega (arith, next, long))
