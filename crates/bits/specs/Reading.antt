-- Readers of bits, of which the formats are made. Document 01, "Numbers of a refused call": "The ticket is read first, field by field",
-- and "in checking order, where 1 and 9 are tested before a field's value". Assumes nothing.
use Rattle.std.specs.Prelude.{Bool, true, false, ◌&&◌, List, [], ◌∷◌, ℕ, zero, suc, ◌+◌, ◌*◌, ltb, eqb, length}
use Rattle.bits.specs.Bits.{bits}

-- What a call gives: its value, or the number with which it is refused.
pub data Answer (A : Type 0) : Type 0 where
  given : A → Answer A
  refused : ℕ → Answer A

-- What reading gives: a value with the bits that are left, or the number of a refusal.
pub data Read (A : Type 0) : Type 0 where
  got : A → List ℕ → Read A
  stop : ℕ → Read A

abbrev pub Reader : Type 0 → Type 0
Reader A = List ℕ → Read A

infixl 10 ◌>>=◌
infixl 10 ◌>>◌
-- One reader, and then the reader that its value selects. The first refusal counts.
unfoldable pub bind : {A B : Type 0} → Read A → (A → Reader B) → Read B
bind (got a l) f = f a l
bind (stop n) f = stop n

unfoldable pub ◌>>=◌ : {A B : Type 0} → Reader A → (A → Reader B) → Reader B
unfolding bind
(m >>= f) l = bind (m l) f

unfoldable pub ◌>>◌ : {A B : Type 0} → Reader A → Reader B → Reader B
unfolding bind
(m >> r) l = bind (m l) (λ a. r)

-- A value, with nothing read.
unfoldable pub give : {A : Type 0} → A → Reader A
give a l = got a l

-- The next w bits as binary digits after those of `high`; refused with n where the bits end.
unfoldable pub field_after : ℕ → ℕ → ℕ → Reader ℕ
field_after n zero high l = got high l
field_after n (suc w) high [] = stop n
field_after n (suc w) high (b ∷ l) = field_after n w (high * 2 + b) l

-- A field of w bits; refused with n where the bits end inside it.
unfoldable pub field : ℕ → ℕ → Reader ℕ
unfolding field_after
field n w = field_after n w 0

-- Refused with n where a condition of document 01 is met.
unfoldable pub refuse_if : ℕ → Bool → Reader (Unit {0})
refuse_if n true l = stop n
refuse_if n false l = got tt l

-- k values, one after the other.
unfoldable pub many : {A : Type 0} → ℕ → Reader A → Reader (List A)
many zero r = give []
many (suc k) r = r >>= λ a. many k r >>= λ more. give (a ∷ more)

unfoldable pub all_zero : List ℕ → Bool
all_zero [] = true
all_zero (b ∷ l) = eqb b 0 && all_zero l

-- The end: fewer than eight bits are left, up to the byte's edge, and all are zero.
unfoldable pub is_closed : List ℕ → Bool
unfolding all_zero
is_closed l = ltb (length l) 8 && all_zero l

-- Refused with n where it is not the end.
unfoldable pub closing : ℕ → Reader (Unit {0})
unfolding is_closed
closing n l = elim (is_closed l) [ true ↦ got tt [] | false ↦ stop n ]

-- A whole string of bytes, read by a reader that ends in `closing`.
unfoldable pub answer : {A : Type 0} → Read A → Answer A
answer (got a l) = given a
answer (stop n) = refused n

unfoldable pub read_all : {A : Type 0} → Reader A → List ℕ → Answer A
unfolding answer bits
read_all r s = answer (r (bits s))
