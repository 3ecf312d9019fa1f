-- A field at a position of a string of bytes, read and written. Assumes nothing.
use Rattle.std.specs.Prelude.{◌≡◌, cond, Option, Some, None, List, [], ◌∷◌, ◌++◌, ℕ, suc, ◌+◌, ◌-◌, ◌*◌, ◌/◌, ◌%◌, ◌^◌, leb, length, take, drop, get_or, set}
use Rattle.bits.specs.Bits.{bits, leading, bytes, laid}
use Rattle.bits.specs.Reading.{Read, got, stop}

-- The field of w bits that starts at the bit `at`: its value, or none where the bytes end inside it.
unfoldable pub field_at : List ℕ → ℕ → ℕ → Option ℕ
field_at s at w = cond (leb (at + w) (length s * 8)) (Some (leading w 0 (drop at (bits s)))) None

-- A field as a reader gives it: the value with the bits after the field, or the refusal n.
unfoldable pub read_of : ℕ → List ℕ → Option ℕ → Read ℕ
read_of n rest (Some v) = got v rest
read_of n rest None = stop n

-- The bit b added to a string of bytes at the bit i.
unfoldable pub put_bit : List ℕ → ℕ → ℕ → List ℕ
put_bit s i b = set s (i / 8) (get_or s (i / 8) 0 + b * 2 ^ (7 - i % 8))

-- Bits added from the bit i on.
unfoldable pub put_bits : List ℕ → ℕ → List ℕ → List ℕ
put_bits s i [] = s
put_bits s i (b ∷ l) = put_bits (put_bit s i b) (suc i) l

-- A string of bytes is zero from the bit `at` on: it has the bits before `at`, and zeros after them.
unfoldable pub ClearFrom : ℕ → List ℕ → Type 0
ClearFrom at s = s ≡ bytes (length s) (take at (bits s))

-- A string written into a lent slice from byte k on, as far as that slice reaches.
unfoldable pub laid_at : ℕ → List ℕ → List ℕ → List ℕ
unfolding laid
laid_at k s lent = take k lent ++ laid s (drop k lent)
