-- Document 01, "Ticket and sheet": "Fields are packed without gaps, most significant bit first. Numbers in fields are unsigned."
-- A bit is the number 0 or 1. Assumes nothing.
use Rattle.std.specs.Prelude.{List, [], ◌∷◌, ◌++◌, ℕ, zero, suc, ◌+◌, ◌*◌, ◌/◌, ◌%◌, ◌^◌, ◌<◌, length, get_or, drop}

-- The number v as a field of w bits: its w lowest binary digits, most significant first.
unfoldable pub digits : ℕ → ℕ → List ℕ
digits zero v = []
digits (suc w) v = (v / 2 ^ w % 2) ∷ digits w v

-- Numbers as fields of w bits each, one after the other.
unfoldable pub fields : ℕ → List ℕ → List ℕ
unfolding digits
fields w [] = []
fields w (v ∷ more) = digits w v ++ fields w more

-- The bits of a string of bytes.
unfoldable pub bits : List ℕ → List ℕ
unfolding digits
bits [] = []
bits (b ∷ s) = digits 8 b ++ bits s

-- The number whose binary digits are those of `high` and then the first w of a list of bits, zeros where the list ends.
unfoldable pub leading : ℕ → ℕ → List ℕ → ℕ
leading zero high l = high
leading (suc w) high [] = leading w (high * 2) []
leading (suc w) high (b ∷ l) = leading w (high * 2 + b) l

-- n bytes that begin with the bits of a list, and go on with zeros.
unfoldable pub bytes : ℕ → List ℕ → List ℕ
unfolding leading
bytes zero l = []
bytes (suc n) l = leading 8 0 l ∷ bytes n (drop 8 l)

-- How many bytes hold n bits.
abbrev pub bytes_for : ℕ → ℕ
bytes_for n = (n + 7) / 8

-- "Ticket and sheet each end in zero bits up to the next byte edge, fewer than eight, with no byte after": the bytes of a list of bits.
unfoldable pub pack : List ℕ → List ℕ
unfolding bytes
pack l = bytes (bytes_for (length l)) l

-- A number in 16 bits, most significant byte first.
abbrev pub be16 : ℕ → List ℕ
be16 n = (n / 256 % 256) ∷ (n % 256) ∷ []

-- A string written at the start of a lent slice that has room for it. "Bytes past a written sheet do not change."
unfoldable pub over : List ℕ → List ℕ → List ℕ
over s lent = s ++ drop (length s) lent

-- A string written into a lent slice "as far as that slice reaches".
unfoldable pub laid : List ℕ → List ℕ → List ℕ
laid [] lent = lent
laid (x ∷ s) [] = []
laid (x ∷ s) (y ∷ lent) = x ∷ laid s lent

-- Every number of a list is below a bound.
abbrev pub Below : ℕ → List ℕ → Type 0
Below n l = (i : ℕ) → i < length l → get_or l i 0 < n
