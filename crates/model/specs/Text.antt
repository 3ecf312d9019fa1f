-- Texts, of which pages and what the programs print are made. A text is a list of bytes (ASCII). Assumes nothing.
use Rattle.std.specs.Prelude.{true, false, List, [], ◌∷◌, ◌++◌, ℕ, zero, suc, ◌+◌, ◌-◌, ◌/◌, ◌%◌, ltb, length, replicate}
use Prim.Native.Char.{code}
use Prim.Native.String.{String, len, char_at}
use Rattle.model.specs.Plans.{each}

-- The bytes of a string: `text "ab"` is 97 98.
unfoldable pub text : String → List ℕ
unfolding each
text s = each (λ i. code (char_at s i)) 0 (len s)

-- A number in decimal digits, most significant first and no zero before them; `most` digits at the most.
unfoldable pub decimal_in : ℕ → ℕ → List ℕ
decimal_in zero n = []
decimal_in (suc most) n = elim (ltb n 10) [ true ↦ (48 + n) ∷ [] | false ↦ decimal_in most (n / 10) ++ (48 + n % 10) ∷ [] ]

-- n + 1 digits are enough for the number n.
unfoldable pub decimal : ℕ → List ℕ
unfolding decimal_in
decimal n = decimal_in (suc n) n

-- "right aligned" in w columns, and "filled with spaces" to w columns
unfoldable pub right_in : ℕ → List ℕ → List ℕ
right_in w s = replicate (w - length s) 32 ++ s

unfoldable pub filled_to : ℕ → List ℕ → List ℕ
filled_to w s = s ++ replicate (w - length s) 32
