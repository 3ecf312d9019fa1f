-- Numbers that a program is given as its arguments. Assumes nothing.
use Rattle.std.specs.Prelude.{true, false, Option, Some, None, List, [], ◌∷◌, ℕ, ◌+◌, ◌*◌, min}
use Rattle.grammar.specs.Reading.{is_digit, digit}

-- The number of which v has been read, with the digits that follow; no number if anything else follows.
unfoldable pub digits_in : ℕ → List ℕ → Option ℕ
digits_in v [] = Some v
digits_in v (c ∷ more) = elim (is_digit c) [ true ↦ digits_in (v * 10 + digit c) more | false ↦ None ]

-- One or more decimal digits; zeros may stand before them.
unfoldable pub number_in : List ℕ → Option ℕ
unfolding digits_in
number_in [] = None
number_in (c ∷ more) = digits_in 0 (c ∷ more)

-- Numbers from 65,535 on are not told apart: no disk and no count of rounds is so large.
abbrev pub capped : ℕ → ℕ
capped n = min n 65535

abbrev pub with_digit : ℕ → ℕ → ℕ
with_digit v d = capped (v * 10 + d)

abbrev pub argument_as : Option ℕ → Option ℕ
argument_as None = None
argument_as (Some n) = Some (capped n)
