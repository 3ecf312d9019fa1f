-- The pieces of a note as the code reads them: numbers, the count after a part, and what stands between two items. Assumes nothing.
use Rattle.std.specs.Prelude.{Bool, true, false, cond, ◌||◌, List, [], ◌∷◌, ℕ, suc, ◌+◌, ◌*◌, ltb, leb, eqb, length, drop, Option, Some, None, Result, Ok, Err}
use Prim.Native.Char.{code}
use Rattle.grammar.specs.Reading.{is_digit, digit, goes_on}
use Rattle.refusal.specs.declared.Refusal.TheVariants.{NoteMalformed}
use Rattle.pieces.specs.declared.Met.{Met}
use Rattle.pieces.specs.declared.Numeral.{Numeral}
use Rattle.pieces.specs.declared.Counted.{Counted}
use Rattle.pieces.specs.declared.Joint.{Joint}
use Rattle.pieces.specs.declared.Joint.TheVariants.{Item, Side, End}

-- Whether the text that is left begins with a character.
unfoldable pub begins_with : ℕ → List ℕ → Bool
begins_with c [] = false
begins_with c (x ∷ l) = eqb x c

-- The digit that a character is, if it is one.
abbrev pub digit_of : ℕ → Option ℕ
digit_of c = cond (is_digit c) (Some (digit c)) None

-- The digit with which the text that is left begins, if it begins with one.
unfoldable pub first_digit : List ℕ → Option ℕ
first_digit [] = None
first_digit (c ∷ l) = digit_of c

-- A number with one digit more, if it goes on with that.
abbrev pub with_digit : ℕ → ℕ → ℕ → Option ℕ
with_digit most v c = cond (goes_on most v c) (Some (v * 10 + digit c)) None

-- A number of which `v` has been read, up to the place `at`: it goes on as long as it stays within its bound.
unfoldable pub digits_from : ℕ → ℕ → ℕ → List ℕ → Numeral
digits_from most v at [] = record { value = v; at = at }
digits_from most v at (c ∷ l) =
    elim (goes_on most v c) [ true ↦ digits_from most (v * 10 + digit c) (suc at) l | false ↦ record { value = v; at = at } ]

-- A note is malformed, which is met at a place.
abbrev pub malformed : ℕ → Met
malformed at = record { refusal = NoteMalformed; at = at }

-- "and may be followed by `*` and a count 1 to 2048": how many times the part before `at` is taken; a part that stands alone is taken once.
abbrev pub count_of : Numeral → Counted
count_of n = record { times = n.value; at = n.at }

abbrev pub count_begun : List ℕ → ℕ → Option ℕ → Result Counted Met
count_begun t at None = Err (malformed (at + 1))
count_begun t at (Some d) = cond (ltb 0 d) (Ok (count_of (digits_from 2048 d (at + 2) (drop (at + 2) t)))) (Err (malformed (at + 1)))

unfoldable pub count_at : List ℕ → ℕ → Result Counted Met
count_at t at =
    cond (begins_with (code "*") (drop at t)) (count_begun t at (first_digit (drop (at + 1) t))) (Ok (record { times = 1; at = at }))

-- What follows an item that ends before `at`: another item of the side, another side, the end of the note (the end of the text, or a parenthesis that
-- closes), or nothing that can follow.
unfoldable pub joint_at : List ℕ → ℕ → Result Joint Met
joint_at t at =
    cond (begins_with (code " ") (drop at t))
    (cond (begins_with (code "|") (drop (at + 1) t))
    (cond (begins_with (code " ") (drop (at + 2) t)) (Ok (Side (at + 3))) (Err (malformed (at + 2))))
    (Ok (Item (at + 1))))
    (cond (begins_with (code ")") (drop at t) || leb (length t) at) (Ok End) (Err (malformed at)))
