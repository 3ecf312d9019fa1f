-- The pieces of a note as the code reads and builds them. The references of a piece that is read are built at the end of a line of 2,048 entries.
-- More than 2,048 references in all are counted no further, and not built. Assumes nothing.
use Rattle.std.specs.Prelude.{◌≡◌, cond, List, ◌++◌, ℕ, ◌+◌, ◌*◌, take, drop, set, Option, Some, None, Result, Ok, Err, IsErrAnd}
use Prim.Native.Char.{code}
use Rattle.grammar.specs.Note.{repeated}
use Rattle.mixing.specs.declared.Place.{Place}
use Rattle.mixing.specs.Room.{capped, room_for}
use Rattle.pieces.specs.Pieces.{begins_with, first_digit, digits_from, malformed, count_at}
use Rattle.pieces.specs.declared.Counted.{Counted}
use Rattle.pieces.specs.declared.Met.{Met}
use Rattle.pieces.specs.declared.Numeral.{Numeral}
use Rattle.building.specs.declared.Piece.{Piece}

-- A block number that begins with the digit d before `at`, and the line with that block at its end.
abbrev pub number_at : List ℕ → ℕ → ℕ → Numeral
number_at t at d = digits_from 511 d (at + 1) (drop (at + 1) t)

abbrev pub block_from : List ℕ → ℕ → Option ℕ → Result Piece Met
block_from t at None = Err (malformed at)
block_from t at (Some d) = Ok (record { at = (number_at t at d).at; count = 1 })

unfoldable pub block_at : List ℕ → ℕ → Result Piece Met
block_at t at = block_from t at (first_digit (drop at t))

abbrev pub laid_from : List ℕ → Place → List ℕ → Option ℕ → List ℕ
laid_from t from line None = line
laid_from t from line (Some d) = cond (room_for from 1) (set line from.line (number_at t from.at d).value) line

unfoldable pub block_laid : List ℕ → Place → List ℕ → List ℕ
block_laid t from line = laid_from t from line (first_digit (drop from.at t))

-- What is given for a piece that was read or refused here, where `gives` says which errors a refusal may become.
abbrev pub GivenAs : {M : Type 0} → (Met → M → Type 0) → Result Piece Met → Result Piece M → Type 0
GivenAs gives (Ok p) r = r ≡ Ok p
GivenAs gives (Err m) r = IsErrAnd r (gives m)

-- A piece that was read goes on by a step, which reads further or refuses it. A piece that was refused stays refused as it was, whatever its error.
unfoldable pub Continues : {M : Type 0} → (Met → M → Type 0) → (Piece → Result Piece Met) → Result Piece M → Result Piece M → Type 0
Continues gives step (Ok p) r = GivenAs gives (step p) r
Continues gives step (Err e) r = r ≡ Err e

-- A note in parentheses, of which the note has been read: a parenthesis closes it.
unfoldable pub closed_at : List ℕ → Piece → Result Piece Met
closed_at t p = cond (begins_with (code ")") (drop p.at t)) (Ok (record { at = p.at + 1; count = p.count })) (Err (malformed p.at))

-- A part with the count that follows it, and the line with that part repeated. The line of a part that was refused stays.
abbrev pub counted_by : Piece → Result Counted Met → Result Piece Met
counted_by p (Ok c) = Ok (record { at = c.at; count = capped (p.count * c.times) })
counted_by p (Err m) = Err m

unfoldable pub counted_at : List ℕ → Piece → Result Piece Met
counted_at t p = counted_by p (count_at t p.at)

abbrev pub line_by : Piece → Place → List ℕ → Result Counted Met → List ℕ
line_by p from line (Ok c) =
    cond (room_for from (p.count * c.times))
    (take from.line line ++ (repeated c.times (take p.count (drop from.line line)) ++ drop (from.line + p.count * c.times) line))
    line
line_by p from line (Err m) = line

unfoldable pub counted_line : {M : Type 0} → List ℕ → Result Piece M → Place → List ℕ → List ℕ
counted_line t (Ok p) from line = line_by p from line (count_at t p.at)
counted_line t (Err e) from line = line
