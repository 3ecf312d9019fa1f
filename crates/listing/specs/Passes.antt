-- What the program `passes` prints (request L6). Its input is a note, of which one line feed at the end is no part; its output is the block numbers,
-- separated by spaces and ended by a line feed, or `refused` and the number. Assumes nothing.
use Rattle.std.specs.Prelude.{cond, List, [], ◌∷◌, ◌++◌, ℕ, ◌-◌, ◌≤◌, ◌<◌, eqb, length, take, get_or}
use Rattle.bits.specs.Reading.{Answer, given, refused}
use Rattle.model.specs.Text.{decimal}
use Rattle.grammar.specs.Reading.{note_answer}
use Rattle.texts.specs.Texts.{refusal_line}

-- One line feed at the end of the input is no part of the note: how many bytes are, and these.
abbrev pub note_length : List ℕ → ℕ
note_length input = cond (eqb (get_or input (length input - 1) 0) 10) (length input - 1) (length input)

unfoldable pub note_in : List ℕ → List ℕ
note_in input = take (note_length input) input

-- The block numbers, separated by spaces,
unfoldable pub spaced : List ℕ → List ℕ
unfolding decimal
spaced [] = []
spaced (b ∷ []) = decimal b
spaced (b ∷ c ∷ more) = decimal b ++ 32 ∷ spaced (c ∷ more)

-- and ended by a line feed.
unfoldable pub passes_line : List ℕ → List ℕ
unfolding spaced
passes_line blocks = spaced blocks ++ 10 ∷ []

-- What is put there is a string that a call gives: at most 2,048 blocks, each of at most 511.
pub record Blocks (blocks : List ℕ) : Type 0 where
  pub few : length blocks ≤ 2048
  pub small : (i : ℕ) → i < length blocks → get_or blocks i 0 ≤ 511

-- Document 01: "A refusal prints `refused`, a space and the number."
unfoldable pub passes_lines : Answer (List ℕ) → List ℕ
unfolding passes_line refusal_line
passes_lines (given blocks) = passes_line blocks
passes_lines (refused n) = refusal_line n

-- The text of `passes` for its input: "more than 2048 references" are refused, so a slice of 2,048 entries holds all.
unfoldable pub passes_printed : List ℕ → List ℕ
unfolding note_in passes_lines note_answer
passes_printed input = passes_lines (note_answer (note_in input) 2048)
