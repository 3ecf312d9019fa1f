-- Text put into a lent slice, and the texts that every program prints. Assumes nothing.
use Rattle.std.specs.Prelude.{◌≡◌, List, [], ◌∷◌, ◌++◌, ℕ, ◌+◌, length}
use Rattle.bits.specs.Fields.{laid_at}
use Rattle.model.specs.Text.{text, decimal}

-- A text written into a slice from the byte `at` on, as far as the slice reaches: the slice before and after it, and the place after the text.
pub record Put (at : ℕ) (text before after : List ℕ) (place : ℕ) : Type 0 where
  pub bytes : after ≡ laid_at at text before
  pub next : place ≡ at + length text

-- Document 01: "a space and the number. Every line ends in a line feed."
unfoldable pub line_end : ℕ → List ℕ
unfolding decimal
line_end n = 32 ∷ (decimal n ++ 10 ∷ [])

-- "A refusal prints `refused`, a space and the number."
unfoldable pub refusal_line : ℕ → List ℕ
unfolding text line_end
refusal_line n = text "refused" ++ line_end n
