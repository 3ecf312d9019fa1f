-- The text of what a call for the least slots returns. Assumes nothing.
use Rattle.std.specs.Prelude.{List, [], ◌∷◌, ◌++◌, ℕ, ◌<◌, Option, None, Some, Result, Ok, Err}
use Rattle.refusal.specs.Refusals.{number}
use Rattle.refusal.specs.declared.Refusal.{Refusal}
use Rattle.model.specs.Text.{text}
use Rattle.returning.specs.declared.LeastSlots.{LeastSlots}
use Rattle.texts.specs.Texts.{line_end, refusal_line}

-- The line of a slot count, of none, and of a refusal.
unfoldable pub least_text : Result (Option LeastSlots) Refusal → List ℕ
unfolding refusal_line line_end text
least_text (Ok (Some least)) = text "slots" ++ line_end least.slots
least_text (Ok None) = text "none" ++ 10 ∷ []
least_text (Err refusal) = refusal_line (number refusal)

-- The count of a call is as document 02 bounds it.
abbrev pub Few : Result (Option LeastSlots) Refusal → Type 0
Few (Ok (Some least)) = least.slots < 65
Few (Ok None) = Unit {0}
Few (Err refusal) = Unit {0}
