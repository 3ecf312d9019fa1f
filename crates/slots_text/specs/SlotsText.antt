-- What `slots` prints for a ticket: the least slots of document 02, L10. Assumes nothing.
use Rattle.std.specs.Prelude.{List, [], ◌∷◌, ◌++◌, ℕ}
use Rattle.std.proofs.Math.Option.{Option, none, some}
use Rattle.bits.specs.Reading.{Answer, given, refused}
use Rattle.model.specs.Ticket.{ticket_of}
use Rattle.model.specs.Text.{text}
use Rattle.model.specs.Calls.{references_of}
use Rattle.slot_counts.specs.Slots.{SlotsFound, slots_answer}
use Rattle.texts.specs.Texts.{line_end, refusal_line}

-- The text of `slots` for a ticket, a disk and the wanted rounds: document 02, L10, the least slot count or none, or why there is neither.
unfoldable pub slots_line : Answer (Option SlotsFound) → List ℕ
unfolding line_end refusal_line
slots_line (given (some f)) = text "slots" ++ line_end f.slots
slots_line (given none) = text "none" ++ 10 ∷ []
slots_line (refused n) = refusal_line n

unfoldable pub slots_printed : List ℕ → ℕ → ℕ → List ℕ
unfolding slots_line ticket_of slots_answer
slots_printed t d wanted = slots_line (slots_answer t (references_of (ticket_of t)) d wanted 40962)
