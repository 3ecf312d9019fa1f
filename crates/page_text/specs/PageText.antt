-- What `page` prints for a ticket: the page of document 02, L2. Assumes nothing.
use Rattle.std.specs.Prelude.{List, ℕ, length, Result, Ok, Err}
use Rattle.refusal.specs.declared.Refusal.{Refusal}
use Rattle.refusal.specs.Refusals.{refusal_of}
use Rattle.bits.specs.Reading.{Answer, given, refused}
use Rattle.model.specs.Ticket.{ticket_of}
use Rattle.model.specs.Calls.{references_of, PlannedPage, page_answer}
use Rattle.texts.specs.Texts.{refusal_line}

-- The text of `page` for a ticket: its page, in a buffer of `room` bytes, or why there is none.
unfoldable pub page_lines : Answer PlannedPage → List ℕ
unfolding refusal_line
page_lines (given p) = p.page
page_lines (refused n) = refusal_line n

unfoldable pub page_printed : ℕ → List ℕ → List ℕ
unfolding page_lines ticket_of page_answer
page_printed room t = page_lines (page_answer t (references_of (ticket_of t)) 40962 40962 room)

-- The length of a page, or why there is none.
abbrev pub length_as : Answer PlannedPage → Result ℕ Refusal
length_as (given p) = Ok (length p.page)
length_as (refused n) = Err (refusal_of n)
