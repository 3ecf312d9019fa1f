-- What `page` prints: with the stop N, what it printed before there were stops; and for K's single byte 00, which is refused with 2. Pages are rows
-- of the table in `model`. Assumes nothing.
use mathlib.Core.Path.{◌≡◌, refl, ap}
use mathlib.Core.List.{List}
use Prim.Native.Nat.{ℕ}
use Rattle.bits.specs.Reading.{bind, ◌>>=◌, ◌>>◌, give, field, refuse_if, many, closing, answer, read_all}
use Rattle.model.specs.Job.{up_to}
use Rattle.model.specs.Ticket.{slots_field, disk_field, ref_field, carried_blocks, carried_field, carried_fields, ticket_reader, ticket_of}
use Rattle.model.specs.Calls.{stop_at, job_up_to, page_for}
use Rattle.model.proofs.Rows.{hex}
use Rattle.model.proofs.Promises.{whole-page}
use Rattle.page_text.specs.PageText.{page_lines, page_printed}

-- L5: "A stop equal to N is the old call": the page of all references of the ticket
pub page-whole : (room : ℕ) (t : List ℕ) → page_printed room t ≡ page_lines (page_for 40962 40962 room (ticket_of t))
unfolding page_printed
page-whole room t = ap page_lines (whole-page t 40962 40962 room)

pub page_K : page_printed 278613 (hex 1 0x00) ≡ hex 10 0x7265667573656420320a
unfolding page_printed hex ◌>>=◌ ◌>>◌ bind give field refuse_if many closing answer read_all stop_at up_to job_up_to slots_field disk_field ref_field carried_blocks carried_field carried_fields ticket_reader ticket_of
page_K = refl
