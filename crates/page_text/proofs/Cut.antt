-- What `page` prints for the first 3,091 bytes of an input is what it prints for the input. Assumes nothing.
use mathlib.Core.Path.{◌≡◌, ap}
use mathlib.Core.List.{List}
use Prim.Native.Nat.{ℕ}
use lib.ListN.{take}
use Rattle.bits.specs.Reading.{Answer}
use Rattle.model.specs.Job.{Job}
use Rattle.model.specs.Calls.{stop_at, job_up_to, references_of, page_answer, page_for}
use Rattle.ticket.proofs.Cut.{cut_ticket}
use Rattle.page_text.specs.PageText.{page_lines, page_printed}

pub cut_page : (room : ℕ) (t : List ℕ) → page_printed room (take 3091 t) ≡ page_printed room t
unfolding page_printed page_answer job_up_to
cut_page room t = ap (λ (a : Answer Job). page_lines (page_for 40962 40962 room (stop_at (references_of a) a))) (cut_ticket t)
