-- What `plan` prints for a ticket. Document 01: "One program reads a ticket from standard input, plans it into two buffers that each hold the longest
-- sheet, and prints the result", with the lines that "Jobs worked through" gives for F. Assumes nothing.
use Rattle.std.specs.Prelude.{List, [], ◌++◌, ℕ, zero, suc}
use Rattle.bits.specs.Reading.{Answer, given, refused}
use Rattle.model.specs.Job.{Job, disk_count}
use Rattle.model.specs.Ticket.{ticket_of}
use Rattle.model.specs.Text.{text, decimal}
use Rattle.model.specs.Calls.{references_of, fetches_on, Mark, is_short, is_sparing, Planned, handed_counts, plan_answer}
use Rattle.texts.specs.Texts.{line_end, refusal_line}

abbrev pub mark_word : Mark → List ℕ
mark_word is_short = text "short"
mark_word is_sparing = text "sparing"

-- "then each disk with its fetches in that plan": the lines of the first k disks
unfoldable pub disk_lines : (ℕ → ℕ) → ℕ → List ℕ
unfolding decimal line_end
disk_lines fetches zero = []
disk_lines fetches (suc k) = disk_lines fetches k ++ (decimal k ++ line_end (fetches k))

-- "mark and rounds of the chosen plan, then each disk with its fetches in that plan"
unfoldable pub lines_of : ℕ → Answer Planned → List ℕ
unfolding line_end disk_lines refusal_line
lines_of disks (given p) = mark_word p.mark ++ (line_end (handed_counts p).rounds ++ disk_lines (fetches_on (handed_counts p)) disks)
lines_of disks (refused n) = refusal_line n

-- the disks of the ticket's job
abbrev pub disks_of : Answer Job → ℕ
disks_of (given j) = disk_count j
disks_of (refused n) = 0

-- The text of `plan` for a ticket. "The longest sheet" has 40,962 bytes. L5: "the program's is N", which the ticket says.
unfoldable pub printed : List ℕ → List ℕ
unfolding lines_of ticket_of plan_answer
printed t = lines_of (disks_of (ticket_of t)) (plan_answer t (references_of (ticket_of t)) 40962 40962)
