-- What `slots` prints for the first 3,091 bytes of an input is what it prints for the input. Assumes nothing.
use mathlib.Core.Path.{◌≡◌, ap}
use mathlib.Core.List.{List}
use Prim.Native.Nat.{ℕ}
use lib.ListN.{take}
use Rattle.bits.specs.Reading.{Answer}
use Rattle.model.specs.Job.{Job}
use Rattle.model.specs.Calls.{stop_at, job_up_to, references_of}
use Rattle.slot_counts.specs.Slots.{slots_for, slots_answer}
use Rattle.ticket.proofs.Cut.{cut_ticket}
use Rattle.slots_text.specs.SlotsText.{slots_line, slots_printed}

pub cut_slots : (t : List ℕ) (d wanted : ℕ) → slots_printed (take 3091 t) d wanted ≡ slots_printed t d wanted
unfolding slots_printed slots_answer job_up_to
cut_slots t d wanted = ap (λ (a : Answer Job). slots_line (slots_for d wanted 40962 (stop_at (references_of a) a))) (cut_ticket t)
