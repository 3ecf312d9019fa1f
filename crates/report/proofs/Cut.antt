-- What `plan` prints for the first 3,091 bytes of an input is what it prints for the input. Assumes nothing.
use mathlib.Core.Path.{◌≡◌, ap}
use mathlib.Core.List.{List}
use Prim.Native.Nat.{ℕ}
use lib.ListN.{take}
use Rattle.bits.specs.Reading.{Answer}
use Rattle.model.specs.Job.{Job}
use Rattle.model.specs.Calls.{stop_at, job_up_to, references_of, plan_answer, planned_for}
use Rattle.ticket.proofs.Cut.{cut_ticket}
use Rattle.report.specs.Report.{lines_of, disks_of, printed}

pub cut_printed : (t : List ℕ) → printed (take 3091 t) ≡ printed t
unfolding printed plan_answer job_up_to
cut_printed t = ap (λ (a : Answer Job). lines_of (disks_of a) (planned_for 40962 40962 (stop_at (references_of a) a))) (cut_ticket t)
