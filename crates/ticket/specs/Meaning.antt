-- What reading a ticket gives, and reading it up to a stop. Assumes nothing.
use Rattle.std.specs.Prelude.{cond, Result, Ok, Err, List, ℕ, ltb, replicate}
use Rattle.refusal.specs.declared.Refusal.{Refusal}
use Rattle.refusal.specs.declared.Refusal.TheVariants.{Stop}
use Rattle.refusal.specs.Refusals.{refusal_of}
use Rattle.bits.specs.Reading.{Answer, given, refused}
use Rattle.model.specs.Job.{Job, ref_count}
use Rattle.model.specs.Ticket.{ticket_of}
use Rattle.job.specs.Meaning.{stored, counting}
use Rattle.job.specs.declared.Job.{Job as Stored}

-- The value of an answer: the job, or the refusal.
unfoldable pub answer_of : Answer Job → Result Stored Refusal
unfolding stored
answer_of (given j) = Ok (stored j)
answer_of (refused n) = Err (refusal_of n)

-- A ticket, read.
unfoldable pub ticket_read : List ℕ → Result Stored Refusal
unfolding answer_of
ticket_read t = answer_of (ticket_of t)

-- A job of zeros.
abbrev pub no_job : Stored
no_job = record {
  disks = 0;
  slots = replicate 8 0;
  blocks = 0;
  disk = replicate 512 0;
  count = 0;
  refs = replicate 2048 0;
  held = replicate 8 0;
  carried = replicate 512 0;
}

-- What a ticket is read as by a call that fills a job, or refuses.
abbrev pub filled : Result Unit Refusal → Stored → Result Stored Refusal
filled (Ok done) c = Ok c
filled (Err r) c = Err r

-- The value of an answer up to a stop: the job with the stop as its count, or the refusal. L5: "21, the stop is above N, tested after 8".
unfoldable pub answer_up_to : ℕ → Answer Job → Result Stored Refusal
unfolding stored counting
answer_up_to stop (given j) = cond (ltb (ref_count j) stop) (Err Stop) (Ok (counting stop (stored j)))
answer_up_to stop (refused n) = Err (refusal_of n)

-- A ticket, read up to a stop.
unfoldable pub job_read_up_to : List ℕ → ℕ → Result Stored Refusal
unfolding answer_up_to
job_read_up_to t stop = answer_up_to stop (ticket_of t)
