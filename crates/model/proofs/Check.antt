-- What a pass by the check says: the ticket up to the stop was read as a sound job, and the sheet as a schedule of that job. Assumes nothing.
use mathlib.Core.Path.{◌≡◌, refl}
use mathlib.Core.List.{List}
use Prim.Native.Nat.{ℕ}
use Rattle.bits.specs.Bits.{bits}
use Rattle.bits.specs.Reading.{Answer, given, refused}
use Rattle.bits.proofs.Bits.{bits_are}
use Rattle.bits.proofs.Reading.{read_all_given, refused-given}
use Rattle.model.specs.Job.{Sound, Job}
use Rattle.model.specs.Playing.{Schedule, start}
use Rattle.model.specs.Sheet.{sheet_reader, schedule_read}
use Rattle.model.specs.Calls.{job_up_to, Counts, counts_of, pass_of, check_for, check_answer}
use Rattle.model.proofs.Stop.{job_sound}
use Rattle.model.proofs.Sheets.{SheetRead, sheet-read}

pub schedule-read : (j : Job) (s : List ℕ) (schedule : Schedule) → schedule_read j s ≡ given schedule → SheetRead j (start j) (bits s) schedule
unfolding schedule_read
schedule-read j s schedule e = read_all_given (sheet_reader j (start j)) s e λ rest r. sheet-read j (start j) (bits s) schedule rest (bits_are s) r

pub record Passed (t : List ℕ) (stop : ℕ) (s : List ℕ) (c : Counts) : Type 0 where
  pub job : Job
  pub ticket : job_up_to t stop ≡ given job
  pub sound : Sound job
  pub schedule : Schedule
  pub read : SheetRead job (start job) (bits s) schedule
  pub counts : counts_of job schedule ≡ c

pub passed : (t : List ℕ) (stop : ℕ) (s : List ℕ) (c : Counts) → check_answer t stop s ≡ given c → Passed t stop s c
unfolding check_answer check_for pass_of
passed t stop s c e = go (job_up_to t stop) refl e
  where
    pass : (j : Job) → job_up_to t stop ≡ given j → (a : Answer Schedule) → schedule_read j s ≡ a → pass_of j a ≡ given c → Passed t stop s c
    pass j q (given schedule) r p = record {
      job = j;
      ticket = q;
      sound = job_sound t stop j q;
      schedule = schedule;
      read = schedule-read j s schedule r;
      counts = cc;
    }
    pass j q (refused n) r p = refused-given p

    go : (a : Answer Job) → job_up_to t stop ≡ a → check_for s a ≡ given c → Passed t stop s c
    go (given j) q p = pass j q (schedule_read j s) refl p
    go (refused n) q p = refused-given p
