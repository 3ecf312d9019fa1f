-- Request L3, "The check becomes stricter. Fewer sheets pass": which of document 01's sheets still do. Assumes nothing.
use mathlib.Core.Path.{◌≡◌, refl, ap, ◌∙◌, subst}
use mathlib.Core.Bool.{Bool, cond}
use mathlib.Core.List.{List}
use Prim.Native.Nat.{ℕ}
use native.Mathlib.Omega.{arith}
use lib.Dec.{lit<}
use Rattle.bits.specs.Reading.{given, refused, bind, ◌>>=◌, ◌>>◌, give, field, refuse_if, many, is_closed, closing, answer, read_all}
use Rattle.model.specs.Job.{Job, up_to}
use Rattle.model.specs.Ticket.{slots_field, disk_field, ref_field, carried_blocks, carried_field, carried_fields, ticket_reader, ticket_of}
use Rattle.model.specs.Playing.{Schedule, none_resident, start, load, play_round, play}
use Rattle.model.specs.Sheet.{sheet_of}
use Rattle.model.specs.Valid.{LegalAll, LegalSheet}
use Rattle.model.specs.Calls.{stop_at, job_up_to, Counts, counts_of, check_answer}
use Rattle.model.proofs.Rows.{hex}
use Rattle.model.proofs.Jobs.{ticket_two, job_two, replacing}
use Rattle.model.proofs.Answers.{beside_empty}
use Rattle.model.proofs.Stop.{job_sound}
use Rattle.model.proofs.Carried.{ready_start}
use Rattle.model.proofs.Sheets.{RoomAll, Allowed}
use Rattle.model.proofs.Validity.{allowed-valid}
use Rattle.model.proofs.Bytes.{passes_valid, legal-answer, legal-sheet}

-- What passes is one of document 01's sheets, with the same counts.
pub pass_is_legal : (t : List ℕ) (stop : ℕ) (s : List ℕ) (c : Counts) → check_answer t stop s ≡ given c
    → (j : Job) × (schedule : Schedule) × (job_up_to t stop ≡ given j) × LegalSheet j s schedule × (counts_of j schedule ≡ c)
pass_is_legal t stop s c e = let v = passes_valid t stop s c e in (v.0, v.1, v.2, v.3.legal, v.4)

-- One that does not pass: with two slots, block 1 replaces block 0 beside the empty slot. It is a row of the table in `Answers`.

accepted : job_up_to ticket_two 2 ≡ given job_two
unfolding hex job_up_to stop_at up_to ticket_of ticket_reader slots_field disk_field ref_field carried_blocks carried_field carried_fields ◌>>=◌ ◌>>◌ bind give field refuse_if many is_closed closing answer read_all
accepted = refl

allowed : Allowed job_two (start job_two) replacing
unfolding Allowed LegalAll RoomAll start none_resident load play_round
allowed = (
  refl,
  (record { known = lit< tt; on_disk = refl; mark = refl }, tt),
  (lit< tt, tt),
  (
    refl,
    ((record { known = lit< tt; on_disk = refl; mark = refl }, record { known = lit< tt; on_disk = refl; mark = refl }), tt),
    (tt, tt),
    tt,
  ),
)

legal : LegalSheet job_two (sheet_of replacing) replacing
unfolding play start none_resident
legal =
    legal-sheet job_two replacing (omega arith)
    (allowed-valid job_two (start job_two) replacing (ready_start job_two (job_sound ticket_two 2 job_two accepted)) allowed (omega arith))

written : sheet_of replacing ≡ hex 6 0x00280100c000
unfolding sheet_of hex
written = refl

pub legal-refused : (t : List ℕ) × (stop : ℕ) × (s : List ℕ) × (j : Job) × (schedule : Schedule) × (job_up_to t stop ≡ given j) × LegalSheet j s schedule × (check_answer t stop s ≡ refused 20)
legal-refused =
    let s = hex 6 0x00280100c000 in
    let sheet = subst (λ (l : List ℕ). LegalSheet job_two l replacing) written legal in (
      ticket_two,
      2,
      s,
      job_two,
      replacing,
      accepted,
      sheet,
      legal-answer ticket_two 2 s job_two replacing accepted sheet ∙ ap (λ (full : Bool). cond full (given (counts_of job_two replacing)) (refused 20)) beside_empty,
    )
