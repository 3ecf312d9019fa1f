-- Demand 1, for the call of request L10: each of its numbers is given for some bytes, and what it returns and writes where it gives no count. Assumes
-- nothing.
use mathlib.Core.Path.{◌≡◌, refl}
use mathlib.Core.Logic.{◌↔◌, inl}
use mathlib.Core.Bool.{true}
use mathlib.Core.List.{List, []}
use mathlib.Core.Option.{none, some}
use Prim.Native.Nat.{ℕ}
use Rattle.bits.specs.Bits.{over}
use Rattle.bits.specs.Reading.{given, refused, bind, ◌>>=◌, ◌>>◌, give, field, refuse_if, many, is_closed, closing, answer, read_all}
use Rattle.model.specs.Job.{up_to}
use Rattle.model.specs.Ticket.{slots_field, disk_field, ref_field, carried_blocks, carried_field, carried_fields, ticket_reader, ticket_of}
use Rattle.model.specs.Playing.{none_resident, load}
use Rattle.model.specs.Plans.{each}
use Rattle.model.specs.Calls.{stop_at, job_up_to, AllZero, written, among}
use Rattle.model.proofs.Rows.{hex}
use Rattle.model.proofs.Refusals.{All, end, ◌⊳◌, all_among, all_then, jobs, all-zero}
use Rattle.slot_counts.specs.Slots.{with_sheet, slots_answer, slots_after, returned_slots, slots_part, slots_refusals}
use Rattle.slot_counts.proofs.Calls.{slots-refusals, slots-number}

abbrev SlotsRefused : ℕ → Type 0
SlotsRefused n = (t : List ℕ) × (stop : ℕ) × (d : ℕ) × (wanted : ℕ) × (room : ℕ) × (slots_answer t stop d wanted room ≡ refused n)

-- where the ticket or the stop is refused, whatever the disk and the rounds; and A's disk 1, and a sheet of 3 bytes in 2
least : All SlotsRefused slots_refusals
unfolding each hex slots_answer ◌>>=◌ ◌>>◌ bind give field refuse_if many is_closed closing answer read_all stop_at up_to job_up_to slots_field disk_field ref_field carried_blocks carried_field carried_fields ticket_reader ticket_of load none_resident with_sheet
least =
    all_then (λ n w. (w.0, w.1, 0, 0, 0, (slots-refusals w.0 w.1 0 0 0 n).1 (inl w.2))) jobs
    ((hex 7 0x10200800100000, 1, 1, 1, 3, refl) ⊳ (hex 7 0x10200800100000, 1, 0, 1, 2, refl) ⊳ end)

pub slots-numbers : (n : ℕ) → (among n slots_refusals ≡ true) ↔ SlotsRefused n
slots-numbers n = (all_among least n, λ w. slots-number w.0 w.1 w.2 w.3 w.4 n w.5)

pub slots-refused : (n : ℕ) (lent : List ℕ)
    → (let r = returned_slots (refused n) in (r.number ≡ n) × (r.slots ≡ none) × (r.sheet_length ≡ 0) × AllZero r.counts)
    × (slots_part (refused n) lent ≡ [])
    × (slots_after (refused n) lent ≡ lent)
unfolding returned_slots slots_part written
slots-refused n lent = ((refl, refl, refl, all-zero), refl, refl)

-- the answer none, which writes nothing either
pub none_written : (lent : List ℕ)
    → (let r = returned_slots (given none) in (r.number ≡ 0) × (r.slots ≡ some none) × (r.sheet_length ≡ 0) × AllZero r.counts)
    × (slots_part (given none) lent ≡ [])
    × (slots_after (given none) lent ≡ lent)
unfolding returned_slots slots_part written over
none_written lent = ((refl, refl, refl, all-zero), refl, refl)
