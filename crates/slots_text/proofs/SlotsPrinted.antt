-- The text of what a call for the least slots returns is what is printed for its ticket. Assumes nothing.
use mathlib.Core.Path.{◌≡◌, refl, sym, ap, ◌∙◌, subst}
use mathlib.Core.List.{List}
use mathlib.Core.Option.{Option, none, some}
use Prim.Native.Nat.{ℕ, ◌≤◌}
use native.Mathlib.Omega.{arith}
use lib.ListN.{length}
use Rattle.std.specs.Prelude.{Result, Ok, Err}
use Rattle.std.specs.Prelude.{Option as Found}
use Rattle.refusal.specs.declared.Refusal.{Refusal}
use Rattle.refusal.proofs.Numbers.{refusal_of-number, number-refusal_of}
use Rattle.bits.specs.Bits.{laid}
use Rattle.bits.specs.Reading.{Answer, given, refused}
use Rattle.model.specs.Ticket.{ticket_of}
use Rattle.job.specs.declared.Job.{Job as Stored}
use Rattle.model.specs.Job.{Job}
use Rattle.model.specs.Calls.{stop_at, job_up_to, references_of}
use Rattle.slot_counts.specs.Slots.{SlotsFound, slots_for, slots_answer, returned_slots}
use Rattle.slot_counts.proofs.Calls.{slots-within, room_most, disk_most, wanted_most}
use Rattle.slot_counts.proofs.Promises.{slots-given}
use Rattle.ticket.specs.Meaning.{ticket_read}
use Rattle.ticket.proofs.Laws.{ticket_refused, references_are}
use Rattle.returning.specs.Returning.{least_as}
use Rattle.returning.specs.declared.LeastSlots.{LeastSlots}
use Rattle.texts.specs.Texts.{Put, refusal_line}
use Rattle.texts.proofs.Laws.{put_laid}
use Rattle.slots_text.specs.SlotsText.{slots_line, slots_printed}
use Rattle.slots_text.specs.Text.{least_text, Few}

module _ (t : List ℕ) (d wanted : ℕ) where
  -- what is given with the stop N
  abbrev answer : Answer (Option SlotsFound)
  answer = slots_answer t (references_of (ticket_of t)) d wanted 40962

  -- of a ticket that is read, whose references are N,
  pub least_read : {job : Stored} {v : Result (Found LeastSlots) Refusal} → ticket_read t ≡ Ok job
      → v ≡ least_as (returned_slots (slots_answer t job.count d wanted 40962)) → v ≡ least_as (returned_slots answer)
  least_read e q = q ∙ ap (λ (n : ℕ). least_as (returned_slots (slots_answer t n d wanted 40962))) (references_are t e)

  -- and of one that is refused
  pub least_refused : {r : Refusal} {v : Result (Found LeastSlots) Refusal} → ticket_read t ≡ Err r → v ≡ Err r → v ≡ least_as (returned_slots answer)
  unfolding slots_answer job_up_to stop_at slots_for least_as returned_slots
  least_refused {r} e g =
      g ∙ ap Err (sym (refusal_of-number r))
      ∙ sym (ap (λ (a : Answer Job). least_as (returned_slots (slots_for d wanted 40962 (stop_at (references_of a) a)))) (ticket_refused t e))

  module _ {r : Result (Found LeastSlots) Refusal} (e : r ≡ least_as (returned_slots answer)) where
    -- the count of a call is small
    pub few : Few r
    unfolding least_as returned_slots
    few = subst Few (sym e) (go answer refl)
      where
        go : (x : Answer (Option SlotsFound)) → answer ≡ x → Few (least_as (returned_slots x))
        go (given (some f)) q = let most = (slots-given t (references_of (ticket_of t)) d wanted 40962 f q).1.1.allowed.few_slots in omega (arith, most)
        go (given none) q = tt
        go (refused n) q = tt

    -- what is put is what is printed
    pub least-printed : {out after : List ℕ} {n : ℕ} → Put 0 (least_text r) out after n
        → (after ≡ laid (slots_printed t d wanted) out) × (n ≡ length (slots_printed t d wanted))
    unfolding slots_printed least_text slots_line least_as returned_slots
    least-printed = put_laid (ap least_text e ∙ go answer refl)
      where
        go : (x : Answer (Option SlotsFound)) → answer ≡ x → least_text (least_as (returned_slots x)) ≡ slots_line x
        go (given (some f)) q = refl
        go (given none) q = refl
        go (refused n) q =
            let w = slots-within t (references_of (ticket_of t)) d wanted 40962 n q in
            ap refusal_line (number-refusal_of n w.0 w.1)

-- The buffer holds every sheet: a larger one changes nothing.
pub large_buffer : (t : List ℕ) (d wanted room : ℕ) → 40962 ≤ room → slots_printed t d wanted ≡ slots_line (slots_answer t (references_of (ticket_of t)) d wanted room)
unfolding slots_printed
large_buffer t d wanted room l = ap slots_line (room_most t (references_of (ticket_of t)) d wanted 40962 room (omega arith) l)

-- No disk that a ticket has not is told from another, and no number of rounds that every plan is within.
pub large_disk : (t : List ℕ) (d e wanted : ℕ) → 8 ≤ d → 8 ≤ e → slots_printed t d wanted ≡ slots_printed t e wanted
unfolding slots_printed
large_disk t d e wanted a b = ap slots_line (disk_most t (references_of (ticket_of t)) 40962 d e wanted a b)

pub large_rounds : (t : List ℕ) (d wanted rounds : ℕ) → 2048 ≤ wanted → 2048 ≤ rounds → slots_printed t d wanted ≡ slots_printed t d rounds
unfolding slots_printed
large_rounds t d wanted rounds a b = ap slots_line (wanted_most t (references_of (ticket_of t)) 40962 d wanted rounds a b)
