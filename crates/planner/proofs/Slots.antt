-- The least slots for a ticket: what it gives is what it gives for the ticket's job, and the promise of request L10 holds of it. Assumes nothing.
use mathlib.Core.Path.{◌≡◌, refl, sym, ap, ◌∙◌}
use mathlib.Core.List.{List}
use mathlib.Core.Option.{none, some}
use mathlib.Core.Option.{Option as OptionGiven}
use Rattle.std.specs.Prelude.{Option, Result, Ok, Err}
use Prim.Native.Nat.{ℕ, ◌≤◌, ◌<◌}
use lib.ListN.{length}
use native.Mathlib.Omega.{arith}
use borrow.Author.Tests.{le-leb, lt-leb}
use Rattle.job.specs.Meaning.{job_of}
use Rattle.job.specs.declared.Job.{Job as Stored}
use Rattle.job.proofs.Laws.{disks_are}
use Rattle.ticket.specs.Meaning.{job_read_up_to}
use Rattle.ticket.proofs.Laws.{read-given, read_fits, read-refused}
use Rattle.refusal.specs.Refusals.{number, refusal_of}
use Rattle.refusal.specs.declared.Refusal.{Refusal}
use Rattle.refusal.specs.declared.Refusal.TheVariants.{SlotsDisk}
use Rattle.planner.proofs.Laws.{same-refusal}
use Rattle.bits.specs.Reading.{Answer, given, refused}
use Rattle.model.specs.Job.{disk_count}
use Rattle.model.specs.Calls.{written}
use Rattle.slot_counts.specs.Slots.{least_slots, SlotsFound, with_sheet, slots_for, slots_answer, slots_after, returned_slots}
use Rattle.slot_counts.proofs.Promises.{slots-none, slots-given}
use Rattle.returning.specs.Returning.{least_as}
use Rattle.returning.specs.declared.LeastSlots.{LeastSlots}
use Rattle.planner.specs.Planner.{LeastGiven}

-- The promise holds of what the call gives.
pub least_promised : (t : List ℕ) (stop d wanted room : ℕ) → LeastGiven t stop d wanted (slots_answer t stop d wanted room)
unfolding LeastGiven
least_promised t stop d wanted room = go (slots_answer t stop d wanted room) refl
  where
    go : (x : Answer (OptionGiven SlotsFound)) → slots_answer t stop d wanted room ≡ x → LeastGiven t stop d wanted x
    go (given (some f)) e = let w = slots-given t stop d wanted room f e in (w.0, w.1.0, w.1.1, w.1.2, w.1.3)
    go (given none) e = let w = (slots-none t stop d wanted room).0 e in (w.0, w.1.0, w.2)
    go (refused n) e = tt

-- What the call returns, and the buffer after it.
module _ (t : List ℕ) (stop d wanted : ℕ) (lent : List ℕ) where
  abbrev Given : Result (Option LeastSlots) Refusal → List ℕ → Type 0
  Given r after =
      let a = slots_answer t stop d wanted (length lent) in
      (r ≡ least_as (returned_slots a)) × (after ≡ slots_after a lent) × LeastGiven t stop d wanted a

  gives : (a : Answer (OptionGiven SlotsFound)) {r : Result (Option LeastSlots) Refusal} {after : List ℕ} → slots_answer t stop d wanted (length lent) ≡ a
      → r ≡ least_as (returned_slots a) → after ≡ slots_after a lent → Given r after
  gives a e p q = (
    p ∙ ap (λ (x : Answer (OptionGiven SlotsFound)). least_as (returned_slots x)) (sym e),
    q ∙ ap (λ (x : Answer (OptionGiven SlotsFound)). slots_after x lent) (sym e),
    least_promised t stop d wanted (length lent),
  )

  stops : (n : ℕ) {r : Result (Option LeastSlots) Refusal} → slots_answer t stop d wanted (length lent) ≡ refused n → r ≡ Err (refusal_of n) → Given r lent
  unfolding least_as returned_slots written
  stops n e p = gives (refused n) e p refl

  -- the ticket or the stop is refused,
  pub slots_ticket : {refusal : Refusal} → job_read_up_to t stop ≡ Err refusal → {r : Result (Option LeastSlots) Refusal} → r ≡ Err refusal → Given r lent
  unfolding slots_answer slots_for
  slots_ticket {refusal} e q = stops (number refusal) (ap (slots_for d wanted (length lent)) (read-refused t stop e)) (same-refusal q)

  -- part by part,
  pub slots_stops : {refusal : Refusal} → job_read_up_to t stop ≡ Err refusal → least_as (returned_slots (slots_answer t stop d wanted (length lent))) ≡ Err refusal
  slots_stops e = sym (slots_ticket e refl).0

  pub lent_stops : {refusal : Refusal} → job_read_up_to t stop ≡ Err refusal → slots_after (slots_answer t stop d wanted (length lent)) lent ≡ lent
  lent_stops e = sym (slots_ticket e refl).1

  module _ {c : Stored} (e : job_read_up_to t stop ≡ Ok c) where
    slots_is : slots_answer t stop d wanted (length lent) ≡ slots_for d wanted (length lent) (given (job_of c))
    unfolding slots_answer
    slots_is = ap (slots_for d wanted (length lent)) (read-given t stop e)

    disks : disk_count (job_of c) ≡ c.disks
    disks = disks_are c (read_fits t stop e)

    -- the disk is not in the ticket,
    pub slots_no_disk : c.disks ≤ d → Given (Err SlotsDisk) lent
    unfolding slots_for refusal_of
    slots_no_disk l = stops 27 (slots_is ∙ rw (le-leb (disk_count (job_of c)) d (let k = disks in omega (arith, k, l)), slots_for) refl) refl

    -- or it is.
    pub slots_sought : {r : Result (Option LeastSlots) Refusal} {after : List ℕ} → d < c.disks
        → (let a = with_sheet (length lent) d (job_of c) (least_slots (job_of c) d wanted) in (r ≡ least_as (returned_slots a)) × (after ≡ slots_after a lent))
        → Given r after
    unfolding slots_for
    slots_sought l h =
        gives (with_sheet (length lent) d (job_of c) (least_slots (job_of c) d wanted))
        (slots_is ∙ rw (lt-leb (disk_count (job_of c)) d (let k = disks in omega (arith, k, l)), slots_for) refl) h.0 h.1
