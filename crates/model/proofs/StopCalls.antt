-- Request L5: the four calls with a stop. Assumes nothing.
use mathlib.Core.Path.{◌≡◌, refl, sym, ap, ◌∙◌, subst}
use mathlib.Core.Logic.{◌↔◌, inr, ⊎_elim}
use mathlib.Core.Bool.{true}
use mathlib.Core.List.{List}
use Prim.Native.Nat.{ℕ, ◌≤◌, ◌<◌}
use native.Mathlib.Omega.{arith}
use Rattle.bits.specs.Reading.{given, refused}
use Rattle.bits.proofs.Logic.{clash}
use Rattle.model.specs.Job.{Job, ref_count}
use Rattle.model.specs.Ticket.{ticket_of}
use Rattle.model.specs.Playing.{Schedule, start, play}
use Rattle.model.specs.Plans.{each}
use Rattle.model.specs.Valid.{ValidSheet}
use Rattle.model.specs.Calls.{job_up_to, references_of, Counts, planned_for, plan_answer, page_for, page_answer, check_for, check_answer, chosen_from, choose_answer, ticket_numbers, sheet_numbers, room_numbers, among}
use Rattle.model.proofs.Stop.{stop-count, stop-consumed, stops_exactly, stop_refusals, whole_job}
use Rattle.model.proofs.Check.{passed}
use Rattle.model.proofs.Validity.{read-valid}
use Rattle.model.proofs.Numbers.{ticket_number, check_parts, plan_parts}
use Rattle.model.proofs.PageCall.{page-refusals}
use Rattle.model.proofs.TwoSheets.{first-refused, choose_fails}

-- "A stop equal to N is the old call": each call is that of the ticket's own job, as without a stop.

module _ (t : List ℕ) where
  abbrev whole : ℕ
  whole = references_of (ticket_of t)

  pub whole_plan : (room₁ room₂ : ℕ) → plan_answer t whole room₁ room₂ ≡ planned_for room₁ room₂ (ticket_of t)
  unfolding plan_answer
  whole_plan room₁ room₂ = ap (planned_for room₁ room₂) (whole_job t)

  pub whole-page : (room₁ room₂ room₃ : ℕ) → page_answer t whole room₁ room₂ room₃ ≡ page_for room₁ room₂ room₃ (ticket_of t)
  unfolding page_answer
  whole-page room₁ room₂ room₃ = ap (page_for room₁ room₂ room₃) (whole_job t)

  pub whole_check : (s : List ℕ) → check_answer t whole s ≡ check_for s (ticket_of t)
  unfolding check_answer
  whole_check s = ap (check_for s) (whole_job t)

  pub whole_choice : (first second : List ℕ) → choose_answer t whole first second ≡ chosen_from first second (check_for first (ticket_of t)) (check_for second (ticket_of t))
  unfolding choose_answer
  whole_choice first second = λ i. chosen_from first second (whole_check first i) (whole_check second i)

-- A refusal of the ticket or of the stop comes before all others.

module _ (t : List ℕ) (stop n : ℕ) (e : job_up_to t stop ≡ refused n) where
  pub plan_stops : (room₁ room₂ : ℕ) → plan_answer t stop room₁ room₂ ≡ refused n
  unfolding plan_answer planned_for
  plan_stops room₁ room₂ = ap (planned_for room₁ room₂) e

  pub page-stops : (room₁ room₂ room₃ : ℕ) → page_answer t stop room₁ room₂ room₃ ≡ refused n
  unfolding page_answer page_for
  page-stops room₁ room₂ room₃ = ap (page_for room₁ room₂ room₃) e

  pub check_stops : (s : List ℕ) → check_answer t stop s ≡ refused n
  unfolding check_answer check_for
  check_stops s = ap (check_for s) e

  pub choose_stops : (first second : List ℕ) → choose_answer t stop first second ≡ refused n
  choose_stops first second = first-refused t stop first second n (check_stops first)

-- So each call is refused with 21 exactly if the ticket is accepted and the stop is above N, whatever the sheets and the rooms.

module _ (t : List ℕ) (stop : ℕ) where
  abbrev Above : Type 0
  Above = (j : Job) × (ticket_of t ≡ given j) × (ref_count j < stop)

  above_refused : Above → job_up_to t stop ≡ refused 21
  above_refused h = (stop_refusals t stop 21).1 (inr (refl, h.0, h.1, h.2))

  no-ticket : among 21 ticket_numbers ≡ true → Above
  unfolding among each
  no-ticket h = clash h refl

  refused_above : job_up_to t stop ≡ refused 21 → Above
  refused_above e = ⊎_elim (λ h. no-ticket (ticket_number t 21 h)) (λ h. (h.1, h.2, h.3)) ((stop_refusals t stop 21).0 e)

  no_room : among 21 room_numbers ≡ true → Above
  unfolding among
  no_room h = clash h refl

  no_sheet : among 21 sheet_numbers ≡ true → Above
  unfolding among each
  no_sheet h = clash h refl

  pub plan_above : (room₁ room₂ : ℕ) → (plan_answer t stop room₁ room₂ ≡ refused 21) ↔ Above
  plan_above room₁ room₂ =
      (λ e. ⊎_elim refused_above no_room (plan_parts t stop room₁ room₂ 21 e), λ h. plan_stops t stop 21 (above_refused h) room₁ room₂)

  pub page_above : (room₁ room₂ room₃ : ℕ) → (page_answer t stop room₁ room₂ room₃ ≡ refused 21) ↔ Above
  page_above room₁ room₂ room₃ = (
    λ e. ⊎_elim (plan_above room₁ room₂).0 (λ h. (let z = h.0 in absurd (omega (arith, z)))) ((page-refusals t stop room₁ room₂ room₃ 21).0 e),
    λ h. page-stops t stop 21 (above_refused h) room₁ room₂ room₃,
  )

  pub check_above : (s : List ℕ) → (check_answer t stop s ≡ refused 21) ↔ Above
  check_above s = (λ e. ⊎_elim refused_above no_sheet (check_parts t stop s 21 e), λ h. check_stops t stop 21 (above_refused h) s)

  pub choose_above : (first second : List ℕ) → (choose_answer t stop first second ≡ refused 21) ↔ Above
  choose_above first second = (
    λ e. (let f = choose_fails t stop first second 21 e in (check_above f.0).0 f.1),
    λ h. choose_stops t stop 21 (above_refused h) first second,
  )

-- A sheet that passes consumes every reference before the stop, and none else.
pub stop_reached : (t : List ℕ) (stop : ℕ) (s : List ℕ) (c : Counts) → check_answer t stop s ≡ given c
    → (k : Job) × (schedule : Schedule) × (job_up_to t stop ≡ given k) × ValidSheet k s schedule × ((play k (start k) schedule).next ≡ stop)
stop_reached t stop s c e =
    let p = passed t stop s c e in
    let w = (stops_exactly t stop p.job).0 p.ticket in
    let count : ref_count p.job ≡ stop = ap ref_count (sym w.3) ∙ stop-count stop w.0 w.2 in
    let most = subst (λ (k : Job). (play k (start k) p.schedule).next ≤ stop) w.3 (stop-consumed stop w.0 p.schedule) in
    let all = p.read.finished in
    (p.job, p.schedule, p.ticket, read-valid p.job p.sound s p.schedule p.read, omega (arith, count, most, all))
