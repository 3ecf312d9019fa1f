-- Planning for a ticket, with a page and without: what it gives is what it gives for the ticket's job, and demands 2 and 3 hold of it. Assumes
-- nothing.
use mathlib.Core.Path.{◌≡◌, refl, sym, ap, ◌∙◌, subst}
use mathlib.Core.List.{List}
use Prim.Native.Nat.{ℕ}
use lib.ListN.{length}
use Rattle.std.specs.Prelude.{Result, Ok, Err}
use Rattle.job.specs.Meaning.{job_of}
use Rattle.job.specs.declared.Job.{Job as Stored}
use Rattle.bits.specs.Reading.{Answer, given, refused}
use Rattle.model.specs.Job.{Job}
use Rattle.model.specs.Calls.{job_up_to, check_answer, plan_answer, planned_for, page_answer, page_for, plan_given, short_after, sparing_after, page_after, returned, short_counts, sparing_counts}
use Rattle.model.specs.Calls.{Planned as PlanGiven}
use Rattle.model.specs.Calls.{PlannedPage as PageGiven}
use Rattle.model.proofs.Promises.{short_passes, sparing_passes, planned-counts, handed_back, page_exactly, sparing_bound}
use Rattle.model.proofs.Bytes
use Rattle.returning.specs.Returning.{planned_as, planned_page_as}
use Rattle.returning.specs.declared.Planned.{Planned}
use Rattle.returning.specs.declared.PlannedPage.{PlannedPage}
use Rattle.handing.proofs.Rooms.{Gives, gives_refused}
use Rattle.page_planning.proofs.Pages.{GivesPage, gives_page-refused}
use Rattle.ticket.specs.Meaning.{job_read_up_to}
use Rattle.ticket.proofs.Laws.{read-given, read-refused}
use Rattle.refusal.specs.Refusals.{number}
use Rattle.refusal.specs.declared.Refusal.{Refusal}
use Rattle.planner.proofs.Laws.{same-refusal}
use Rattle.planner.specs.Planner.{Promised}

-- Demands 2 and 3, and the bound of L8, hold of what planning gives.
promised_given : (t : List ℕ) (stop a b : ℕ) (p : PlanGiven) → plan_answer t stop a b ≡ given p → Promised t stop (given p)
unfolding Promised short_counts sparing_counts
promised_given t stop a b p e =
    let w = Bytes.planned t stop a b p e in
    let n = planned-counts t stop w.0 a b p w.1 e in
    let h = handed_back t stop a b p e in (
      ap (check_answer t stop) n.2 ∙ short_passes t stop w.0 w.1 ∙ ap given (sym n.0),
      ap (check_answer t stop) n.3 ∙ sparing_passes t stop w.0 w.1 ∙ ap given (sym n.1),
      h.0,
      h.3,
      λ j q. (let m = planned-counts t stop j a b p q e in rw (m.0, m.1) (sparing_bound t stop j q)),
    )

pub promised : (t : List ℕ) (stop a b : ℕ) → Promised t stop (plan_answer t stop a b)
unfolding Promised
promised t stop a b = go (plan_answer t stop a b) refl
  where
    go : (x : Answer PlanGiven) → plan_answer t stop a b ≡ x → Promised t stop x
    go (given p) e = promised_given t stop a b p e
    go (refused n) e = tt

-- They hold of what planning gives with a page.
pub page_promised : (t : List ℕ) (stop a b c : ℕ) → Promised t stop (plan_given (page_answer t stop a b c))
unfolding Promised plan_given
page_promised t stop a b c = go (page_answer t stop a b c) refl
  where
    go : (x : Answer PageGiven) → page_answer t stop a b c ≡ x → Promised t stop (plan_given x)
    go (given p) q = subst (Promised t stop) ((page_exactly t stop a b c p).0 q).2 (promised t stop a b)
    go (refused n) q = tt

-- What planning for a ticket returns, the two buffers after it, and what is promised.
module _ (t : List ℕ) (stop : ℕ) (short sparing : List ℕ) where
  abbrev PlansFor : Result Planned Refusal → List ℕ → List ℕ → Type 0
  PlansFor r short' sparing' =
      let a = plan_answer t stop (length short) (length sparing) in
      (r ≡ planned_as (returned a)) × (short' ≡ short_after a short) × (sparing' ≡ sparing_after a sparing) × Promised t stop a

  -- The answer for a ticket is that for its job.
  gives_ticket : (x : Answer Job) {r : Result Planned Refusal} {short' sparing' : List ℕ} → job_up_to t stop ≡ x
      → Gives (planned_for (length short) (length sparing) x) short sparing r short' sparing' → PlansFor r short' sparing'
  unfolding plan_answer
  gives_ticket x {r} {short'} {sparing'} e g =
      let h = subst (λ (y : Answer Job). Gives (planned_for (length short) (length sparing) y) short sparing r short' sparing') (sym e) g in
      (h.0, h.1, h.2, promised t stop (length short) (length sparing))

  pub plan-refused : {refusal : Refusal} → job_read_up_to t stop ≡ Err refusal → {r : Result Planned Refusal} → r ≡ Err refusal → PlansFor r short sparing
  unfolding planned_for
  plan-refused {refusal} e {r} q =
      gives_ticket (refused (number refusal)) (read-refused t stop e) (gives_refused _ short sparing r (number refusal) refl (same-refusal q))

  -- part by part,
  pub plan_stops : {refusal : Refusal} → job_read_up_to t stop ≡ Err refusal → planned_as (returned (plan_answer t stop (length short) (length sparing))) ≡ Err refusal
  plan_stops e = sym (plan-refused e refl).0

  pub short_stops : {refusal : Refusal} → job_read_up_to t stop ≡ Err refusal → short_after (plan_answer t stop (length short) (length sparing)) short ≡ short
  short_stops e = sym (plan-refused e refl).1

  pub sparing_stops : {refusal : Refusal} → job_read_up_to t stop ≡ Err refusal → sparing_after (plan_answer t stop (length short) (length sparing)) sparing ≡ sparing
  sparing_stops e = sym (plan-refused e refl).2

  pub plan-given : {c : Stored} → job_read_up_to t stop ≡ Ok c → {r : Result Planned Refusal} {short' sparing' : List ℕ}
      → Gives (planned_for (length short) (length sparing) (given (job_of c))) short sparing r short' sparing' → PlansFor r short' sparing'
  plan-given e g = gives_ticket _ (read-given t stop e) g

  -- and with a page, likewise
  module _ (page : List ℕ) where
    abbrev PagesFor : Result PlannedPage Refusal → List ℕ → List ℕ → List ℕ → Type 0
    PagesFor r short' sparing' page' =
        let a = page_answer t stop (length short) (length sparing) (length page) in
        (r ≡ planned_page_as a) × (short' ≡ short_after (plan_given a) short) × (sparing' ≡ sparing_after (plan_given a) sparing)
        × (page' ≡ page_after a page) × Promised t stop (plan_given a)

    gives_page_ticket : (x : Answer Job) {r : Result PlannedPage Refusal} {short' sparing' page' : List ℕ} → job_up_to t stop ≡ x
        → GivesPage (page_for (length short) (length sparing) (length page) x) short sparing page r short' sparing' page' → PagesFor r short' sparing' page'
    unfolding page_answer
    gives_page_ticket x {r} {short'} {sparing'} {page'} e g =
        let h = subst (λ (y : Answer Job). GivesPage (page_for (length short) (length sparing) (length page) y) short sparing page r short' sparing' page') (sym e) g in
        (h.0, h.1, h.2, h.3, page_promised t stop (length short) (length sparing) (length page))

    pub page-refused : {refusal : Refusal} → job_read_up_to t stop ≡ Err refusal → {r : Result PlannedPage Refusal} → r ≡ Err refusal → PagesFor r short sparing page
    unfolding page_for
    page-refused {refusal} e {r} q =
        gives_page_ticket (refused (number refusal)) (read-refused t stop e) (gives_page-refused _ short sparing page r (number refusal) refl (same-refusal q))

    abbrev answer : Answer PageGiven
    answer = page_answer t stop (length short) (length sparing) (length page)

    -- part by part,
    pub page_stops : {refusal : Refusal} → job_read_up_to t stop ≡ Err refusal → planned_page_as answer ≡ Err refusal
    page_stops e = sym (page-refused e refl).0

    pub page_short_stops : {refusal : Refusal} → job_read_up_to t stop ≡ Err refusal → short_after (plan_given answer) short ≡ short
    page_short_stops e = sym (page-refused e refl).1

    pub page_sparing_stops : {refusal : Refusal} → job_read_up_to t stop ≡ Err refusal → sparing_after (plan_given answer) sparing ≡ sparing
    page_sparing_stops e = sym (page-refused e refl).2

    pub page_page_stops : {refusal : Refusal} → job_read_up_to t stop ≡ Err refusal → page_after answer page ≡ page
    page_page_stops e = sym (page-refused e refl).3

    pub page-given : {c : Stored} → job_read_up_to t stop ≡ Ok c → {r : Result PlannedPage Refusal} {short' sparing' page' : List ℕ}
        → GivesPage (page_for (length short) (length sparing) (length page) (given (job_of c))) short sparing page r short' sparing' page'
        → PagesFor r short' sparing' page'
    page-given e g = gives_page_ticket _ (read-given t stop e) g
