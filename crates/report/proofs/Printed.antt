-- The text of a planning call's value is what is printed for its ticket. Assumes nothing.
use mathlib.Core.Path.{◌≡◌, refl, sym, ap, ◌∙◌, subst}
use mathlib.Core.List.{List, ◌++◌}
use Prim.Native.Nat.{ℕ, ◌≤◌}
use native.Mathlib.Omega.{arith}
use lib.ListN.{length}
use Rattle.std.specs.Prelude.{Result, Ok, Err}
use Rattle.refusal.specs.declared.Refusal.{Refusal}
use Rattle.refusal.specs.Refusals.{number}
use Rattle.refusal.proofs.Numbers.{number-refusal_of}
use Rattle.bits.specs.Bits.{laid}
use Rattle.bits.specs.Reading.{Answer, given, refused}
use Rattle.job.specs.declared.Job.{Job as Stored}
use Rattle.job.proofs.Laws.{disks_are}
use Rattle.model.specs.Job.{Job}
use Rattle.model.specs.Ticket.{ticket_of}
use Rattle.model.specs.Calls.{stop_at, job_up_to, references_of, is_short, is_sparing, Mark, counts_of, short_counts, sparing_counts, fetches_on, chosen, planned_of, planned_for, plan_answer, returned}
use Rattle.model.specs.Calls.{Planned as PlanGiven}
use Rattle.model.proofs.Promises.{short-rounds, sparing-rounds}
use Rattle.model.proofs.Numbers.{plan_within}
use Rattle.model.proofs.Bytes
use Rattle.ticket.specs.Meaning.{ticket_read}
use Rattle.ticket.proofs.Laws.{ticket_job, ticket_refused, references_are}
use Rattle.returning.specs.Returning.{mark_as, counts_as, planned_as}
use Rattle.returning.specs.declared.Planned.{Planned}
use Rattle.texts.specs.Texts.{Put, line_end, refusal_line}
use Rattle.texts.proofs.Laws.{put_laid}
use Rattle.report.specs.Report.{mark_word, disk_lines, lines_of, disks_of, printed}
use Rattle.report.specs.Text.{plan_text, text_by, text_of, Small}

-- the rounds of a call's plans are small
pub small : (t : List ℕ) (stop a b : ℕ) (r : Result Planned Refusal) → r ≡ planned_as (returned (plan_answer t stop a b)) → Small r
unfolding planned_as returned planned_of counts_of short_counts sparing_counts
small t stop a b r e = subst Small (sym e) (go (plan_answer t stop a b) refl)
  where
    go : (x : Answer PlanGiven) → plan_answer t stop a b ≡ x → Small (planned_as (returned x))
    go (given p) q =
        let w = Bytes.planned t stop a b p q in
        subst (λ (x : PlanGiven). Small (planned_as (returned (given x)))) w.2 ((short-rounds t stop w.0 w.1).2, (sparing-rounds t stop w.0 w.1).2)
    go (refused n) q = tt

module _ (t : List ℕ) where
  -- the text of a value is that of the answer which it is
  text_same : (disks stop : ℕ) → text_of (planned_as (returned (plan_answer t stop 40962 40962))) disks ≡ lines_of disks (plan_answer t stop 40962 40962)
  unfolding text_of plan_text planned_as returned lines_of
  text_same disks stop = go (plan_answer t stop 40962 40962) refl
    where
      by_mark : (p : PlanGiven) (m : Mark) → text_by (mark_as m) (record { mark = mark_as m; length = p.part_length; short = counts_as p.short; sparing = counts_as p.sparing }) disks
          ≡ mark_word m ++ (line_end (chosen m p.short p.sparing).rounds ++ disk_lines (fetches_on (chosen m p.short p.sparing)) disks)
      by_mark p is_short = refl
      by_mark p is_sparing = refl

      go : (a : Answer PlanGiven) → plan_answer t stop 40962 40962 ≡ a → text_of (planned_as (returned a)) disks ≡ lines_of disks a
      go (given p) q = by_mark p p.mark
      go (refused n) q = let w = plan_within t stop 40962 40962 n q in ap refusal_line (number-refusal_of n w.0 (omega (arith, w.1)))

  -- what is put of a ticket that is refused is what is printed,
  pub refusal_printed : {r : Refusal} {before after : List ℕ} {n : ℕ} → ticket_read t ≡ Err r → Put 0 (refusal_line (number r)) before after n
      → (after ≡ laid (printed t) before) × (n ≡ length (printed t))
  unfolding printed plan_answer job_up_to stop_at planned_for lines_of
  refusal_printed e =
      put_laid (sym (ap (λ (a : Answer Job). lines_of (disks_of a) (planned_for 40962 40962 (stop_at (references_of a) a))) (ticket_refused t e)))

  module _ {job : Stored} (e : ticket_read t ≡ Ok job) where
    pub disks_few : job.disks ≤ 8
    disks_few = (ticket_job t e).1.few_disks

    -- and so is, after planning with the stop N, what is put of one that is read
    pub plan_printed : {planned : Result Planned Refusal} {before after : List ℕ} {n : ℕ} → planned ≡ planned_as (returned (plan_answer t job.count 40962 40962))
        → Put 0 (text_of planned job.disks) before after n → (after ≡ laid (printed t) before) × (n ≡ length (printed t))
    unfolding printed
    plan_printed q =
        let j = ticket_job t e in
        let disks : job.disks ≡ disks_of (ticket_of t) = sym (disks_are job j.1) ∙ ap disks_of (sym j.0) in
        put_laid
        (ap (λ (x : Result Planned Refusal). text_of x job.disks) q ∙ text_same job.disks job.count
        ∙ (λ i. lines_of (disks i) (plan_answer t (references_are t e i) 40962 40962)))
