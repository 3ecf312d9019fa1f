-- What is left in the buffer of a page is what is printed for its ticket. Assumes nothing.
use mathlib.Core.Path.{◌≡◌, refl, sym, ap, ◌∙◌}
use mathlib.Core.List.{List}
use Prim.Native.Nat.{ℕ, ◌≤◌}
use native.Mathlib.Omega.{arith}
use lib.ListN.{length}
use Rattle.std.specs.Prelude.{Result, Ok, Err}
use Rattle.refusal.specs.declared.Refusal.{Refusal}
use Rattle.refusal.specs.Refusals.{number, refusal_of}
use Rattle.refusal.proofs.Numbers.{refusal_of-number, number-refusal_of}
use Rattle.bits.specs.Bits.{laid}
use Rattle.bits.specs.Fields.{laid_at}
use Rattle.bits.specs.Reading.{Answer, given, refused}
use Rattle.bits.proofs.Fields.{laid-over, length-laid}
use Rattle.job.specs.declared.Job.{Job as Stored}
use Rattle.model.specs.Job.{Job}
use Rattle.model.specs.Ticket.{ticket_of}
use Rattle.model.specs.Text.{text}
use Rattle.model.specs.Plans.{each}
use Rattle.model.specs.Calls.{stop_at, job_up_to, references_of, returned, written, PlannedPage, page_for, page_answer, plan_given, page_length, page_after}
use Rattle.model.proofs.Numbers.{page-within}
use Rattle.model.proofs.Promises.{page_exactly}
use Rattle.ticket.specs.Meaning.{ticket_read}
use Rattle.ticket.proofs.Laws.{ticket_refused, references_are}
use Rattle.returning.specs.Returning.{planned_as, planned_page_as}
use Rattle.returning.specs.declared.PlannedPage.{PlannedPage as PageValue}
use Rattle.texts.specs.Texts.{Put, refusal_line}
use Rattle.texts.proofs.Laws.{end_seven, put_laid}
use Rattle.page_text.specs.PageText.{page_lines, page_printed, length_as}

-- A buffer holds what is printed, and that has n bytes.
abbrev pub Printed : List ℕ → List ℕ → List ℕ → ℕ → Type 0
Printed t out after n = (after ≡ laid (page_printed (length out) t) out) × (n ≡ length (page_printed (length out) t))

module _ (t out : List ℕ) where
  -- what is given with a stop, and with the stop N
  abbrev with_stop : ℕ → Answer PlannedPage
  with_stop stop = page_answer t stop 40962 40962 (length out)

  abbrev answer : Answer PlannedPage
  answer = with_stop (references_of (ticket_of t))

  -- a call's page has the length of what is given,
  length-given : (a : Answer PlannedPage) {v : PageValue} → planned_page_as a ≡ Ok v → Ok v.length ≡ length_as a
  unfolding planned_page_as planned_as returned plan_given page_length
  length-given (given p) {v} e = cc
  length-given (refused n) {v} e = absurd (let z : ◌≡◌ {A = ℕ} 0 1 = cc in omega arith)

  length-refused : (a : Answer PlannedPage) {r : Refusal} → planned_page_as a ≡ Err r → Err r ≡ length_as a
  unfolding planned_page_as planned_as returned plan_given page_length
  length-refused (given p) {r} e = absurd (let z : ◌≡◌ {A = ℕ} 0 1 = cc in omega arith)
  length-refused (refused n) {r} e = cc

  -- with the stop of a ticket that is read, which is N,
  module _ {job : Stored} (read : ticket_read t ≡ Ok job) {value : Result PageValue Refusal} (q : value ≡ planned_page_as (with_stop job.count))
      {after : List ℕ} (ea : after ≡ page_after (with_stop job.count) out) where
    pub page_given : {v : PageValue} → value ≡ Ok v → (Ok v.length ≡ length_as answer) × (after ≡ page_after answer out)
    page_given e =
        let whole = references_are t read in
        (length-given (with_stop job.count) (sym q ∙ e) ∙ ap (λ (n : ℕ). length_as (with_stop n)) whole, ea ∙ ap (λ (n : ℕ). page_after (with_stop n) out) whole)

    pub page-refused : {r : Refusal} {v : Result ℕ Refusal} → value ≡ Err r → v ≡ Err r → (v ≡ length_as answer) × (after ≡ page_after answer out)
    page-refused e g =
        let whole = references_are t read in (
          g ∙ length-refused (with_stop job.count) (sym q ∙ e) ∙ ap (λ (n : ℕ). length_as (with_stop n)) whole,
          ea ∙ ap (λ (n : ℕ). page_after (with_stop n) out) whole,
        )

  -- and of one that is refused
  pub ticket-refused : {r : Refusal} {v : Result ℕ Refusal} → ticket_read t ≡ Err r → v ≡ Err r → (v ≡ length_as answer) × (out ≡ page_after answer out)
  unfolding page_answer job_up_to stop_at page_for written
  ticket-refused {r} e g =
      let q : answer ≡ refused (number r) =
      ap (λ (a : Answer Job). page_for 40962 40962 (length out) (stop_at (references_of a) a)) (ticket_refused t e) in
      (g ∙ ap Err (sym (refusal_of-number r)) ∙ sym (ap length_as q), sym (ap (λ (a : Answer PlannedPage). page_after a out) q))

  module _ {after : List ℕ} (ea : after ≡ page_after answer out) where
    -- a buffer that holds the page holds what is printed,
    pub page-printed : {n : ℕ} → Ok n ≡ length_as answer → Printed t out after n
    unfolding page_printed page_lines written
    page-printed {n} = go answer refl
      where
        go : (x : Answer PlannedPage) → answer ≡ x → Ok n ≡ length_as x → Printed t out after n
        go (given p) q e =
            let fits = ((page_exactly t (references_of (ticket_of t)) 40962 40962 (length out) p).0 q).4 in
            let same : page_printed (length out) t ≡ p.page = ap page_lines q in
            let long : n ≡ length p.page = cc in (
              ea ∙ ap (λ (x : Answer PlannedPage). page_after x out) q ∙ sym (laid-over p.page out fits) ∙ ap (λ (s : List ℕ). laid s out) (sym same),
              long ∙ ap length (sym same),
            )
        go (refused k) q e = absurd (let z : ◌≡◌ {A = ℕ} 0 1 = cc in omega arith)

    -- and a refusal leaves the buffer as it was, and its line is put there
    pub refusal_printed : {r : Refusal} {after' : List ℕ} {n : ℕ} → Err r ≡ length_as answer → Put 0 (refusal_line (number r)) after after' n
        → Printed t out after' n
    unfolding page_printed page_lines written
    refusal_printed {r} {after'} {n} = go answer refl
      where
        go : (x : Answer PlannedPage) → answer ≡ x → Err r ≡ length_as x → Put 0 (refusal_line (number r)) after after' n → Printed t out after' n
        go (given p) q e put = absurd (let z : ◌≡◌ {A = ℕ} 0 1 = cc in omega arith)
        go (refused k) q e put =
            let b = page-within t (references_of (ticket_of t)) 40962 40962 (length out) k q in
            let refusal : r ≡ refusal_of k = cc in
            let back : number r ≡ k = ap number refusal ∙ number-refusal_of k b.0 (omega (arith, b.1)) in
            let same : page_printed (length out) t ≡ refusal_line (number r) = ap page_lines q ∙ ap refusal_line (sym back) in
            let w = put_laid (sym same) put in
            (w.0 ∙ ap (laid (page_printed (length out) t)) (ea ∙ ap (λ (x : Answer PlannedPage). page_after x out) q), w.1)

-- In a buffer for the longest page, which has 278,613 bytes (`page_fits`), what is printed has room.
pub printed-within : (t out : List ℕ) {after : List ℕ} {n : ℕ} → 278613 ≤ length out → Printed t out after n → n ≤ length after
unfolding page_printed page_lines refusal_line text each laid_at
printed-within t out {after} {n} some h =
    let l = go (page_answer t stop 40962 40962 (length out)) refl in
    let same = ap length h.0 ∙ length-laid 0 (page_printed (length out) t) out in
    let e = h.1 in
    omega (arith, e, l, same)
  where
    stop : ℕ
    stop = references_of (ticket_of t)

    go : (x : Answer PlannedPage) → page_answer t stop 40962 40962 (length out) ≡ x → length (page_lines x) ≤ length out
    go (given p) q = ((page_exactly t stop 40962 40962 (length out) p).0 q).4
    go (refused k) q =
        let b = (page-within t stop 40962 40962 (length out) k q).1 in
        let few = end_seven k (omega (arith, b)) in
        omega (arith, few, some)
