-- `page_planning::page_job` meets its contract, for rooms that are too small and for rooms that are not. Assumes nothing.
use Rattle.std.proofs.Common.{◌≡◌, ℕ, ◌+◌, ◌*◌, ◌≤◌, List, Ok, Err, refl, sym, ap, ◌∙◌, arith, rules}
use denote.Ref.{Bor}
use Rattle.bits.specs.Bits.{bytes_for, laid}
use Rattle.bits.specs.Reading.{given, refused}
use Rattle.job.specs.Meaning.{job_of, Fits}
use Rattle.job.specs.declared.Job.{Job}
use Rattle.job.proofs.Laws.{disks_are}
use Rattle.model.specs.Calls.{planned_for, page_for, which_for}
use Rattle.choosing.specs.declared.Rule.TheVariants.{Short, Sparing}
use Rattle.planning.specs.Planning.{plans_of}
use Rattle.planning.specs.declared.Plans.{Plans}
use Rattle.printing.specs.Printing.{page_read}
use Rattle.refusal.specs.Refusals.{refusal_of}
use Rattle.refusal.specs.declared.Refusal.{Refusal}
use Rattle.refusal.specs.declared.Refusal.TheVariants.{PageRoom}
use Rattle.returning.specs.Returning.{of_which, which_as, fits}
use Rattle.returning.specs.declared.Which.{Which}
use Rattle.returning.specs.declared.Which.TheVariants.{First, Second}
use Rattle.handing.specs.Handing.{both_fit}
use Rattle.handing.proofs.Rooms.{short_totals, sparing_totals, bits-few, both_plans, job_refused, job_given, hand_asks, hand_gives}
use Rattle.page_planning.proofs.Pages.{lines, both_and_page, counted_are, lines_few, page_asks, page_gives, length_is, page_sheets, page-refused, page-given, gives_page-refused, gives_page-given}
use Rattle.page_planning.proofs.page_job.Goals as goal

-- what a reference that is handed out points to
now_of : (w : Which) (x y : Bor (List ℕ)) {s : Bor (List ℕ)} → s ≡ of_which w x y → s.now ≡ of_which w x.now y.now
now_of First x y e = ap (λ (r : Bor (List ℕ)). r.now) e
now_of Second x y e = ap (λ (r : Bor (List ℕ)). r.now) e

-- the plans of a job that fits, and the count of lines as the code multiplies it
module _ (job : Job) (fit : Fits job) (p : Plans) (q : p ≡ plans_of (job_of job)) {which : Which}
    (ew : which ≡ which_as (which_for p.short.rounds p.sparing.rounds)) {count : ℕ} (en : count ≡ of_which which p.short.rounds p.sparing.rounds) where
  -- the lines are those of the plan handed back, and few
  abbrev plan_lines : ℕ
  plan_lines = lines (job_of job) fit.sound p q

  same : count * job.disks ≡ plan_lines
  same = counted_are (job_of job) fit.sound p q ew en (disks_are job fit)

  few : count * job.disks ≤ 16384
  few = let s = same in let most = lines_few (job_of job) fit.sound p q in omega (arith, s, most)

  -- three rooms of a, b and c bytes
  module _ (a b c : ℕ) (two : both_fit (bytes_for p.short.bits) a (bytes_for p.sparing.bits) b ≡ Ok tt) where
    plans_given : (planned_for a b (given (job_of job)) ≡ given (both_plans (job_of job) fit.sound p q)) × (bytes_for p.short.bits ≤ a) × (bytes_for p.sparing.bits ≤ b)
    plans_given = job_given _ fit.sound p q a b two

    three_refused : (refusal : Refusal) → fits (count * job.disks * 17 + 85) c PageRoom ≡ Err refusal
        → (k : ℕ) × (page_for a b c (given (job_of job)) ≡ refused k) × (refusal ≡ refusal_of k)
    three_refused refusal e =
        page-refused _ fit.sound p q a b c plans_given.0 refusal (ap (λ (k : ℕ). fits (k * 17 + 85) c PageRoom) (sym same) ∙ e)

    three_given : fits (count * job.disks * 17 + 85) c PageRoom ≡ Ok tt
        → (plan_lines * 17 + 85 ≤ c) × (page_for a b c (given (job_of job)) ≡ given (both_and_page (job_of job) fit.sound p q))
    three_given e = page-given _ fit.sound p q a b c plans_given.0 (ap (λ (k : ℕ). fits (k * 17 + 85) c PageRoom) (sym same) ∙ e)

pub overflow_mul-lines : goal.overflow_mul-lines
overflow_mul-lines c =
    let l = few c.args.job c.requires _ c.run-plans.ensures.planned.0 c.which_for-which.ensures c.of.ensures in
    record { fits = omega (arith, l) }

pub overflow_mul-length : goal.overflow_mul-length
overflow_mul-length c =
    let l = few c.args.job c.requires _ c.run-plans.ensures.planned.0 c.which_for-which.ensures c.of.ensures in
    record { fits = omega (arith, l) }

pub overflow_add-length : goal.overflow_add-length
overflow_add-length c =
    let l = few c.args.job c.requires _ c.run-plans.ensures.planned.0 c.which_for-which.ensures c.of.ensures in
    record { fits = omega (arith, l) }

pub both_fit-requires : goal.both_fit-requires
both_fit-requires c =
    let run = c.run-plans.ensures.planned in (
      bits-few _ c.requires.sound Short _ (short_totals _ c.requires.sound _ run.0),
      bits-few _ c.requires.sound Sparing _ (sparing_totals _ c.requires.sound _ run.0),
    )

pub returns-in_err-both_fit : goal.returns-in_err-both_fit
returns-in_err-both_fit c =
    let sheets = job_refused _ c.requires.sound _ c.run-plans.ensures.planned.0 _ _ _ (sym c.both_fit.ensures ∙ c.in_err-both_fit.was) in
    let e : c.from_residual.result ≡ Err c.in_err-both_fit.field-0.0 = search rules in
    gives_page-refused _ c.args.short.now c.args.sparing.now c.args.page.now _ _
    (page_sheets _ c.requires.sound _ c.run-plans.ensures.planned.0 _ _ _ _ sheets.1) (e ∙ ap Err sheets.2)

pub returns-in_err-fits : goal.returns-in_err-fits
returns-in_err-fits c =
    let page =
    three_refused c.args.job c.requires _ c.run-plans.ensures.planned.0 c.which_for-which.ensures c.of.ensures _ _ _
    (sym c.both_fit.ensures ∙ c.in_ok-both_fit.was) _ (sym c.fits.ensures ∙ c.in_err-fits.was)
    in
    let e : c.from_residual-in_err-fits.result ≡ Err c.in_err-fits.field-0.0 = search rules in
    gives_page-refused _ c.args.short.now c.args.sparing.now c.args.page.now _ _ page.1 (e ∙ ap Err page.2)

pub hand_out-planned-requires : goal.hand_out-planned-requires
hand_out-planned-requires c =
    let run = c.run-plans.ensures.planned in
    let two = job_given _ c.requires.sound _ run.0 _ _ (sym c.both_fit.ensures ∙ c.in_ok-both_fit.was) in
    let asks = hand_asks _ c.requires.sound _ run.0 run.1 run.2 two.1 two.2 in
    record { bits_bound = asks.0; bits_bound_2 = asks.1 }

pub put_page-requires : goal.put_page-requires
put_page-requires c =
    let run = c.run-plans.ensures.planned in
    let same = same c.args.job c.requires _ run.0 c.which_for-which.ensures c.of.ensures in
    let most = few c.args.job c.requires _ run.0 c.which_for-which.ensures c.of.ensures in
    let three =
    three_given c.args.job c.requires _ run.0 c.which_for-which.ensures c.of.ensures _ _ _
    (sym c.both_fit.ensures ∙ c.in_ok-both_fit.was) (sym c.fits.ensures ∙ c.in_ok-fits.was)
    in
    let room = three.0 in
    let asks =
    page_asks _ c.requires.sound _ run.0 c.which_for-which.ensures run.1 run.2 (now_of c.which_for-which.result _ _ c.of-sheet.ensures)
    run.3 run.4 (now_of c.which_for-which.result _ _ c.of-reasons.ensures) c.args.page.now room
    in
    (most, omega (arith, room, same), (let many = asks.2 in omega (arith, many, same)), asks.3)

pub returns : goal.returns
returns c =
    let run = c.run-plans.ensures.planned in
    let page = c.args.page.now in
    let same = same c.args.job c.requires _ run.0 c.which_for-which.ensures c.of.ensures in
    let three =
    three_given c.args.job c.requires _ run.0 c.which_for-which.ensures c.of.ensures _ _ _
    (sym c.both_fit.ensures ∙ c.in_ok-both_fit.was) (sym c.fits.ensures ∙ c.in_ok-fits.was)
    in
    let put =
    c.put_page.ensures
    ∙ (λ i. laid (page_read c.of-sheet.result.now c.of-reasons.result.now (sym (disks_are c.args.job c.requires) i) (same i)) page)
    in
    gives_page-given _ c.args.short.now c.args.sparing.now page _ three.1
    (hand_gives _ c.requires.sound _ run.0 run.1 run.2 _ _ _ refl c.hand_out-planned.ensures)
    (ap (λ (l : ℕ). l * 17 + 85) same ∙ length_is _ c.requires.sound _ run.0)
    (page_gives _ c.requires.sound _ run.0 c.which_for-which.ensures run.1 run.2 (now_of c.which_for-which.result _ _ c.of-sheet.ensures)
    run.3 run.4 (now_of c.which_for-which.result _ _ c.of-reasons.ensures) page three.0 put)
