-- `find` meets its contract: each count in turn, from the lowest on. Assumes nothing.
use Rattle.std.proofs.Common.{◌≡◌, ℕ, ◌+◌, ◌^◌, ◌≤◌, ◌<◌, List, cond, ltb, length, take, get_or, set, Option, Result, Err, refl, sym, ◌∙◌, subst, ap, arith, rules}
use Rattle.bits.specs.Bits.{bytes, bytes_for, over}
use Rattle.job.specs.Meaning.{job_of, Fits}
use Rattle.job.specs.declared.Job.{Job as Stored}
use Rattle.model.specs.Job.{Job, ref_count}
use Rattle.model.specs.Sheet.{sheet_bits}
use Rattle.slot_counts.specs.Slots.{with_slots, Allowed}
use Rattle.playing.specs.Playing.{start_buffers}
use Rattle.playing.specs.declared.Buffers.{Buffers}
use Rattle.lookup.specs.declared.Desk.{Desk}
use Rattle.lookup.specs.declared.Steps.{Steps}
use Rattle.opening.specs.Opening.{start_steps, start_desk}
use Rattle.choosing.specs.declared.Rule.TheVariants.{Short}
use Rattle.driving.specs.Driving.{no_acts, driven_from, totals_of}
use Rattle.driving.specs.declared.Totals.{Totals}
use Rattle.driving.proofs.Input.{input_with, state_with}
use Rattle.refusal.specs.declared.Refusal.{Refusal}
use Rattle.returning.specs.declared.LeastSlots.{LeastSlots}
use Rattle.least.specs.Least.{tried_rounds, handed_for}
use Rattle.least.proofs.Tried
use Rattle.least.proofs.Searched.{ToFind, some_of, Answered, tried_few, search_from, hand_asks, hand_gives, plan_beyond, search_ends}
use Rattle.least.proofs.find.Goals as goal

-- A count in turn, the plan for it, as far as it was driven, and its sheet.
module _ (c : Stored) (fits : Fits c) (d : ℕ) (l : d < c.disks) (wanted s : ℕ) (some : 1 ≤ s) (few : s ≤ 64) (held : get_or c.held d 0 ≤ s)
    (find : ToFind (job_of c) d wanted s) {n : ℕ} (e : n ≡ tried_rounds wanted c.count) {b : Buffers} {desk : Desk} {steps : Steps}
    (eb : b ≡ start_buffers c) (ed : desk ≡ start_desk c) (es : steps ≡ start_steps c) {plan : Totals}
    (drove : plan ≡ totals_of (driven_from (input_with (take c.disks (set c.slots d s)) (take c.count c.refs) steps Short) n (state_with b desk no_acts))) where
  abbrev k : Job
  k = with_slots d s (job_of c)

  allowed : Allowed (job_of c) d s
  allowed = Tried.allowed c fits d l s some few held

  counted : n ≡ tried_rounds wanted (ref_count k)
  counted = Tried.tried-rounds c fits d l s some few held wanted e

  plan_is : plan ≡ totals_of (Tried.played_in k n)
  plan_is = Tried.tried_plan c fits d l s some few held eb ed es refl n drove

  next : wanted < plan.rounds → ToFind (job_of c) d wanted (s + 1)
  next = plan_beyond (job_of c) fits.sound d wanted s allowed find counted plan_is

  module _ (within : plan.rounds ≤ wanted) {sheet : List ℕ}
      (laid : sheet ≡ bytes 40968 (sheet_bits (driven_from (input_with (take c.disks (set c.slots d s)) (take c.count c.refs) steps Short) n (state_with b desk no_acts)))) where
    sheet_is : sheet ≡ bytes 40968 (sheet_bits (Tried.played_in k n))
    sheet_is = Tried.tried_sheet c fits d l s some few held eb ed es refl n laid

    asks : (plan.bits < 2 ^ 32) × (bytes_for plan.bits ≤ length sheet)
    asks = hand_asks (job_of c) fits.sound d wanted s allowed find counted plan_is within sheet_is

    gives : (lent : List ℕ) {lent' : List ℕ} {r : Result LeastSlots Refusal} {given' : Result (Option LeastSlots) Refusal} → (r ≡ handed_for s plan (bytes_for plan.bits) (length lent))
        × (lent' ≡ cond (ltb (length lent) (bytes_for plan.bits)) lent (over (take (bytes_for plan.bits) sheet) lent)) → given' ≡ some_of r
        → Answered (job_of c) d wanted given' lent' lent
    gives = hand_gives (job_of c) fits.sound d wanted s allowed find counted plan_is within sheet_is

pub loop-s-init : goal.loop-s-init
loop-s-init c =
    let fits = c.requires.0 in
    let from =
    search_from (job_of c.args.job) fits.sound c.args.disk c.args.wanted _ _ (Tried.carried-count c.args.job fits c.args.disk c.requires.1)
    (fits.small_held c.args.disk) c.lowest-s.ensures
    in
    (refl, from)

pub drive-plan-requires : goal.drive-plan-requires
drive-plan-requires c =
    let opened = c.open-b.ensures in
    let fits = c.requires.0 in
    let refs = fits.few_refs in
    let e = c.rounds_tried-most.ensures in
    let few = tried_few c.args.wanted c.args.job.count in
    Tried.tried_asks c.args.job fits c.args.disk c.requires.1 c.loop-s.s (omega arith) (omega arith) (omega arith) opened.0 opened.1 opened.2 refl _ _
    (omega (arith, e, few, refs)) refl

pub hand_out-requires : goal.hand_out-requires
hand_out-requires c =
    let opened = c.open-b.ensures in
    let drove = c.drive-plan.ensures.driven in
    asks c.args.job c.requires.0 c.args.disk c.requires.1 c.args.wanted c.loop-s.s (omega arith) (omega arith) (omega arith) c.loop-s.invariant.1
    c.rounds_tried-most.ensures opened.0 opened.1 opened.2 drove.0 (omega arith) drove.1

pub returns-in_err-hand_out : goal.returns-in_err-hand_out
returns-in_err-hand_out c =
    let opened = c.open-b.ensures in
    let drove = c.drive-plan.ensures.driven in
    let e : c.from_residual.result ≡ Err c.in_err-hand_out.field-0.0 = search rules in
    subst (Answered (job_of c.args.job) c.args.disk c.args.wanted _ _) c.loop-s.invariant.0
    (gives c.args.job c.requires.0 c.args.disk c.requires.1 c.args.wanted c.loop-s.s (omega arith) (omega arith) (omega arith) c.loop-s.invariant.1
    c.rounds_tried-most.ensures opened.0 opened.1 opened.2 drove.0 (omega arith) drove.1 c.loop-s.short c.hand_out.ensures
    (e ∙ sym (ap some_of c.in_err-hand_out.was)))

pub returns-then-plan-wanted : goal.returns-then-plan-wanted
returns-then-plan-wanted c =
    let opened = c.open-b.ensures in
    let drove = c.drive-plan.ensures.driven in
    subst (Answered (job_of c.args.job) c.args.disk c.args.wanted _ _) c.loop-s.invariant.0
    (gives c.args.job c.requires.0 c.args.disk c.requires.1 c.args.wanted c.loop-s.s (omega arith) (omega arith) (omega arith) c.loop-s.invariant.1
    c.rounds_tried-most.ensures opened.0 opened.1 opened.2 drove.0 (omega arith) drove.1 c.loop-s.short c.hand_out.ensures
    (sym (ap some_of c.in_ok-hand_out.was)))

pub loop-s-preserved : goal.loop-s-preserved
loop-s-preserved c =
    let opened = c.open-b.ensures in (
      c.loop-s.invariant.0,
      next c.args.job c.requires.0 c.args.disk c.requires.1 c.args.wanted c.loop-s.s (omega arith) (omega arith) (omega arith) c.loop-s.invariant.1
          c.rounds_tried-most.ensures opened.0 opened.1 opened.2 c.drive-plan.ensures.driven.0 (omega arith),
    )

pub returns : goal.returns
returns c =
    subst (Answered (job_of c.args.job) c.args.disk c.args.wanted _ c.loop-s.short) c.loop-s.invariant.0
    (search_ends (job_of c.args.job) c.requires.0.sound c.args.disk c.args.wanted c.loop-s.s (omega arith) c.loop-s.invariant.1 c.loop-s.short)
