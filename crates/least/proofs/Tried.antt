-- One count: the job by value with so many slots on a disk, and its short plan, driven from what was opened for the job. Assumes nothing.
use mathlib.Core.Path.{◌≡◌, refl, sym, ap, ◌∙◌, subst}
use mathlib.Core.List.{List, map}
use Prim.Native.Nat.{ℕ, suc, ◌≤◌, ◌<◌}
use native.Mathlib.Omega.{arith}
use lib.Dec.{ltb}
use lib.ListN.{length, get_or, set, take, replicate, length-take, length-set, length-map}
use lib.Seq.{take-set-lt, take_all}
use borrow.Author.Tests.{ltb-true, ltb-false}
use Rattle.bits.specs.Bits.{bytes}
use Rattle.bits.proofs.Logic.{by_test}
use Rattle.job.specs.Meaning.{job_of, Fits}
use Rattle.job.specs.declared.Job.{Job as Stored}
use Rattle.model.specs.Job.{Job, Sound, ref_count, carried_on}
use Rattle.model.specs.Playing.{Schedule, start}
use Rattle.model.specs.Rules.{Choice, action, short}
use Rattle.model.specs.Plans.{plan_from, plan_of, schedule_of}
use Rattle.model.specs.Sheet.{sheet_bits}
use Rattle.slot_counts.specs.Slots.{with_slots, Allowed}
use Rattle.model.proofs.Carried.{ready_start}
use Rattle.model.proofs.Choosing.{short_lawful}
use Rattle.model.proofs.Plans.{plan_few, plan_take}
use Rattle.slot_counts.proofs.Slots.{with_sound}
use Rattle.playing.specs.Playing.{start_buffers}
use Rattle.playing.specs.declared.Buffers.{Buffers}
use Rattle.playing.proofs.Started.{counted}
use Rattle.choosing.specs.declared.Rule.{Rule}
use Rattle.choosing.specs.declared.Rule.TheVariants.{Short}
use Rattle.lookup.specs.declared.Desk.{Desk}
use Rattle.lookup.specs.declared.Steps.{Steps}
use Rattle.opening.specs.Opening.{start_steps, start_desk}
use Rattle.opening.proofs.Started.{refs_lent}
use Rattle.driving.specs.Driving.{no_acts, driven_from, totals_of}
use Rattle.driving.specs.Sized.{Sized, Kept}
use Rattle.driving.specs.declared.Totals.{Totals}
use Rattle.driving.proofs.Input.{input_with, state_with}
use Rattle.planning.proofs.Opened.{drive_asks, driven}
use Rattle.least.specs.Least.{tried_rounds, slotted}

-- The short plan of a job, n rounds of it at most, with and without its reasons.
module _ (k : Job) where
  abbrev chosen_in : ℕ → List (List Choice)
  chosen_in n = plan_from short k n (start k)

  abbrev pub played_in : ℕ → Schedule
  played_in n = map (map action) (plan_from short k n (start k))

  played-length : (n : ℕ) → length (played_in n) ≡ length (chosen_in n)
  played-length n = length-map (chosen_in n) (map action)

-- With one round more than wanted it is the whole plan where it is within, and otherwise the plan is not.
module _ (k : Job) (sound : Sound k) (wanted : ℕ) where
  data Tried (n : ℕ) : Type 0 where
    whole : length (played_in k n) ≤ wanted → played_in k n ≡ schedule_of short k → Tried n
    given_up : wanted < length (played_in k n) → wanted < length (schedule_of short k) → Tried n

  tried_part : wanted < ref_count k → Tried (suc wanted)
  unfolding schedule_of plan_of
  tried_part l =
      let first = plan_take short k (suc wanted) (ref_count k) (start k) l in
      let cut = ap length first ∙ length-take (suc wanted) (chosen_in k (ref_count k)) in
      let a = played-length k (suc wanted) in
      let b = played-length k (ref_count k) in
      by_test (ltb wanted (length (chosen_in k (suc wanted))))
      (λ z. let m = ltb-true wanted (length (chosen_in k (suc wanted))) z in given_up (omega (arith, a, m)) (omega (arith, cut, b, m)))
      (λ z. let m = ltb-false wanted (length (chosen_in k (suc wanted))) z in
      whole (omega (arith, a, m)) (ap (map (map action)) (first ∙ take_all (suc wanted) (chosen_in k (ref_count k)) (omega (arith, cut, m)))))

  tried_all : ref_count k ≤ wanted → Tried (ref_count k)
  unfolding schedule_of plan_of
  tried_all l =
      let few = plan_few short short_lawful k sound (ref_count k) (start k) (ready_start k sound) in
      let b = played-length k (ref_count k) in
      whole (omega (arith, b, few, l)) refl

  tried : (n : ℕ) → n ≡ tried_rounds wanted (ref_count k) → Tried n
  tried n e =
      by_test (ltb wanted (ref_count k))
      (λ y. let l = ltb-true wanted (ref_count k) y in subst Tried (let s : suc wanted ≡ n = omega (arith, e, l) in s) (tried_part l))
      (λ y. let l = ltb-false wanted (ref_count k) y in subst Tried (let s : ref_count k ≡ n = omega (arith, e, l) in s) (tried_all l))

  pub tried_within : (n : ℕ) → n ≡ tried_rounds wanted (ref_count k) → length (played_in k n) ≤ wanted → played_in k n ≡ schedule_of short k
  tried_within n e l = go (tried n e)
    where
      go : Tried n → played_in k n ≡ schedule_of short k
      go (whole m same) = same
      go (given_up m more) = absurd (omega (arith, l, m))

  pub tried_beyond : (n : ℕ) → n ≡ tried_rounds wanted (ref_count k) → wanted < length (played_in k n) → wanted < length (schedule_of short k)
  tried_beyond n e l = go (tried n e)
    where
      go : Tried n → wanted < length (schedule_of short k)
      go (whole m same) = absurd (omega (arith, l, m))
      go (given_up m more) = more

-- A job by value with s slots on disk d.
module _ (c : Stored) (fits : Fits c) (d : ℕ) (l : d < c.disks) where
  pub carried-count : length (carried_on (job_of c) d) ≡ get_or c.held d 0
  unfolding job_of
  carried-count = counted c fits d l

  module _ (s : ℕ) (some : 1 ≤ s) (few : s ≤ 64) (held : get_or c.held d 0 ≤ s) where
    pub allowed : Allowed (job_of c) d s
    allowed = record { some_slot = some; few_slots = few; few_carried = let e = carried-count in omega (arith, e, held) }

    pub job_slotted : job_of (slotted d s c) ≡ with_slots d s (job_of c)
    unfolding job_of slotted with_slots
    job_slotted = λ i. record {
      slots = take-set-lt c.disks c.slots d s l i;
      block_disks = (job_of c).block_disks;
      refs = (job_of c).refs;
      carried = (job_of c).carried;
    }

    pub fits_slotted : Fits (slotted d s c)
    unfolding slotted
    fits_slotted = record {
      long_slots = length-set c.slots d s ∙ fits.long_slots;
      long_disk = fits.long_disk;
      long_refs = fits.long_refs;
      long_held = fits.long_held;
      long_carried = fits.long_carried;
      small_disk = fits.small_disk;
      small_held = fits.small_held;
      small_carried = fits.small_carried;
      few_disks = fits.few_disks;
      few_blocks = fits.few_blocks;
      few_refs = fits.few_refs;
      sound = subst Sound (sym job_slotted) (with_sound (job_of c) d s fits.sound allowed);
    }

    -- What was opened for the job serves every count: neither the buffers nor the desk nor the steps depend on the slots.
    module _ {b : Buffers} {desk : Desk} {steps : Steps} (eb : b ≡ start_buffers c) (ed : desk ≡ start_desk c) (es : steps ≡ start_steps c)
        {own : List ℕ} (eg : own ≡ c.slots) where
      abbrev slots : List ℕ
      slots = take c.disks (set own d s)

      abbrev refs : List ℕ
      refs = take c.count c.refs

      pub tried_asks : (rule : Rule) (most : ℕ) {sheet : List ℕ} → most ≤ 2048 → sheet ≡ replicate 40968 0
          → Sized (input_with slots refs steps rule) × Kept (input_with slots refs steps rule) (state_with b desk no_acts) × (most ≤ 2048) × (sheet ≡ replicate 40968 0)
      unfolding slotted start_buffers start_desk start_steps
      tried_asks rule most = rw eg (drive_asks (slotted d s c) fits_slotted rule eb ed es most)

      pub tried_driven : (most : ℕ) → driven_from (input_with slots refs steps Short) most (state_with b desk no_acts)
          ≡ played_in (with_slots d s (job_of c)) most
      unfolding slotted start_buffers start_desk start_steps
      tried_driven most =
          ap (λ (x : List ℕ). driven_from (input_with (take c.disks (set x d s)) refs steps Short) most (state_with b desk no_acts)) eg
          ∙ driven (slotted d s c) fits_slotted Short eb ed es most
          ∙ ap (λ (k : Job). played_in k most) job_slotted

      -- the plan and the sheet that `drive` gives
      pub tried_plan : (most : ℕ) {plan : Totals} → plan ≡ totals_of (driven_from (input_with slots refs steps Short) most (state_with b desk no_acts))
          → plan ≡ totals_of (played_in (with_slots d s (job_of c)) most)
      tried_plan most e = e ∙ ap totals_of (tried_driven most)

      pub tried_sheet : (most : ℕ) {sheet : List ℕ} → sheet ≡ bytes 40968 (sheet_bits (driven_from (input_with slots refs steps Short) most (state_with b desk no_acts)))
          → sheet ≡ bytes 40968 (sheet_bits (played_in (with_slots d s (job_of c)) most))
      tried_sheet most e = e ∙ ap (λ (x : Schedule). bytes 40968 (sheet_bits x)) (tried_driven most)

    -- the references of the job with so many slots are the job's own
    pub tried-rounds : (wanted : ℕ) {n : ℕ} → n ≡ tried_rounds wanted c.count → n ≡ tried_rounds wanted (ref_count (with_slots d s (job_of c)))
    unfolding job_of with_slots
    tried-rounds wanted e = e ∙ ap (tried_rounds wanted) (refs_lent c fits)
