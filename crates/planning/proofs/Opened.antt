-- A plan of a job by value, driven from the buffers and the desk before round 1: what `drive` asks then, and what it gives. Assumes nothing.
use mathlib.Core.Path.{◌≡◌, refl, sym, ap, ◌∙◌, subst}
use mathlib.Core.List.{List, map}
use Prim.Native.Nat.{ℕ, suc, ◌≤◌}
use native.Mathlib.Omega.{arith}
use lib.ListN.{length, take, replicate}
use Rattle.std.proofs.lemmas.List.Elements.{All-replicate}
use Rattle.bits.specs.Bits.{bytes, laid, Below}
use Rattle.job.specs.Meaning.{job_of, Fits}
use Rattle.job.specs.declared.Job.{Job as Stored}
use Rattle.model.specs.Job.{ref_at}
use Rattle.model.specs.Playing.{Schedule, start}
use Rattle.model.specs.Rules.{action}
use Rattle.model.specs.Plans.{plan_from, plan_of, schedule_of}
use Rattle.model.specs.Page.{reasons_of}
use Rattle.model.specs.Sheet.{sheet_bits}
use Rattle.model.proofs.Carried.{start-within, ready_start}
use Rattle.model.proofs.Distances.{distance_to}
use Rattle.playing.specs.Playing.{start_buffers}
use Rattle.playing.specs.declared.Buffers.{Buffers}
use Rattle.playing.proofs.Started.{holds-start}
use Rattle.choosing.specs.Choosing.{rule_of}
use Rattle.choosing.specs.declared.Rule.{Rule}
use Rattle.choosing.specs.declared.Rule.TheVariants.{Short, Sparing}
use Rattle.moving.proofs.PointerRight.{forward_ahead}
use Rattle.opening.specs.Opening.{start_steps, start_desk}
use Rattle.opening.proofs.Started.{refs_lent, refs-few, refs-small, disks_lent, forward_start, desk_right, desk_within, desk-held}
use Rattle.lookup.specs.declared.Desk.{Desk}
use Rattle.lookup.specs.declared.Steps.{Steps}
use Rattle.writing.specs.Writing.{Small, idle_action}
use Rattle.driving.specs.Driving.{PlanState, no_acts, driven_from, reasons_from, totals_of}
use Rattle.driving.specs.Sized.{Sized, Kept}
use Rattle.driving.specs.declared.Totals.{Totals}
use Rattle.driving.proofs.Input.{input_with, state_with}
use Rattle.driving.proofs.TurnsRight.{StandsFor}
use Rattle.driving.proofs.Driven.{driven_is, driven_reasons}
use Rattle.planning.specs.Planning.{plans_of}

module _ (c : Stored) (fits : Fits c) where
  abbrev pub refs : List ℕ
  refs = take c.count c.refs

  abbrev pub slots : List ℕ
  slots = take c.disks c.slots

  pub slots_lent : c.disks ≡ length slots
  unfolding job_of
  slots_lent = disks_lent c fits

  module _ (rule : Rule) where
    sized_start : Sized (input_with slots refs (start_steps c) rule)
    unfolding job_of
    sized_start = record {
      few_disks = fits.sound.few_disks;
      some_slot = fits.sound.some_slot;
      few_slots = fits.sound.few_slots;
      few_refs = refs-few c fits;
      small_refs = refs-small c fits;
      block_steps = λ i l. (let e = (forward_start c fits).blocks i l in let to = distance_to refs (suc i) (ref_at (job_of c) i) l in let few = refs-few c fits in
          omega (arith, e, to, few));
      disk_steps = forward_ahead (forward_start c fits);
    }

    -- what is driven from
    abbrev from : PlanState
    from = state_with (start_buffers c) (start_desk c) no_acts

    stands_start : StandsFor (job_of c) (start (job_of c)) from
    stands_start = record { holds = holds-start c fits; right = desk_right c fits; long_acts = refl }

    kept_start : Kept (input_with slots refs (start_steps c) rule) from
    unfolding job_of
    kept_start = record {
      held = λ d l. (let load = (holds-start c fits).loads d l in let most = (ready_start (job_of c) fits.sound).loads d l in omega (arith, load, most));
      small_nexts = λ b l. (let n = (desk_right c fits).long_nexts in let at = (desk_right c fits).distances b (omega (arith, n, l)) in
          let to = distance_to refs (start (job_of c)).next b (start-within (job_of c)) in let few = refs-few c fits in omega (arith, at, to, few));
      small_helds = subst (Below 512) (sym (desk-held c fits)) (λ i l. fits.small_carried i);
      small_looks = desk_within c fits;
      long_acts = refl;
      small_acts = All-replicate Small 8 idle_action (tt, tt);
    }

    -- The buffers, the desk and the steps as `open` gives them, and any number of rounds.
    module _ {b : Buffers} {desk : Desk} {steps : Steps} (eb : b ≡ start_buffers c) (ed : desk ≡ start_desk c) (es : steps ≡ start_steps c) (most : ℕ) where
      -- what `drive` asks,
      pub drive_asks : {sheet : List ℕ} → most ≤ 2048 → sheet ≡ replicate 40968 0
          → Sized (input_with slots refs steps rule) × Kept (input_with slots refs steps rule) (state_with b desk no_acts) × (most ≤ 2048) × (sheet ≡ replicate 40968 0)
      drive_asks few zero-sheet = (rw es sized_start, rw (eb, ed, es) kept_start, few, zero-sheet)

      -- what it drives,
      pub driven : driven_from (input_with slots refs steps rule) most (state_with b desk no_acts) ≡ map (map action) (plan_from (rule_of rule) (job_of c) most (start (job_of c)))
      unfolding job_of
      driven = rw (eb, ed, es) (driven_is rule (job_of c) fits.sound (forward_start c fits) most (start (job_of c)) (ready_start (job_of c) fits.sound) from stands_start)

      pub reasoned : reasons_from (input_with slots refs steps rule) most (state_with b desk no_acts) ≡ reasons_of (plan_from (rule_of rule) (job_of c) most (start (job_of c)))
      unfolding job_of
      reasoned = rw (eb, ed, es) (driven_reasons rule (job_of c) fits.sound (forward_start c fits) most (start (job_of c)) (ready_start (job_of c) fits.sound) from stands_start)

    -- With as many rounds as there are references it is the whole plan, for its reasons.
    module _ {b : Buffers} {desk : Desk} {steps : Steps} (eb : b ≡ start_buffers c) (ed : desk ≡ start_desk c) (es : steps ≡ start_steps c) where
      pub drive_gives : driven_from (input_with slots refs steps rule) c.count (state_with b desk no_acts) ≡ schedule_of (rule_of rule) (job_of c)
      unfolding job_of schedule_of plan_of
      drive_gives = driven eb ed es c.count ∙ ap (λ (n : ℕ). map (map action) (plan_from (rule_of rule) (job_of c) n (start (job_of c)))) (refs_lent c fits)

      pub drive_reasons : (lent : List ℕ) {reasons : List ℕ} → reasons ≡ laid (reasons_from (input_with slots refs steps rule) c.count (state_with b desk no_acts)) lent
          → reasons ≡ laid (reasons_of (plan_of (rule_of rule) (job_of c))) lent
      unfolding job_of plan_of
      drive_reasons lent h =
          h ∙ ap (λ (l : List ℕ). laid l lent)
          (reasoned eb ed es c.count ∙ ap (λ (n : ℕ). reasons_of (plan_from (rule_of rule) (job_of c) n (start (job_of c)))) (refs_lent c fits))

  -- what `run` gives
  pub run_gives : {a b : Totals} {x y : List ℕ} {one two : Schedule} → one ≡ schedule_of (rule_of Short) (job_of c)
      → two ≡ schedule_of (rule_of Sparing) (job_of c)
      → a ≡ totals_of one → b ≡ totals_of two → x ≡ bytes 40968 (sheet_bits one) → y ≡ bytes 40968 (sheet_bits two)
      → (record { short = a; sparing = b } ≡ plans_of (job_of c)) × (x ≡ bytes 40968 (sheet_bits (schedule_of (rule_of Short) (job_of c))))
      × (y ≡ bytes 40968 (sheet_bits (schedule_of (rule_of Sparing) (job_of c))))
  unfolding plans_of
  run_gives e f p q r s = (
    (λ i. record { short = (p ∙ ap totals_of e) i; sparing = (q ∙ ap totals_of f) i }),
    r ∙ ap (λ (l : Schedule). bytes 40968 (sheet_bits l)) e,
    s ∙ ap (λ (l : Schedule). bytes 40968 (sheet_bits l)) f,
  )
