-- A plan driven from a desk that is right for a state is the model's plan from that state, with its reasons. Assumes nothing.
use mathlib.Core.Path.{◌≡◌, refl, sym, ap, ap₂, ◌∙◌, subst}
use mathlib.Core.Bool.{Bool, true, false, ◌&&◌}
use mathlib.Core.List.{List, ◌∷◌, ◌++◌, map}
use Prim.Native.Nat.{ℕ, zero, suc, ◌+◌, ◌%◌, ◌≤◌, ◌<◌}
use native.Mathlib.Omega.{arith}
use lib.Dec.{ltb}
use lib.ListN.{get_or, take, drop, get_or-map, drop_of_length-le}
use lib.Seq.{drop-cons, take_all, ext_get_or}
use Rattle.std.proofs.lemmas.List.{length-map, length-take-le, get_or-take}
use borrow.Author.Tests.{ltb-true, ltb-false}
use Rattle.bits.proofs.Logic.{by_test, and_true, and_false_left, and_false_right}
use Rattle.model.specs.Job.{Job, Sound, disk_count, ref_count, ref_at}
use Rattle.model.specs.Playing.{Action as JobAction}
use Rattle.model.specs.Playing.{Schedule, State, is_resident, act_all, consumed, play_round}
use Rattle.model.specs.Rules.{into_empty, over_min_block, min_block_sooner, waits, none_missing, action}
use Rattle.model.specs.Rules.{Choice as RuleChoice, Rule as JobRule}
use Rattle.model.specs.Plans.{each, choices, plan_from}
use Rattle.model.specs.Page.{reason, reasons_of}
use Rattle.model.specs.Valid.{Ready}
use Rattle.model.proofs.Plans.{length-each, get_d_each, actions_of, plan_round}
use Rattle.model.proofs.Rounds.{ready_after}
use Rattle.lookup.specs.Desk.{passed}
use Rattle.lookup.specs.declared.Steps.{Steps}
use Rattle.playing.specs.Playing.{consume_one}
use Rattle.playing.proofs.Laws.{holds_same, holds_consume}
use Rattle.choosing.specs.Choosing.{rule_of}
use Rattle.choosing.specs.declared.Rule.{Rule}
use Rattle.lookup.proofs.Right.{Forward}
use Rattle.lookup.proofs.StaysRight.{reading, right_read}
use Rattle.writing.specs.Writing.{action_in, actions_in, reason_byte, reasons_in, idle_action}
use Rattle.writing.specs.declared.Action.{Action}
use Rattle.driving.specs.Driving.{PlanInput, PlanState, read_next, can_read, read_from, all_acted, round_acts, round_from, driven_from, reasons_from}
use Rattle.driving.proofs.Input.{input_of}
use Rattle.driving.proofs.TurnsRight.{lawful_of, mid_state, many, StandsFor, AfterTurns, at_disk}

-- a reason is below 256
reason_small : (c : RuleChoice) → reason c % 256 ≡ reason c
reason_small (into_empty u) = refl
reason_small (over_min_block u v) = refl
reason_small min_block_sooner = refl
reason_small waits = refl
reason_small none_missing = refl

-- only marks and next read count
stands_same : {j : Job} {s t : State} {p : PlanState} → s.resident ≡ t.resident → s.next ≡ t.next → StandsFor j s p → StandsFor j t p
stands_same {j} {s} {t} {p} m n h =
    let right = h.right in
    record {
      holds = holds_same j p.buffers s t m n h.holds;
      right = record {
        disks = rw (← m, ← n) right.disks;
        distances = rw (← n) right.distances;
        long_nexts = right.long_nexts;
        long_laters = right.long_laters;
        long_helds = right.long_helds;
        long_looks = right.long_looks;
      };
      long_acts = h.long_acts;
    }

module _ (rule : Rule) (j : Job) (sound : Sound j) {steps : Steps} (forward : Forward j steps) where
  abbrev k : PlanInput
  k = input_of j steps rule

  -- one reference is read
  stands_read : (marks : List Bool) (i : ℕ) (p : PlanState) → StandsFor j (reading marks i) p → i < ref_count j → is_resident marks (ref_at j i) ≡ true
      → StandsFor j (reading marks (suc i)) (read_next k p)
  unfolding consume_one
  stands_read marks i p h due here =
      let at : p.buffers.next ≡ i = h.holds.read in
      subst (λ (x : ℕ). StandsFor j (reading marks (suc i)) (record {
        buffers = consume_one p.buffers;
        desk = record p.desk { next = passed j.refs steps x p.desk.next };
        acts = p.acts;
      })) (sym at)
      (record {
        holds = holds_consume j p.buffers (reading marks i) h.holds;
        right = right_read marks i sound forward h.right due here;
        long_acts = h.long_acts;
      })

  -- what is consumed of the references from i on
  consumed_more : (marks : List Bool) (i : ℕ) → i < ref_count j → is_resident marks (ref_at j i) ≡ true
      → i + consumed marks (drop i j.refs) ≡ suc i + consumed marks (drop (suc i) j.refs)
  unfolding consumed
  consumed_more marks i due here = rw (drop-cons j.refs i 0 due, here) (omega arith)

  consumed-none : (marks : List Bool) (i : ℕ) → is_resident marks (ref_at j i) ≡ false → i < ref_count j → i + consumed marks (drop i j.refs) ≡ i
  unfolding consumed
  consumed-none marks i out due = rw (drop-cons j.refs i 0 due, out) (omega arith)

  consumed_end : (marks : List Bool) (i : ℕ) → ref_count j ≤ i → i + consumed marks (drop i j.refs) ≡ i
  unfolding consumed
  consumed_end marks i over = rw (drop_of_length-le j.refs {i = i} over) (omega arith)

  -- The suite reads on: what is there after it stands for the state after it.
  stands_on : (marks : List Bool) (n i : ℕ) (p : PlanState) → ref_count j ≤ i + n → StandsFor j (reading marks i) p
      → StandsFor j (reading marks (i + consumed marks (drop i j.refs))) (read_from k n p)
  unfolding read_from
  stands_on marks zero i p enough h = rw (consumed_end marks i (omega arith)) h
  stands_on marks (suc n) i p enough h =
      let at : p.buffers.next ≡ i = h.holds.read in
      let marked : p.buffers.resident ≡ marks = h.holds.marks in
      let can : can_read k p ≡ (ltb i (ref_count j) && is_resident marks (ref_at j i)) = rw (at, marked) refl in
      by_test (ltb i (ref_count j))
      (λ y. let due = ltb-true i (ref_count j) y in
      by_test (is_resident marks (ref_at j i))
      (λ here. let yes : can_read k p ≡ true = can ∙ and_true y here in
      rw (yes, consumed_more marks i due here) (stands_on marks n (suc i) (read_next k p) (omega arith) (stands_read marks i p h due here)))
      (λ out. let none : can_read k p ≡ false = can ∙ and_false_right (ltb i (ref_count j)) out in rw (none, consumed-none marks i out due) h))
      (λ f. let none : can_read k p ≡ false = can ∙ and_false_left _ f in rw (none, consumed_end marks i (ltb-false i (ref_count j) f)) h)

  -- all disks have acted
  module _ (s : State) (ready : Ready j s) (p : PlanState) (h : StandsFor j s p) where
    abbrev r : JobRule
    r = rule_of rule

    abbrev marks_after : List Bool
    marks_after = act_all s.resident (actions_of r j s)

    turn_none : AfterTurns r j s 0 p
    unfolding mid_state act_all
    turn_none = record { stands = stands_same refl refl h; chosen = λ e l. absurd (omega arith) }

    turn_all : AfterTurns r j s (disk_count j) (all_acted k p)
    turn_all = at_disk rule j sound forward s ready p turn_none (disk_count j) (omega arith)

    mid_all : (mid_state r j s (disk_count j)).resident ≡ marks_after
    unfolding mid_state
    mid_all =
        let l = many r (lawful_of rule) j sound s ready in
        ap (act_all s.resident) (take_all (disk_count j) (actions_of r j s) (omega (arith, l)))

    -- what is said of each action, and of the rule's choice for its disk, is said of all
    each_is : {A : Type 0} (f : Action → A) (g : RuleChoice → A) → f idle_action ≡ g none_missing
        → ((e : ℕ) → e < disk_count j → f (get_or (all_acted k p).acts e idle_action) ≡ g (r j s e)) → map f (round_acts k p) ≡ map g (choices r j s)
    unfolding choices
    each_is f g none same =
        let n = disk_count j in
        let acts = (all_acted k p).acts in
        let few = sound.few_disks in
        let long = turn_all.stands.long_acts in
        let many = length-map (take n acts) f ∙ length-take-le n acts (omega (arith, long)) in
        ext_get_or (f idle_action) (map f (take n acts)) (map g (each (r j s) 0 n))
        (many ∙ sym (length-map (each (r j s) 0 n) g ∙ length-each (r j s) 0 n)) (λ e l.
        let inside : e < n = omega (arith, l, many) in
        get_or-map f (take n acts) e idle_action ∙ ap f (get_or-take n acts e idle_action inside) ∙ same e inside
        ∙ sym (ap (get_or (map g (each (r j s) 0 n)) e) none ∙ get_or-map g (each (r j s) 0 n) e none_missing
        ∙ ap g (get_d_each (r j s) 0 n e none_missing inside ∙ ap (r j s) (let z : 0 + e ≡ e = omega arith in z))))

    -- their actions are the rule's,
    acts_are : actions_in (round_acts k p) ≡ actions_of r j s
    unfolding actions_of
    acts_are = each_is action_in action refl (λ e l. (turn_all.chosen e l).0)

    -- for the rule's reasons,
    reasons_are : reasons_in (round_acts k p) ≡ map reason (choices r j s)
    reasons_are = each_is reason_byte reason refl (λ e l. ap (λ (n : ℕ). n % 256) (turn_all.chosen e l).1 ∙ reason_small (r j s e))

    -- and what is there after the round stands for the state after it.
    stands_after : StandsFor j (play_round j s (actions_of r j s)) (round_from k p)
    unfolding mid_state play_round
    stands_after =
        stands_same refl refl (stands_on marks_after (ref_count j) s.next (all_acted k p) (omega arith) (stands_same mid_all refl turn_all.stands))

  -- The plan.
  pub driven_is : (most : ℕ) (s : State) → Ready j s → (p : PlanState) → StandsFor j s p
      → driven_from k most p ≡ map (map action) (plan_from (rule_of rule) j most s)
  unfolding driven_from plan_from actions_of
  driven_is zero s ready p h = refl
  driven_is (suc most) s ready p h =
      let at : p.buffers.next ≡ s.next = h.holds.read in
      let actions = actions_of (rule_of rule) j s in
      let after = play_round j s actions in
      by_test (ltb s.next (ref_count j))
      (λ y. rw (at, y, driven_from, plan_from) (ap₂ (λ (a : List JobAction) (l : Schedule). a ∷ l) (acts_are s ready p h)
      (driven_is most after (ready_after j s actions after ready (plan_round (rule_of rule) (lawful_of rule) j sound s ready)) (round_from k p)
      (stands_after s ready p h))))
      (λ f. rw (at, f, driven_from, plan_from) refl)

  pub driven_reasons : (most : ℕ) (s : State) → Ready j s → (p : PlanState) → StandsFor j s p
      → reasons_from k most p ≡ reasons_of (plan_from (rule_of rule) j most s)
  unfolding reasons_from reasons_of plan_from actions_of
  driven_reasons zero s ready p h = refl
  driven_reasons (suc most) s ready p h =
      let at : p.buffers.next ≡ s.next = h.holds.read in
      let actions = actions_of (rule_of rule) j s in
      let after = play_round j s actions in
      by_test (ltb s.next (ref_count j))
      (λ y. rw (at, y, reasons_from, plan_from) (ap₂ (λ (a l : List ℕ). a ++ l) (reasons_are s ready p h)
      (driven_reasons most after (ready_after j s actions after ready (plan_round (rule_of rule) (lawful_of rule) j sound s ready)) (round_from k p)
      (stands_after s ready p h))))
      (λ f. rw (at, f, reasons_from, plan_from) refl)
