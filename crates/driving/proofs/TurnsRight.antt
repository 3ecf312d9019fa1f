-- After each disk's turn the desk is right for the state in which the disks so far have acted, and their actions are the rule's. Assumes nothing.
use mathlib.Core.Path.{◌≡◌, refl, sym, ap, ◌∙◌, subst}
use mathlib.Core.Logic.{◌≢◌, ⊎_elim}
use mathlib.Core.Bool.{Bool, true, false}
use mathlib.Core.List.{List, [], ◌∷◌, ◌++◌}
use Prim.Native.Nat.{ℕ, zero, suc, ◌+◌, ◌-◌, ◌*◌, ◌≤◌, ◌<◌}
use native.Mathlib.Omega.{arith}
use lib.Dec.{eqb}
use lib.ListN.{length, get_or, set, take, length-set, length-take, get_or-eq_default}
use lib.Seq.{take-suc, get_or-set_same, get_or-set_other}
use borrow.Author.Tests.{eqb-true, eqb-false}
use Rattle.bits.proofs.Logic.{by_test}
use Rattle.model.specs.Job.{Job, Sound, disk_count, block_count, ref_count, slots_of, disk_of, ref_at}
use Rattle.model.specs.Playing.{Action as JobAction}
use Rattle.model.specs.Playing.{idle, fetch, replace, State, is_resident, load, act, act_all, fetched, discarded}
use Rattle.model.specs.Rules.{over_min_block, action, distance, distance_now}
use Rattle.model.specs.Rules.{Choice as RuleChoice, Rule as JobRule}
use Rattle.model.specs.Valid.{Block, Legal, LegalAll, Ready}
use Rattle.model.proofs.Buffers.{legal-take, taken, SameOn, load_same, load-round}
use Rattle.model.proofs.Choosing.{Lawful, short_lawful, sparing_lawful, nothing, into, sooner, waiting, over, RuleView}
use Rattle.model.proofs.Rounds.{own_action}
use Rattle.model.proofs.Plans.{actions_of, actions_at, plan_round}
use Rattle.lookup.specs.declared.Desk.{Desk}
use Rattle.lookup.specs.declared.Steps.{Steps}
use Rattle.playing.specs.Playing.{Holds, acted, fetch_into, replace_in}
use Rattle.playing.specs.declared.Buffers.{Buffers}
use Rattle.playing.proofs.Laws.{holds-fetch, holds-replace, holds_same}
use Rattle.choosing.specs.Choosing.{rule_of, meaning}
use Rattle.choosing.specs.declared.Rule.{Rule}
use Rattle.choosing.specs.declared.Rule.TheVariants.{Short, Sparing}
use Rattle.choosing.specs.declared.Choice.{Choice}
use Rattle.choosing.specs.declared.Choice.TheVariants.{IntoEmpty, OverMinBlock, MinBlockSooner, Waits, NoneMissing}
use Rattle.lookup.proofs.Right.{Listed, Pointer, DiskRight, Right, Forward}
use Rattle.choosing.proofs.DiskStaysRight.{disk_same, disk_elsewhere, pointed, pointer_into}
use Rattle.choosing.proofs.DiskStaysRight.{pointer_over, listed_into, listed_over, places_elsewhere}
use Rattle.moving.proofs.PointerRight.{Moved, forward_ahead}
use Rattle.choosing.proofs.Chosen.{Chooses, choice_is, choice_placed, Placed}
use Rattle.acting.specs.Acting.{noted, taken_in}
use Rattle.acting.proofs.AfterChoice.{rows_after, Says, noted_is}
use Rattle.writing.specs.Writing.{idle_action}
use Rattle.writing.specs.declared.Action.{Action}
use Rattle.driving.specs.Driving.{PlanInput, PlanState, choice_at, after_turn, turns}
use Rattle.driving.proofs.Input.{input_of}

pub lawful_of : (rule : Rule) → Lawful (rule_of rule)
lawful_of Short = short_lawful
lawful_of Sparing = sparing_lawful

-- The state after the actions of the disks below d.
unfoldable pub mid_state : JobRule → Job → State → ℕ → State
unfolding actions_of act_all
mid_state rule j s d = record { resident = act_all s.resident (take d (actions_of rule j s)); next = s.next; round = s.round }

-- actions one after the other
act_all_append : (marks : List Bool) (l m : List JobAction) → act_all marks (l ++ m) ≡ act_all (act_all marks l) m
unfolding act_all
act_all_append marks [] m = refl
act_all_append marks (a ∷ l) m = act_all_append (act marks a) l m

module _ (rule : JobRule) (lawful : Lawful rule) (j : Job) (sound : Sound j) (s : State) (ready : Ready j s) where
  legal : LegalAll j s.resident 0 (actions_of rule j s)
  legal = (plan_round rule lawful j sound s ready).legal

  pub many : length (actions_of rule j s) ≡ disk_count j
  many = (plan_round rule lawful j sound s ready).one_each

  -- one disk further
  mid_next : (d : ℕ) → d < disk_count j → (mid_state rule j s (suc d)).resident ≡ act (mid_state rule j s d).resident (action (rule j s d))
  unfolding mid_state actions_of act_all
  mid_next d l =
      ap (act_all s.resident) (take-suc (actions_of rule j s) d idle (let e = many in omega (arith, e)))
      ∙ act_all_append s.resident (take d (actions_of rule j s)) (get_or (actions_of rule j s) d idle ∷ [])
      ∙ ap (act (act_all s.resident (take d (actions_of rule j s)))) (actions_at rule j s d l)

  -- a disk that has not acted has its blocks as at the start
  mid_same : (d : ℕ) → SameOn j d (mid_state rule j s d).resident s.resident
  unfolding mid_state actions_of act
  mid_same d b l on =
      own_action j s.resident 0 (take d (actions_of rule j s)) (legal-take j s.resident 0 d (actions_of rule j s) legal) b d (omega arith)
      ∙ ap (λ (a : JobAction). is_resident (act s.resident a) b)
      (get_or-eq_default (take d (actions_of rule j s)) idle {n = d} (let e = length-take d (actions_of rule j s) in omega (arith, e)))

  start-load : (d : ℕ) → load j (mid_state rule j s d).resident d ≡ load j s.resident d
  start-load d = load_same j (mid_state rule j s d).resident s.resident d (mid_same d)

  -- no disk ever holds more than its slots
  mid_load : (d k : ℕ) → k < disk_count j → load j (mid_state rule j s d).resident k ≤ slots_of j k
  unfolding mid_state actions_of
  mid_load d k kl =
      let actions = actions_of rule j s in
      let r = plan_round rule lawful j sound s ready in
      let part = load-round j s.resident ready.long 0 (take d actions) (legal-take j s.resident 0 d actions legal) k k (omega arith) in
      let whole = load-round j s.resident ready.long 0 actions legal k k (omega arith) in
      let a2 = r.a2 k kl in
      let after = ap (λ (m : List Bool). load j m k) r.played in
      let before = ready.loads k kl in
      ⊎_elim
      (λ e. let f = ap fetched e in let g = ap discarded e in omega (arith, part, whole, a2, after, f, g))
      (λ e. let f = ap fetched e in let g = ap discarded e in omega (arith, part, f, g, before))
      (taken d k actions)

  mid_few : (d k : ℕ) → k < disk_count j → load j (mid_state rule j s d).resident k ≤ 64
  mid_few d k kl = let a = mid_load d k kl in let b = sound.few_slots k kl in omega (arith, a, b)

-- A state of the plan stands for a state of the model.
pub record StandsFor (j : Job) (s : State) (p : PlanState) : Type 0 where
  pub holds : Holds j p.buffers s
  pub right : Right j s p.desk
  pub long_acts : length p.acts ≡ 8

-- What is known once the disks below d have acted, in a round from the state s.
pub record AfterTurns (rule : JobRule) (j : Job) (s : State) (d : ℕ) (p : PlanState) : Type 0 where
  pub stands : StandsFor j (mid_state rule j s d) p
  pub chosen : (e : ℕ) → e < d → Says (rule j s e) (get_or p.acts e idle_action)

module _ (rule : JobRule) (lawful : Lawful rule) (j : Job) (sound : Sound j) (s : State) (ready : Ready j s) (d : ℕ) (l : d < disk_count j)
    {p : PlanState} (h : AfterTurns rule j s d p) where
  abbrev marks : List Bool
  marks = (mid_state rule j s d).resident

  abbrev a : JobAction
  a = action (rule j s d)

  -- The tables after disk d's action, put together: its own tables, and those of every other disk as they were.
  after-action : {b : Buffers} {desk : Desk} → Legal j marks d a → Holds j b (acted (mid_state rule j s d) a)
      → DiskRight j (act marks a) s.next d desk.held (get_or desk.look d 0) desk.later
      → ((e : ℕ) → e ≢ d → get_or desk.look e 0 ≡ get_or p.desk.look e 0)
      → ((e i : ℕ) → e ≢ d → e < disk_count j → i < 64 → get_or desk.held (e * 64 + i) 0 ≡ get_or p.desk.held (e * 64 + i) 0)
      → ((c : ℕ) → disk_of j c ≢ d → get_or desk.later c 0 ≡ get_or p.desk.later c 0)
      → desk.next ≡ p.desk.next → length desk.held ≡ 512 → length desk.look ≡ 512 → length desk.later ≡ 512
      → (x : Action) → Says (rule j s d) x
      → AfterTurns rule j s (suc d) (record { buffers = b; desk = desk; acts = set p.acts d x })
  unfolding mid_state
  after-action {b} {desk} legal' holds own looks' places laters' nexts' long₁ long₂ long₃ x is =
      let e = mid_next rule lawful j sound s ready d l in
      let eight = sound.few_disks in
      let la = h.stands.long_acts in
      record {
        stands = record {
          holds = holds_same j b (acted (mid_state rule j s d) a) (mid_state rule j s (suc d)) (sym e) refl holds;
          right = record {
            disks = λ k kl. subst (λ (m : List Bool). DiskRight j m s.next k desk.held (get_or desk.look k 0) desk.later) (sym e)
                (by_test (eqb k d)
                (λ y. let same = eqb-true k d y in
                subst (λ (z : ℕ). DiskRight j (act marks a) s.next z desk.held (get_or desk.look z 0) desk.later) (sym same) own)
                (λ n. let other = eqb-false k d n in
                subst (λ (z : ℕ). DiskRight j (act marks a) s.next k desk.held z desk.later) (sym (looks' k other))
                (disk_elsewhere a sound other legal' (mid_few rule lawful j sound s ready d k kl) (λ i q. places k i other kl q) laters'
                (h.stands.right.disks k kl))));
            distances = λ c q. ap (λ (t : List ℕ). get_or t c 0) nexts' ∙ h.stands.right.distances c q;
            long_nexts = ap length nexts' ∙ h.stands.right.long_nexts;
            long_laters = long₃;
            long_helds = long₁;
            long_looks = long₂;
          };
          long_acts = length-set p.acts d x ∙ la;
        };
        chosen = λ k kl. by_test (eqb k d)
            (λ y. rw (eqb-true k d y, get_or-set_same p.acts d x idle_action (omega (arith, la))) is)
            (λ n. let other = eqb-false k d n in
            rw (get_or-set_other p.acts d k x idle_action other) (h.chosen k (lib.Arith.lt_of_le-ne (omega arith) other)));
      }

  -- nothing is fetched
  step_idle : a ≡ idle → (x : Action) → Says (rule j s d) x
      → AfterTurns rule j s (suc d) (record { buffers = p.buffers; desk = p.desk; acts = set p.acts d x })
  unfolding mid_state act Legal
  step_idle e x is =
      let right = h.stands.right in
      after-action (subst (Legal j marks d) (sym e) tt)
      (subst (λ (y : JobAction). Holds j p.buffers (acted (mid_state rule j s d) y)) (sym e) h.stands.holds)
      (subst (λ (y : JobAction). DiskRight j (act marks y) s.next d p.desk.held (get_or p.desk.look d 0) p.desk.later) (sym e) (right.disks d l))
      (λ k n. refl) (λ k i n kl q. refl) (λ c n. refl) refl right.long_helds right.long_looks right.long_laters x is

  long-marks : block_count j ≤ length marks
  long-marks =
      let b = h.stands.holds.marks_long in
      let m = ap length h.stands.holds.marks in
      let few = sound.few_blocks in
      omega (arith, b, m, few)

  module _ {steps : Steps} (forward : Forward j steps) (more : get_or p.desk.look d 0 < ref_count j) where
    abbrev look : ℕ
    look = get_or p.desk.look d 0

    abbrev u : ℕ
    u = ref_at j look

    here : DiskRight j marks s.next d p.desk.held look p.desk.later
    unfolding mid_state
    here = h.stands.right.disks d l

    wide : block_count j ≤ length p.desk.later
    wide = let b = h.stands.right.long_laters in let few = sound.few_blocks in omega (arith, b, few)

    small_u : u < 512
    small_u = let k = sound.to_blocks look more in let few = sound.few_blocks in omega (arith, k, few)

    -- U is taken in at a place of its disk, with the disk's action
    own_step : {b : Buffers} → Legal j marks d a → Holds j b (acted (mid_state rule j s d) a) → (place : ℕ) → d * 64 ≤ place → place < d * 64 + 64
        → Listed j (act marks a) d (set p.desk.held place u) (load j (act marks a) d)
        → Pointer j (act marks a) s.next d look p.desk.later
        → (x : Action) → Says (rule j s d) x
        → AfterTurns rule j s (suc d)
        (record { buffers = b; desk = taken_in j.refs b.resident steps d u place p.desk; acts = set p.acts d x })
    own_step {b} legal' holds place lo hi listed pointer x is =
        let t = rows_after j.refs b.resident steps d u place p.desk sound.few_refs (forward_ahead forward) in
        let desk = taken_in j.refs b.resident steps d u place p.desk in
        let longLook = h.stands.right.long_looks in
        let eight = sound.few_disks in
        let moved : Moved j.refs (act marks a) steps p.desk.later look t.end desk.later =
        subst (λ (m : List Bool). Moved j.refs m steps p.desk.later look t.end desk.later) holds.marks t.moved in
        let stops : t.end < ref_count j → is_resident (act marks a) (ref_at j t.end) ≡ false =
        subst (λ (m : List Bool). t.end < ref_count j → is_resident m (ref_at j t.end) ≡ false) holds.marks t.stops in
        let at : get_or desk.look d 0 ≡ t.end =
        ap (λ (y : List ℕ). get_or y d 0) t.new_looks ∙ get_or-set_same p.desk.look d t.end 0 (omega (arith, l, longLook, eight)) in
        let goes = moved.right j s.next d refl sound forward wide pointer in
        after-action legal' holds
        (rw (t.new_helds, at) (record { listed = listed; pointer = goes.0; stops = stops }))
        (λ k n. ap (λ (y : List ℕ). get_or y k 0) t.new_looks ∙ get_or-set_other p.desk.look d k t.end 0 n)
        (λ k i n kl q. ap (λ (y : List ℕ). get_or y (k * 64 + i) 0) t.new_helds ∙ places_elsewhere p.desk.held d k place u i n lo hi q)
        (λ c n. goes.1 c (λ _. n))
        t.same_nexts
        (ap length t.new_helds ∙ length-set p.desk.held place u ∙ h.stands.right.long_helds)
        (ap length t.new_looks ∙ length-set p.desk.look d t.end ∙ longLook)
        (moved.long ∙ h.stands.right.long_laters)
        x is

    -- U enters an empty slot
    step_into : a ≡ fetch u → load j marks d < slots_of j d → (x : Action) → Says (rule j s d) x
        → AfterTurns rule j s (suc d) (record {
          buffers = fetch_into p.buffers u d;
          desk = taken_in j.refs (fetch_into p.buffers u d).resident steps d u (d * 64 + load j marks d) p.desk;
          acts = set p.acts d x;
        })
    unfolding Legal
    step_into e free x is =
        let new = pointed sound here more in
        let slots = sound.few_slots d l in
        own_step (subst (Legal j marks d) (sym e) new)
        (subst (λ (x : JobAction). Holds j (fetch_into p.buffers u d) (acted (mid_state rule j s d) x)) (sym e)
        (holds-fetch j p.buffers (mid_state rule j s d) h.stands.holds sound.few_blocks sound.few_disks d l u new))
        (d * 64 + load j marks d) (omega arith) (omega (arith, free, slots))
        (subst (λ (x : JobAction). Listed j (act marks x) d (set p.desk.held (d * 64 + load j marks d) u) (load j (act marks x) d)) (sym e)
        (listed_into sound here more l long-marks h.stands.right.long_helds free))
        (subst (λ (x : JobAction). Pointer j (act marks x) s.next d look p.desk.later) (sym e) (pointer_into sound here more))
        x is

    -- U takes the place of the resident at `place`
    step_over : (place : ℕ) → d * 64 ≤ place → place < d * 64 + load j marks d → a ≡ replace u (get_or p.desk.held place 0)
        → look ≤ distance j.refs s.next (get_or p.desk.held place 0) → (x : Action) → Says (rule j s d) x
        → AfterTurns rule j s (suc d) (record {
          buffers = replace_in p.buffers (get_or p.desk.held place 0) u d;
          desk = taken_in j.refs (replace_in p.buffers (get_or p.desk.held place 0) u d).resident steps d u place p.desk;
          acts = set p.acts d x;
        })
    unfolding Legal
    step_over place lo hi e far x is =
        let v = get_or p.desk.held place 0 in
        let new = pointed sound here more in
        let at : d * 64 + (place - d * 64) ≡ place = omega arith in
        let old : Block j marks d v true =
        subst (λ (x : ℕ). Block j marks d (get_or p.desk.held x 0) true) at (here.listed.each (place - d * 64) (omega arith)) in
        let loads = mid_load rule lawful j sound s ready d d l in
        let slots = sound.few_slots d l in
        own_step (subst (Legal j marks d) (sym e) (new, old))
        (subst (λ (x : JobAction). Holds j (replace_in p.buffers v u d) (acted (mid_state rule j s d) x)) (sym e)
        (holds-replace j p.buffers (mid_state rule j s d) h.stands.holds sound.few_blocks sound.few_disks d l u v new old))
        place lo (omega (arith, loads, slots))
        (subst (λ (x : JobAction). Listed j (act marks x) d (set p.desk.held place u) (load j (act marks x) d)) (sym e)
        (listed_over sound here more l long-marks h.stands.right.long_helds loads place lo hi))
        (subst (λ (x : JobAction). Pointer j (act marks x) s.next d look p.desk.later) (sym e) (pointer_over sound here more v far))
        x is

-- a rule that replaces the min-block finds it no sooner than U
over_far : (j : Job) (s : State) (d u v : ℕ) (c : RuleChoice) → RuleView j s d c → c ≡ over_min_block u v → distance_now j s u ≤ distance_now j s v
over_far j s d u v c (nothing h) e = let z : ◌≡◌ {A = ℕ} 0 1 = cc in absurd (omega arith)
over_far j s d u v c (into x n l) e = let z : ◌≡◌ {A = ℕ} 0 1 = cc in absurd (omega arith)
over_far j s d u v c (sooner x y n f l p) e = let z : ◌≡◌ {A = ℕ} 0 1 = cc in absurd (omega arith)
over_far j s d u v c (waiting w) e = let z : ◌≡◌ {A = ℕ} 0 1 = cc in absurd (omega arith)
over_far j s d u v c (over x y n f l p _) e =
    let a : x ≡ u = cc in
    let b : y ≡ v = cc in
    let p₁ = ap (distance_now j s) a in
    let p₂ = ap (distance_now j s) b in
    omega (arith, p, p₁, p₂)

module _ (rule : Rule) (j : Job) (sound : Sound j) {steps : Steps} (forward : Forward j steps) (s : State) (ready : Ready j s) where
  abbrev r : JobRule
  r = rule_of rule

  abbrev lawful : Lawful r
  lawful = lawful_of rule

  abbrev k : PlanInput
  k = input_of j steps rule

  module _ (d : ℕ) (l : d < disk_count j) {p : PlanState} (h : AfterTurns r j s d p) where
    counted : get_or p.buffers.held d 0 ≡ load j (mid_state r j s d).resident d
    counted = h.stands.holds.loads d l

    chooses : Chooses j s d p.desk (get_or p.buffers.held d 0) (slots_of j d)
    unfolding mid_state
    chooses = record {
      sound = sound;
      known = l;
      right = disk_same sound (mid_same r lawful j sound s ready d) (h.stands.right.disks d l);
      distances = h.stands.right.distances;
      counted = counted ∙ start-load r lawful j sound s ready d;
      slotted = refl;
    }

    module _ (c : Choice) (e : c ≡ choice_at k d p) where
      placed : Placed j.refs (get_or p.desk.look d 0) (d * 64) (get_or p.buffers.held d 0) (slots_of j d) c
      placed =
          subst (Placed j.refs (get_or p.desk.look d 0) (d * 64) (get_or p.buffers.held d 0) (slots_of j d)) (sym e)
          (choice_placed j.refs rule d (get_or p.buffers.held d 0) (slots_of j d) p.desk (sound.some_slot d l))

      rule_is : meaning p.desk.held c ≡ r j s d
      rule_is = ap (meaning p.desk.held) e ∙ choice_is chooses rule

    -- U is found where the desk's pointer stands, so the min-block is referenced no sooner
    far_enough : (u place : ℕ) → OverMinBlock u place ≡ choice_at k d p
        → get_or p.desk.look d 0 ≤ distance j.refs s.next (get_or p.desk.held place 0)
    unfolding mid_state
    far_enough u place e =
        let f = placed (OverMinBlock u place) e in
        let look = get_or p.desk.look d 0 in
        let v = over_far j s d u (get_or p.desk.held place 0) (r j s d) (lawful j s d (sound.some_slot d l)) (sym (rule_is (OverMinBlock u place) e)) in
        let right = chooses.right in
        let q = right.pointer.least (ref_at j look) (sound.to_blocks look f.0) (right.pointer.on_disk f.0) (right.stops f.0) in
        let same = ap (distance_now j s) f.1 in
        omega (arith, v, q, same)

    written : (c : Choice) → c ≡ choice_at k d p → Says (r j s d) (noted p.desk.held c)
    written c e = subst (λ (x : RuleChoice). Says x (noted p.desk.held c)) (rule_is c e) (noted_is p.desk.held c)

    turn_step : (c : Choice) → c ≡ choice_at k d p → AfterTurns r j s (suc d) (after_turn k d p c)
    turn_step (IntoEmpty u place) e =
        let f = placed (IntoEmpty u place) e in
        let same = f.1 in
        let at : place ≡ d * 64 + load j (mid_state r j s d).resident d = (let n = counted in let q = f.3 in omega (arith, n, q)) in
        let is = subst (λ (y : ℕ). Says (r j s d) (noted p.desk.held (IntoEmpty y place))) same (written (IntoEmpty u place) e) in
        rw (at, same) (step_into r lawful j sound s ready d l h forward f.0 (ap action (sym (rule_is (IntoEmpty u place) e)) ∙ ap fetch same)
        (let n = counted in let q = f.2 in omega (arith, n, q)) _ is)
    turn_step (OverMinBlock u place) e =
        let f = placed (OverMinBlock u place) e in
        let same = f.1 in
        let v = get_or p.desk.held place 0 in
        let is = subst (λ (y : ℕ). Says (r j s d) (noted p.desk.held (OverMinBlock y place))) same (written (OverMinBlock u place) e) in
        rw same (step_over r lawful j sound s ready d l h forward f.0 place f.3 (let n = counted in let q = f.4 in omega (arith, n, q))
        (ap action (sym (rule_is (OverMinBlock u place) e)) ∙ ap (λ (y : ℕ). replace y v) same) (far_enough u place e) _ is)
    turn_step MinBlockSooner e = step_idle r lawful j sound s ready d l h (ap action (sym (rule_is MinBlockSooner e))) _ (written MinBlockSooner e)
    turn_step Waits e = step_idle r lawful j sound s ready d l h (ap action (sym (rule_is Waits e))) _ (written Waits e)
    turn_step NoneMissing e = step_idle r lawful j sound s ready d l h (ap action (sym (rule_is NoneMissing e))) _ (written NoneMissing e)

  -- all turns
  pub at_disk : (p : PlanState) → AfterTurns r j s 0 p → (d : ℕ) → d ≤ disk_count j → AfterTurns r j s d (turns k d p)
  unfolding turns
  at_disk p h zero l = h
  at_disk p h (suc d) l = turn_step d (omega arith) (at_disk p h d (omega arith)) _ refl
