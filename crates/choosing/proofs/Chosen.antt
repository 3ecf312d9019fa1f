-- What is chosen from a right desk is what the model's rule chooses; its place is the first empty slot, or that of a resident. Assumes nothing.
use mathlib.Core.Path.{◌≡◌, refl, sym, ap, subst, ◌∙◌}
use mathlib.Core.Bool.{Bool, true, false, cond}
use mathlib.Core.List.{List}
use mathlib.Core.Option.{Option, none, some}
use Prim.Native.Nat.{ℕ, ◌+◌, ◌-◌, ◌*◌, ◌≤◌, ◌<◌}
use native.Mathlib.Nat.{le_antisymm}
use native.Mathlib.Omega.{arith}
use lib.Dec.{leb, ltb}
use lib.ListN.{length, get_or}
use borrow.Author.Tests.{leb-true, leb-false, ltb-true, ltb-false, lt-ltb, le-ltb}
use Rattle.bits.proofs.Logic.{by_test, same_test}
use Rattle.model.specs.Job.{Job, Sound, disk_count, ref_count, slots_of, ref_at}
use Rattle.model.specs.Playing.{State, load}
use Rattle.model.specs.Rules.{distance, distance_now, nearest_missing, min_block, short_of, short, some_later, unless_later, sparing}
use Rattle.model.specs.Rules.{into_empty, over_min_block, min_block_sooner, waits, none_missing}
use Rattle.model.specs.Rules.{Choice as RuleChoice}
use Rattle.model.specs.Valid.{Block}
use Rattle.model.proofs.Distances.{distance_before, distance_same, distance_one}
use Rattle.model.proofs.Choosing.{NearestView, none_due, nearest, nearest_view, LastView, empty, last, last_view, no_later, one_later}
use Rattle.lookup.specs.declared.Desk.{Desk}
use Rattle.choosing.specs.Choosing.{last_place, some_beyond, also_idle, choice_from, rule_of, meaning}
use Rattle.choosing.specs.declared.Rule.{Rule}
use Rattle.choosing.specs.declared.Rule.TheVariants.{Short, Sparing}
use Rattle.choosing.specs.declared.Choice.{Choice}
use Rattle.choosing.specs.declared.Choice.TheVariants.{IntoEmpty, OverMinBlock, MinBlockSooner, Waits, NoneMissing}
use Rattle.lookup.proofs.Right.{DiskRight}
use Rattle.choosing.proofs.Scanning.{last_within, last_most, beyond_none, beyond_some}

-- What is chosen, and the tests that led to it. The last of the residents is referenced at `far`.
module _ (refs : List ℕ) (rule : Rule) (d count slots : ℕ) (desk : Desk) where
  abbrev look_of : ℕ
  look_of = get_or desk.look d 0

  abbrev last_of : ℕ
  last_of = last_place desk.held desk.next (d * 64) (count - 1)

  abbrev far : ℕ
  far = get_or desk.next (get_or desk.held last_of 0) 0

  abbrev idles : Bool
  idles = also_idle rule (some_beyond desk.held desk.later far (d * 64) count)

  data Tested : Choice → Type 0 where
    at_end : length refs ≤ look_of → Tested NoneMissing
    room : look_of < length refs → count < slots → Tested (IntoEmpty (get_or refs look_of 0) (d * 64 + count))
    before : look_of < length refs → slots ≤ count → far < look_of → Tested MinBlockSooner
    beyond : look_of < length refs → slots ≤ count → look_of ≤ far → idles ≡ true → Tested Waits
    after : look_of < length refs → slots ≤ count → look_of ≤ far → idles ≡ false → Tested (OverMinBlock (get_or refs look_of 0) last_of)

  tested : Tested (choice_from refs rule d count slots desk)
  unfolding choice_from
  tested =
      by_test (leb (length refs) look_of)
      (λ e. rw e (at_end (leb-true _ _ e)))
      (λ e. let l = leb-false (length refs) look_of e in
      by_test (ltb count slots)
      (λ f. rw (e, f) (room l (ltb-true _ _ f)))
      (λ f. let full = ltb-false count slots f in
      by_test (ltb far look_of)
      (λ g. rw (e, f, g) (before l full (ltb-true _ _ g)))
      (λ g. let k = ltb-false far look_of g in
      by_test idles
      (λ y. rw (e, f, g, y) (beyond l full k y))
      (λ y. rw (e, f, g, y) (after l full k y)))))

-- A disk of a job for which a rule chooses: its tables are right in the state, and so are the numbers of its residents and its slots.
pub record Chooses (j : Job) (s : State) (d : ℕ) (desk : Desk) (count slots : ℕ) : Type 0 where
  pub sound : Sound j
  pub known : d < disk_count j
  pub right : DiskRight j s.resident s.next d desk.held (get_or desk.look d 0) desk.later
  pub distances : (b : ℕ) → b < 512 → get_or desk.next b 0 ≡ distance j.refs s.next b
  pub counted : count ≡ load j s.resident d
  pub slotted : slots ≡ slots_of j d

module _ {j : Job} {s : State} {d : ℕ} {desk : Desk} {count slots : ℕ} (h : Chooses j s d desk count slots) where
  abbrev look : ℕ
  look = get_or desk.look d 0

  abbrev residents : List ℕ
  residents = desk.held

  abbrev next : List ℕ
  next = desk.next

  abbrev later : List ℕ
  later = desk.later

  -- U is the block of the first missing reference, if there is one.
  none-due : ref_count j ≤ look → nearest_missing j s d ≡ none
  none-due l = step (nearest_missing j s d) (nearest_view j s d)
    where
      step : (x : Option ℕ) → NearestView j s d x → x ≡ none
      step x (none_due _) = refl
      step x (nearest u n) =
          let m = h.right.pointer.least u n.block.known n.block.on_disk n.block.mark in
          let due = n.due in
          absurd (omega (arith, m, due))

  pub u_block : look < ref_count j → Block j s.resident d (ref_at j look) false
  u_block l = record { known = h.sound.to_blocks look l; on_disk = h.right.pointer.on_disk l; mark = h.right.stops l }

  u_distance : look < ref_count j → distance_now j s (ref_at j look) ≡ look
  u_distance l =
      let b = u_block l in
      le_antisymm (distance_before j.refs s.next (ref_at j look) look h.right.pointer.onward refl)
      (h.right.pointer.least (ref_at j look) b.known b.on_disk b.mark)

  u_nearest : look < ref_count j → nearest_missing j s d ≡ some (ref_at j look)
  u_nearest l = step (nearest_missing j s d) (nearest_view j s d)
    where
      step : (x : Option ℕ) → NearestView j s d x → x ≡ some (ref_at j look)
      step x (none_due far-off) =
          let b = u_block l in
          let m = far-off (ref_at j look) b.known b.on_disk b.mark in
          let e = u_distance l in
          absurd (omega (arith, m, e))
      step x (nearest u n) =
          let b = u_block l in
          let below = n.least (ref_at j look) b.known b.on_disk b.mark in
          let above = h.right.pointer.least u n.block.known n.block.on_disk n.block.mark in
          let e = u_distance l in
          ap some (distance_one j.refs s.next u (ref_at j look) (omega (arith, below, above, e)) n.due)

  -- The min-block is the last of the residents.
  abbrev place : ℕ
  place = last_place residents next (d * 64) (count - 1)

  abbrev v : ℕ
  v = get_or residents place 0

  -- a place among the residents has a buffered block,
  pub place-block : (p : ℕ) → d * 64 ≤ p → p < d * 64 + count → Block j s.resident d (get_or residents p 0) true
  place-block p a b =
      let n = h.counted in
      let e : d * 64 + (p - d * 64) ≡ p = omega arith in
      subst (λ (i : ℕ). Block j s.resident d (get_or residents i 0) true) e (h.right.listed.each (p - d * 64) (omega (arith, n)))

  -- whose distance stands in the table
  next_known : {b : ℕ} → Block j s.resident d b true → (b < 512) × (get_or next b 0 ≡ distance_now j s b)
  next_known {b} k =
      let l = k.known in
      let few = h.sound.few_blocks in
      let small : b < 512 = omega (arith, l, few) in
      (small, h.distances b small)

  some-resident : slots ≤ count → 1 ≤ count
  some-resident f = let e = h.slotted in let o = h.sound.some_slot d h.known in omega (arith, e, o)

  place-within : slots ≤ count → (d * 64 ≤ place) × (place < d * 64 + count)
  place-within f =
      let w = last_within residents next (d * 64) (count - 1) in
      let o = some-resident f in
      (omega (arith, w), omega (arith, w, o))

  v_block : slots ≤ count → Block j s.resident d v true
  v_block f = let w = place-within f in place-block place w.0 w.1

  min-block : slots ≤ count → min_block j s d ≡ some v
  min-block f = step (min_block j s d) (last_view j s d)
    where
      step : (x : Option ℕ) → LastView j s d x → x ≡ some v
      step x (empty z) = let e = h.counted in let o = some-resident f in absurd (omega (arith, e, o))
      step x (last m l) =
          let a = h.right.listed.all m l.block in
          let i = a.1 in
          let e = h.counted in
          let key = last_most residents next (d * 64) (count - 1) a.0 (omega (arith, i, e)) in
          let same = ap (λ (b : ℕ). get_or next b 0 * 512 + b) a.2 in
          let nm = next_known l.block in
          let b = v_block f in
          let nv = next_known b in
          let most = l.most v b.known b.on_disk b.mark in
          let less = most.0 in
          let tie = most.1 (omega (arith, key, same, nm, nv, less)) in
          ap some (omega (arith, key, same, nm, nv, less, tie))

  -- Counted from U on, a buffered block has a later distance than the min-block exactly if one of the residents stands beyond it.
  later_same : look < ref_count j → slots ≤ count → look ≤ get_or next v 0
      → some_later j s d (ref_at j look) v ≡ some_beyond residents later (get_or next v 0) (d * 64) count
  later_same l f k = same_test (some_later j s d (ref_at j look) v) (some_beyond residents later (get_or next v 0) (d * 64) count) there back
    where
      -- a block's distance from U on is that in the table
      from_u : (b : ℕ) → Block j s.resident d b true → distance j.refs (distance_now j s (ref_at j look)) b ≡ get_or later b 0
      from_u b on = ap (λ (x : ℕ). distance j.refs x b) (u_distance l) ∙ sym (h.right.pointer.laters b on.known on.on_disk)

      -- and the min-block's has not changed
      v_same : distance j.refs (distance_now j s (ref_at j look)) v ≡ get_or next v 0
      v_same =
          let n = (next_known (v_block f)).1 in
          ap (λ (x : ℕ). distance j.refs x v) (u_distance l)
          ∙ distance_same j.refs s.next look v h.right.pointer.onward (omega (arith, n)) h.right.pointer.within
          ∙ sym n

      there : some_later j s d (ref_at j look) v ≡ true → some_beyond residents later (get_or next v 0) (d * 64) count ≡ true
      there y =
          by_test (some_beyond residents later (get_or next v 0) (d * 64) count)
          (λ e. e)
          (λ e. let w = one_later j s d (ref_at j look) v y in
          let a = h.right.listed.all w.0 w.1 in
          let i = a.1 in
          let n = h.counted in
          let none-beyond = beyond_none residents later (get_or next v 0) (d * 64) count e a.0 (omega (arith, i, n)) in
          let same = ap (λ (b : ℕ). get_or later b 0) a.2 in
          let beyond-v = w.2 in
          let at = from_u w.0 w.1 in
          let at-v = v_same in
          absurd (omega (arith, none-beyond, same, beyond-v, at, at-v)))

      back : some_beyond residents later (get_or next v 0) (d * 64) count ≡ true → some_later j s d (ref_at j look) v ≡ true
      back y =
          by_test (some_later j s d (ref_at j look) v)
          (λ e. e)
          (λ e. let w = beyond_some residents later (get_or next v 0) (d * 64) count y in
          let p = d * 64 + w.0 in
          let i = w.1 in
          let b = place-block p (omega arith) (omega (arith, i)) in
          let none-later = no_later j s d (ref_at j look) v e (get_or residents p 0) b.known b.on_disk b.mark in
          let beyond-v = w.2 in
          let at = from_u (get_or residents p 0) b in
          let at-v = v_same in
          absurd (omega (arith, none-later, beyond-v, at, at-v)))

  -- What the short rule does,
  short_none : ref_count j ≤ look → short j s d ≡ none_missing
  unfolding short
  short_none l = ap (short_of j s d) (none-due l)

  short_into : look < ref_count j → count < slots → short j s d ≡ into_empty (ref_at j look)
  unfolding short
  short_into l f =
      let e = h.counted in
      let k = h.slotted in
      let t : ltb (load j s.resident d) (slots_of j d) ≡ true = lt-ltb (load j s.resident d) (slots_of j d) (omega (arith, e, k)) in
      ap (short_of j s d) (u_nearest l) ∙ rw t

  short-full : look < ref_count j → slots ≤ count
      → short j s d ≡ cond (ltb (distance_now j s v) (distance_now j s (ref_at j look))) min_block_sooner (over_min_block (ref_at j look) v)
  unfolding short
  short-full l f =
      let e = h.counted in
      let k = h.slotted in
      let t : ltb (load j s.resident d) (slots_of j d) ≡ false = le-ltb (load j s.resident d) (slots_of j d) (omega (arith, e, k)) in
      ap (short_of j s d) (u_nearest l) ∙ rw (t, min-block f)

  short_sooner : look < ref_count j → slots ≤ count → get_or next v 0 < look → short j s d ≡ min_block_sooner
  short_sooner l f k =
      let n = (next_known (v_block f)).1 in
      let e = u_distance l in
      short-full l f ∙ rw (lt-ltb (distance_now j s v) (distance_now j s (ref_at j look)) (omega (arith, n, e)))

  short-over : look < ref_count j → slots ≤ count → look ≤ get_or next v 0 → short j s d ≡ over_min_block (ref_at j look) v
  short-over l f k =
      let n = (next_known (v_block f)).1 in
      let e = u_distance l in
      short-full l f ∙ rw (le-ltb (distance_now j s v) (distance_now j s (ref_at j look)) (omega (arith, n, e)))

  -- and the rule that is asked for.
  always : (rule : Rule) (c : RuleChoice) → short j s d ≡ c → unless_later j s d c ≡ c → c ≡ rule_of rule j s d
  unfolding sparing
  always Short c e k = sym e
  always Sparing c e k = sym k ∙ ap (unless_later j s d) (sym e)

  over_ruled : (rule : Rule) (u w : ℕ) → short j s d ≡ over_min_block u w
      → cond (also_idle rule (some_later j s d u w)) waits (over_min_block u w) ≡ rule_of rule j s d
  unfolding unless_later sparing
  over_ruled Short u w e = sym e
  over_ruled Sparing u w e = ap (unless_later j s d) (sym e)

  -- What is chosen from the tables is what the rule chooses,
  pub choice_is : (rule : Rule) → meaning residents (choice_from j.refs rule d count slots desk) ≡ rule_of rule j s d
  unfolding unless_later
  choice_is rule = step _ (tested j.refs rule d count slots desk)
    where
      step : (c : Choice) → Tested j.refs rule d count slots desk c → meaning residents c ≡ rule_of rule j s d
      step c (at_end l) = always rule none_missing (short_none l) refl
      step c (room l f) = always rule (into_empty (ref_at j look)) (short_into l f) refl
      step c (before l f k) = always rule min_block_sooner (short_sooner l f k) refl
      step c (beyond l f k y) = rw (later_same l f k, y) at (over_ruled rule (ref_at j look) v (short-over l f k))
      step c (after l f k y) = rw (later_same l f k, y) at (over_ruled rule (ref_at j look) v (short-over l f k))

-- and stands where the tables say: at a slot, or at a place among the residents.
abbrev pub Placed : List ℕ → ℕ → ℕ → ℕ → ℕ → Choice → Type 0
Placed refs at base count slots (IntoEmpty u p) = (at < length refs) × (u ≡ get_or refs at 0) × (count < slots) × (p ≡ base + count)
Placed refs at base count slots (OverMinBlock u p) =
    (at < length refs) × (u ≡ get_or refs at 0) × (slots ≤ count) × (base ≤ p) × (p < base + count)
Placed refs at base count slots MinBlockSooner = Unit {0}
Placed refs at base count slots Waits = Unit {0}
Placed refs at base count slots NoneMissing = Unit {0}

pub choice_placed : (refs : List ℕ) (rule : Rule) (d count slots : ℕ) (desk : Desk) → 1 ≤ slots
    → Placed refs (get_or desk.look d 0) (d * 64) count slots (choice_from refs rule d count slots desk)
choice_placed refs rule d count slots desk one = step _ (tested refs rule d count slots desk)
  where
    step : (c : Choice) → Tested refs rule d count slots desk c → Placed refs (get_or desk.look d 0) (d * 64) count slots c
    step c (at_end l) = tt
    step c (room l f) = (l, refl, f, refl)
    step c (before l f k) = tt
    step c (beyond l f k y) = tt
    step c (after l f k y) =
        let w = last_within desk.held desk.next (d * 64) (count - 1) in
        (l, refl, f, omega (arith, w), omega (arith, w, f, one))
