-- The methods of the playing state lead from states of the model to states of the model. Assumes nothing.
use mathlib.Core.Path.{◌≡◌, refl, sym, ap, ◌∙◌}
use mathlib.Core.Bool.{Bool, true, false, ◌&&◌}
use mathlib.Core.List.{List}
use Prim.Native.Nat.{ℕ, suc, ◌+◌, ◌-◌, ◌≤◌, ◌<◌}
use native.Mathlib.Numerals.{add-one}
use native.Mathlib.Omega.{arith}
use lib.Dec.{eqb}
use lib.ListN.{length, get_or, set, take, drop, length-set, length-take, drop_of_length-le}
use lib.Seq.{get_or-set_same, get_or-set_other, set-set, take-suc, get_or-take, drop-cons}
use Rattle.std.proofs.Common.{zero-add}
use borrow.Author.Tests.{eq-eqb, eqb-true, eqb-false}
use Rattle.bits.proofs.Logic.{by_test, clash}
use Rattle.model.specs.Job.{Job, disk_count, block_count, disk_of}
use Rattle.model.specs.Playing.{Action, fetch, replace, State, none_resident, is_resident, load, act, consumed, marked, marked_all, fetched, discarded}
use Rattle.model.specs.Plans.{each}
use Rattle.model.specs.Valid.{Block, Legal}
use Rattle.model.proofs.Counting.{count-drop}
use Rattle.model.proofs.Buffers.{load_own, load_elsewhere}
use Rattle.model.proofs.Plans.{each_more}
use Rattle.model.proofs.Carried.{marked_more, marked_all_more}
use Rattle.job.specs.Meaning.{carried_in}
use Rattle.playing.specs.declared.Buffers.{Buffers}
use Rattle.playing.specs.Playing.{fetch_into, discard_from, replace_in, consume_one, read_on_from, Holds, acted, read_one}

-- The blocks carried in, marked one by one and disk by disk.

pub mark_next : (marks : List Bool) (blocks : List ℕ) (i : ℕ) → i < length blocks
    → marked marks (take (i + 1) blocks) ≡ set (marked marks (take i blocks)) (get_or blocks i 0) true
mark_next marks blocks i l = rw (add-one i, take-suc blocks i 0 l) (marked_more marks (take i blocks) (get_or blocks i 0))

pub carry_next : (held blocks : List ℕ) (d : ℕ) → marked_all none_resident (each (carried_in held blocks) 0 (d + 1))
    ≡ marked (marked_all none_resident (each (carried_in held blocks) 0 d)) (carried_in held blocks d)
carry_next held blocks d =
    rw (add-one d, each_more (carried_in held blocks) 0 d, zero-add d)
    (marked_all_more none_resident (each (carried_in held blocks) 0 d) (carried_in held blocks d))

-- References that are read on: one that is consumed, and none where the next one's block is missing or none is left.
module _ (b : Buffers) (refs : List ℕ) (count : ℕ) (room : count ≤ length refs) where
  pub read_more : b.next < count → get_or b.resident (get_or refs b.next 0) false ≡ true
      → read_on_from (consume_one b) (take count refs) ≡ read_on_from b (take count refs)
  unfolding read_on_from consume_one consumed
  read_more l here = λ i. record { resident = b.resident; held = b.held; next = next i }
    where
      next : (b.next + 1) + consumed b.resident (drop (b.next + 1) (take count refs)) ≡ b.next + consumed b.resident (drop b.next (take count refs))
      next =
          let cut : b.next < length (take count refs) = omega (arith, length-take count refs) in
          let one : b.next + 1 ≡ suc b.next = omega arith in
          rw (drop-cons (take count refs) b.next 0 cut, get_or-take count refs b.next 0 l, here, one) (omega arith)

  pub read_missing : b.next < count → get_or b.resident (get_or refs b.next 0) false ≡ false → read_on_from b (take count refs) ≡ b
  unfolding read_on_from consumed
  read_missing l out = λ i. record { resident = b.resident; held = b.held; next = next i }
    where
      next : b.next + consumed b.resident (drop b.next (take count refs)) ≡ b.next
      next =
          let cut : b.next < length (take count refs) = omega (arith, length-take count refs) in
          rw (drop-cons (take count refs) b.next 0 cut, get_or-take count refs b.next 0 l, out) (omega arith)

  pub read_end : count ≤ b.next → read_on_from b (take count refs) ≡ b
  unfolding read_on_from consumed
  read_end l = λ i. record { resident = b.resident; held = b.held; next = next i }
    where
      next : b.next + consumed b.resident (drop b.next (take count refs)) ≡ b.next
      next = rw (drop_of_length-le (take count refs) {i = b.next} (omega (arith, length-take count refs))) (omega arith)

-- what `read_on` applies
pub ruleset reading = (read_more, read_missing, read_end)

-- only marks and next read count
pub holds_same : (j : Job) (b : Buffers) (s t : State) → s.resident ≡ t.resident → s.next ≡ t.next → Holds j b s → Holds j b t
holds_same j b s t m n h = record {
  marks = h.marks ∙ m;
  loads = λ d p. h.loads d p ∙ ap (λ (l : List Bool). load j l d) m;
  read = h.read ∙ n;
  marks_long = h.marks_long;
  held_long = h.held_long;
}

-- a disk with a block in its buffer can discard one
pub holds-some : (j : Job) (b : Buffers) (s : State) → Holds j b s → (d : ℕ) → d < disk_count j → (z : ℕ) → Block j s.resident d z true
    → 1 ≤ get_or b.held d 0
unfolding load
holds-some j b s h d p z old =
    let on : eqb (disk_of j z) d ≡ true = eq-eqb _ _ old.on_disk in
    let more = count-drop (λ _. false) (λ c. eqb (disk_of j c) d && is_resident s.resident c) z (block_count j) old.known (rw (on, old.mark)) refl
    (λ c l q. clash q refl) in
    let held = h.loads d p in
    omega (arith, more, held)

module _ (j : Job) (b : Buffers) (s : State) (h : Holds j b s) (few : block_count j ≤ 512) (disks : disk_count j ≤ 8) (d : ℕ) (p : d < disk_count j) where
  -- the new load in its place gives all loads after an action of disk d
  loads-after : (a : Action) → Legal j s.resident d a → (n : ℕ) → n + discarded a ≡ get_or b.held d 0 + fetched a
      → (e : ℕ) → e < disk_count j → get_or (set b.held d n) e 0 ≡ load j (act s.resident a) e
  loads-after a legal n same e q =
      by_test (eqb e d)
      (λ y. let same-disk = eqb-true e d y in rw same-disk own)
      (λ f. let other = eqb-false e d f in
      get_or-set_other b.held d e n 0 other ∙ h.loads e q ∙ sym (load_elsewhere j s.resident d a legal e other))
    where
      own : get_or (set b.held d n) d 0 ≡ load j (act s.resident a) d
      own =
          let long = h.held_long in
          let marks = ap length h.marks in
          let now = load_own j s.resident (let l = h.marks_long in omega (arith, l, marks)) d a legal in
          let before = h.loads d p in
          get_or-set_same b.held d n 0 (omega arith) ∙ omega (arith, now, before)

  pub holds-fetch : (x : ℕ) → Block j s.resident d x false → Holds j (fetch_into b x d) (acted s (fetch x))
  unfolding fetch_into act Legal
  holds-fetch x new = record {
    marks = ap (λ (l : List Bool). set l x true) h.marks;
    loads = loads-after (fetch x) new (get_or b.held d 0 + 1) (omega arith);
    read = h.read;
    marks_long = length-set b.resident x true ∙ h.marks_long;
    held_long = length-set b.held d _ ∙ h.held_long;
  }

  pub holds-replace : (x z : ℕ) → Block j s.resident d x false → Block j s.resident d z true → Holds j (replace_in b z x d) (acted s (replace x z))
  unfolding replace_in fetch_into discard_from act Legal
  holds-replace x z new old =
      let long = h.held_long in
      let some = holds-some j b s h d p z old in
      let left = get_or b.held d 0 - 1 in
      let back : get_or (set b.held d left) d 0 ≡ left = get_or-set_same b.held d left 0 (omega arith) in
      let twice : set (set b.held d left) d (get_or (set b.held d left) d 0 + 1) ≡ set b.held d (left + 1) =
      set-set b.held d left _ ∙ ap (λ (n : ℕ). set b.held d (n + 1)) back in
      let kept = loads-after (replace x z) (new, old) (left + 1) (omega arith) in
      record {
        marks = ap (λ (l : List Bool). set (set l z false) x true) h.marks;
        loads = λ e q. ap (λ (l : List ℕ). get_or l e 0) twice ∙ kept e q;
        read = h.read;
        marks_long = length-set (set b.resident z false) x true ∙ length-set b.resident z false ∙ h.marks_long;
        held_long = ap length twice ∙ length-set b.held d (left + 1) ∙ long;
      }

pub holds_consume : (j : Job) (b : Buffers) (s : State) → Holds j b s → Holds j (consume_one b) (read_one s)
unfolding consume_one
holds_consume j b s h = record {
  marks = h.marks;
  loads = h.loads;
  read = (let e = h.read in omega (arith, e));
  marks_long = h.marks_long;
  held_long = h.held_long;
}
