-- Each turn and each reference read keep the sizes. Assumes nothing.
use mathlib.Core.Path.{◌≡◌, sym, ap, ◌∙◌, subst}
use mathlib.Core.List.{List}
use Prim.Native.Nat.{ℕ, suc, ◌+◌, ◌-◌, ◌*◌, ◌≤◌, ◌<◌}
use native.Mathlib.Omega.{arith}
use lib.Dec.{eqb, ltb, lit<}
use lib.ListN.{length, get_or, set, length-set, get_or-eq_default}
use lib.Seq.{get_or-set_same, get_or-set_other}
use borrow.Author.Tests.{eqb-true, eqb-false, ltb-true, ltb-false}
use Rattle.std.specs.List.{All}
use Rattle.bits.specs.Bits.{Below}
use Rattle.bits.proofs.Logic.{by_test}
use Rattle.bits.proofs.Fields.{below_any}
use Rattle.std.proofs.lemmas.List.Elements.{All-set}
use Rattle.lookup.proofs.Rows.{below_set}
use Rattle.playing.specs.Playing.{fetch_into, replace_in, discard_from, consume_one}
use Rattle.playing.specs.declared.Buffers.{Buffers}
use Rattle.choosing.specs.declared.Choice.{Choice}
use Rattle.choosing.specs.declared.Choice.TheVariants.{IntoEmpty, OverMinBlock, MinBlockSooner, Waits, NoneMissing}
use Rattle.choosing.proofs.Chosen.{Placed, choice_placed}
use Rattle.acting.specs.Acting.{Small, noted, taken_in}
use Rattle.acting.proofs.AfterChoice.{rows_after, noted_small}
use Rattle.writing.specs.Writing.{Small as SmallAction}
use Rattle.driving.specs.Driving.{PlanInput, PlanState, choice_at, after_turn, read_next}
use Rattle.driving.specs.Sized.{Sized, Kept}

-- an cell of a list in which one was set is the one that was set, or as it was
set-within : (l : List ℕ) (d v e most : ℕ) → get_or l e 0 ≤ most → (e ≡ d → v ≤ most) → get_or (set l d v) e 0 ≤ most
set-within l d v e most was new =
    by_test (eqb e d)
    (λ y. let same = eqb-true e d y in
    by_test (ltb d (length l))
    (λ i. let at = ap (λ (x : ℕ). get_or (set l d v) x 0) same ∙ get_or-set_same l d v 0 (ltb-true d (length l) i) in
    let small = new same in omega (arith, at, small))
    (λ o. let past = ltb-false d (length l) o in
    let at = ap (λ (x : ℕ). get_or (set l d v) x 0) same
    ∙ get_or-eq_default (set l d v) 0 {n = d} (let n = length-set l d v in omega (arith, past, n)) in
    omega (arith, at)))
    (λ n. let at = get_or-set_other l d e v 0 (eqb-false e d n) in omega (arith, at, was))

inside : (l : List ℕ) (d : ℕ) → 1 ≤ get_or l d 0 → d < length l
inside l d one =
    by_test (ltb d (length l))
    (λ y. ltb-true d (length l) y)
    (λ n. absurd (let none = get_or-eq_default l 0 {n = d} (ltb-false d (length l) n) in omega (arith, none, one)))

-- a replaced block leaves the load as it was
replaced_held : (b : Buffers) (out u d e : ℕ) → 1 ≤ get_or b.held d 0 → (most : ℕ) → get_or b.held e 0 ≤ most
    → get_or (replace_in b out u d).held e 0 ≤ most
unfolding replace_in fetch_into discard_from
replaced_held b out u d e one most was =
    let less = set b.held d (get_or b.held d 0 - 1) in
    set-within less d (get_or less d 0 + 1) e most
    (set-within b.held d (get_or b.held d 0 - 1) e most was (λ q. let same = ap (λ (x : ℕ). get_or b.held x 0) q in omega (arith, was, same)))
    (λ q. let same = ap (λ (x : ℕ). get_or b.held x 0) q in
    let left = get_or-set_same b.held d (get_or b.held d 0 - 1) 0 (inside b.held d one) in
    omega (arith, was, same, one, left))

module _ (k : PlanInput) (sized : Sized k) where
  module _ (p : PlanState) (kept : Kept k p) (d : ℕ) (l : d < length k.slots) where
    abbrev count : ℕ
    count = get_or p.buffers.held d 0

    abbrev look : ℕ
    look = get_or p.desk.look d 0

    pub look_within : look ≤ length k.refs
    look_within = let w = below_any (suc (length k.refs)) p.desk.look (omega arith) kept.small_looks d in omega (arith, w)

    -- what is chosen stands among the residents of the disk, or at its first empty slot
    pub chosen_placed : (c : Choice) → c ≡ choice_at k d p → Placed k.refs look (d * 64) count (get_or k.slots d 0) c
    chosen_placed c e =
        subst (Placed k.refs look (d * 64) count (get_or k.slots d 0)) (sym e)
        (choice_placed k.refs k.rule d count (get_or k.slots d 0) p.desk (sized.some_slot d l))

    u_small : (u : ℕ) → look < length k.refs → u ≡ get_or k.refs look 0 → u < 512
    u_small u more e = let b = sized.small_refs look more in omega (arith, b, e)

    pub chosen-small : (c : Choice) → c ≡ choice_at k d p → Small c
    chosen-small (IntoEmpty u place) e =
        let f = chosen_placed (IntoEmpty u place) e in
        let slots = sized.few_slots d l in
        let disks = sized.few_disks in
        (u_small u f.0 f.1, omega (arith, f, slots, disks, l))
    chosen-small (OverMinBlock u place) e =
        let f = chosen_placed (OverMinBlock u place) e in
        let held = kept.held d l in
        let slots = sized.few_slots d l in
        let disks = sized.few_disks in
        (u_small u f.0 f.1, omega (arith, f, held, slots, disks, l))
    chosen-small MinBlockSooner e = tt
    chosen-small Waits e = tt
    chosen-small NoneMissing e = tt

    -- A turn: what is noted is small. A block is taken in,
    module _ (c : Choice) (e : c ≡ choice_at k d p) where
      noted_long : length (set p.acts d (noted p.desk.held c)) ≡ 8
      noted_long = length-set p.acts d (noted p.desk.held c) ∙ kept.long_acts

      all_small : All SmallAction (set p.acts d (noted p.desk.held c))
      all_small =
          All-set SmallAction p.acts d (noted p.desk.held c) (noted_small p.desk.held kept.small_helds c (chosen-small c e)) kept.small_acts

      taken_kept : (b : Buffers) (u place : ℕ) → u < 512 → ((e : ℕ) → e < length k.slots → get_or b.held e 0 ≤ get_or k.slots e 0)
          → Kept k (record { buffers = b; desk = taken_in k.refs b.resident k.steps d u place p.desk; acts = set p.acts d (noted p.desk.held c) })
      taken_kept b u place small held =
          let t = rows_after k.refs b.resident k.steps d u place p.desk sized.few_refs sized.disk_steps in
          let end = t.moved.within look_within in
          record {
            held = held;
            small_nexts = subst (Below 4096) (sym t.same_nexts) kept.small_nexts;
            small_helds = subst (Below 512) (sym t.new_helds) (below_set 512 p.desk.held place u kept.small_helds small);
            small_looks = subst (Below (suc (length k.refs))) (sym t.new_looks)
                (below_set (suc (length k.refs)) p.desk.look d t.end kept.small_looks (omega (arith, end)));
            long_acts = noted_long;
            small_acts = all_small;
          }

      -- or none is.
      idle_kept : Kept k (record { buffers = p.buffers; desk = p.desk; acts = set p.acts d (noted p.desk.held c) })
      idle_kept = record {
        held = kept.held;
        small_nexts = kept.small_nexts;
        small_helds = kept.small_helds;
        small_looks = kept.small_looks;
        long_acts = noted_long;
        small_acts = all_small;
      }

    -- The sizes after a turn.
    pub turn_kept : (c : Choice) → c ≡ choice_at k d p → Kept k (after_turn k d p c)
    unfolding fetch_into
    turn_kept (IntoEmpty u place) e =
        let f = chosen_placed (IntoEmpty u place) e in
        taken_kept (IntoEmpty u place) e (fetch_into p.buffers u d) u place (u_small u f.0 f.1)
        (λ x q. set-within p.buffers.held d (count + 1) x (get_or k.slots x 0) (kept.held x q)
        (λ same. let free = f.2 in let slots = ap (λ (y : ℕ). get_or k.slots y 0) same in omega (arith, free, slots)))
    turn_kept (OverMinBlock u place) e =
        let f = chosen_placed (OverMinBlock u place) e in
        let one = sized.some_slot d l in
        let full = f.2 in
        let out = get_or p.desk.held place 0 in
        taken_kept (OverMinBlock u place) e (replace_in p.buffers out u d) u place (u_small u f.0 f.1)
        (λ x q. replaced_held p.buffers out u d x (omega (arith, one, full)) (get_or k.slots x 0) (kept.held x q))
    turn_kept MinBlockSooner e = idle_kept MinBlockSooner e
    turn_kept Waits e = idle_kept Waits e
    turn_kept NoneMissing e = idle_kept NoneMissing e

    -- What a fetch into an empty slot and one over the min-block are called with.
    pub into_fits : (c : Choice) → c ≡ choice_at k d p → (u place : ℕ) → c ≡ IntoEmpty u place
        → (u < 512) × (place < 512) × (d < 8) × (look ≤ length k.refs) × (count < 64)
    into_fits c e u place is =
        let small = chosen-small (IntoEmpty u place) (sym is ∙ e) in
        let free = (chosen_placed (IntoEmpty u place) (sym is ∙ e)).2 in
        let slots = sized.few_slots d l in
        let disks = sized.few_disks in
        (small.0, small.1, omega (arith, l, disks), look_within, omega (arith, free, slots))

    pub over_fits : (c : Choice) → c ≡ choice_at k d p → (u place : ℕ) → c ≡ OverMinBlock u place
        → (u < 512) × (place < 512) × (d < 8) × (look ≤ length k.refs) × (1 ≤ count) × (get_or p.desk.held place 0 < 512)
    over_fits c e u place is =
        let small = chosen-small (OverMinBlock u place) (sym is ∙ e) in
        let full = (chosen_placed (OverMinBlock u place) (sym is ∙ e)).2 in
        let slot = sized.some_slot d l in
        let disks = sized.few_disks in (
          small.0,
          small.1,
          omega (arith, l, disks),
          look_within,
          omega (arith, full, slot),
          below_any 512 p.desk.held (lit< tt) kept.small_helds place,
        )

  -- The sizes after a reference is read.
  pub read_kept : (p : PlanState) → Kept k p → p.buffers.next < length k.refs → Kept k (read_next k p)
  unfolding consume_one
  read_kept p kept more =
      let i = p.buffers.next in
      record {
        held = kept.held;
        small_nexts = below_set 4096 p.desk.next (get_or k.refs i 0) (get_or k.steps.of_block i 0) kept.small_nexts (sized.block_steps i more);
        small_helds = kept.small_helds;
        small_looks = kept.small_looks;
        long_acts = kept.long_acts;
        small_acts = kept.small_acts;
      }
