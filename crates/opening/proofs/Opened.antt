-- The desk before round 1 is right for the state before round 1. Assumes nothing.
use mathlib.Core.Path.{◌≡◌, refl, sym, ◌∙◌, subst}
use mathlib.Core.Logic.{◌≢◌}
use mathlib.Core.Bool.{Bool, true, false}
use mathlib.Core.List.{List}
use Prim.Native.Nat.{ℕ, zero, suc, ◌+◌, ◌*◌, ◌≤◌, ◌<◌}
use native.Mathlib.Omega.{arith}
use lib.Dec.{eqb, ltb}
use lib.ListN.{length, get_or, set, length-set}
use lib.Seq.{get_or-set_same, get_or-set_other}
use borrow.Author.Tests.{eqb-true, eqb-false, ltb-true, ltb-false}
use Rattle.bits.proofs.Logic.{by_test}
use Rattle.model.specs.Job.{Job, Sound, disk_count, block_count, ref_count, disk_of, ref_at, carried_on, carried_at}
use Rattle.model.specs.Playing.{start, is_resident, load}
use Rattle.model.specs.Rules.{distance}
use Rattle.model.proofs.Carried.{rising_up, sound-rising, start-load, start-holds, start_found, start-within, start-read}
use Rattle.model.proofs.Distances.{distance_from}
use Rattle.lookup.specs.Lookup.{ref_disks, chain_from}
use Rattle.lookup.specs.declared.Desk.{Desk}
use Rattle.lookup.specs.declared.Steps.{Steps}
use Rattle.lookup.proofs.Laws.{chain_to, chain_hit, chain_distance}
use Rattle.lookup.proofs.Right.{Listed, Pointer, Right, Forward}
use Rattle.lookup.proofs.StaysRight.{pointer_kept, reading, right_read}
use Rattle.indexing.specs.Indexing.{firsts, opened}
use Rattle.indexing.proofs.Laws.{firsts-length, firsts_at, chain_head}
use Rattle.moving.specs.Moving.{Ahead, move_from, moved_on}
use Rattle.moving.proofs.PointerRight.{Moved, moved_moved, moved_stops, forward_ahead}
use Rattle.opening.specs.Opening.{moved_all, passed_all, carried_desk, no_desk}
use Rattle.playing.specs.declared.Buffers.{Buffers}

-- Nothing is read, and the pointers of the disks below n have moved on: every disk's pointer is right as far as it has come, and those stop at a
-- missing block or at the end.
record Pointing (j : Job) (marks : List Bool) (n : ℕ) (desk : Desk) : Type 0 where
  listed : (d : ℕ) → d < disk_count j → Listed j marks d desk.held (load j marks d)
  pointer : (d : ℕ) → d < disk_count j → Pointer j marks 0 d (get_or desk.look d 0) desk.later
  stops : (d : ℕ) → d < n → get_or desk.look d 0 < ref_count j → is_resident marks (ref_at j (get_or desk.look d 0)) ≡ false
  distances : (b : ℕ) → b < 512 → get_or desk.next b 0 ≡ distance j.refs 0 b
  long_nexts : length desk.next ≡ 512
  long_laters : length desk.later ≡ 512
  long_helds : length desk.held ≡ 512
  long_looks : length desk.look ≡ 512

module _ (j : Job) (sound : Sound j) (marks : List Bool) {steps : Steps} (forward : Forward j steps) where
  abbrev few : length j.refs ≤ 2048
  few = sound.few_refs

  abbrev ahead : Ahead (ref_count j) steps.of_disk
  ahead = forward_ahead forward

  module _ (d : ℕ) (desk : Desk) (l : d < disk_count j) (p : Pointing j marks d desk) where
    -- where the pointer stops, and the distances from it
    abbrev end : ℕ × List ℕ
    end = move_from j.refs marks steps 2048 (get_or desk.look d 0) desk.later

    own_look : get_or (set desk.look d end.0) d 0 ≡ end.0
    own_look =
        let long = p.long_looks in
        let eight = sound.few_disks in
        get_or-set_same desk.look d end.0 0 (omega (arith, long, eight, l))

    other_look : (e : ℕ) → e ≢ d → get_or (set desk.look d end.0) e 0 ≡ get_or desk.look e 0
    other_look e n = get_or-set_other desk.look d e end.0 0 n

    -- its distances, and those of other disks' blocks as they were
    moved : Moved j.refs marks steps desk.later (get_or desk.look d 0) end.0 end.1
    moved = moved_moved j.refs marks steps ahead d desk few

    goes : Pointer j marks 0 d end.0 end.1 × ((b : ℕ) → (b < block_count j → disk_of j b ≢ d) → get_or end.1 b 0 ≡ get_or desk.later b 0)
    goes = moved.right j 0 d refl sound forward (let long = p.long_laters in let blocks = sound.few_blocks in omega (arith, long, blocks)) (p.pointer d l)

    -- one pointer more
    pointing_on : Pointing j marks (suc d) (moved_on j.refs marks steps d desk)
    unfolding moved_on
    pointing_on = record {
      listed = p.listed;
      pointer = λ e k. by_test (eqb e d)
          (λ y. let same = eqb-true e d y in rw (same, own_look) goes.0)
          (λ n. let other = eqb-false e d n in
          rw (other_look e other) (pointer_kept (p.pointer e k) (p.pointer e k).least (λ b known on. goes.1 b (λ _ q. other (sym on ∙ q)))));
      stops = λ e k. by_test (eqb e d)
          (λ y. let same = eqb-true e d y in rw (same, own_look) (moved_stops j.refs marks steps ahead d desk few))
          (λ n. let other = eqb-false e d n in rw (other_look e other) (p.stops e (lib.Arith.lt_of_le-ne (omega arith) other)));
      distances = p.distances;
      long_nexts = p.long_nexts;
      long_laters = moved.long ∙ p.long_laters;
      long_helds = p.long_helds;
      long_looks = length-set desk.look d end.0 ∙ p.long_looks;
    }

  -- all of them
  pointing_all : (d : ℕ) (desk : Desk) → d ≤ disk_count j → Pointing j marks 0 desk → Pointing j marks d (moved_all j.refs marks steps d desk)
  unfolding moved_all
  pointing_all zero desk l p = p
  pointing_all (suc d) desk l p = pointing_on d (moved_all j.refs marks steps d desk) (omega arith) (pointing_all d desk (omega arith) p)

  pointing_right : (desk : Desk) → Pointing j marks (disk_count j) desk → Right j (reading marks 0) desk
  pointing_right desk p = record {
    disks = λ d l. record { listed = p.listed d l; pointer = p.pointer d l; stops = p.stops d l };
    distances = p.distances;
    long_nexts = p.long_nexts;
    long_laters = p.long_laters;
    long_helds = p.long_helds;
    long_looks = p.long_looks;
  }

  -- then what can be read is read
  passed_right : (i : ℕ) (desk : Desk) → i ≤ ref_count j → ((k : ℕ) → k < i → is_resident marks (ref_at j k) ≡ true) → Right j (reading marks 0) desk
      → Right j (reading marks i) (passed_all j.refs steps i desk)
  unfolding passed_all
  passed_right zero desk l read right = right
  passed_right (suc i) desk l read right =
      right_read marks i sound forward (passed_right i desk (omega arith) (λ k p. read k (omega arith)) right) (omega arith) (read i (omega arith))

-- The blocks carried in are listed, each disk's from place d * 64 on, each once.
listed_start : (j : Job) → Sound j → (blocks : List ℕ)
    → ((d i : ℕ) → d < disk_count j → i < length (carried_on j d) → get_or blocks (d * 64 + i) 0 ≡ carried_at j d i)
    → (d : ℕ) → d < disk_count j → Listed j (start j).resident d blocks (load j (start j).resident d)
listed_start j sound blocks same d l = rw (start-load j sound d l) record {
  each = λ i p. rw (same d i l p) (start-holds j sound d i l p);
  all = λ b held. (let w = start_found j sound d b l held in (w.0, w.1, same d w.0 l w.1 ∙ w.2));
  once = λ i k p q e. (let is = sym (same d i l p) ∙ e ∙ same d k l q in
      by_test (ltb i k)
      (λ y. absurd (let up = rising_up j.block_disks d 0 (carried_on j d) (sound-rising j sound d l) i k (ltb-true i k y) q in omega (arith, up, is)))
      (λ n. by_test (ltb k i)
      (λ y. absurd (let up = rising_up j.block_disks d 0 (carried_on j d) (sound-rising j sound d l) k i (ltb-true k i y) p in omega (arith, up, is)))
      (λ m. let a = ltb-false i k n in let b = ltb-false k i m in omega (arith, a, b))));
}

module _ (j : Job) (sound : Sound j) (disks : List ℕ) (on-disk : (b : ℕ) → b < block_count j → get_or disks b 0 ≡ disk_of j b) where
  -- the first reference of a disk, whatever is missing
  first_right : (marks : List Bool) (d : ℕ) → Pointer j marks 0 d (chain_from disks j.refs 0 d) (firsts j.refs 512 0)
  first_right marks d = record {
    onward = omega arith;
    within = chain_to disks j.refs 0 d (omega arith);
    on_disk = λ l. sym (on-disk (ref_at j first) (sound.to_blocks first l)) ∙ chain_hit disks j.refs 0 d l;
    least = λ b k on out. (let e = kept b k on in let f = distance_from j.refs first b in omega (arith, e, f));
    laters = λ b k on. firsts_at j.refs 512 0 b (let few = sound.few_blocks in omega (arith, few)) ∙ sym (kept b k on);
  }
    where
      first : ℕ
      first = chain_from disks j.refs 0 d

      kept : (b : ℕ) → b < block_count j → disk_of j b ≡ d → distance j.refs first b ≡ distance j.refs 0 b
      kept b k on = chain_distance disks j.refs 0 d b (omega arith) (on-disk b k ∙ on)

  -- the desk of empty buffers, with the blocks carried in as residents
  module _ (blocks : List ℕ) (long : length blocks ≡ 512)
      (same : (d i : ℕ) → d < disk_count j → i < length (carried_on j d) → get_or blocks (d * 64 + i) 0 ≡ carried_at j d i) where
    pointing_start : Pointing j (start j).resident 0 (record (opened disks j.refs no_desk) { held = blocks })
    unfolding opened
    pointing_start = record {
      listed = listed_start j sound blocks same;
      pointer = λ d l. rw (chain_head disks j.refs 512 d (let few = sound.few_disks in omega (arith, few))) (first_right (start j).resident d);
      stops = λ d l. absurd (omega (arith, l));
      distances = λ b l. firsts_at j.refs 512 0 b l;
      long_nexts = firsts-length j.refs 512 0;
      long_laters = firsts-length j.refs 512 0;
      long_helds = long;
      long_looks = firsts-length (ref_disks disks j.refs) 512 0;
    }

    -- The desk before round 1.
    pub right_start : {steps : Steps} → Forward j steps → (b : Buffers) → b.resident ≡ (start j).resident → b.next ≡ (start j).next
        → Right j (start j) (carried_desk b blocks (disk_count j) j.refs steps (opened disks j.refs no_desk))
    unfolding carried_desk
    right_start {steps} forward b marks next =
        let first : Desk = record (opened disks j.refs no_desk) { held = blocks } in
        let moved = pointing_all j sound (start j).resident forward (disk_count j) first (omega arith) pointing_start in
        subst (λ (x : List Bool). Right j (start j) (passed_all j.refs steps b.next (moved_all j.refs x steps (disk_count j) first))) (sym marks)
        (subst (λ (i : ℕ). Right j (start j) (passed_all j.refs steps i (moved_all j.refs (start j).resident steps (disk_count j) first))) (sym next)
        (right_same (passed_right j sound (start j).resident forward (start j).next _ (start-within j) (start-read j)
        (pointing_right j sound (start j).resident forward _ moved))))
      where
        -- the rounds played do not count
        right_same : {desk : Desk} → Right j (reading (start j).resident (start j).next) desk → Right j (start j) desk
        right_same h = record {
          disks = h.disks;
          distances = h.distances;
          long_nexts = h.long_nexts;
          long_laters = h.long_laters;
          long_helds = h.long_helds;
          long_looks = h.long_looks;
        }
