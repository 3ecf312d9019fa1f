-- A pointer that is right for its disk stays right as it moves on, and stops at a missing block or at the end. Assumes nothing.
use mathlib.Core.Path.{◌≡◌, refl, sym, ap, ◌∙◌, subst}
use mathlib.Core.Logic.{◌≢◌}
use mathlib.Core.Bool.{Bool, true, false, ◌&&◌}
use mathlib.Core.List.{List}
use Prim.Native.Nat.{ℕ, zero, suc, ◌+◌, ◌≤◌, ◌<◌}
use native.Mathlib.Omega.{arith}
use lib.Dec.{ltb, eqb, leb}
use lib.ListN.{length, get_or, set, length-set}
use lib.Seq.{get_or-set_other}
use borrow.Author.Tests.{ltb-true, ltb-false, eqb-true, eqb-false, leb-true, leb-false}
use Rattle.bits.proofs.Logic.{by_test, clash, and_left, and_right}
use Rattle.lookup.specs.Lookup.{chain_from}
use Rattle.lookup.proofs.Laws.{chain-from, chain_to, chain_hit, chain_least, chain_pass}
use Rattle.model.specs.Job.{Job, Sound, block_count, ref_count, disk_of, ref_at}
use Rattle.model.specs.Playing.{is_resident}
use Rattle.model.specs.Rules.{distance}
use Rattle.model.proofs.Distances.{distance_hit}
use Rattle.lookup.specs.declared.Desk.{Desk}
use Rattle.lookup.specs.declared.Steps.{Steps}
use Rattle.moving.specs.Moving.{Ahead, move_from}
use Rattle.lookup.proofs.Right.{Pointer, Forward}

-- one reference of the disk is passed
module _ {j : Job} {resident : List Bool} {from d p : ℕ} {steps : Steps} {later : List ℕ} (sound : Sound j) (tables : Forward j steps)
    (pointer : Pointer j resident from d p later) (more : p < ref_count j) where
  next_is : get_or steps.of_disk p 0 ≡ chain_from j.block_disks j.refs (suc p) d
  next_is = tables.disks p more ∙ ap (chain_from j.block_disks j.refs (suc p)) (pointer.on_disk more)

  -- no missing block of the disk is referenced before its next reference
  next-least : is_resident resident (ref_at j p) ≡ true → (b : ℕ) → b < block_count j → disk_of j b ≡ d → is_resident resident b ≡ false
      → chain_from j.block_disks j.refs (suc p) d ≤ distance j.refs from b
  next-least here b k on out =
      let was = pointer.least b k on out in
      let to = chain_to j.block_disks j.refs (suc p) d more in
      by_test (leb (chain_from j.block_disks j.refs (suc p) d) (distance j.refs from b))
      (λ y. leb-true _ _ y)
      (λ n. let less = leb-false _ _ n in
      let hit = distance_hit j.refs from b (omega (arith, less, to)) in
      by_test (eqb (distance j.refs from b) p)
      (λ y. let same = ap (ref_at j) (eqb-true (distance j.refs from b) p y) in clash here (ap (is_resident resident) (sym same ∙ hit) ∙ out))
      (λ m. let other = eqb-false (distance j.refs from b) p m in
      absurd (chain_least j.block_disks j.refs (suc p) d (distance j.refs from b) more (omega (arith, was, other)) less
      (ap (disk_of j) hit ∙ on))))

  pub pointer_on : is_resident resident (ref_at j p) ≡ true → ref_at j p < length later
      → Pointer j resident from d (get_or steps.of_disk p 0) (set later (ref_at j p) (get_or steps.of_block p 0))
  pointer_on here room =
      let from-p = pointer.onward in
      let next = chain-from j.block_disks j.refs (suc p) d in
      rw next_is record {
        onward = omega (arith, next, from-p);
        within = chain_to j.block_disks j.refs (suc p) d more;
        on_disk = chain_hit j.block_disks j.refs (suc p) d;
        least = next-least here;
        laters = λ b k on.
            chain_pass j.block_disks j.refs later p (get_or steps.of_block p 0) d b more room (tables.blocks p more) on (pointer.laters b k on);
      }

  pub others_on : (b : ℕ) → (b < block_count j → disk_of j b ≢ d) → get_or (set later (ref_at j p) (get_or steps.of_block p 0)) b 0 ≡ get_or later b 0
  others_on b off =
      get_or-set_other later (ref_at j p) b (get_or steps.of_block p 0) 0
      (λ e. off (subst (λ (x : ℕ). x < block_count j) (sym e) (sound.to_blocks p more)) (ap (disk_of j) e ∙ pointer.on_disk more))

-- A pointer has moved from `look` to p, and the distances from it are then `after`: in any job with these references and steps, a pointer that was
-- right for a disk is right for it there, and the entries of all blocks but the disk's are as they were.
pub record Moved (refs : List ℕ) (resident : List Bool) (steps : Steps) (before : List ℕ) (look p : ℕ) (after : List ℕ) : Type 0 where
  pub long : length after ≡ length before
  pub within : look ≤ length refs → p ≤ length refs
  pub right : (j : Job) (from d : ℕ) → j.refs ≡ refs → Sound j → Forward j steps → block_count j ≤ length before
      → Pointer j resident from d look before
      → Pointer j resident from d p after × ((b : ℕ) → (b < block_count j → disk_of j b ≢ d) → get_or after b 0 ≡ get_or before b 0)

module _ (refs : List ℕ) (resident : List Bool) (steps : Steps) where
  moved_none : (before : List ℕ) (look : ℕ) → Moved refs resident steps before look look before
  moved_none before look = record { long = refl; within = λ l. l; right = λ j from d e sound tables room pointer. (pointer, λ b off. refl) }

  moved_on_lem : (before : List ℕ) (look p : ℕ) (later : List ℕ) → Moved refs resident steps before look p later → p < length refs
      → is_resident resident (get_or refs p 0) ≡ true → get_or steps.of_disk p 0 ≤ length refs
      → Moved refs resident steps before look (get_or steps.of_disk p 0) (set later (get_or refs p 0) (get_or steps.of_block p 0))
  moved_on_lem before look p later was more here to = record {
    long = length-set later (get_or refs p 0) (get_or steps.of_block p 0) ∙ was.long;
    within = λ _. to;
    right = λ j from d e sound tables room pointer.
        (let so_far = was.right j from d e sound tables room pointer in
        let left = subst (λ (l : List ℕ). p < length l) (sym e) more in
        let known = sound.to_blocks p left in
        let long = was.long in
        rw (← e) (
          pointer_on sound tables so_far.0 left (rw (← e) at here) (omega (arith, known, long)),
          λ b off. others_on sound tables so_far.0 left b off ∙ so_far.1 b off,
        ));
  }

  module _ (ahead : Ahead (length refs) steps.of_disk) where
    -- a pointer that is right stays so all the way,
    move_moved : (before : List ℕ) (look n p : ℕ) (later : List ℕ) → Moved refs resident steps before look p later
        → let m = move_from refs resident steps n p later in Moved refs resident steps before look m.0 m.1
    unfolding move_from
    move_moved before look zero p later m = m
    move_moved before look (suc n) p later m =
        by_test (ltb p (length refs) && get_or resident (get_or refs p 0) false)
        (λ y. let l = ltb-true p (length refs) (and_left _ _ y) in
        rw y (move_moved before look n _ _ (moved_on_lem before look p later m l (and_right (ltb p (length refs)) _ y) (ahead p l).1)))
        (λ f. rw f m)

    -- and it stops at a missing block or at the end.
    move_stops : (n p : ℕ) (later : List ℕ) → length refs ≤ p + n → let q = (move_from refs resident steps n p later).0 in
        q < length refs → is_resident resident (get_or refs q 0) ≡ false
    unfolding move_from
    move_stops zero p later r = λ l. absurd (omega arith)
    move_stops (suc n) p later r =
        by_test (ltb p (length refs))
        (λ y. by_test (is_resident resident (get_or refs p 0))
        (λ h. let l = ltb-true p (length refs) y in let a = (ahead p l).0 in rw (y, h) (move_stops n _ _ (omega (arith, a, r))))
        (λ h. rw (y, h) (λ _. h)))
        (λ f. rw f (λ l. absurd (let k = ltb-false p (length refs) f in omega (arith, k, l))))

    -- The pointer of disk d, from where the desk has it to where it stops.
    module _ (d : ℕ) (desk : Desk) (few : length refs ≤ 2048) where
      abbrev end : ℕ × List ℕ
      end = move_from refs resident steps 2048 (get_or desk.look d 0) desk.later

      pub moved_moved : Moved refs resident steps desk.later (get_or desk.look d 0) end.0 end.1
      moved_moved = move_moved desk.later (get_or desk.look d 0) 2048 (get_or desk.look d 0) desk.later (moved_none desk.later _)

      pub moved_stops : end.0 < length refs → is_resident resident (get_or refs end.0 0) ≡ false
      moved_stops = move_stops 2048 (get_or desk.look d 0) desk.later (omega (arith, few))

-- steps lead onwards, and no further than the end
pub forward_ahead : {j : Job} {steps : Steps} → Forward j steps → Ahead (ref_count j) steps.of_disk
forward_ahead {j} {steps} forward i l =
    let e = forward.disks i l in
    let next = chain-from j.block_disks j.refs (suc i) (disk_of j (ref_at j i)) in
    let to = chain_to j.block_disks j.refs (suc i) (disk_of j (ref_at j i)) l in
    (omega (arith, e, next), omega (arith, e, to))
