-- A pointer stays right where less is missing, and a desk stays right when reading goes on. Assumes nothing.
use mathlib.Core.Path.{◌≡◌, ap, ◌∙◌}
use mathlib.Core.Bool.{Bool, true, false}
use mathlib.Core.List.{List}
use Prim.Native.Nat.{ℕ, suc, ◌≤◌, ◌<◌}
use native.Mathlib.Omega.{arith}
use lib.Dec.{leb}
use lib.ListN.{get_or, length-set}
use borrow.Author.Tests.{leb-true, leb-false}
use Rattle.bits.proofs.Logic.{by_test, clash}
use Rattle.model.specs.Job.{Job, Sound, block_count, ref_count, disk_of, ref_at}
use Rattle.model.specs.Playing.{State, is_resident}
use Rattle.model.specs.Rules.{distance}
use Rattle.model.proofs.Distances.{distance_mono}
use Rattle.lookup.specs.declared.Desk.{Desk}
use Rattle.lookup.specs.declared.Steps.{Steps}
use Rattle.lookup.specs.Desk.{passed}
use Rattle.lookup.proofs.Laws.{pass_distance}
use Rattle.lookup.proofs.Right.{Pointer, DiskRight, Right, Forward}

-- a pointer stays where no block that is missing now is referenced before it
pub pointer_kept : {j : Job} {m n : List Bool} {from d look : ℕ} {later now : List ℕ} → Pointer j m from d look later
    → ((b : ℕ) → b < block_count j → disk_of j b ≡ d → is_resident n b ≡ false → look ≤ distance j.refs from b)
    → ((b : ℕ) → b < block_count j → disk_of j b ≡ d → get_or now b 0 ≡ get_or later b 0)
    → Pointer j n from d look now
pointer_kept p least laters = record {
  onward = p.onward;
  within = p.within;
  on_disk = p.on_disk;
  least = least;
  laters = λ b k on. laters b k on ∙ p.laters b k on;
}

-- reading goes on over resident blocks
disk_read : {j : Job} {marks : List Bool} {from d look : ℕ} {residents later : List ℕ} (p : ℕ) → from ≤ p → p ≤ ref_count j
    → ((i : ℕ) → from ≤ i → i < p → is_resident marks (ref_at j i) ≡ true)
    → DiskRight j marks from d residents look later → DiskRight j marks p d residents look later
disk_read {j = j} {marks = marks} {from = from} {look = look} p onward within read right = record {
  listed = right.listed;
  pointer = record {
    onward = before;
    within = right.pointer.within;
    on_disk = right.pointer.on_disk;
    least = λ b k on out.
        (let was = right.pointer.least b k on out in
        let grows = distance_mono j.refs from p b onward within in
        omega (arith, was, grows));
    laters = right.pointer.laters;
  };
  stops = right.stops;
}
  where
    before : p ≤ look
    before =
        let first = right.pointer.onward in
        by_test (leb p look)
        (λ y. leb-true p look y)
        (λ n. let less = leb-false p look n in clash (read look first less) (right.stops (omega (arith, less))))

-- the state with these marks and this next read
abbrev pub reading : List Bool → ℕ → State
reading marks i = record { resident = marks; next = i; round = 0 }

-- One reference is read: the distance of its block is that of its next one.
pub right_read : {j : Job} {steps : Steps} {desk : Desk} (marks : List Bool) (i : ℕ) → Sound j → Forward j steps → Right j (reading marks i) desk
    → i < ref_count j → is_resident marks (ref_at j i) ≡ true → Right j (reading marks (suc i)) (record desk { next = passed j.refs steps i desk.next })
right_read {j} {steps} {desk} marks i sound forward right due here =
    let long = right.long_nexts in
    let few = sound.few_blocks in
    let known = sound.to_blocks i due in
    record {
      disks = λ d l.
          disk_read (suc i) (omega arith) due
          (λ x lo hi. let e : x ≡ i = omega arith in ap (λ (y : ℕ). is_resident marks (ref_at j y)) e ∙ here) (right.disks d l);
      distances = λ c l.
          pass_distance j.refs desk.next i (get_or steps.of_block i 0) c due (omega (arith, known, few, long)) (forward.blocks i due) (right.distances c l);
      long_nexts = length-set desk.next (ref_at j i) (get_or steps.of_block i 0) ∙ long;
      long_laters = right.long_laters;
      long_helds = right.long_helds;
      long_looks = right.long_looks;
    }
