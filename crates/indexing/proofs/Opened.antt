-- The steps that `open` writes are right for a job. Assumes nothing.
use mathlib.Core.Path.{◌≡◌, sym, ap, ◌∙◌}
use mathlib.Core.List.{List}
use Prim.Native.Nat.{ℕ, ◌≤◌, ◌<◌}
use native.Mathlib.Omega.{arith}
use lib.ListN.{length, get_or}
use lib.Seq.{ext_get_or}
use Rattle.model.specs.Job.{Job, ref_count, disk_of, ref_at}
use Rattle.lookup.specs.Lookup.{ref_disks}
use Rattle.lookup.specs.declared.Steps.{Steps}
use Rattle.lookup.proofs.Laws.{ref_disks-length, ref_disks_at}
use Rattle.lookup.proofs.Right.{Forward}
use Rattle.indexing.specs.Indexing.{agains, stepped}
use Rattle.indexing.proofs.Laws.{agains_at, chain_next}

-- the disks of a job's references, where a longer list has the disks of its blocks
ref_disks_same : (j : Job) (disks : List ℕ) → ((i : ℕ) → i < ref_count j → get_or disks (ref_at j i) 0 ≡ disk_of j (ref_at j i))
    → ref_disks disks j.refs ≡ ref_disks j.block_disks j.refs
ref_disks_same j disks same =
    let l = ref_disks-length disks j.refs in
    let r = ref_disks-length j.block_disks j.refs in
    ext_get_or 0 (ref_disks disks j.refs) (ref_disks j.block_disks j.refs) (l ∙ sym r) λ i p.
    let small : i < ref_count j = omega (arith, l) in
    ref_disks_at disks j.refs i small ∙ same i small ∙ sym (ref_disks_at j.block_disks j.refs i small)

-- the steps that `open` makes
pub forward_made : (j : Job) (disks : List ℕ) (steps : Steps) → ((i : ℕ) → i < ref_count j → get_or disks (ref_at j i) 0 ≡ disk_of j (ref_at j i))
    → ref_count j ≤ length steps.of_block → ref_count j ≤ length steps.of_disk → Forward j (stepped disks j.refs steps)
unfolding stepped
forward_made j disks steps same l r = record {
  blocks = λ i p. agains_at j.refs steps.of_block i p (omega arith);
  disks = λ i p. ap (λ (ds : List ℕ). get_or (agains ds steps.of_disk) i 0) (ref_disks_same j disks same)
      ∙ chain_next j.block_disks j.refs steps.of_disk i p (omega arith);
}
