-- When a desk is right for a state of the model: what its rows say of the job's buffers, disk by disk. Assumes nothing.
use mathlib.Core.Path.{◌≡◌}
use mathlib.Core.Bool.{Bool, true, false}
use mathlib.Core.List.{List}
use Prim.Native.Nat.{ℕ, suc, ◌+◌, ◌*◌, ◌≤◌, ◌<◌}
use lib.ListN.{length, get_or}
use Rattle.model.specs.Job.{Job, disk_count, block_count, ref_count, disk_of, ref_at}
use Rattle.model.specs.Playing.{State, is_resident, load}
use Rattle.model.specs.Rules.{distance}
use Rattle.model.specs.Valid.{Block}
use Rattle.lookup.specs.Lookup.{chain_from}
use Rattle.lookup.specs.declared.Desk.{Desk}
use Rattle.lookup.specs.declared.Steps.{Steps}

-- The residents of disk d, each once: `count` of them from place d * 64 on.
pub record Listed (j : Job) (marks : List Bool) (d : ℕ) (residents : List ℕ) (count : ℕ) : Type 0 where
  pub each : (i : ℕ) → i < count → Block j marks d (get_or residents (d * 64 + i) 0) true
  pub all : (b : ℕ) → Block j marks d b true → (i : ℕ) × (i < count) × (get_or residents (d * 64 + i) 0 ≡ b)
  pub once : (i k : ℕ) → i < count → k < count → get_or residents (d * 64 + i) 0 ≡ get_or residents (d * 64 + k) 0 → i ≡ k

-- A pointer p into disk d's references, where the next read is `from`: no missing block of the disk is referenced before p, and `later` has the
-- distance of each of its blocks from p on.
pub record Pointer (j : Job) (marks : List Bool) (from d p : ℕ) (later : List ℕ) : Type 0 where
  pub onward : from ≤ p
  pub within : p ≤ ref_count j
  pub on_disk : p < ref_count j → disk_of j (ref_at j p) ≡ d
  pub least : (b : ℕ) → b < block_count j → disk_of j b ≡ d → is_resident marks b ≡ false → p ≤ distance j.refs from b
  pub laters : (b : ℕ) → b < block_count j → disk_of j b ≡ d → get_or later b 0 ≡ distance j.refs p b

-- The tables of disk d: its residents, and the pointer to its first missing reference.
pub record DiskRight (j : Job) (marks : List Bool) (from d : ℕ) (residents : List ℕ) (look : ℕ) (later : List ℕ) : Type 0 where
  pub listed : Listed j marks d residents (load j marks d)
  pub pointer : Pointer j marks from d look later
  pub stops : look < ref_count j → is_resident marks (ref_at j look) ≡ false

-- A whole desk, in a state.
pub record Right (j : Job) (s : State) (desk : Desk) : Type 0 where
  pub disks : (d : ℕ) → d < disk_count j → DiskRight j s.resident s.next d desk.held (get_or desk.look d 0) desk.later
  pub distances : (b : ℕ) → b < 512 → get_or desk.next b 0 ≡ distance j.refs s.next b
  pub long_nexts : length desk.next ≡ 512
  pub long_laters : length desk.later ≡ 512
  pub long_helds : length desk.held ≡ 512
  pub long_looks : length desk.look ≡ 512

-- The steps of a job's references: from each to the next one of its block, and to the next one of its disk.
pub record Forward (j : Job) (steps : Steps) : Type 0 where
  pub blocks : (i : ℕ) → i < ref_count j → get_or steps.of_block i 0 ≡ distance j.refs (suc i) (ref_at j i)
  pub disks : (i : ℕ) → i < ref_count j → get_or steps.of_disk i 0 ≡ chain_from j.block_disks j.refs (suc i) (disk_of j (ref_at j i))
