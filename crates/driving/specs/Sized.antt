-- The sizes of what a plan is driven with: no index is past a table, no number past its type. Assumes nothing.
use Rattle.std.specs.Prelude.{◌≡◌, ℕ, suc, ◌≤◌, ◌<◌, length, get_or}
use Rattle.std.specs.List.{All}
use Rattle.bits.specs.Bits.{Below}
use Rattle.moving.specs.Moving.{Ahead}
use Rattle.writing.specs.Writing.{Small}
use Rattle.driving.specs.Driving.{PlanInput, PlanState}

-- What does not change: up to eight disks of 1 to 64 slots, up to 2,048 references to blocks of the 512, and steps that lead on and not too far.
pub record Sized (k : PlanInput) : Type 0 where
  pub few_disks : length k.slots ≤ 8
  pub some_slot : (d : ℕ) → d < length k.slots → 1 ≤ get_or k.slots d 0
  pub few_slots : (d : ℕ) → d < length k.slots → get_or k.slots d 0 ≤ 64
  pub few_refs : length k.refs ≤ 2048
  pub small_refs : Below 512 k.refs
  pub block_steps : (i : ℕ) → i < length k.refs → get_or k.steps.of_block i 0 < 4096
  pub disk_steps : Ahead (length k.refs) k.steps.of_disk

-- What each turn and each reading keep: no disk holds more than its slots, and what the rows hold stays small.
pub record Kept (k : PlanInput) (p : PlanState) : Type 0 where
  pub held : (d : ℕ) → d < length k.slots → get_or p.buffers.held d 0 ≤ get_or k.slots d 0
  pub small_nexts : Below 4096 p.desk.next
  pub small_helds : Below 512 p.desk.held
  pub small_looks : Below (suc (length k.refs)) p.desk.look
  pub long_acts : length p.acts ≡ 8
  pub small_acts : All Small p.acts
