-- What a ticket says. Document 01, "What the work covers": "Blocks are only read, each lies on one unit (disk)", and the table of
-- "Ticket and sheet": disks D, buffer slots of each disk, blocks B, the disk of each block, references N, each reference. Document 02, L5: the job up
-- to a stop; L9: the blocks carried in on each disk.
-- Disks, blocks and positions in the reference string are numbers from 0. Assumes nothing.
use Rattle.std.specs.Prelude.{◌≡◌, List, [], ℕ, suc, ◌≤◌, ◌<◌, length, get_or, take}

pub record Job : Type 0 where
  -- "buffer slots, one field per disk": of disk 0, disk 1, ..
  pub slots : List ℕ
  -- "disk of each block, in block order": of block 0, block 1, ..
  pub block_disks : List ℕ
  -- "each reference, a block number", in the order in which they are read
  pub refs : List ℕ
  -- L9, "Blocks carried in from the last job": those of disk 0, disk 1, .. that are in its buffer before round 1
  pub carried : List (List ℕ)

-- D, B and N: how many disks, blocks and references
abbrev pub disk_count : Job → ℕ
disk_count j = length j.slots

abbrev pub block_count : Job → ℕ
block_count j = length j.block_disks

abbrev pub ref_count : Job → ℕ
ref_count j = length j.refs

-- the slots of disk d, the disk of block b, and the block of the reference at position i
abbrev pub slots_of : Job → ℕ → ℕ
slots_of j d = get_or j.slots d 0

abbrev pub disk_of : Job → ℕ → ℕ
disk_of j b = get_or j.block_disks b 0

abbrev pub ref_at : Job → ℕ → ℕ
ref_at j i = get_or j.refs i 0

-- the blocks carried in on disk d, and the one at place i among them
abbrev pub carried_on : Job → ℕ → List ℕ
carried_on j d = get_or j.carried d []

abbrev pub carried_at : Job → ℕ → ℕ → ℕ
carried_at j d i = get_or (carried_on j d) i 0

-- The job up to a stop. L5: "Planning, page, check and choice take a stop .. : the number of references that count; none at or past it is consumed."
unfoldable pub up_to : ℕ → Job → Job
up_to stop j = record { slots = j.slots; block_disks = j.block_disks; refs = take stop j.refs; carried = j.carried }

-- The values that the table allows. `Promises` proves that the sound jobs are those of the accepted tickets.
pub record Sound (j : Job) : Type 0 where
  pub some_disk : 1 ≤ disk_count j
  pub few_disks : disk_count j ≤ 8
  pub some_slot : (d : ℕ) → d < disk_count j → 1 ≤ slots_of j d
  pub few_slots : (d : ℕ) → d < disk_count j → slots_of j d ≤ 64
  pub some_block : 1 ≤ block_count j
  pub few_blocks : block_count j ≤ 512
  pub on_disks : (b : ℕ) → b < block_count j → disk_of j b < disk_count j
  pub few_refs : ref_count j ≤ 2048
  pub to_blocks : (i : ℕ) → i < ref_count j → ref_at j i < block_count j
  -- L9: "for each disk", a count that is not "above the slots",
  pub one_list : length j.carried ≡ disk_count j
  pub few_carried : (d : ℕ) → d < disk_count j → length (carried_on j d) ≤ slots_of j d
  -- and numbers "in strictly rising order", each of a block of the job that lies on this disk
  pub rising : (d i : ℕ) → d < disk_count j → suc i < length (carried_on j d) → carried_at j d i < carried_at j d (suc i)
  pub of_blocks : (d i : ℕ) → d < disk_count j → i < length (carried_on j d) → carried_at j d i < block_count j
  pub on_own_disk : (d i : ℕ) → d < disk_count j → i < length (carried_on j d) → disk_of j (carried_at j d i) ≡ d
