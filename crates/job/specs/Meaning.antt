-- Which job of the model a job by value is. Assumes nothing.
use Rattle.std.specs.Prelude.{◌≡◌, List, [], ◌∷◌, ◌++◌, map, ℕ, ◌-◌, ◌*◌, ◌≤◌, ◌<◌, length, get_or, take, drop, replicate}
use Rattle.model.specs.Job.{Job, Sound, disk_count, block_count, ref_count}
use Rattle.model.specs.Plans.{each}
use Rattle.job.specs.declared.Job.{Job as Stored}

-- the blocks carried in on disk d: as many as `held` says, from the place d * 64 on
abbrev pub carried_in : List ℕ → List ℕ → ℕ → List ℕ
carried_in held blocks d = take (get_or held d 0) (drop (d * 64) blocks)

-- the job that the counts and arrays say
unfoldable pub job_of : Stored → Job
unfolding each
job_of c = record {
  slots = take c.disks c.slots;
  block_disks = take c.blocks c.disk;
  refs = take c.count c.refs;
  carried = each (carried_in c.held c.carried) 0 c.disks;
}

-- a list followed by zeros, n entries in all
unfoldable pub pad_to : ℕ → List ℕ → List ℕ
pad_to n l = l ++ replicate (n - length l) 0

-- each list followed by zeros, 64 entries for each
unfoldable pub rows_of : List (List ℕ) → List ℕ
unfolding pad_to
rows_of [] = []
rows_of (blocks ∷ more) = pad_to 64 blocks ++ rows_of more

-- the value of a job within the ticket's limits
unfoldable pub stored : Job → Stored
unfolding pad_to rows_of
stored j = record {
  disks = disk_count j;
  slots = pad_to 8 j.slots;
  blocks = block_count j;
  disk = pad_to 512 j.block_disks;
  count = ref_count j;
  refs = pad_to 2048 j.refs;
  held = pad_to 8 (map length j.carried);
  carried = pad_to 512 (rows_of j.carried);
}

-- The value with another count of references; those past it stay in the array.
unfoldable pub counting : ℕ → Stored → Stored
counting n c = record {
  disks = c.disks;
  slots = c.slots;
  blocks = c.blocks;
  disk = c.disk;
  count = n;
  refs = c.refs;
  held = c.held;
  carried = c.carried;
}

-- The counts are within the arrays, and the job is sound.
pub record Fits (c : Stored) : Type 0 where
  pub long_slots : length c.slots ≡ 8
  pub long_disk : length c.disk ≡ 512
  pub long_refs : length c.refs ≡ 2048
  pub long_held : length c.held ≡ 8
  pub long_carried : length c.carried ≡ 512
  pub small_disk : (b : ℕ) → get_or c.disk b 0 < 8
  pub small_held : (d : ℕ) → get_or c.held d 0 ≤ 64
  pub small_carried : (i : ℕ) → get_or c.carried i 0 < 512
  pub few_disks : c.disks ≤ 8
  pub few_blocks : c.blocks ≤ 512
  pub few_refs : c.count ≤ 2048
  pub sound : Sound (job_of c)
