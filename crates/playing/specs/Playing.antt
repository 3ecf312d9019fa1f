-- What each method of the playing state gives, and which state of the model it is. Document 01, "Playing a round": "Playing takes the state of
-- the buffers and gives back the next." Document 02, L9: the state before round 1. Assumes nothing.
use Rattle.std.specs.Prelude.{◌≡◌, true, false, List, ℕ, suc, ◌+◌, ◌-◌, ◌<◌, length, get_or, set, take, drop}
use Rattle.model.specs.Job.{Job, disk_count}
use Rattle.model.specs.Playing.{Action, State, none_resident, load, act, consumed, marked_all}
use Rattle.model.specs.Plans.{each}
use Rattle.job.specs.Meaning.{carried_in}
use Rattle.job.specs.declared.Job.{Job as Stored}
use Rattle.playing.specs.declared.Buffers.{Buffers}

-- L9: the blocks carried in on each disk are in the buffers, and nothing is read.
unfoldable pub carrying_buffers : ℕ → List ℕ → List ℕ → Buffers
unfolding each none_resident marked_all
carrying_buffers disks held blocks = record { resident = marked_all none_resident (each (carried_in held blocks) 0 disks); held = held; next = 0 }

-- A block enters the buffer of a disk.
unfoldable pub fetch_into : Buffers → ℕ → ℕ → Buffers
fetch_into b block disk =
    record { resident = set b.resident block true; held = set b.held disk (get_or b.held disk 0 + 1); next = b.next }

-- A block leaves the buffer of a disk.
unfoldable pub discard_from : Buffers → ℕ → ℕ → Buffers
discard_from b block disk =
    record { resident = set b.resident block false; held = set b.held disk (get_or b.held disk 0 - 1); next = b.next }

-- "the discarded block leaves, then the fetched one enters"
unfoldable pub replace_in : Buffers → ℕ → ℕ → ℕ → Buffers
unfolding discard_from fetch_into
replace_in b out block disk = fetch_into (discard_from b out disk) block disk

-- One reference is consumed.
unfoldable pub consume_one : Buffers → Buffers
consume_one b = record { resident = b.resident; held = b.held; next = b.next + 1 }

-- "Before round 1 the suite reads as far as these allow": references are consumed while the next one's block is in the buffers.
unfoldable pub read_on_from : Buffers → List ℕ → Buffers
unfolding consumed
read_on_from b refs = record { resident = b.resident; held = b.held; next = b.next + consumed b.resident (drop b.next refs) }

-- The state before round 1, of a job by value.
unfoldable pub start_buffers : Stored → Buffers
unfolding carrying_buffers read_on_from
start_buffers c = read_on_from (carrying_buffers c.disks c.held c.carried) (take c.count c.refs)

-- The playing state holds a state of the model: the same marks and the same next read, and for each disk of the job the blocks in its buffer
-- as a number. (The rounds played are counted by the player.)
pub record Holds (j : Job) (b : Buffers) (s : State) : Type 0 where
  pub marks : b.resident ≡ s.resident
  pub loads : (d : ℕ) → d < disk_count j → get_or b.held d 0 ≡ load j s.resident d
  pub read : b.next ≡ s.next
  pub marks_long : length b.resident ≡ 512
  pub held_long : length b.held ≡ 8

-- The model's state after one disk's action, and after one more reference.
abbrev pub acted : State → Action → State
acted s a = record { resident = act s.resident a; next = s.next; round = s.round }

abbrev pub read_one : State → State
read_one s = record { resident = s.resident; next = suc s.next; round = s.round }
