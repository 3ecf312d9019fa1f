-- Valid tickets and sheets, said without a reader and without an order of tests: which jobs and schedules are allowed, and then how they are
-- written. Document 01, "Playing a round": "A sheet is valid if no action is refused below and all N references are consumed by its last round
-- (axioms A1 and A2 of document 000)." Request L3 of document 02 turns away more: a discard though a slot is empty. `Promises` proves that these are
-- the tickets that are accepted and the sheets that the check passes. Assumes nothing.
use Rattle.std.specs.Prelude.{◌≡◌, Bool, true, false, ◌&&◌, List, [], ◌∷◌, ◌++◌, ℕ, suc, ◌≤◌, ◌<◌, leb, length, replicate}
use Rattle.bits.specs.Bits.{bits}
use Rattle.model.specs.Job.{Job, Sound, disk_count, block_count, ref_count, slots_of, disk_of, ref_at}
use Rattle.model.specs.Playing.{Action, idle, fetch, replace, Schedule, State, start, is_resident, load, act, act_all, play_round}
use Rattle.model.specs.Ticket.{ticket_bits}
use Rattle.model.specs.Sheet.{sheet_bits}

-- Block b lies on disk d, and is in its buffer or not.
pub record Block (j : Job) (marks : List Bool) (d b : ℕ) (resident : Bool) : Type 0 where
  pub known : b < block_count j
  pub on_disk : disk_of j b ≡ d
  pub mark : is_resident marks b ≡ resident

-- An action of disk d that the buffers allow: the fetched block is outside its buffer, the discarded one inside.
unfoldable pub Legal : Job → List Bool → ℕ → Action → Type 0
Legal j marks d idle = Unit {0}
Legal j marks d (fetch x) = Block j marks d x false
Legal j marks d (replace x z) = Block j marks d x false × Block j marks d z true

-- The actions of the disks from d on, each legal when it is played.
unfoldable pub LegalAll : Job → List Bool → ℕ → List Action → Type 0
unfolding Legal act
LegalAll j marks d [] = Unit {0}
LegalAll j marks d (a ∷ more) = Legal j marks d a × LegalAll j (act marks a) (suc d) more

-- One round from the state s to the state t.
pub record Round (j : Job) (s : State) (actions : List Action) (t : State) : Type 0 where
  -- "for each round and each disk in order one action"
  pub one_each : length actions ≡ disk_count j
  pub legal : LegalAll j s.resident 0 actions
  pub played : t.resident ≡ act_all s.resident actions
  -- A2. "No disk ever holds more blocks than its slots."
  pub a2 : (d : ℕ) → d < disk_count j → load j t.resident d ≤ slots_of j d
  -- A1. The references from the next read on are consumed in order, each with its block in the buffer,
  pub onward : s.next ≤ t.next
  pub within : t.next ≤ ref_count j
  pub a1 : (i : ℕ) → s.next ≤ i → i < t.next → is_resident t.resident (ref_at j i) ≡ true
  -- "and the reading stops at the first missing block or at the end"
  pub stops : t.next < ref_count j → is_resident t.resident (ref_at j t.next) ≡ false
  pub counted : t.round ≡ suc s.round

-- A state from which a job can be played: a mark for each block, the next read within the references, the loads within the slots.
pub record Ready (j : Job) (s : State) : Type 0 where
  pub long : block_count j ≤ length s.resident
  pub within : s.next ≤ ref_count j
  pub loads : (d : ℕ) → d < disk_count j → load j s.resident d ≤ slots_of j d

-- A schedule that can be played from the state s, and consumes all references.
unfoldable pub ValidFrom : Job → State → Schedule → Type 0
ValidFrom j s [] = s.next ≡ ref_count j
ValidFrom j s (actions ∷ more) = (t : State) × Round j s actions t × ValidFrom j t more

-- L3, "No throwing out beside an empty slot": an action of disk d discards a block only where every slot of the disk is taken.
unfoldable pub discards_full : Job → List Bool → ℕ → Action → Bool
unfolding load
discards_full j marks d idle = true
discards_full j marks d (fetch x) = true
discards_full j marks d (replace x z) = leb (slots_of j d) (load j marks d)

-- So do the actions of the disks from d on, each when it is played,
unfoldable pub discards_full_all : Job → List Bool → ℕ → List Action → Bool
unfolding discards_full act
discards_full_all j marks d [] = true
discards_full_all j marks d (a ∷ more) = discards_full j marks d a && discards_full_all j (act marks a) (suc d) more

-- and those of all rounds of a schedule that is played from the state s.
unfoldable pub discards_full_from : Job → State → Schedule → Bool
unfolding discards_full_all play_round
discards_full_from j s [] = true
discards_full_from j s (actions ∷ more) = discards_full_all j s.resident 0 actions && discards_full_from j (play_round j s actions) more

-- A ticket of a job: a sound job's fields in order, then fewer than eight zero bits and no byte after.
pub record ValidTicket (ticket : List ℕ) (j : Job) : Type 0 where
  pub sound : Sound j
  pub closing_bits : ℕ
  pub few_closing : closing_bits < 8
  pub written : bits ticket ≡ ticket_bits j ++ replicate closing_bits 0

-- A sheet of a job as document 01 has it: at most 2,048 rounds of a schedule that can be played and consumes all references, written as bits, then
-- fewer than eight zero bits and no byte after.
pub record LegalSheet (j : Job) (sheet : List ℕ) (schedule : Schedule) : Type 0 where
  pub few_rounds : length schedule ≤ 2048
  pub valid : ValidFrom j (start j) schedule
  pub closing_bits : ℕ
  pub few_closing : closing_bits < 8
  pub written : bits sheet ≡ sheet_bits schedule ++ replicate closing_bits 0

-- A sheet of a valid schedule: since L3, "Fewer sheets pass", one that also throws nothing out beside an empty slot.
pub record ValidSheet (j : Job) (sheet : List ℕ) (schedule : Schedule) : Type 0 where
  pub legal : LegalSheet j sheet schedule
  pub full : discards_full_from j (start j) schedule ≡ true
