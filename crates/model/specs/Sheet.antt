-- A run sheet: document 01, "Ticket and sheet", how a schedule is written, and how a sheet is read and played for a job, with the numbers 9 to
-- 16 of "Numbers of a refused call" and 20 of document 02's request L3, each tested as soon as the fields that it speaks of are read. Assumes
-- nothing.
use Rattle.std.specs.Prelude.{Bool, not, ◌&&◌, ◌||◌, List, [], ◌∷◌, ◌++◌, ℕ, zero, suc, ltb, leb, eqb, length}
use Rattle.bits.specs.Bits.{digits, pack}
use Rattle.bits.specs.Reading.{Answer, Reader, ◌>>=◌, ◌>>◌, give, field, refuse_if, closing, read_all}
use Rattle.model.specs.Job.{Job, disk_count, block_count, ref_count, slots_of, disk_of}
use Rattle.model.specs.Playing.{Action, idle, fetch, replace, Schedule, State, start, is_resident, load, act, play_round, play}

-- "The action is the bit 0 (no fetch), or 1 and a 9-bit fetched block, followed by 0 (nothing discarded) or by 1 and a 9-bit discarded block."
unfoldable pub action_bits : Action → List ℕ
unfolding digits
action_bits idle = 0 ∷ []
action_bits (fetch x) = 1 ∷ (digits 9 x ++ 0 ∷ [])
action_bits (replace x z) = 1 ∷ (digits 9 x ++ 1 ∷ digits 9 z)

-- "for each round and each disk in order one action"
unfoldable pub round_bits : List Action → List ℕ
unfolding action_bits
round_bits [] = []
round_bits (a ∷ more) = action_bits a ++ round_bits more

unfoldable pub rounds_bits : Schedule → List ℕ
unfolding round_bits
rounds_bits [] = []
rounds_bits (actions ∷ more) = round_bits actions ++ rounds_bits more

-- "A sheet is a 12-bit round count R, 0 to 2048, then for each round and each disk in order one action."
unfoldable pub sheet_bits : Schedule → List ℕ
unfolding digits rounds_bits
sheet_bits schedule = digits 12 (length schedule) ++ rounds_bits schedule

-- The bytes of a schedule's sheet, with the closing zero bits.
unfoldable pub sheet_of : Schedule → List ℕ
unfolding sheet_bits pack
sheet_of schedule = pack (sheet_bits schedule)

-- A field of w bits. "9. The sheet ends inside a field that is due."
abbrev pub sheet_field : ℕ → Reader ℕ
sheet_field w = field 9 w

-- block b is in the buffer of disk d
abbrev pub holds : Job → List Bool → ℕ → ℕ → Bool
holds j marks d b = ltb b (block_count j) && eqb (disk_of j b) d && is_resident marks b

-- What follows the fetched block x: "0 (nothing discarded)", where "13. Nothing is discarded though every slot is taken" is tested, or "1 and a
-- 9-bit discarded block", where "14. The discarded block is not in that disk's buffer" is. L3: "20, a discard though a slot is empty, tested once
-- the discard bit is read as 1 and before the discarded block's field".
unfoldable pub discard_reader : Job → List Bool → ℕ → ℕ → ℕ → Reader Action
discard_reader j marks d x zero = do
  refuse_if 13 (leb (slots_of j d) (load j marks d))
  give (fetch x)
discard_reader j marks d x (suc k) = do
  refuse_if 20 (ltb (load j marks d) (slots_of j d))
  z ← sheet_field 9
  refuse_if 14 (not (holds j marks d z))
  give (replace x z)

-- What follows the fetch bit. "11. A fetched block is B or more, or lies on another disk. 12. A fetched block is already in the buffer."
unfoldable pub fetch_reader : Job → List Bool → ℕ → ℕ → Reader Action
fetch_reader j marks d zero = give idle
fetch_reader j marks d (suc k) = do
  x ← sheet_field 9
  refuse_if 11 (leb (block_count j) x || not (eqb (disk_of j x) d))
  refuse_if 12 (is_resident marks x)
  discards ← sheet_field 1
  discard_reader j marks d x discards

-- One action of disk d.
unfoldable pub action_reader : Job → List Bool → ℕ → Reader Action
action_reader j marks d = do
  fetches ← sheet_field 1
  fetch_reader j marks d fetches

-- The actions of k disks, from disk d on; each is played before the next is read.
unfoldable pub round_reader : Job → ℕ → List Bool → ℕ → Reader (List Action)
round_reader j zero marks d = give []
round_reader j (suc k) marks d = do
  a ← action_reader j marks d
  more ← round_reader j k (act marks a) (suc d)
  give (a ∷ more)

-- The rounds that are left, r of them, from the state s on; each is played before the next is read.
unfoldable pub rounds_reader : Job → ℕ → State → Reader Schedule
rounds_reader j zero s = give []
rounds_reader j (suc r) s = do
  actions ← round_reader j (disk_count j) s.resident 0
  more ← rounds_reader j r (play_round j s actions)
  give (actions ∷ more)

-- The sheet for a job from a state: R, "10. R is above 2048", the rounds, "15. References are left after the last round", the closing bits.
unfoldable pub sheet_reader : Job → State → Reader Schedule
sheet_reader j s = do
  r ← sheet_field 12
  refuse_if 10 (ltb 2048 r)
  schedule ← rounds_reader j r s
  refuse_if 15 (ltb (play j s schedule).next (ref_count j))
  closing 16
  give schedule

-- The schedule that a sheet holds for a job, or its number.
unfoldable pub schedule_read : Job → List ℕ → Answer Schedule
schedule_read j s = read_all (sheet_reader j (start j)) s
