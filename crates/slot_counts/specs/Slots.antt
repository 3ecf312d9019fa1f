-- Document 02, L10, "How many slots must we buy?": the least slot count for a disk. `Least` and `NoneEnough` say it by sheets, whoever drew them up;
-- `least_slots` finds it by the short plan, and `slots_answer` is the call. `proofs/Slots.antt` joins the two. Assumes nothing.
use Rattle.std.specs.Prelude.{◌≡◌, Bool, true, false, cond, ◌&&◌, List, [], ◌∷◌, ◌++◌, ℕ, zero, suc, ◌≤◌, ltb, leb, length, set, take}
use Rattle.std.proofs.Math.Option.{Option, none, some}
use Rattle.bits.specs.Bits.{pack}
use Rattle.bits.specs.Reading.{Answer, given, refused}
use Rattle.model.specs.Job.{Job, disk_count, carried_on}
use Rattle.model.specs.Ticket.{ticket_bits}
use Rattle.model.specs.Rules.{short}
use Rattle.model.specs.Plans.{schedule_of}
use Rattle.model.specs.Sheet.{sheet_of}
use Rattle.model.specs.Calls.{job_up_to, Counts, no_counts, short_counts, written, check_answer, job_numbers}

-- "the least slot count for that disk .., the other disks unchanged": the job with s slots on disk d,
unfoldable pub with_slots : ℕ → ℕ → Job → Job
with_slots d s j = record { slots = set j.slots d s; block_disks = j.block_disks; refs = j.refs; carried = j.carried }

-- and its ticket
unfoldable pub ticket_with : ℕ → ℕ → Job → List ℕ
unfolding pack ticket_bits with_slots
ticket_with d s j = pack (ticket_bits (with_slots d s j))

-- "from 1 to 64 and not below the blocks it carries in"
pub record Allowed (j : Job) (d s : ℕ) : Type 0 where
  pub some_slot : 1 ≤ s
  pub few_slots : s ≤ 64
  pub few_carried : length (carried_on j d) ≤ s

-- "with which some sheet finishes within those rounds": some bytes pass the check for the ticket with s slots on disk d, with at most so many rounds,
-- which are those charged (L7)
unfoldable pub Enough : Job → ℕ → ℕ → ℕ → ℕ → Type 0
unfolding check_answer ticket_with
Enough j stop d wanted s = (sheet : List ℕ) × (c : Counts) × (check_answer (ticket_with d s j) stop sheet ≡ given c) × (c.rounds ≤ wanted)

-- "the least slot count": it is allowed and enough, and every other such count is greater
pub record Least (j : Job) (stop d wanted s : ℕ) : Type 0 where
  pub allowed : Allowed j d s
  pub enough : Enough j stop d wanted s
  pub least : (other : ℕ) → Allowed j d other → Enough j stop d wanted other → s ≤ other

-- "no such count exists"
unfoldable pub NoneEnough : Job → ℕ → ℕ → ℕ → Type 0
unfolding Enough
NoneEnough j stop d wanted = (s : ℕ) → Allowed j d s → Enough j stop d wanted s → ⊥

-- The first of k numbers, from s on, that passes a test.
unfoldable pub first_of : (ℕ → Bool) → ℕ → ℕ → Option ℕ
first_of test s zero = none
first_of test s (suc k) = elim (test s) [ true ↦ some s | false ↦ first_of test (suc s) k ]

-- Whether the short plan with s slots on disk d, which are not below the blocks carried in, is within the wanted rounds;
unfoldable pub within : Job → ℕ → ℕ → ℕ → Bool
unfolding short_counts with_slots
within j d wanted s = leb (length (carried_on j d)) s && leb (short_counts (with_slots d s j)).rounds wanted

-- the first count from 1 to 64 of which that holds
unfoldable pub least_slots : Job → ℕ → ℕ → Option ℕ
unfolding first_of within
least_slots j d wanted = first_of (within j d wanted) 1 64

-- What is given for a count: "the short sheet for it", and its rounds and fetches.
pub record SlotsFound : Type 0 where
  pub slots : ℕ
  pub counts : Counts
  pub sheet : List ℕ

unfoldable pub found_with : ℕ → Job → ℕ → SlotsFound
unfolding with_slots short_counts sheet_of schedule_of short
found_with d j s = record { slots = s; counts = short_counts (with_slots d s j); sheet = sheet_of (schedule_of short (with_slots d s j)) }

-- "Turned away: .. 17 where that sheet's buffer is too small": `room` is the buffer's length. "The answer none" has no sheet, and needs no room.
unfoldable pub with_sheet : ℕ → ℕ → Job → Option ℕ → Answer (Option SlotsFound)
unfolding found_with
with_sheet room d j none = given none
with_sheet room d j (some s) = cond (ltb room (length (found_with d j s).sheet)) (refused 17) (given (some (found_with d j s)))

-- "27, the disk is not in the ticket, tested after the stop"
unfoldable pub slots_for : ℕ → ℕ → ℕ → Answer Job → Answer (Option SlotsFound)
unfolding with_sheet least_slots
slots_for d wanted room (given j) = elim (leb (disk_count j) d) [ true ↦ refused 27 | false ↦ with_sheet room d j (least_slots j d wanted) ]
slots_for d wanted room (refused n) = refused n

-- The call: "Given a ticket, a stop, one disk and a wanted number of rounds", and the length of the lent buffer.
unfoldable pub slots_answer : List ℕ → ℕ → ℕ → ℕ → ℕ → Answer (Option SlotsFound)
unfolding slots_for job_up_to
slots_answer ticket stop d wanted room = slots_for d wanted room (job_up_to ticket stop)

-- The lent buffer after the call: the sheet is written, and bytes past it do not change; "the answer none .. writes no byte", and neither does a
-- refusal.
abbrev pub sheet_found : Option SlotsFound → List ℕ
sheet_found none = []
sheet_found (some f) = f.sheet

abbrev pub slots_after : Answer (Option SlotsFound) → List ℕ → List ℕ
slots_after a lent = written sheet_found a lent

-- What the call returns: its number; the answer, if it is not refused, which is none or the count; and the length, rounds and fetches of the sheet.
pub record ReturnedSlots : Type 0 where
  pub number : ℕ
  pub slots : Option (Option ℕ)
  pub sheet_length : ℕ
  pub counts : Counts

unfoldable pub returned_slots : Answer (Option SlotsFound) → ReturnedSlots
returned_slots (given (some f)) = record { number = 0; slots = some (some f.slots); sheet_length = length f.sheet; counts = f.counts }
returned_slots (given none) = record { number = 0; slots = some none; sheet_length = 0; counts = no_counts }
returned_slots (refused n) = record { number = n; slots = none; sheet_length = 0; counts = no_counts }

-- The part of the buffer with the sheet, of the buffer as the call left it: as many bytes as the sheet has.
unfoldable pub slots_part : Answer (Option SlotsFound) → List ℕ → List ℕ
unfolding returned_slots written
slots_part a lent = take (returned_slots a).sheet_length (slots_after a lent)

-- The numbers with which the call is refused.
abbrev pub slots_refusals : List ℕ
slots_refusals = job_numbers ++ 27 ∷ 17 ∷ []
