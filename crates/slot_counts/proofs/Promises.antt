-- All that is promised of request L10, "How many slots must we buy?" `slots_answer` says what that call gives for a ticket t, a stop, a disk d, wanted
-- rounds and a buffer of `room` bytes, and `planner::least_slots` returns and writes it (crates/planner/src/lib.rt). Each promise is closed by one
-- citation. Assumes nothing.
use mathlib.Core.Path.{◌≡◌}
use mathlib.Core.Logic.{◌↔◌, ◌⊎◌}
use mathlib.Core.Bool.{true}
use mathlib.Core.List.{List, []}
use mathlib.Core.Option.{none, some}
use Prim.Native.Nat.{ℕ, ◌≤◌, ◌<◌}
use lib.ListN.{length, drop}
use Rattle.bits.specs.Reading.{given, refused}
use Rattle.model.specs.Job.{Job, disk_count, ref_count, slots_of, up_to}
use Rattle.model.specs.Ticket.{ticket_of}
use Rattle.model.specs.Calls.{job_up_to, Counts, AllZero, short_counts, Planned, plan_answer, check_answer, among}
use Rattle.model.proofs.Ticket
use Rattle.slot_counts.specs.Slots.{with_slots, ticket_with, Allowed, Enough, Least, NoneEnough, SlotsFound, found_with, slots_answer, slots_after, returned_slots, slots_part, slots_refusals}
use Rattle.slot_counts.proofs.Slots
use Rattle.slot_counts.proofs.Calls
use Rattle.slot_counts.proofs.Refusals

-- A count is said by sheets: it is enough if some bytes pass the check for the ticket with that count on disk d, with at most the wanted rounds
-- (`Enough`, specs/Slots.antt). The call gives a count, with the short sheet for it, exactly if the ticket has the disk, that count is "the least
-- slot count for that disk, from 1 to 64 and not below the blocks it carries in, with which some sheet finishes within those rounds, the other disks
-- unchanged" (`Least`), and the sheet fits;
pub slots_found : (t : List ℕ) (stop d wanted room : ℕ) (f : SlotsFound) → (slots_answer t stop d wanted room ≡ given (some f))
    ↔ ((j : Job) × ((ticket_of t ≡ given j) × (stop ≤ ref_count j) × (d < disk_count j))
    × (s : ℕ) × Least j stop d wanted s × (found_with d (up_to stop j) s ≡ f) × (length f.sheet ≤ room))
slots_found = Calls.slots_found

-- "or the answer none, which is given if no such count exists and in no other case";
pub slots-none : (t : List ℕ) (stop d wanted room : ℕ) → (slots_answer t stop d wanted room ≡ given none)
    ↔ ((j : Job) × ((ticket_of t ≡ given j) × (stop ≤ ref_count j) × (d < disk_count j)) × NoneEnough j stop d wanted)
slots-none = Calls.slots-none

-- and otherwise it is refused: "27, the disk is not in the ticket, tested after the stop, and 17 where that sheet's buffer is too small".
pub slots-refusals : (t : List ℕ) (stop d wanted room n : ℕ) → (slots_answer t stop d wanted room ≡ refused n)
    ↔ ((job_up_to t stop ≡ refused n)
    ⊎ (((n ≡ 27) × ((j : Job) × (ticket_of t ≡ given j) × (stop ≤ ref_count j) × (disk_count j ≤ d)))
    ⊎ ((n ≡ 17) × ((j : Job) × ((ticket_of t ≡ given j) × (stop ≤ ref_count j) × (d < disk_count j))
    × (s : ℕ) × Least j stop d wanted s × (room < length (found_with d (up_to stop j) s).sheet)))))
slots-refusals = Calls.slots-refusals

-- So it is refused with one of 1 to 8, 17, 21 and 25 to 27, and each of these is given for some bytes; and never with 17 where the buffer holds the
-- longest sheet.
pub slots-numbers : (n : ℕ) → (among n slots_refusals ≡ true)
    ↔ ((t : List ℕ) × (stop : ℕ) × (d : ℕ) × (wanted : ℕ) × (room : ℕ) × (slots_answer t stop d wanted room ≡ refused n))
slots-numbers = Refusals.slots-numbers

pub slots_fits : (t : List ℕ) (stop d wanted room : ℕ) → 40962 ≤ room → slots_answer t stop d wanted room ≡ refused 17 → ⊥
slots_fits = Calls.slots_fits

-- "with which some sheet finishes ..., the other disks unchanged": for an allowed count the ticket with that count on disk d is accepted, and its job
-- has that count there, and the slots of the ticket t on every other disk;
pub count_ticket : (t : List ℕ) (j : Job) → ticket_of t ≡ given j → (d s : ℕ) → d < disk_count j → Allowed j d s
    → (ticket_of (ticket_with d s j) ≡ given (with_slots d s j))
    × (slots_of (with_slots d s j) d ≡ s)
    × ((e : ℕ) → (e ≡ d → ⊥) → slots_of (with_slots d s j) e ≡ slots_of j e)
count_ticket t j e = Slots.with_ticket j (Ticket.ticket_sound t j e)

-- and that count is enough exactly if the short plan for it is within the wanted rounds.
pub count-enough : (t : List ℕ) (stop : ℕ) (j : Job) → ticket_of t ≡ given j → stop ≤ ref_count j → (d s : ℕ) → Allowed j d s → (wanted : ℕ)
    → Enough j stop d wanted s ↔ ((short_counts (with_slots d s (up_to stop j))).rounds ≤ wanted)
count-enough t stop j e few = Slots.enough_exactly j (Ticket.ticket_sound t j e) stop few

-- What is given is the least count, and with it "the short sheet for it". It passes the check for the ticket with that count, within the wanted
-- rounds; no sheet for that ticket takes fewer; and it is what planning gives for it.
pub slots-given : (t : List ℕ) (stop d wanted room : ℕ) (f : SlotsFound) → slots_answer t stop d wanted room ≡ given (some f)
    → (j : Job) × ((ticket_of t ≡ given j) × Least j stop d wanted f.slots
    × (check_answer (ticket_with d f.slots j) stop f.sheet ≡ given f.counts)
    × (f.counts.rounds ≤ wanted)
    × ((s : List ℕ) (c : Counts) → check_answer (ticket_with d f.slots j) stop s ≡ given c → f.counts.rounds ≤ c.rounds)
    × ((room₁ room₂ : ℕ) (p : Planned) → plan_answer (ticket_with d f.slots j) stop room₁ room₂ ≡ given p → (p.short ≡ f.counts) × (p.short_sheet ≡ f.sheet)))
slots-given = Calls.slots-given

-- The call returns the number 0, the count, and the length and the counts of the sheet, and writes it; bytes past it stay.
pub slots-written : (t : List ℕ) (stop d wanted : ℕ) (lent : List ℕ) (f : SlotsFound) → slots_answer t stop d wanted (length lent) ≡ given (some f)
    → (let r = returned_slots (given (some f)) in (r.number ≡ 0) × (r.slots ≡ some (some f.slots)) × (r.sheet_length ≡ length f.sheet) × (r.counts ≡ f.counts))
    × (slots_part (given (some f)) lent ≡ f.sheet)
    × (length (slots_after (given (some f)) lent) ≡ length lent)
    × (drop (length f.sheet) (slots_after (given (some f)) lent) ≡ drop (length f.sheet) lent)
slots-written = Calls.slots-written

-- "The answer none .. writes no byte", and a refusal, which is no answer, changes none and hands out no sheet.
pub none_written : (lent : List ℕ)
    → (let r = returned_slots (given none) in (r.number ≡ 0) × (r.slots ≡ some none) × (r.sheet_length ≡ 0) × AllZero r.counts)
    × (slots_part (given none) lent ≡ [])
    × (slots_after (given none) lent ≡ lent)
none_written = Refusals.none_written

pub slots-refused : (n : ℕ) (lent : List ℕ)
    → (let r = returned_slots (refused n) in (r.number ≡ n) × (r.slots ≡ none) × (r.sheet_length ≡ 0) × AllZero r.counts)
    × (slots_part (refused n) lent ≡ [])
    × (slots_after (refused n) lent ≡ lent)
slots-refused = Refusals.slots-refused

-- The ticket's own slots are one of the counts: where its short plan is within the wanted rounds, a count is found, and none above them.
pub own_slots : (t : List ℕ) (stop d wanted room : ℕ) (j : Job) → ticket_of t ≡ given j → stop ≤ ref_count j → d < disk_count j → (short_counts (up_to stop j)).rounds ≤ wanted
    → (slots_answer t stop d wanted room ≡ given none → ⊥)
    × ((f : SlotsFound) → slots_answer t stop d wanted room ≡ given (some f) → f.slots ≤ slots_of j d)
own_slots t stop d wanted room j e few l within =
    (Calls.own_found t stop d wanted room j e few l within, Calls.own_most t stop d wanted room j e few l within)
