-- All that is promised of tickets, stops, sheets and pages, over bytes, in the terms of documents 01 and 02. Each promise is closed by one citation.
-- `ticket_of`, `job_up_to`, `check_answer`, `plan_answer`, `choose_answer` and `page_answer` (specs/Ticket.antt, specs/Calls.antt) say what the papers'
-- calls give for any bytes: `given` a value, or `refused` with a number. `job_up_to t stop` is the job of the ticket t up to a stop, and all that is
-- said of plans, sheets, choices and pages holds for every ticket and stop; fewest rounds and fetches "are then meant among sheets for the part
-- before the stop" (L5). The code is tied to these definitions by its contracts, which are equations with them for every input: `planner::check`
-- returns `check_answer`, `planner::plan` returns and writes `plan_answer`, `planner::part` gives `part_of`, `planner::choose` returns `choose_answer`,
-- `planner::chosen_sheet` gives `sheet_handed`, `planner::plan_with_page` returns and writes `page_answer` (crates/planner/src/lib.rt). What is
-- promised of the least slots (L10) is in crates/slot_counts/proofs/Promises.antt. Assumes nothing.
use mathlib.Core.Path.{◌≡◌}
use mathlib.Core.Logic.{◌↔◌, ◌⊎◌}
use mathlib.Core.Bool.{true, false, cond}
use mathlib.Core.List.{List, [], ◌∷◌, ◌++◌}
use mathlib.Core.Option.{none, some}
use Prim.Native.Nat.{ℕ, suc, ◌+◌, ◌*◌, ◌≤◌, ◌<◌, ◌^◌}
use lib.Dec.{ltb}
use lib.ListN.{length, get_or, take, drop, replicate}
use Rattle.bits.specs.Bits.{pack}
use Rattle.bits.specs.Reading.{given, refused}
use Rattle.model.specs.Job.{Job, Sound, disk_count, block_count, ref_count, slots_of, disk_of, ref_at, carried_on, carried_at, up_to}
use Rattle.model.specs.Ticket.{ticket_bits, ticket_of}
use Rattle.model.specs.Playing.{idle, replace, Schedule, none_resident, start, is_resident, load, play, fetched, discarded, total, fetches}
use Rattle.model.specs.Rules.{distance, over_min_block, short, sparing}
use Rattle.model.specs.Plans.{schedule_of, state_after}
use Rattle.model.specs.Text.{text}
use Rattle.model.specs.Page.{letter, line_of, legend, ended, page_of}
use Rattle.model.specs.Sheet.{sheet_of}
use Rattle.model.specs.Valid.{ValidTicket, ValidFrom, discards_full_from, LegalSheet, ValidSheet}
use Rattle.model.specs.Calls.{job_up_to, references_of, Counts, counts_of, fetches_on, AllZero, short_counts, sparing_counts, SparingWithin, is_second, of_two, is_sparing, chosen, Planned, handed, handed_counts, planned_for, plan_answer, short_after, sparing_after, returned, part_after, PlannedPage, plan_handed, page_for, page_answer, plan_given, page_length, page_after, check_for, check_answer, counts_given, ChosenSheet, chosen_of, chosen_from, choose_answer, returned_choice, sheet_after, check_refusals, plan_refusals, page_refusals, among, counts_numbers, planning_numbers, choice_numbers, counts_written}
use Rattle.model.proofs.Choosing.{short_lawful, sparing_lawful}
use Rattle.model.proofs.Carried
use Rattle.model.proofs.Ticket
use Rattle.model.proofs.Stop
use Rattle.model.proofs.Bytes
use Rattle.model.proofs.Stricter
use Rattle.model.proofs.TwoSheets
use Rattle.model.proofs.Page
use Rattle.model.proofs.PageCall
use Rattle.model.proofs.StopCalls
use Rattle.model.proofs.ChargedCalls
use Rattle.model.proofs.Waiting
use Rattle.model.proofs.Refusals
use Rattle.model.proofs.Longest

-- 1. Demand 1. A ticket is accepted, and says the job j, exactly if j is sound and the bytes are its fields in order, then fewer than eight zero
-- bits (specs/Valid.antt).
pub accepted_exactly : (t : List ℕ) (j : Job) → (ticket_of t ≡ given j) ↔ ValidTicket t j
accepted_exactly t j = (Ticket.accepted_valid t j, Ticket.valid_accepted t j)

-- Every sound job has a ticket: its fields in order, packed.
pub sound_accepted : (j : Job) → Sound j → ticket_of (pack (ticket_bits j)) ≡ given j
sound_accepted = Ticket.sound_accepted

-- A refused check gives one of 1 to 16, 20, 21, 25 and 26, a refused planning call one of 1 to 8, 17, 18, 21, 25 and 26; and each of these numbers is
-- given for some bytes and stop.
pub check_numbers : (n : ℕ) → (among n check_refusals ≡ true) ↔ ((t : List ℕ) × (stop : ℕ) × (s : List ℕ) × (check_answer t stop s ≡ refused n))
check_numbers = Refusals.check_numbers

pub plan_numbers : (n : ℕ) → (among n plan_refusals ≡ true) ↔ ((t : List ℕ) × (stop : ℕ) × (room₁ : ℕ) × (room₂ : ℕ) × (plan_answer t stop room₁ room₂ ≡ refused n))
plan_numbers = Refusals.plan_numbers

-- "A refused call returns its number with all counts 0 and no mark, hands out no part, and changes no lent byte."
pub check_refused : (n : ℕ) (lent : List ℕ) → AllZero (counts_given (refused n)) × (counts_written counts_numbers (refused n) lent ≡ lent)
check_refused = Refusals.check_refused

pub plan_refused : (n : ℕ) (lent other : List ℕ)
    → (let r = returned (refused n) in (r.number ≡ n) × (r.mark ≡ none) × (r.part_length ≡ 0) × AllZero r.short × AllZero r.sparing)
    × (part_after (refused n) lent other ≡ [])
    × (short_after (refused n) lent ≡ lent)
    × (sparing_after (refused n) lent ≡ lent)
    × (counts_written planning_numbers (refused n) lent ≡ lent)
plan_refused = Refusals.plan_refused

-- 2. Demand 2. The check passes a sheet exactly if it is a valid schedule of the ticket's job up to the stop (specs/Valid.antt), and with that
-- schedule's counts.
pub passes_exactly : (t : List ℕ) (stop : ℕ) (s : List ℕ) (c : Counts) → (check_answer t stop s ≡ given c)
    ↔ ((j : Job) × (schedule : Schedule) × (job_up_to t stop ≡ given j) × ValidSheet j s schedule × (counts_of j schedule ≡ c))
passes_exactly = Bytes.passes_exactly

-- Each plan of an accepted ticket and stop, written as a sheet and read by the check, passes with the planner's own rounds and fetches.
pub short_passes : (t : List ℕ) (stop : ℕ) (j : Job) → job_up_to t stop ≡ given j → check_answer t stop (sheet_of (schedule_of short j)) ≡ given (counts_of j (schedule_of short j))
short_passes = Bytes.schedule_passes short short_lawful

pub sparing_passes : (t : List ℕ) (stop : ℕ) (j : Job) → job_up_to t stop ≡ given j → check_answer t stop (sheet_of (schedule_of sparing j)) ≡ given (counts_of j (schedule_of sparing j))
sparing_passes = Bytes.schedule_passes sparing sparing_lawful

-- "A planning call that is not refused gives these same numbers for the plans", and writes their sheets.
pub planned-counts : (t : List ℕ) (stop : ℕ) (j : Job) (room₁ room₂ : ℕ) (p : Planned) → job_up_to t stop ≡ given j → plan_answer t stop room₁ room₂ ≡ given p
    → (p.short ≡ short_counts j) × (p.sparing ≡ sparing_counts j) × (p.short_sheet ≡ sheet_of (schedule_of short j)) × (p.sparing_sheet ≡ sheet_of (schedule_of sparing j))
planned-counts = Bytes.planned-counts

-- "In either plan every round consumes at least one reference, so neither takes more than N rounds": so at most 2,048, and either sheet fits
-- the longest sheet's room.
pub short-rounds : (t : List ℕ) (stop : ℕ) (j : Job) → job_up_to t stop ≡ given j
    → ((k : ℕ) → k < length (schedule_of short j) → (play j (start j) (take k (schedule_of short j))).next < (play j (start j) (take (suc k) (schedule_of short j))).next)
    × ((short_counts j).rounds ≤ ref_count j) × ((short_counts j).rounds ≤ 2048) × (length (sheet_of (schedule_of short j)) ≤ 40962)
unfolding short_counts counts_of
short-rounds = Bytes.rounds-few short short_lawful

pub sparing-rounds : (t : List ℕ) (stop : ℕ) (j : Job) → job_up_to t stop ≡ given j
    → ((k : ℕ) → k < length (schedule_of sparing j) → (play j (start j) (take k (schedule_of sparing j))).next < (play j (start j) (take (suc k) (schedule_of sparing j))).next)
    × ((sparing_counts j).rounds ≤ ref_count j) × ((sparing_counts j).rounds ≤ 2048) × (length (sheet_of (schedule_of sparing j)) ≤ 40962)
unfolding sparing_counts counts_of
sparing-rounds = Bytes.rounds-few sparing sparing_lawful

-- 3. Demand 3. Whatever bytes t read as an accepted ticket, whatever the stop, and whatever bytes s the check passes as its sheet, whoever drew it
-- up: the rounds given with the pass are at least the short plan's, and the fetches on every disk at least the sparing plan's.
pub unbeaten : (t : List ℕ) (stop : ℕ) (s : List ℕ) (j : Job) (c : Counts) → job_up_to t stop ≡ given j → check_answer t stop s ≡ given c
    → ((short_counts j).rounds ≤ c.rounds) × ((d : ℕ) → fetches_on (sparing_counts j) d ≤ fetches_on c d)
unbeaten = Bytes.unbeaten

-- A planning call that is not refused hands back the sparing sheet exactly when both plans take equally many rounds, otherwise the short one. What
-- it hands back is as long as it says and passes the check with the counts given for it; no sheet that passes takes fewer rounds, nor on any
-- disk fewer fetches than the sparing plan.
pub handed_back : (t : List ℕ) (stop room₁ room₂ : ℕ) (p : Planned) → plan_answer t stop room₁ room₂ ≡ given p
    → ((p.mark ≡ is_sparing) ↔ (p.short.rounds ≡ p.sparing.rounds))
    × (length (handed p) ≡ p.part_length)
    × (check_answer t stop (handed p) ≡ given (handed_counts p))
    × ((s : List ℕ) (c : Counts) → check_answer t stop s ≡ given c → ((handed_counts p).rounds ≤ c.rounds) × ((d : ℕ) → fetches_on p.sparing d ≤ fetches_on c d))
handed_back = Bytes.handed_back

-- It returns the number 0, the mark, the length of the sheet that is handed back, and both plans' counts.
pub plan-given : (t : List ℕ) (stop room₁ room₂ : ℕ) (p : Planned) → plan_answer t stop room₁ room₂ ≡ given p
    → (let r = returned (given p) in (r.number ≡ 0) × (r.mark ≡ some p.mark) × (r.part_length ≡ length (handed p)) × (r.short ≡ p.short) × (r.sparing ≡ p.sparing))
plan-given = Bytes.plan-given

-- "The answer is the part of one of the two lent buffers that holds the chosen sheet": the part of the two buffers, as the call left them, is that
-- sheet, byte for byte. (`plan_refused` has the part after a refusal; crates/planner/proofs/Joined.antt says both of the values of the code.)
pub part-handed : (t : List ℕ) (stop : ℕ) (lent₁ lent₂ : List ℕ) (p : Planned) → plan_answer t stop (length lent₁) (length lent₂) ≡ given p → part_after (given p) lent₁ lent₂ ≡ handed p
part-handed = Bytes.part-handed

-- 4. "The longest ticket has 2,507 bytes, the longest sheet 40,962" (document 01): with the blocks carried in (L9) the longest has 3,090 bytes. No
-- accepted ticket and no sheet that passes is longer, and a ticket of that length is accepted. A sheet of 2,048 rounds of eight actions that each
-- discard a block has 40,962 bytes.
pub ticket_length : (t : List ℕ) (j : Job) → ticket_of t ≡ given j → length t ≤ 3090
ticket_length = Longest.ticket_length

pub ticket_longest : (t : List ℕ) × (j : Job) × (ticket_of t ≡ given j) × (length t ≡ 3090)
ticket_longest = Longest.ticket_longest

pub sheet-length : (t : List ℕ) (stop : ℕ) (s : List ℕ) (c : Counts) → check_answer t stop s ≡ given c → length s ≤ 40962
sheet-length = Longest.passed_length

pub sheet_longest : length (sheet_of (replicate 2048 (replicate 8 (replace 1 0)))) ≡ 40962
sheet_longest = Longest.sheet_longest

-- so its length, and that of a sheet handed back, needs no more than 16 bits
pub sheet_16_bits : (t : List ℕ) (stop : ℕ) (s : List ℕ) (c : Counts) → check_answer t stop s ≡ given c → length s < 2 ^ 16
sheet_16_bits = Longest.passed_16_bits

-- 5. Request L1, the choice between two sheets, whoever drew them up. It gives something exactly if both pass the check: the second sheet if it takes
-- no more rounds than the first, otherwise the first, and that sheet's length (`chosen_of`, specs/Calls.antt).
pub chooses_exactly : (t : List ℕ) (stop : ℕ) (first second : List ℕ) (c : ChosenSheet) → (choose_answer t stop first second ≡ given c)
    ↔ ((a : Counts) × (b : Counts) × (check_answer t stop first ≡ given a) × (check_answer t stop second ≡ given b) × (chosen_of first second a b ≡ c))
chooses_exactly = TwoSheets.chooses_exactly

-- "both are checked, the first before the second, and a failure gives the check's number": it is refused with n exactly if the check of the first
-- sheet is, or if the first passes and the check of the second is refused with n. (A bad ticket or stop refuses both checks, with its number.)
pub choose_refusals : (t : List ℕ) (stop : ℕ) (first second : List ℕ) (n : ℕ) → (choose_answer t stop first second ≡ refused n)
    ↔ ((check_answer t stop first ≡ refused n) ⊎ ((a : Counts) × (check_answer t stop first ≡ given a) × (check_answer t stop second ≡ refused n)))
choose_refusals = TwoSheets.choose_refusals

-- A refused choice gives one of 1 to 16, 20, 21, 25 and 26, and each of these is given for some bytes; it hands back no sheet and changes no lent
-- byte.
pub choose_numbers : (n : ℕ) → (among n check_refusals ≡ true) ↔ ((t : List ℕ) × (stop : ℕ) × (first : List ℕ) × (second : List ℕ) × (choose_answer t stop first second ≡ refused n))
choose_numbers = Refusals.choose_numbers

pub choose_refused : (n : ℕ) (first second lent : List ℕ)
    → (let r = returned_choice (refused n) in (r.number ≡ n) × (r.which ≡ none) × (r.sheet_length ≡ 0))
    × (sheet_after (refused n) first second ≡ [])
    × (counts_written choice_numbers (refused n) lent ≡ lent)
choose_refused = Refusals.choose_refused

-- The sheet handed back is the second exactly if that takes no more rounds; it passes the check, is as long as is said, and takes no more rounds than
-- the other.
pub chosen_passes : (t : List ℕ) (stop : ℕ) (first second : List ℕ) (a b : Counts) (c : ChosenSheet) → check_answer t stop first ≡ given a → check_answer t stop second ≡ given b
    → choose_answer t stop first second ≡ given c
    → ((c.which ≡ is_second) ↔ (b.rounds ≤ a.rounds))
    × (check_answer t stop (of_two c.which first second) ≡ given (of_two c.which a b))
    × (length (of_two c.which first second) ≡ c.sheet_length)
    × ((of_two c.which a b).rounds ≤ a.rounds)
    × ((of_two c.which a b).rounds ≤ b.rounds)
chosen_passes = TwoSheets.chosen_passes

-- It returns the number 0, which sheet that is, and its length.
pub choose_given : (t : List ℕ) (stop : ℕ) (first second : List ℕ) (c : ChosenSheet) → choose_answer t stop first second ≡ given c
    → (let r = returned_choice (given c) in (r.number ≡ 0) × (r.which ≡ some c.which) × (r.sheet_length ≡ length (of_two c.which first second)))
choose_given = TwoSheets.choose_given

-- What is handed back of the two sheets is that one, byte for byte. (`choose_refused` has what is handed back after a refusal;
-- crates/planner/proofs/Joined.antt says both of the values of the code.)
pub sheet-handed : (t : List ℕ) (stop : ℕ) (first second : List ℕ) (c : ChosenSheet) → choose_answer t stop first second ≡ given c → sheet_after (given c) first second ≡ of_two c.which first second
sheet-handed = TwoSheets.sheet-handed

-- Between planning's own two sheets, the short one first, the choice is not refused. It is the second exactly if planning's mark is sparing, and
-- hands back what planning does.
pub chosen_as_planned : (t : List ℕ) (stop room₁ room₂ : ℕ) (p : Planned) → plan_answer t stop room₁ room₂ ≡ given p
    → (c : ChosenSheet) × (choose_answer t stop p.short_sheet p.sparing_sheet ≡ given c)
    × ((c.which ≡ is_second) ↔ (p.mark ≡ is_sparing))
    × (c.sheet_length ≡ p.part_length)
    × (sheet_after (given c) p.short_sheet p.sparing_sheet ≡ handed p)
chosen_as_planned = TwoSheets.chosen_as_planned

-- With the short plan's sheet first, nobody's second sheet is handed back unless it takes equally many rounds.
pub short-first : (t : List ℕ) (stop : ℕ) (s : List ℕ) (j : Job) (b : Counts) (c : ChosenSheet) → job_up_to t stop ≡ given j → check_answer t stop s ≡ given b
    → choose_answer t stop (sheet_of (schedule_of short j)) s ≡ given c → (c.which ≡ is_second) ↔ (b.rounds ≡ (short_counts j).rounds)
short-first = TwoSheets.short-first

-- The length that is given, and written from C, needs no more than 16 bits.
pub chosen-length : (t : List ℕ) (stop : ℕ) (first second : List ℕ) (c : ChosenSheet) → choose_answer t stop first second ≡ given c → c.sheet_length < 2 ^ 16
chosen-length = TwoSheets.chosen-length

-- 6. Request L2, the page of the plan handed back. "The page comes from a planning call that is lent a third buffer for it and writes both sheets as
-- before": the call gives something exactly if planning does and the page of the plan handed back (`page_of`, specs/Page.antt) fits its buffer; it
-- gives what planning gives, and that page.
pub page_exactly : (t : List ℕ) (stop room₁ room₂ room₃ : ℕ) (p : PlannedPage) → (page_answer t stop room₁ room₂ room₃ ≡ given p)
    ↔ ((j : Job) × (job_up_to t stop ≡ given j) × (plan_answer t stop room₁ room₂ ≡ given p.planned) × (p.page ≡ page_of (plan_handed p.planned.mark j)) × (length p.page ≤ room₃))
page_exactly = PageCall.page_exactly

-- "Turned away: 19, the page does not fit, tested after 18": it is refused with n exactly if planning is, or if n is 19, planning is not refused, and
-- the page is longer than its buffer.
pub page-refusals : (t : List ℕ) (stop room₁ room₂ room₃ n : ℕ) → (page_answer t stop room₁ room₂ room₃ ≡ refused n)
    ↔ ((plan_answer t stop room₁ room₂ ≡ refused n)
    ⊎ ((n ≡ 19) × (j : Job) × (p : Planned) × (job_up_to t stop ≡ given j) × (plan_answer t stop room₁ room₂ ≡ given p) × (room₃ < length (page_of (plan_handed p.mark j)))))
page-refusals = PageCall.page-refusals

-- A refused call with a page gives one of 1 to 8, 17, 18, 19, 21, 25 and 26, and each of these is given for some bytes, stop and rooms.
pub page-numbers : (n : ℕ) → (among n page_refusals ≡ true) ↔ ((t : List ℕ) × (stop : ℕ) × (room₁ : ℕ) × (room₂ : ℕ) × (room₃ : ℕ) × (page_answer t stop room₁ room₂ room₃ ≡ refused n))
page-numbers = Refusals.page-numbers

-- It returns and writes what a refused planning call does (`plan_refused`), no page's length, and no byte of the page's buffer.
pub page-refused : (n : ℕ) (lent : List ℕ) → (plan_given (refused n) ≡ refused n) × (page_length (refused n) ≡ 0) × (page_after (refused n) lent ≡ lent)
page-refused = Refusals.page-refused

-- "The page's length is returned too, and bytes past it stay": a call that is not refused returns and writes what planning does (`plan-given`), and
-- the page's length; the page's buffer then begins with the page, and goes on with the bytes that it had.
pub page-given : (t : List ℕ) (stop : ℕ) (lent : List ℕ) (room₁ room₂ : ℕ) (p : PlannedPage) → page_answer t stop room₁ room₂ (length lent) ≡ given p
    → (plan_given (given p) ≡ given p.planned)
    × (page_length (given p) ≡ length p.page)
    × (length (page_after (given p) lent) ≡ length lent)
    × (take (page_length (given p)) (page_after (given p) lent) ≡ p.page)
    × (drop (page_length (given p)) (page_after (given p) lent) ≡ drop (page_length (given p)) lent)
page-given = PageCall.page-given

-- "For the plan handed back, one line per round and disk, 16 columns and a line feed": the line of round r + 1 and disk d is at its place, and shows
-- what the plan's rule chooses at the start of that round. "Five legend lines of 16 columns close the page": after the lines comes the legend alone.
pub page-lines : (t : List ℕ) (stop : ℕ) (j : Job) (room₁ room₂ room₃ : ℕ) (p : PlannedPage) → job_up_to t stop ≡ given j → page_answer t stop room₁ room₂ room₃ ≡ given p
    → (let rule = chosen p.planned.mark short sparing in
    let n = (handed_counts p.planned).rounds in
    ((r d : ℕ) → r < n → d < disk_count j → take 17 (drop ((r * disk_count j + d) * 17) p.page) ≡ line_of (suc r) d (rule j (state_after rule j r) d))
    × (drop (n * disk_count j * 17) p.page ≡ ended legend))
page-lines = PageCall.page-lines

-- "Every letter on a page is the one the plan's rule gives": the last of the line's 16 columns.
pub page_letters : (t : List ℕ) (stop : ℕ) (j : Job) (room₁ room₂ room₃ : ℕ) (p : PlannedPage) → job_up_to t stop ≡ given j → page_answer t stop room₁ room₂ room₃ ≡ given p
    → (let rule = chosen p.planned.mark short sparing in
    (r d : ℕ) → r < (handed_counts p.planned).rounds → d < disk_count j
    → get_or p.page ((r * disk_count j + d) * 17 + 15) 0 ≡ letter (rule j (state_after rule j r) d))
page_letters = PageCall.page_letters

-- The line of the last round, the last disk and the last block that there can be.
pub widest_line : line_of 2048 7 (over_min_block 511 0) ≡ text "2048 7 511   0 M" ++ 10 ∷ []
widest_line = Page.widest_line

-- A page has 17 bytes for each round and disk and 85 for the legend, so at most 278,613; a page of 2,048 rounds of eight disks has so many.
pub page-length : (t : List ℕ) (stop : ℕ) (j : Job) (room₁ room₂ room₃ : ℕ) (p : PlannedPage) → job_up_to t stop ≡ given j → page_answer t stop room₁ room₂ room₃ ≡ given p
    → (length p.page ≡ (handed_counts p.planned).rounds * disk_count j * 17 + 85) × (length p.page ≤ 278613)
page-length = PageCall.page-length

pub page_longest : length (page_of (replicate 2048 (replicate 8 (over_min_block 1 0)))) ≡ 278613
page_longest = Page.page_longest

-- Where the buffers hold the longest sheet and the longest page, no accepted ticket and stop is refused.
pub page_fits : (t : List ℕ) (stop : ℕ) (j : Job) (room₁ room₂ room₃ : ℕ) → job_up_to t stop ≡ given j → 40962 ≤ room₁ → 40962 ≤ room₂ → 278613 ≤ room₃
    → (p : PlannedPage) × (page_answer t stop room₁ room₂ room₃ ≡ given p)
page_fits = PageCall.page_fits

-- 7. Request L3, "No throwing out beside an empty slot. .. The check becomes stricter." "Fewer sheets pass": every sheet that passes is a sheet that
-- document 01 lets pass, with the counts of its schedule. Such a sheet is a `LegalSheet` (specs/Valid.antt): word for word the sheets of which
-- `passes_exactly` was proved before this request.
pub pass_is_legal : (t : List ℕ) (stop : ℕ) (s : List ℕ) (c : Counts) → check_answer t stop s ≡ given c
    → (j : Job) × (schedule : Schedule) × (job_up_to t stop ≡ given j) × LegalSheet j s schedule × (counts_of j schedule ≡ c)
pass_is_legal = Stricter.pass_is_legal

-- Of those sheets the check passes the ones that throw nothing out beside an empty slot, and refuses all others with 20;
pub legal-answer : (t : List ℕ) (stop : ℕ) (s : List ℕ) (j : Job) (schedule : Schedule) → job_up_to t stop ≡ given j → LegalSheet j s schedule
    → check_answer t stop s ≡ cond (discards_full_from j (start j) schedule) (given (counts_of j schedule)) (refused 20)
legal-answer = Bytes.legal-answer

-- and there are others: the check refuses some sheet that document 01 lets pass.
pub legal-refused : (t : List ℕ) × (stop : ℕ) × (s : List ℕ) × (j : Job) × (schedule : Schedule) × (job_up_to t stop ≡ given j) × LegalSheet j s schedule × (check_answer t stop s ≡ refused 20)
legal-refused = Stricter.legal-refused

-- "and planned sheets still do" (`short_passes`, `sparing_passes`), "so nobody gains a round by the change": no sheet that document 01 lets pass
-- beats the plans either.
pub legal_unbeaten : (t : List ℕ) (stop : ℕ) (s : List ℕ) (j : Job) (schedule : Schedule) → job_up_to t stop ≡ given j → LegalSheet j s schedule
    → ((short_counts j).rounds ≤ (counts_of j schedule).rounds) × ((d : ℕ) → fetches_on (sparing_counts j) d ≤ fetches_on (counts_of j schedule) d)
legal_unbeaten = Bytes.legal_unbeaten

-- 8. Request L5, a stop. A ticket and a stop say a job exactly if the ticket is accepted and the stop is not above N: the job up to the stop,
pub stops_exactly : (t : List ℕ) (stop : ℕ) (k : Job) → (job_up_to t stop ≡ given k) ↔ ((j : Job) × (ticket_of t ≡ given j) × (stop ≤ ref_count j) × (up_to stop j ≡ k))
stops_exactly = Stop.stops_exactly

-- "Turned away: 21, the stop is above N, tested after 8": otherwise the ticket's number, and 21 only of an accepted ticket.
pub stop_refusals : (t : List ℕ) (stop n : ℕ) → (job_up_to t stop ≡ refused n) ↔ ((ticket_of t ≡ refused n) ⊎ ((n ≡ 21) × (j : Job) × (ticket_of t ≡ given j) × (ref_count j < stop)))
stop_refusals = Stop.stop_refusals

-- Each call has this number, before anything of a sheet or a room,
pub stop-first : (t : List ℕ) (stop n : ℕ) → job_up_to t stop ≡ refused n
    → ((room₁ room₂ : ℕ) → plan_answer t stop room₁ room₂ ≡ refused n)
    × ((room₁ room₂ room₃ : ℕ) → page_answer t stop room₁ room₂ room₃ ≡ refused n)
    × ((s : List ℕ) → check_answer t stop s ≡ refused n)
    × ((first second : List ℕ) → choose_answer t stop first second ≡ refused n)
stop-first t stop n e = (StopCalls.plan_stops t stop n e, StopCalls.page-stops t stop n e, StopCalls.check_stops t stop n e, StopCalls.choose_stops t stop n e)

-- and is refused with 21 exactly if the stop is above N.
pub stop_above : (t : List ℕ) (stop : ℕ)
    → (let Above = (j : Job) × (ticket_of t ≡ given j) × (ref_count j < stop) in
    ((room₁ room₂ : ℕ) → (plan_answer t stop room₁ room₂ ≡ refused 21) ↔ Above)
    × ((room₁ room₂ room₃ : ℕ) → (page_answer t stop room₁ room₂ room₃ ≡ refused 21) ↔ Above)
    × ((s : List ℕ) → (check_answer t stop s ≡ refused 21) ↔ Above)
    × ((first second : List ℕ) → (choose_answer t stop first second ≡ refused 21) ↔ Above))
stop_above t stop = (StopCalls.plan_above t stop, StopCalls.page_above t stop, StopCalls.check_above t stop, StopCalls.choose_above t stop)

-- "the number of references that count": the job up to the stop has so many references, those of the job in order, and its disks, slots, blocks and
-- carried blocks.
pub stop_references : (stop : ℕ) (j : Job) → stop ≤ ref_count j → (ref_count (up_to stop j) ≡ stop) × ((i : ℕ) → i < stop → ref_at (up_to stop j) i ≡ ref_at j i)
stop_references stop j few = (Stop.stop-count stop j few, Stop.stop_ref stop j)

pub stop_same : (stop : ℕ) (j : Job) → (disk_count (up_to stop j) ≡ disk_count j) × ((d : ℕ) → slots_of (up_to stop j) d ≡ slots_of j d)
    × (block_count (up_to stop j) ≡ block_count j) × ((b : ℕ) → disk_of (up_to stop j) b ≡ disk_of j b) × ((d : ℕ) → carried_on (up_to stop j) d ≡ carried_on j d)
stop_same = Stop.stop_same

-- "none at or past it is consumed", whatever is played; and a sheet that passes, so each plan's too, consumes all that are before it.
pub stop-consumed : (stop : ℕ) (j : Job) (schedule : Schedule) → (play (up_to stop j) (start (up_to stop j)) schedule).next ≤ stop
stop-consumed = Stop.stop-consumed

pub stop_reached : (t : List ℕ) (stop : ℕ) (s : List ℕ) (c : Counts) → check_answer t stop s ≡ given c
    → (k : Job) × (schedule : Schedule) × (job_up_to t stop ≡ given k) × ValidSheet k s schedule × ((play k (start k) schedule).next ≡ stop)
stop_reached = StopCalls.stop_reached

-- "The lookup of the next reference now answers "never" for references at or past the stop": a distance is the job's own where that is before the
-- stop, and otherwise never, which is the number of references.
pub stop-distance : (stop : ℕ) (j : Job) → stop ≤ ref_count j → (p b : ℕ) → p ≤ stop
    → (let d = distance j.refs p b in distance (up_to stop j).refs p b ≡ cond (ltb d stop) d (ref_count (up_to stop j)))
stop-distance = Stop.stop-distance

-- "A stop equal to N is the old call": each of the four is that of the ticket's own job, as without a stop. (`references_of` is N of an accepted
-- ticket; one that is refused has its number with every stop, by `stop-first`.)
pub whole_plan : (t : List ℕ) (room₁ room₂ : ℕ) → plan_answer t (references_of (ticket_of t)) room₁ room₂ ≡ planned_for room₁ room₂ (ticket_of t)
whole_plan = StopCalls.whole_plan

pub whole-page : (t : List ℕ) (room₁ room₂ room₃ : ℕ) → page_answer t (references_of (ticket_of t)) room₁ room₂ room₃ ≡ page_for room₁ room₂ room₃ (ticket_of t)
whole-page = StopCalls.whole-page

pub whole_check : (t s : List ℕ) → check_answer t (references_of (ticket_of t)) s ≡ check_for s (ticket_of t)
whole_check = StopCalls.whole_check

pub whole_choice : (t first second : List ℕ)
    → choose_answer t (references_of (ticket_of t)) first second ≡ chosen_from first second (check_for first (ticket_of t)) (check_for second (ticket_of t))
whole_choice = StopCalls.whole_choice

-- 9. Request L7, "Idle rounds at the end are not charged." The rounds given with a pass are "the round in which the last reference is consumed .., 0
-- where nothing had to be fetched": after k of the sheet's rounds all references are consumed exactly if k is not below them; so they are 0 exactly
-- if none is left at the start. `unbeaten`, `handed_back` and all that is said of a choice hold of these rounds; a sheet may have more written.
-- "Fetches are still counted to the end": those given with a pass are of all rounds.
pub charged-given : (t : List ℕ) (stop : ℕ) (s : List ℕ) (j : Job) (schedule : Schedule) (c : Counts) → job_up_to t stop ≡ given j → ValidSheet j s schedule → check_answer t stop s ≡ given c
    → (c.rounds ≤ length schedule) × ((k : ℕ) → ((play j (start j) (take k schedule)).next ≡ ref_count j) ↔ (c.rounds ≤ k)) × ((d : ℕ) → d < 8 → fetches_on c d ≡ fetches schedule d)
charged-given = ChargedCalls.charged-given

-- For either plan they are the rounds that it starts, which its sheet has.
pub plans_charged : (j : Job) → ((short_counts j).rounds ≡ length (schedule_of short j)) × ((sparing_counts j).rounds ≡ length (schedule_of sparing j))
plans_charged = ChargedCalls.plans_charged

-- n idle rounds more, up to 2,048 in all, change nothing in what the check gives for a sheet that passes.
pub idle_end : (t : List ℕ) (stop : ℕ) (s : List ℕ) (j : Job) (schedule : Schedule) (n : ℕ) → job_up_to t stop ≡ given j → ValidSheet j s schedule → length schedule + n ≤ 2048
    → check_answer t stop (sheet_of (schedule ++ replicate n (replicate (disk_count j) idle))) ≡ check_answer t stop s
idle_end = ChargedCalls.idle_end

-- Whatever follows a schedule that has consumed all references is not charged, and its fetches are added, "as the arm moves for them".
pub counts-after : (j : Job) (schedule more : Schedule) → ValidFrom j (start j) schedule
    → ((counts_of j (schedule ++ more)).rounds ≡ (counts_of j schedule).rounds)
    × ((d : ℕ) → fetches_on (counts_of j (schedule ++ more)) d ≡ fetches_on (counts_of j schedule) d + fetches_on (counts_of j more) d)
counts-after = ChargedCalls.counts-after

-- 10. Request L8, "How much waiting can the sparing plan cost?" "For every accepted ticket and stop the sparing plan takes at most D times the rounds
-- of the short plan (Theorem 7 of document 000, here with unequal slots)."
pub sparing_bound : (t : List ℕ) (stop : ℕ) (j : Job) → job_up_to t stop ≡ given j → SparingWithin j (short_counts j) (sparing_counts j)
sparing_bound = Waiting.sparing_bound

-- So it takes at most D times the rounds of any sheet that passes, whoever drew it up;
pub bound_of_any : (t : List ℕ) (stop : ℕ) (s : List ℕ) (j : Job) (c : Counts) → job_up_to t stop ≡ given j → check_answer t stop s ≡ given c → SparingWithin j c (sparing_counts j)
bound_of_any = Waiting.bound_of_any

-- and on one disk the two plans take equally many rounds. That no smaller factor will do on two and on three disks is Theorem 8:
-- crates/tight/proofs/Promises.antt.
pub one_disk : (t : List ℕ) (stop : ℕ) (j : Job) → job_up_to t stop ≡ given j → disk_count j ≡ 1 → (sparing_counts j).rounds ≡ (short_counts j).rounds
one_disk = Waiting.one_disk

-- 11. Request L9, "Blocks carried in from the last job." All that is said above of plans, sheets, choices and pages is of what is played from the
-- state before round 1 (`start`, specs/Playing.antt): "Every sheet for a ticket starts from the same carried blocks, and fewest rounds, fewest
-- fetches and L8 are meant from there." In that state a block is in its disk's buffer exactly if the ticket has it among the blocks carried in there,
pub carried-in : (t : List ℕ) (stop : ℕ) (j : Job) → job_up_to t stop ≡ given j → (d b : ℕ) → d < disk_count j → b < block_count j → disk_of j b ≡ d
    → (is_resident (start j).resident b ≡ true) ↔ ((i : ℕ) × (i < length (carried_on j d)) × (carried_at j d i ≡ b))
carried-in = Stop.carried-in

-- and "Before round 1 the suite reads as far as these allow": each reference before the next read is to such a block, and the next read is not. No
-- round is played yet.
pub read_before : (j : Job) → ((start j).next ≤ ref_count j) × ((i : ℕ) → i < (start j).next → is_resident (start j).resident (ref_at j i) ≡ true)
    × ((start j).next < ref_count j → is_resident (start j).resident (ref_at j (start j).next) ≡ false)
    × ((start j).round ≡ 0)
read_before j = (Carried.start-within j, Carried.start-read j, Carried.start-stops j, Carried.start-round j)

-- "A buffer's content is now what was carried in, plus fetches, less discards": so many blocks does it hold after k rounds of a sheet that passes,
-- and never more than its slots. (`buffers`, proofs/Carried.antt, has it at each moment within a round too.)
pub buffers_hold : (t : List ℕ) (stop : ℕ) (s : List ℕ) (j : Job) (schedule : Schedule) → job_up_to t stop ≡ given j → ValidSheet j s schedule → (d : ℕ) → d < disk_count j → (k : ℕ)
    → (load j (play j (start j) (take k schedule)).resident d + total discarded d (take k schedule) ≡ length (carried_on j d) + total fetched d (take k schedule))
    × (load j (play j (start j) (take k schedule)).resident d ≤ slots_of j d)
buffers_hold = ChargedCalls.buffers_hold

-- The rounds given with a pass are 0 exactly if nothing had to be fetched: every reference is to a block that was carried in.
pub nothing-fetched : (t : List ℕ) (stop : ℕ) (s : List ℕ) (j : Job) (c : Counts) → job_up_to t stop ≡ given j → check_answer t stop s ≡ given c
    → (c.rounds ≡ 0) ↔ ((i : ℕ) → i < ref_count j → is_resident (start j).resident (ref_at j i) ≡ true)
nothing-fetched = ChargedCalls.nothing-fetched

-- "Document 01's jobs have every count 0": their buffers are empty before round 1, and nothing is read.
pub carried_none : (j : Job) → ((d : ℕ) → length (carried_on j d) ≡ 0) → start j ≡ record { resident = none_resident; next = 0; round = 0 }
carried_none = Carried.start_empty
