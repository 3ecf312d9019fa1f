-- What planning, checking and choosing give: document 01, "The two plans", its last three paragraphs, and "Numbers of a refused call"; of document 02
-- the requests L1, "Choosing between sheets we already hold", L2, "A wall page of the run", L5, "Plan up to a stop", L7, "Idle rounds at the end are
-- not charged", and L8, "How much waiting can the sparing plan cost?" `plan_answer`, `page_answer`, `check_answer` and `choose_answer` are the calls;
-- `crates/planner/src/lib.rt` has the functions whose contracts are equations with them. Assumes nothing.
use Rattle.std.specs.Prelude.{◌≡◌, Bool, false, cond, ◌||◌, List, [], ◌∷◌, ◌++◌, ℕ, ◌*◌, ◌≤◌, ltb, leb, eqb, length, get_or, replicate, take}
use Rattle.std.proofs.Math.Option.{Option, none, some}
use Rattle.bits.specs.Bits.{be16, over, laid}
use Rattle.bits.specs.Reading.{Answer, given, refused}
use Rattle.model.specs.Job.{Job, disk_count, ref_count, up_to}
use Rattle.model.specs.Ticket.{ticket_of}
use Rattle.model.specs.Playing.{Schedule, charged, fetches}
use Rattle.model.specs.Rules.{Choice, short, sparing}
use Rattle.model.specs.Plans.{each, plan_of, schedule_of}
use Rattle.model.specs.Page.{page_of}
use Rattle.model.specs.Sheet.{sheet_of, schedule_read}

-- What a call is for: the job of a ticket up to a stop, or the number with which one of the two is refused. L5: "Turned away: 21, the stop is above
-- N, tested after 8", and so before anything of a sheet or a room. What each call gives is what document 01 and the requests before L5 say, of that
-- job.
unfoldable pub stop_at : ℕ → Answer Job → Answer Job
unfolding up_to
stop_at stop (given j) = cond (ltb (ref_count j) stop) (refused 21) (given (up_to stop j))
stop_at stop (refused n) = refused n

unfoldable pub job_up_to : List ℕ → ℕ → Answer Job
unfolding stop_at ticket_of
job_up_to ticket stop = stop_at stop (ticket_of ticket)

-- N, of a ticket that was read: the stop of the programs ("the program's is N"). A ticket that is refused has none, and its number with every stop.
abbrev pub references_of : Answer Job → ℕ
references_of (given j) = ref_count j
references_of (refused n) = 0

-- "the rounds and the fetches per disk, 0 for disks the job has not": eight fetch counts
pub record Counts : Type 0 where
  pub rounds : ℕ
  pub fetches : List ℕ

-- of a schedule for a job. L7: "A sheet's rounds are from now on that number", of the charged rounds, and "Fetches are still counted to the end".
unfoldable pub counts_of : Job → Schedule → Counts
unfolding charged fetches each
counts_of j schedule = record { rounds = charged j schedule; fetches = each (fetches schedule) 0 8 }

-- "all counts 0"
abbrev pub no_counts : Counts
no_counts = record { rounds = 0; fetches = replicate 8 0 }

-- the fetches of disk d, 0 for a disk that is not among the eight
abbrev pub fetches_on : Counts → ℕ → ℕ
fetches_on c d = get_or c.fetches d 0

-- "all counts 0", as a fact
abbrev pub AllZero : Counts → Type 0
AllZero c = (c.rounds ≡ 0) × ((d : ℕ) → fetches_on c d ≡ 0)

-- "for both plans the rounds and the fetches per disk": they depend on the job alone
unfoldable pub short_counts : Job → Counts
unfolding counts_of schedule_of short
short_counts j = counts_of j (schedule_of short j)

unfoldable pub sparing_counts : Job → Counts
unfolding counts_of schedule_of sparing
sparing_counts j = counts_of j (schedule_of sparing j)

-- L8: "for every accepted ticket and stop the sparing plan takes at most D times the rounds of the short plan". Of a job, the counts of the short
-- plan (or of any sheet) and those of the sparing plan.
unfoldable pub SparingWithin : Job → Counts → Counts → Type 0
SparingWithin j short sparing = sparing.rounds ≤ disk_count j * short.rounds

-- which of two sheets
pub data Which : Type 0 where
  is_first : Which
  is_second : Which

-- what belongs to that sheet, of what belongs to the first and to the second
abbrev pub of_two : {A : Type 0} → Which → A → A → A
of_two is_first ofFirst ofSecond = ofFirst
of_two is_second ofFirst ofSecond = ofSecond

-- L1: "The second is handed back if it takes no more rounds than the first, otherwise the first." The choice between two sheets, by their rounds;
-- planning and `choose_answer` both make it. L7: "The choice of L1 and the claim of fewest rounds use the charged number."
unfoldable pub which_for : ℕ → ℕ → Which
which_for firstRounds secondRounds = cond (leb secondRounds firstRounds) is_second is_first

-- "the mark (short or sparing)"
pub data Mark : Type 0 where
  is_short : Mark
  is_sparing : Mark

-- Planning's choice, of the short sheet as the first and the sparing one as the second. "Planning hands back the sparing sheet exactly when both
-- take equally many rounds, otherwise the short one" (demand 3, docs/SCOPE.md): the sparing plan never takes fewer, so that is `handed_back` of the
-- promises.
unfoldable pub mark_for : ℕ → ℕ → Mark
unfolding which_for
mark_for shortRounds sparingRounds = of_two (which_for shortRounds sparingRounds) is_short is_sparing

-- what belongs to the marked plan, of what belongs to the short and to the sparing one
abbrev pub chosen : {A : Type 0} → Mark → A → A → A
chosen is_short ofShort ofSparing = ofShort
chosen is_sparing ofShort ofSparing = ofSparing

-- What a planning call that is not refused gives: the mark and the length of the part with the chosen sheet, both plans' counts, and what it
-- writes, both sheets.
pub record Planned : Type 0 where
  pub mark : Mark
  pub part_length : ℕ
  pub short : Counts
  pub sparing : Counts
  pub short_sheet : List ℕ
  pub sparing_sheet : List ℕ

-- It is made from the schedules of P-MIN and P-CON, the short and the sparing plan.
unfoldable pub planned_of : Job → Schedule → Schedule → Planned
unfolding mark_for counts_of sheet_of
planned_of j pmin pcon = record {
  mark = mark_for (charged j pmin) (charged j pcon);
  part_length = chosen (mark_for (charged j pmin) (charged j pcon)) (length (sheet_of pmin)) (length (sheet_of pcon));
  short = counts_of j pmin;
  sparing = counts_of j pcon;
  short_sheet = sheet_of pmin;
  sparing_sheet = sheet_of pcon;
}

-- the sheet that is handed back, and its counts
abbrev pub handed : Planned → List ℕ
handed p = chosen p.mark p.short_sheet p.sparing_sheet

abbrev pub handed_counts : Planned → Counts
handed_counts p = chosen p.mark p.short p.sparing

-- "17. In planning, the short sheet has more bytes than its lent buffer. 18. In planning, the sparing sheet has more bytes than its lent buffer."
-- `room₁` and `room₂` are the lengths of the two buffers.
unfoldable pub with_rooms : ℕ → ℕ → Planned → Answer Planned
with_rooms room₁ room₂ p = cond (ltb room₁ (length p.short_sheet)) (refused 17) (cond (ltb room₂ (length p.sparing_sheet)) (refused 18) (given p))

unfoldable pub planned_for : ℕ → ℕ → Answer Job → Answer Planned
unfolding with_rooms planned_of schedule_of short sparing
planned_for room₁ room₂ (given j) = with_rooms room₁ room₂ (planned_of j (schedule_of short j) (schedule_of sparing j))
planned_for room₁ room₂ (refused n) = refused n

-- A planning call: a ticket, a stop, and the lengths of the two lent buffers.
unfoldable pub plan_answer : List ℕ → ℕ → ℕ → ℕ → Answer Planned
unfolding planned_for job_up_to
plan_answer ticket stop room₁ room₂ = planned_for room₁ room₂ (job_up_to ticket stop)

-- A lent buffer after the call. "A refused call .. changes no lent byte." "Bytes past a written sheet do not change."
unfoldable pub written : {A : Type 0} → (A → List ℕ) → Answer A → List ℕ → List ℕ
unfolding over
written sheet (given p) lent = over (sheet p) lent
written sheet (refused n) lent = lent

abbrev pub short_after : Answer Planned → List ℕ → List ℕ
short_after a lent = written (λ p. p.short_sheet) a lent

abbrev pub sparing_after : Answer Planned → List ℕ → List ℕ
sparing_after a lent = written (λ p. p.sparing_sheet) a lent

-- What the call returns beside that. "A refused call returns its number with all counts 0 and no mark, hands out no part".
pub record Returned : Type 0 where
  pub number : ℕ
  pub mark : Option Mark
  pub part_length : ℕ
  pub short : Counts
  pub sparing : Counts

unfoldable pub returned : Answer Planned → Returned
returned (given p) = record { number = 0; mark = some p.mark; part_length = p.part_length; short = p.short; sparing = p.sparing }
returned (refused n) = record { number = n; mark = none; part_length = 0; short = no_counts; sparing = no_counts }

-- "The answer is the part of one of the two lent buffers that holds the chosen sheet": the first n bytes of the buffer that is chosen by the rounds
-- of the two plans.
unfoldable pub part_of : ℕ → ℕ → ℕ → List ℕ → List ℕ → List ℕ
unfolding mark_for
part_of n shortRounds sparingRounds lent₁ lent₂ = take n (chosen (mark_for shortRounds sparingRounds) lent₁ lent₂)

-- that part, of the two buffers as a planning call left them
unfoldable pub part_after : Answer Planned → List ℕ → List ℕ → List ℕ
unfolding returned part_of written
part_after a lent₁ lent₂ =
    let r = returned a in
    part_of r.part_length r.short.rounds r.sparing.rounds (short_after a lent₁) (sparing_after a lent₂)

-- What a planning call with a page that is not refused gives: all that planning gives, and the page.
pub record PlannedPage : Type 0 where
  pub planned : Planned
  pub page : List ℕ

-- L2: "For the plan handed back": the marked plan of a job, with its reasons.
unfoldable pub plan_handed : Mark → Job → List (List Choice)
unfolding plan_of short sparing
plan_handed mark j = plan_of (chosen mark short sparing) j

-- L2: "19, the page does not fit, tested after 18": from what planning gives for the job. `room₃` is the length of the page's buffer.
unfoldable pub with_page : ℕ → Job → Answer Planned → Answer PlannedPage
unfolding page_of plan_handed
with_page room₃ j (given p) =
    let page = page_of (plan_handed p.mark j) in
    cond (ltb room₃ (length page)) (refused 19) (given (record { planned = p; page = page }))
with_page room₃ j (refused n) = refused n

unfoldable pub page_for : ℕ → ℕ → ℕ → Answer Job → Answer PlannedPage
unfolding with_page planned_for
page_for room₁ room₂ room₃ (given j) = with_page room₃ j (planned_for room₁ room₂ (given j))
page_for room₁ room₂ room₃ (refused n) = refused n

-- A planning call with a page: a ticket, a stop, and the lengths of the three lent buffers. L2: "The page comes from a planning call that is lent a
-- third buffer for it and writes both sheets as before."
unfoldable pub page_answer : List ℕ → ℕ → ℕ → ℕ → ℕ → Answer PlannedPage
unfolding page_for job_up_to
page_answer ticket stop room₁ room₂ room₃ = page_for room₁ room₂ room₃ (job_up_to ticket stop)

-- What planning alone gives of it: `returned`, `short_after`, `sparing_after` and `part_after` are then as above.
unfoldable pub plan_given : Answer PlannedPage → Answer Planned
plan_given (given p) = given p.planned
plan_given (refused n) = refused n

-- L2: "The page's length is returned too, and bytes past it stay." A refusal has no page, and changes no lent byte.
unfoldable pub page_length : Answer PlannedPage → ℕ
page_length (given p) = length p.page
page_length (refused n) = 0

abbrev pub page_after : Answer PlannedPage → List ℕ → List ℕ
page_after a lent = written (λ p. p.page) a lent

-- "A pass by the check gives the sheet's rounds and fetches per disk."
unfoldable pub pass_of : Job → Answer Schedule → Answer Counts
unfolding counts_of
pass_of j (given schedule) = given (counts_of j schedule)
pass_of j (refused n) = refused n

unfoldable pub check_for : List ℕ → Answer Job → Answer Counts
unfolding pass_of schedule_read
check_for sheet (given j) = pass_of j (schedule_read j sheet)
check_for sheet (refused n) = refused n

-- A call of the check: a ticket, a stop and a sheet. "The ticket is read first, field by field, then the sheet likewise."
unfoldable pub check_answer : List ℕ → ℕ → List ℕ → Answer Counts
unfolding check_for job_up_to
check_answer ticket stop sheet = check_for sheet (job_up_to ticket stop)

-- The counts that the check returns: "A refused call returns its number with all counts 0".
abbrev pub counts_given : Answer Counts → Counts
counts_given (given c) = c
counts_given (refused n) = no_counts

-- What a choice that is not refused gives: which sheet is handed back, and its length.
pub record ChosenSheet : Type 0 where
  pub which : Which
  pub sheet_length : ℕ

unfoldable pub chosen_of : List ℕ → List ℕ → Counts → Counts → ChosenSheet
unfolding which_for
chosen_of first second a b =
    let w = which_for a.rounds b.rounds in
    record { which = w; sheet_length = length (of_two w first second) }

-- L1: "both are checked, the first before the second, and a failure gives the check's number", from what the check gives for each.
unfoldable pub chosen_from : List ℕ → List ℕ → Answer Counts → Answer Counts → Answer ChosenSheet
unfolding chosen_of
chosen_from first second (refused n) checked = refused n
chosen_from first second (given a) (refused n) = refused n
chosen_from first second (given a) (given b) = given (chosen_of first second a b)

-- A call of the choice: "a call of its own on a ticket and two sheets", and a stop.
unfoldable pub choose_answer : List ℕ → ℕ → List ℕ → List ℕ → Answer ChosenSheet
unfolding chosen_from check_answer
choose_answer ticket stop first second = chosen_from first second (check_answer ticket stop first) (check_answer ticket stop second)

-- What the call returns. A refusal hands back no sheet.
pub record ReturnedChoice : Type 0 where
  pub number : ℕ
  pub which : Option Which
  pub sheet_length : ℕ

unfoldable pub returned_choice : Answer ChosenSheet → ReturnedChoice
returned_choice (given c) = record { number = 0; which = some c.which; sheet_length = c.sheet_length }
returned_choice (refused n) = record { number = n; which = none; sheet_length = 0 }

-- The sheet handed back: the first n bytes of the one that is said, or none.
unfoldable pub sheet_handed : Option Which → ℕ → List ℕ → List ℕ → List ℕ
sheet_handed none n first second = []
sheet_handed (some w) n first second = take n (of_two w first second)

-- that sheet, of the two sheets of a choice
unfoldable pub sheet_after : Answer ChosenSheet → List ℕ → List ℕ → List ℕ
unfolding returned_choice sheet_handed
sheet_after a first second =
    let r = returned_choice a in
    sheet_handed r.which r.sheet_length first second

-- The numbers of "Numbers of a refused call": those of a ticket, of a ticket and a stop, of a sheet and of the rooms;
-- (L9: "Turned away: 25 ..; 26")
abbrev pub ticket_numbers : List ℕ
ticket_numbers = each (λ n. n) 1 8 ++ 25 ∷ 26 ∷ []

-- (L5: "Turned away: 21")
abbrev pub job_numbers : List ℕ
job_numbers = ticket_numbers ++ 21 ∷ []

-- (L3: "Turned away: 20")
abbrev pub sheet_numbers : List ℕ
sheet_numbers = each (λ n. n) 9 8 ++ 20 ∷ []

abbrev pub room_numbers : List ℕ
room_numbers = 17 ∷ 18 ∷ []

-- and with which of them a check and a choice, and a planning call, are refused
abbrev pub check_refusals : List ℕ
check_refusals = job_numbers ++ sheet_numbers

abbrev pub plan_refusals : List ℕ
plan_refusals = job_numbers ++ room_numbers

-- L2: "Turned away: 19"
abbrev pub page_refusals : List ℕ
page_refusals = plan_refusals ++ 19 ∷ []

-- whether a number is among those of a list
unfoldable pub among : ℕ → List ℕ → Bool
among n [] = false
among n (m ∷ more) = eqb n m || among n more

-- "From C a call returns its number, or 0 if it is not refused."
abbrev pub number_of : {A : Type 0} → Answer A → ℕ
number_of (given a) = 0
number_of (refused n) = n

-- What a C call writes: numbers "in 16 bits each and most significant byte first".
unfoldable pub halves : List ℕ → List ℕ
halves [] = []
halves (n ∷ more) = be16 n ++ halves more

abbrev pub counts_numbers : Counts → List ℕ
counts_numbers c = c.rounds ∷ c.fetches

-- "for planning the mark (0 short, 1 sparing), the length of the part, then for the short and for the sparing plan the rounds and eight fetch
-- counts; for the check the rounds and eight fetch counts"
abbrev pub planning_numbers : Planned → List ℕ
planning_numbers p = chosen p.mark 0 1 ∷ p.part_length ∷ (counts_numbers p.short ++ counts_numbers p.sparing)

-- L1: "From C it writes 0 (first) or 1 (second) and that sheet's length, 16 bits each"
abbrev pub choice_numbers : ChosenSheet → List ℕ
choice_numbers c = of_two c.which 0 1 ∷ c.sheet_length ∷ []

-- The lent slice for the counts after the call: "as far as that slice reaches"; "a refusal writes nothing there".
unfoldable pub counts_written : {A : Type 0} → (A → List ℕ) → Answer A → List ℕ → List ℕ
unfolding laid halves
counts_written numbers (given a) lent = laid (halves (numbers a)) lent
counts_written numbers (refused n) lent = lent
