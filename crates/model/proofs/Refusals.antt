-- Demand 1: each of a call's numbers in documents 01 and 02 is given for some bytes, and what a refused call returns and writes. Assumes nothing.
use mathlib.Core.Path.{◌≡◌, refl, sym, subst}
use mathlib.Core.Logic.{◌↔◌, inl}
use mathlib.Core.Bool.{true}
use mathlib.Core.List.{List, [], ◌∷◌, ◌++◌}
use mathlib.Core.Option.{none}
use Prim.Native.Nat.{ℕ}
use lib.Dec.{eqb}
use borrow.Author.Tests.{eqb-true}
use Rattle.bits.specs.Reading.{refused, bind, ◌>>=◌, ◌>>◌, give, field, refuse_if, many, is_closed, closing, answer, read_all}
use Rattle.bits.proofs.Logic.{by_test, clash, get_d_same}
use Rattle.model.specs.Job.{up_to}
use Rattle.model.specs.Ticket.{slots_field, disk_field, ref_field, carried_blocks, carried_field, carried_fields, ticket_reader, ticket_of}
use Rattle.model.specs.Playing.{none_resident, start, load, play}
use Rattle.model.specs.Plans.{each}
use Rattle.model.specs.Sheet.{discard_reader, fetch_reader, action_reader, round_reader, rounds_reader, sheet_reader, schedule_read}
use Rattle.model.specs.Calls.{stop_at, job_up_to, no_counts, AllZero, plan_answer, written, short_after, sparing_after, returned, part_after, page_answer, plan_given, page_length, page_after, check_answer, counts_given, choose_answer, returned_choice, sheet_after, job_numbers, check_refusals, plan_refusals, page_refusals, among, counts_numbers, planning_numbers, choice_numbers, counts_written}
use Rattle.model.proofs.PageCall.{page-refusals}
use Rattle.model.proofs.Numbers.{check_number, plan_number, page-number}
use Rattle.model.proofs.TwoSheets.{first-refused, choose_number}
use Rattle.model.proofs.StopCalls.{plan_stops, check_stops}
use Rattle.model.proofs.Rows.{hex}

infixr 5 ◌⊳◌
-- Something for each number of a list.
pub data All (Q : ℕ → Type 0) : List ℕ → Type 0 where
  end : All Q []
  ◌⊳◌ : {n : ℕ} {more : List ℕ} → Q n → All Q more → All Q (n ∷ more)

pub all_among : {Q : ℕ → Type 0} {l : List ℕ} → All Q l → (n : ℕ) → among n l ≡ true → Q n
unfolding among
all_among end n e = clash e refl
all_among {Q} (◌⊳◌ {n = m} q more) n e =
    by_test (eqb n m)
    (λ y. subst Q (sym (eqb-true n m y)) q)
    (λ y. all_among more n (rw y at e))

-- and, from something for each number of a list, for each number of two
pub all_then : {Q R : ℕ → Type 0} {l m : List ℕ} → ((n : ℕ) → Q n → R n) → All Q l → All R m → All R (l ++ m)
all_then f end r = r
all_then f (◌⊳◌ {n = n} q more) r = f n q ⊳ all_then f more r

-- bytes whose ticket or stop is refused with n, for which a check is, and bytes and rooms for which a planning call is, without and with a page
abbrev JobRefused : ℕ → Type 0
JobRefused n = (t : List ℕ) × (stop : ℕ) × (job_up_to t stop ≡ refused n)

abbrev pub CheckRefused : ℕ → Type 0
CheckRefused n = (t : List ℕ) × (stop : ℕ) × (s : List ℕ) × (check_answer t stop s ≡ refused n)

abbrev pub PlanRefused : ℕ → Type 0
PlanRefused n = (t : List ℕ) × (stop : ℕ) × (room₁ : ℕ) × (room₂ : ℕ) × (plan_answer t stop room₁ room₂ ≡ refused n)

abbrev pub PageRefused : ℕ → Type 0
PageRefused n = (t : List ℕ) × (stop : ℕ) × (room₁ : ℕ) × (room₂ : ℕ) × (room₃ : ℕ) × (page_answer t stop room₁ room₂ room₃ ≡ refused n)

pub jobs : All JobRefused job_numbers
unfolding each hex ◌>>=◌ ◌>>◌ bind give field refuse_if many is_closed closing answer read_all stop_at up_to job_up_to slots_field disk_field ref_field carried_blocks carried_field carried_fields ticket_reader ticket_of
jobs =
    ([], 0, refl) ⊳
    (hex 1 0x00, 0, refl) ⊳
    (hex 2 0x1000, 0, refl) ⊳
    (hex 3 0x102000, 0, refl) ⊳
    (hex 3 0x102009, 0, refl) ⊳
    (hex 5 0x1020088010, 0, refl) ⊳
    (hex 6 0x102008002008, 0, refl) ⊳
    (hex 7 0x10200800100001, 0, refl) ⊳
    (hex 7 0x10200800100020, 0, refl) ⊳
    (hex 8 0x1020080010001008, 0, refl) ⊳
    (hex 7 0x10200800100000, 2, refl) ⊳
    end

-- where the ticket or the stop is refused, whatever the sheet; and sheets
checks : All CheckRefused check_refusals
unfolding each hex check_answer ◌>>=◌ ◌>>◌ bind give field refuse_if many is_closed closing answer read_all stop_at up_to job_up_to slots_field disk_field ref_field carried_blocks carried_field carried_fields ticket_reader ticket_of discard_reader fetch_reader action_reader round_reader rounds_reader sheet_reader schedule_read play load none_resident start
checks =
    all_then (λ n w. (w.0, w.1, [], check_stops w.0 w.1 n w.2 [])) jobs
    ((hex 7 0x10200800100000, 1, [], refl) ⊳
    (hex 7 0x10200800100000, 1, hex 2 0x8010, refl) ⊳
    (hex 7 0x10200800100000, 1, hex 3 0x001816, refl) ⊳
    (hex 7 0x10200800100000, 1, hex 5 0x0028010000, refl) ⊳
    (hex 10 0x10201000060000800000, 3, hex 5 0x0038010080, refl) ⊳
    (hex 10 0x10201000060000800000, 3, hex 6 0x00280100c020, refl) ⊳
    (hex 7 0x10200800100000, 1, hex 2 0x0000, refl) ⊳
    (hex 7 0x10200800100000, 1, hex 3 0x001801, refl) ⊳
    (hex 7 0x10200800100000, 1, hex 4 0x00180200, refl) ⊳
    end)

-- where the ticket or the stop is refused, whatever the rooms; and A's two sheets of 3 bytes in 2 and 2, and in 3 and 2
plans : All PlanRefused plan_refusals
unfolding each hex plan_answer ◌>>=◌ ◌>>◌ bind give field refuse_if many is_closed closing answer read_all stop_at up_to job_up_to slots_field disk_field ref_field carried_blocks carried_field carried_fields ticket_reader ticket_of load none_resident
plans =
    all_then (λ n w. (w.0, w.1, 0, 0, plan_stops w.0 w.1 n w.2 0 0)) jobs
    ((hex 7 0x10200800100000, 1, 2, 2, refl) ⊳ (hex 7 0x10200800100000, 1, 3, 2, refl) ⊳ end)

-- where planning is refused, whatever the page's room; and A's page of 102 bytes in 101
pages : All PageRefused page_refusals
unfolding hex page_answer ◌>>=◌ ◌>>◌ bind give field refuse_if many is_closed closing answer read_all stop_at up_to job_up_to slots_field disk_field ref_field carried_blocks carried_field carried_fields ticket_reader ticket_of load none_resident
pages =
    all_then (λ n w. (w.0, w.1, w.2, w.3, 0, (page-refusals w.0 w.1 w.2 w.3 0 n).1 (inl w.4))) plans
    ((hex 7 0x10200800100000, 1, 3, 3, 101, refl) ⊳ end)

-- both sheets of a choice may be the sheet for which the check is refused
pub choose_numbers : (n : ℕ) → (among n check_refusals ≡ true) ↔ ((t : List ℕ) × (stop : ℕ) × (first : List ℕ) × (second : List ℕ) × (choose_answer t stop first second ≡ refused n))
choose_numbers n = (
  λ h. (let w = all_among checks n h in (w.0, w.1, w.2, w.2, first-refused w.0 w.1 w.2 w.2 n w.3)),
  λ w. choose_number w.0 w.1 w.2 w.3 n w.4,
)

pub check_numbers : (n : ℕ) → (among n check_refusals ≡ true) ↔ CheckRefused n
check_numbers n = (all_among checks n, λ w. check_number w.0 w.1 w.2 n w.3)

pub plan_numbers : (n : ℕ) → (among n plan_refusals ≡ true) ↔ PlanRefused n
plan_numbers n = (all_among plans n, λ w. plan_number w.0 w.1 w.2 w.3 n w.4)

pub page-numbers : (n : ℕ) → (among n page_refusals ≡ true) ↔ PageRefused n
page-numbers n = (all_among pages n, λ w. page-number w.0 w.1 w.2 w.3 w.4 n w.5)

-- "all counts 0"

pub all-zero : AllZero no_counts
all-zero = (refl, λ d. get_d_same 8 d 0)

pub check_refused : (n : ℕ) (lent : List ℕ) → AllZero (counts_given (refused n)) × (counts_written counts_numbers (refused n) lent ≡ lent)
unfolding counts_written
check_refused n lent = (all-zero, refl)

pub choose_refused : (n : ℕ) (first second lent : List ℕ)
    → (let r = returned_choice (refused n) in (r.number ≡ n) × (r.which ≡ none) × (r.sheet_length ≡ 0))
    × (sheet_after (refused n) first second ≡ [])
    × (counts_written choice_numbers (refused n) lent ≡ lent)
unfolding returned_choice sheet_after counts_written
choose_refused n first second lent = ((refl, refl, refl), refl, refl)

pub plan_refused : (n : ℕ) (lent other : List ℕ)
    → (let r = returned (refused n) in (r.number ≡ n) × (r.mark ≡ none) × (r.part_length ≡ 0) × AllZero r.short × AllZero r.sparing)
    × (part_after (refused n) lent other ≡ [])
    × (short_after (refused n) lent ≡ lent)
    × (sparing_after (refused n) lent ≡ lent)
    × (counts_written planning_numbers (refused n) lent ≡ lent)
unfolding returned part_after written counts_written
plan_refused n lent other = ((refl, refl, refl, all-zero, all-zero), refl, refl, refl, refl)

pub page-refused : (n : ℕ) (lent : List ℕ) → (plan_given (refused n) ≡ refused n) × (page_length (refused n) ≡ 0) × (page_after (refused n) lent ≡ lent)
unfolding plan_given page_length written
page-refused n lent = (refl, refl, refl)
