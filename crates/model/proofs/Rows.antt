-- The rows of the table of worked jobs (`Answers`): calls, what they give, and the proof that they do. Assumes nothing.
use mathlib.Core.Path.{◌≡◌}
use mathlib.Core.List.{List, [], ◌∷◌, ◌++◌, map}
use Prim.Native.Nat.{ℕ, zero, suc, ◌/◌, ◌%◌, ◌^◌}
use Prim.Native.String.{String}
use lib.ListN.{length, replicate}
use Rattle.bits.specs.Reading.{Answer, given, refused}
use Rattle.model.specs.Job.{Job}
use Rattle.model.specs.Ticket.{ticket_of}
use Rattle.model.specs.Text.{text}
use Rattle.model.specs.Page.{ended}
use Rattle.model.specs.Calls.{job_up_to, references_of, Counts, Which, Mark, Planned, plan_answer, page_answer, check_answer, ChosenSheet, choose_answer, counts_numbers, planning_numbers, choice_numbers, counts_written}

-- The k bytes whose hexadecimal digits are those of v: `hex 2 0x0018` is 00 18.
unfoldable pub hex : ℕ → ℕ → List ℕ
hex zero v = []
hex (suc k) v = (v / 256 ^ k % 256) ∷ hex k v

-- A call, and what a call gives. `plan_into` plans a ticket into two buffers of the lengths that it is given, `plan` into two of the longest sheet's
-- 40,962 bytes; `page` plans it with a third buffer, and shows the page. A call from C, whose last bytes are a slice for its counts, gives what the
-- slice then has. Each is made with a stop (L5).
pub data Call : Type 0 where
  read : List ℕ → Call
  plan : List ℕ → Call
  plan_into : List ℕ → ℕ → ℕ → Call
  page : List ℕ → ℕ → ℕ → ℕ → Call
  check : List ℕ → List ℕ → Call
  choose : List ℕ → List ℕ → List ℕ → Call
  plan_from_c : List ℕ → List ℕ → Call
  check_from_c : List ℕ → List ℕ → List ℕ → Call
  choose_from_c : List ℕ → List ℕ → List ℕ → List ℕ → Call

pub data Outcome : Type 0 where
  job : Job → Outcome
  plans : Planned → Outcome
  shows : List ℕ → Outcome
  passes : Counts → Outcome
  hands : ChosenSheet → Outcome
  writes : List ℕ → Outcome
  number : ℕ → Outcome

unfoldable pub outcome_of : {A : Type 0} → (A → Outcome) → Answer A → Outcome
outcome_of f (given a) = f a
outcome_of f (refused n) = number n

unfoldable pub outcome : ℕ → Call → Outcome
unfolding outcome_of job_up_to plan_answer page_answer check_answer choose_answer counts_written
outcome stop (read t) = outcome_of job (job_up_to t stop)
outcome stop (plan t) = outcome_of plans (plan_answer t stop 40962 40962)
outcome stop (plan_into t room₁ room₂) = outcome_of plans (plan_answer t stop room₁ room₂)
outcome stop (page t room₁ room₂ room₃) = outcome_of (λ p. shows p.page) (page_answer t stop room₁ room₂ room₃)
outcome stop (check t s) = outcome_of passes (check_answer t stop s)
outcome stop (choose t first second) = outcome_of hands (choose_answer t stop first second)
outcome stop (plan_from_c t lent) = writes (counts_written planning_numbers (plan_answer t stop 40962 40962) lent)
outcome stop (check_from_c t s lent) = writes (counts_written counts_numbers (check_answer t stop s) lent)
outcome stop (choose_from_c t first second lent) = writes (counts_written choice_numbers (choose_answer t stop first second) lent)

pub record Case : Type 0 where
  pub call : Call
  pub stop : ℕ
  pub gives : Outcome
  pub holds : outcome stop call ≡ gives

-- a call with a stop; and one with the stop N of its ticket
abbrev pub row_up_to : (stop : ℕ) (c : Call) (o : Outcome) → outcome stop c ≡ o → Case
row_up_to stop c o e = record { call = c; stop = stop; gives = o; holds = e }

unfoldable pub ticket_in : Call → List ℕ
ticket_in (read t) = t
ticket_in (plan t) = t
ticket_in (plan_into t room₁ room₂) = t
ticket_in (page t room₁ room₂ room₃) = t
ticket_in (check t s) = t
ticket_in (choose t first second) = t
ticket_in (plan_from_c t lent) = t
ticket_in (check_from_c t s lent) = t
ticket_in (choose_from_c t first second lent) = t

abbrev pub row : (c : Call) (o : Outcome) → outcome (references_of (ticket_of (ticket_in c))) c ≡ o → Case
row c o e = row_up_to (references_of (ticket_of (ticket_in c))) c o e

-- the job of a ticket in which every count of carried blocks is 0, and of any ticket
abbrev pub job_with : List ℕ → List ℕ → List ℕ → Outcome
job_with slots disks refs = job (record { slots = slots; block_disks = disks; refs = refs; carried = replicate (length slots) [] })

abbrev pub job_carrying : List ℕ → List ℕ → List ℕ → List (List ℕ) → Outcome
job_carrying slots disks refs carried = job (record { slots = slots; block_disks = disks; refs = refs; carried = carried })

-- rounds, and the fetches of disks 0 and 1; the other six disks have none
abbrev pub counts : ℕ → ℕ → ℕ → Counts
counts r a b = record { rounds = r; fetches = a ∷ b ∷ 0 ∷ 0 ∷ 0 ∷ 0 ∷ 0 ∷ 0 ∷ [] }

abbrev pub planned : Mark → ℕ → Counts → Counts → List ℕ → List ℕ → Outcome
planned m n a b s t = plans (record { mark = m; part_length = n; short = a; sparing = b; short_sheet = s; sparing_sheet = t })

-- a page of these lines, with the legend's
abbrev pub page_with : List String → Outcome
page_with lines = shows (ended (map text (lines ++ "E empty slot    " ∷ "M min-block out " ∷ "S used sooner   " ∷ "W waits         " ∷ "N none left     " ∷ [])))

abbrev pub chose : Which → ℕ → Outcome
chose w n = hands (record { which = w; sheet_length = n })
