-- The numbers that the calls write for C, from the values that they return. Assumes nothing.
use Rattle.std.specs.Prelude.{List, [], ◌∷◌, ◌++◌, ℕ, get_or, Option, Some, None, Result, Ok, Err}
use Rattle.bits.specs.Bits.{laid}
use Rattle.model.specs.Plans.{each}
use Rattle.model.specs.Calls.{halves}
use Rattle.playing.specs.declared.Counts.{Counts}
use Rattle.refusal.specs.Refusals.{number}
use Rattle.refusal.specs.declared.Refusal.{Refusal}
use Rattle.returning.specs.Returning.{of_which}
use Rattle.returning.specs.declared.Mark.{Mark}
use Rattle.returning.specs.declared.Mark.TheVariants.{Short, Sparing}
use Rattle.returning.specs.declared.Planned.{Planned}
use Rattle.returning.specs.declared.Which.{Which}
use Rattle.returning.specs.declared.Chosen.{Chosen}

-- What a call returns, with the number of its refusal for C.
abbrev pub numbered : {A : Type 0} → Result A Refusal → Result A ℕ
numbered (Ok x) = Ok x
numbered (Err refusal) = Err (number refusal)

-- "its number, or 0 if it is not refused"
abbrev pub number_in : {A : Type 0} → Result A ℕ → ℕ
number_in (Ok x) = 0
number_in (Err number) = number

-- "the mark (0 short, 1 sparing)"; 0 where there is none
abbrev pub mark_number : Option Mark → ℕ
mark_number None = 0
mark_number (Some Short) = 0
mark_number (Some Sparing) = 1

-- L1: "0 (first) or 1 (second)"; 0 for neither
abbrev pub which_number : Option Which → ℕ
which_number None = 0
which_number (Some which) = of_which which 0 1

-- "the rounds and eight fetch counts", of a check that passes and of each plan
abbrev pub checked_numbers : Counts → List ℕ
checked_numbers c = c.rounds ∷ each (λ d. get_or c.fetches d 0) 0 8

-- "the mark (0 short, 1 sparing), the length of the part, then for the short and for the sparing plan the rounds and eight fetch counts"
abbrev pub planned_numbers : Option Mark → Planned → List ℕ
planned_numbers mark p = mark_number mark ∷ p.length ∷ (checked_numbers p.short ++ checked_numbers p.sparing)

-- L1: "0 (first) or 1 (second) and that sheet's length"
abbrev pub chosen_numbers : Option Which → Chosen → List ℕ
chosen_numbers which c = which_number which ∷ c.length ∷ []

-- The lent slice after a call, of which these numbers are written where it is not refused: "a refusal writes nothing there".
abbrev pub counts_laid : {A : Type 0} → (A → List ℕ) → Result A ℕ → List ℕ → List ℕ
counts_laid numbers (Ok x) lent = laid (halves (numbers x)) lent
counts_laid numbers (Err number) lent = lent
