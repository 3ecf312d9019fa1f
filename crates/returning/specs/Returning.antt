-- What the calls return, as values of the code. Assumes nothing.
use Rattle.std.specs.Prelude.{cond, ℕ, ltb, Option, None, Some, Result, Ok, Err}
use Rattle.std.proofs.Math.Option.{none, some}
use Rattle.std.proofs.Math.Option.{Option as OptionGiven}
use Rattle.bits.specs.Reading.{Answer}
use Rattle.model.specs.Calls.{is_first, is_second, of_two, which_for, is_short, is_sparing, Returned, returned, plan_given, page_length, ReturnedChoice}
use Rattle.slot_counts.specs.Slots.{ReturnedSlots}
use Rattle.model.specs.Calls.{Which as WhichGiven}
use Rattle.model.specs.Calls.{PlannedPage as PageGiven}
use Rattle.model.specs.Calls.{Mark as MarkGiven}
use Rattle.model.specs.Calls.{Counts as CountsGiven}
use Rattle.playing.specs.declared.Counts.{Counts}
use Rattle.refusal.specs.Refusals.{refusal_of}
use Rattle.refusal.specs.declared.Refusal.{Refusal}
use Rattle.returning.specs.declared.Planned.{Planned}
use Rattle.returning.specs.declared.PlannedPage.{PlannedPage}
use Rattle.returning.specs.declared.Mark.{Mark}
use Rattle.returning.specs.declared.Mark.TheVariants.{Short, Sparing}
use Rattle.returning.specs.declared.Which.{Which}
use Rattle.returning.specs.declared.Which.TheVariants.{First, Second}
use Rattle.returning.specs.declared.Chosen.{Chosen}
use Rattle.returning.specs.declared.LeastSlots.{LeastSlots}

-- "the mark (short or sparing)"
abbrev pub mark_as : MarkGiven → Mark
mark_as is_short = Short
mark_as is_sparing = Sparing

-- which of two sheets is handed back
abbrev pub which_as : WhichGiven → Which
which_as is_first = First
which_as is_second = Second

abbrev pub which_given : Which → WhichGiven
which_given First = is_first
which_given Second = is_second

-- what belongs to that sheet, of what belongs to the first and to the second
abbrev pub of_which : {A : Type 0} → Which → A → A → A
of_which First ofFirst ofSecond = ofFirst
of_which Second ofFirst ofSecond = ofSecond

-- one of them, or neither
abbrev pub handed_given : Option Which → OptionGiven WhichGiven
handed_given None = none
handed_given (Some which) = some (which_given which)

-- where that sheet begins; the empty slice of neither begins where the first does
abbrev pub which_begins : {A : Type 0} → Option Which → A → A → A
which_begins None first second = first
which_begins (Some which) first second = of_which which first second

-- planning's first sheet is the short one, its second the sparing one
abbrev pub mark_of : Which → Mark
mark_of which = of_which which Short Sparing

-- the rounds and the fetches of each disk
abbrev pub counts_as : CountsGiven → Counts
counts_as c = record { rounds = c.rounds; fetches = c.fetches }

-- What a planning call returns: without a mark it is refused.
abbrev pub planned_with : OptionGiven MarkGiven → Returned → Result Planned Refusal
planned_with none r = Err (refusal_of r.number)
planned_with (some mark) r = Ok (record { mark = mark_as mark; length = r.part_length; short = counts_as r.short; sparing = counts_as r.sparing })

unfoldable pub planned_as : Returned → Result Planned Refusal
planned_as r = planned_with r.mark r

-- What a planning call with a page returns: all that planning returns, and the page's length.
abbrev pub with_length : ℕ → Result Planned Refusal → Result PlannedPage Refusal
with_length n (Ok planned) = Ok (record { planned = planned; length = n })
with_length n (Err refusal) = Err refusal

unfoldable pub planned_page_as : Answer PageGiven → Result PlannedPage Refusal
unfolding planned_as returned plan_given page_length
planned_page_as a = with_length (page_length a) (planned_as (returned (plan_given a)))

-- What a choice returns: without a sheet that is handed back it is refused.
abbrev pub chosen_with : OptionGiven WhichGiven → ReturnedChoice → Result Chosen Refusal
chosen_with none r = Err (refusal_of r.number)
chosen_with (some which) r = Ok (record { which = which_as which; length = r.sheet_length })

unfoldable pub chosen_as : ReturnedChoice → Result Chosen Refusal
chosen_as r = chosen_with r.which r

-- What a call for the least slots returns. L10: "the answer none", or the count; a refused call has neither.
abbrev pub least_with : OptionGiven (OptionGiven ℕ) → ReturnedSlots → Result (Option LeastSlots) Refusal
least_with none r = Err (refusal_of r.number)
least_with (some none) r = Ok None
least_with (some (some s)) r = Ok (Some (record { slots = s; length = r.sheet_length; counts = counts_as r.counts }))

unfoldable pub least_as : ReturnedSlots → Result (Option LeastSlots) Refusal
least_as r = least_with r.slots r

-- What two sheets of m and n bytes that pass in a and b rounds give.
unfoldable pub preference_of : ℕ → ℕ → ℕ → ℕ → Chosen
unfolding which_for
preference_of a m b n = record { which = which_as (which_for a b); length = of_two (which_for a b) m n }

-- n bytes for a buffer of so many: where they do not fit, the refusal that says so.
abbrev pub fits : ℕ → ℕ → Refusal → Result (Unit {0}) Refusal
fits n room refusal = cond (ltb room n) (Err refusal) (Ok tt)
