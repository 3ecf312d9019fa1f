-- What document 01 says of what a call returns, said of the values of the code: a refusal has its number alone, no mark and no counts, and no sheet;
-- the mark, which of two sheets, and the slot count, are those given. Assumes nothing.
use mathlib.Core.Path.{◌≡◌, refl, ap}
use mathlib.Core.Option.{none, some}
use Prim.Native.Nat.{ℕ}
use lib.ListN.{length}
use Rattle.std.specs.Prelude.{None, Some, Result, Ok, Err}
use Rattle.bits.specs.Reading.{given, refused}
use Rattle.model.specs.Calls.{is_first, is_second, is_short, is_sparing, returned, ChosenSheet, returned_choice}
use Rattle.model.specs.Calls.{Planned as PlanGiven}
use Rattle.model.specs.Calls.{Counts as CountsGiven}
use Rattle.model.specs.Calls.{Mark as MarkGiven}
use Rattle.model.specs.Calls.{Which as WhichGiven}
use Rattle.slot_counts.specs.Slots.{SlotsFound, returned_slots}
use Rattle.playing.specs.declared.Counts.{Counts}
use Rattle.refusal.specs.Refusals.{refusal_of}
use Rattle.refusal.specs.declared.Refusal.{Refusal}
use Rattle.returning.specs.Returning.{mark_as, which_as, planned_as, chosen_as, least_as}
use Rattle.returning.specs.declared.Planned.{Planned}
use Rattle.returning.specs.declared.Mark.{Mark}
use Rattle.returning.specs.declared.Mark.TheVariants.{Short, Sparing}
use Rattle.returning.specs.declared.Chosen.{Chosen}
use Rattle.returning.specs.declared.Which.{Which}
use Rattle.returning.specs.declared.Which.TheVariants.{First, Second}

-- Planning.

abbrev same : CountsGiven → Counts
same c = record { rounds = c.rounds; fetches = c.fetches }

abbrev marked : Mark → PlanGiven → Result Planned Refusal
marked mark p = Ok (record { mark = mark; length = p.part_length; short = same p.short; sparing = same p.sparing })

pub planned-refused : (n : ℕ) → planned_as (returned (refused n)) ≡ Err (refusal_of n)
unfolding planned_as returned
planned-refused n = refl

pub planned-short : (p : PlanGiven) → p.mark ≡ is_short → planned_as (returned (given p)) ≡ marked Short p
unfolding planned_as returned
planned-short p e = ap (λ (m : MarkGiven). marked (mark_as m) p) e

pub planned-sparing : (p : PlanGiven) → p.mark ≡ is_sparing → planned_as (returned (given p)) ≡ marked Sparing p
unfolding planned_as returned
planned-sparing p e = ap (λ (m : MarkGiven). marked (mark_as m) p) e

-- The choice.

abbrev handed : Which → ChosenSheet → Result Chosen Refusal
handed which c = Ok (record { which = which; length = c.sheet_length })

pub chosen-refused : (n : ℕ) → chosen_as (returned_choice (refused n)) ≡ Err (refusal_of n)
unfolding chosen_as returned_choice
chosen-refused n = refl

pub chosen-first : (c : ChosenSheet) → c.which ≡ is_first → chosen_as (returned_choice (given c)) ≡ handed First c
unfolding chosen_as returned_choice
chosen-first c e = ap (λ (w : WhichGiven). handed (which_as w) c) e

pub chosen_second : (c : ChosenSheet) → c.which ≡ is_second → chosen_as (returned_choice (given c)) ≡ handed Second c
unfolding chosen_as returned_choice
chosen_second c e = ap (λ (w : WhichGiven). handed (which_as w) c) e

-- The least slots.

pub least-refused : (n : ℕ) → least_as (returned_slots (refused n)) ≡ Err (refusal_of n)
unfolding least_as returned_slots
least-refused n = refl

pub least-none : least_as (returned_slots (given none)) ≡ Ok None
unfolding least_as returned_slots
least-none = refl

pub least_found : (f : SlotsFound) → least_as (returned_slots (given (some f))) ≡ Ok (Some (record { slots = f.slots; length = length f.sheet; counts = same f.counts }))
unfolding least_as returned_slots
least_found f = refl
