-- What two plans give, as a value of the code. Assumes nothing.
use Rattle.std.specs.Prelude.{cond, ℕ, ltb, Result, Ok, Err}
use Rattle.model.specs.Calls.{mark_for, chosen}
use Rattle.driving.specs.declared.Totals.{Totals}
use Rattle.playing.specs.declared.Counts.{Counts}
use Rattle.refusal.specs.declared.Refusal.{Refusal}
use Rattle.refusal.specs.declared.Refusal.TheVariants.{ShortRoom, SparingRoom}
use Rattle.returning.specs.Returning.{mark_as}
use Rattle.returning.specs.declared.Planned.{Planned}

-- the rounds and the fetches of each disk
abbrev pub total_counts : Totals → Counts
total_counts a = record { rounds = a.rounds; fetches = a.fetches }

-- Two sheets of m and n bytes for two buffers: 17 or 18 where one does not fit.
abbrev pub both_fit : ℕ → ℕ → ℕ → ℕ → Result (Unit {0}) Refusal
both_fit m room₁ n room₂ = cond (ltb room₁ m) (Err ShortRoom) (cond (ltb room₂ n) (Err SparingRoom) (Ok tt))

-- What two plans with sheets of m and n bytes give.
unfoldable pub outcome_of : Totals → ℕ → Totals → ℕ → Planned
outcome_of a m b n = record {
  mark = mark_as (mark_for a.rounds b.rounds);
  length = chosen (mark_for a.rounds b.rounds) m n;
  short = total_counts a;
  sparing = total_counts b;
}
