-- How the least slot count is searched for: where the search begins, how far each plan is driven, and what is given for a count. Assumes nothing.
use Rattle.std.specs.Prelude.{cond, ℕ, suc, min, max, ltb, set, Result, Ok, Err}
use Rattle.job.specs.declared.Job.{Job as Stored}
use Rattle.driving.specs.declared.Totals.{Totals}
use Rattle.refusal.specs.declared.Refusal.{Refusal}
use Rattle.refusal.specs.declared.Refusal.TheVariants.{ShortRoom}
use Rattle.returning.specs.declared.LeastSlots.{LeastSlots}
use Rattle.handing.specs.Handing.{total_counts}

-- "from 1 to 64 and not below the blocks it carries in": the lowest of these counts
abbrev pub lowest_count : ℕ → ℕ
lowest_count carried = max 1 carried

-- the rounds that are driven: one more than wanted, and at most as many as there are references
abbrev pub tried_rounds : ℕ → ℕ → ℕ
tried_rounds wanted count = min (suc wanted) count

-- the job by value with s slots on disk d
unfoldable pub slotted : ℕ → ℕ → Stored → Stored
slotted d s c = record {
  disks = c.disks;
  slots = set c.slots d s;
  blocks = c.blocks;
  disk = c.disk;
  count = c.count;
  refs = c.refs;
  held = c.held;
  carried = c.carried;
}

-- What is given for a count of s slots: 17 if its sheet, of m bytes, has no room, and else the count and its plan.
abbrev pub handed_for : ℕ → Totals → ℕ → ℕ → Result LeastSlots Refusal
handed_for s plan m room = cond (ltb room m) (Err ShortRoom) (Ok (record { slots = s; length = m; counts = total_counts plan }))
