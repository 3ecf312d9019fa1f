-- The invariant of `listing::put_blocks`: the first i blocks are put, each of at most 3 digits, with a space before each but the first. Assumes
-- nothing.
use Rattle.std.proofs.Common.{take, ◌≤◌, ◌-◌, ◌*◌}
use Rattle.texts.specs.Texts.{Put}
use Rattle.listing.specs.Passes.{spaced}
use Rattle.listing.proofs.put_blocks.Given as goal

abbrev pub invariant-loop-i : goal.invariant-loop-i
invariant-loop-i l = (l.at ≤ 4 * l.i - 1) × Put 0 (spaced (take l.i l.blocks)) l.initial.out l.out l.at
