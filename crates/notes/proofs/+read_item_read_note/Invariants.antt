-- The measure of the cycle of calls {read_item, read_note}: twice the depth that is left, and one more for a note. The invariant of the loop over the
-- items of a note: what has been read before the next one, and what is built of it. Its measure: the text that is left. Assumes nothing.
use Rattle.std.proofs.Common.{length, ◌+◌, ◌-◌, ◌*◌}
use Rattle.grammar.specs.Reading.{Before}
use Rattle.sides.specs.Sides.{Ready}
use Rattle.notes.proofs.SoFar.{SoFar}
use Rattle.notes.proofs.+read_item_read_note.Given as goal

abbrev pub decreases-read_item : goal.decreases-read_item
decreases-read_item l = l.from.depth * 2

abbrev pub decreases-read_note : goal.decreases-read_note
decreases-read_note l = l.from.depth * 2 + 1

abbrev pub invariant-read_note-loop-item : goal.invariant-read_note-loop-item
invariant-read_note-loop-item l =
    (b : Before) × SoFar l.text l.from l.initial.line l.initial.left l.line l.left l.at l.sides.side l.sides.mixed b × Ready l.from l.line l.left

abbrev pub decreases-read_note-loop-item : goal.decreases-read_note-loop-item
decreases-read_note-loop-item l = length l.text - l.at
