-- The sides of a note that are complete. They stand mixed at the end of a slice of 2,048 entries, on the left, and are taken back into the line of
-- 2,048 entries. More than 2,048 references in all are counted no further, and not built. Assumes nothing.
use Rattle.std.specs.Prelude.{◌≡◌, Bool, cond, ◌&&◌, List, ◌++◌, ℕ, ◌+◌, ◌-◌, ◌≤◌, length, take, drop}
use Rattle.grammar.specs.Note.{in_turn}
use Rattle.mixing.specs.declared.Place.{Place}
use Rattle.mixing.specs.Room.{capped, room_for}
use Rattle.sides.specs.declared.Sides.{Sides}

-- A side at the end of the line that is complete, mixed with the sides before it, on the left.
abbrev pub sides_after : Bool → Sides → Sides
sides_after complete s = cond complete (record { side = 0; mixed = capped (s.mixed + s.side) }) s

unfoldable pub side_mixed : Bool → List ℕ → Place → Sides → List ℕ → List ℕ
side_mixed complete line from s left =
    let top = 2048 - from.left in
    let count = s.mixed + s.side in
    cond (complete && room_for from count)
    (take (top - count) left ++ (in_turn (take s.mixed (drop (top - s.mixed) left)) (take s.side (drop from.line line)) ++ drop top left))
    left

-- The sides of a note, all mixed, taken back into the line.
unfoldable pub taken_back : List ℕ → Place → ℕ → List ℕ → List ℕ
taken_back left from mixed line =
    let top = 2048 - from.left in
    cond (room_for from mixed) (take from.line line ++ (take mixed (drop (top - mixed) left) ++ drop (from.line + mixed) line)) line

-- What is asked of a place, and of the line and the left.
pub record Ready (from : Place) (line left : List ℕ) : Type 0 where
  pub few : from.line ≤ 2049
  pub fewer : from.left ≤ 2049
  pub line_long : length line ≡ 2048
  pub left_long : length left ≡ 2048
