-- The sides of a note, by the tests that the code makes. Assumes nothing.
use mathlib.Core.Path.{◌≡◌, refl}
use mathlib.Core.Bool.{true, false}
use mathlib.Core.List.{List, ◌++◌}
use Prim.Native.Nat.{ℕ, ◌+◌, ◌-◌, ◌≤◌, ◌<◌}
use native.Mathlib.Omega.{arith}
use lib.ListN.{length, take, drop, length-drop}
use lib.Seq.{length-take-le, drop-drop, take-add, drop_at}
use Rattle.grammar.specs.Note.{in_turn}
use Rattle.mixing.specs.declared.Place.{Place}
use Rattle.mixing.proofs.Room.{room, no_room, part_length}
use Rattle.sides.specs.declared.Sides.{Sides}
use Rattle.sides.specs.Sides.{side_mixed, taken_back}

-- a side that is mixed with those before it
module _ (line : List ℕ) (from : Place) (s : Sides) (left : List ℕ) where
  pub side_begun : side_mixed false line from s left ≡ left
  unfolding side_mixed
  side_begun = refl

  pub side_full : 2048 < from.line + from.left + (s.mixed + s.side) → side_mixed true line from s left ≡ left
  unfolding side_mixed
  side_full h = rw (no_room from (s.mixed + s.side) h)

  pub side_fits : from.line + from.left + (s.mixed + s.side) ≤ 2048
      → let top = 2048 - from.left in
      side_mixed true line from s left
      ≡ take (top - (s.mixed + s.side)) left
      ++ (in_turn (take s.mixed (drop (top - s.mixed) left)) (take s.side (drop from.line line)) ++ drop top left)
  unfolding side_mixed
  side_fits h = rw (room from (s.mixed + s.side) h)

-- the sides taken back
module _ (left : List ℕ) (from : Place) (mixed : ℕ) (line : List ℕ) where
  pub back_full : 2048 < from.line + from.left + mixed → taken_back left from mixed line ≡ line
  unfolding taken_back
  back_full h = rw (no_room from mixed h)

  pub back_fits : from.line + from.left + mixed ≤ 2048
      → taken_back left from mixed line
      ≡ take from.line line ++ (take mixed (drop (2048 - from.left - mixed) left) ++ drop (from.line + mixed) line)
  unfolding taken_back
  back_fits h = rw (room from mixed h)

-- what follows the first n of a part
drop-take : (n m : ℕ) (l : List ℕ) → n ≤ length l → drop n (take (n + m) l) ≡ take m (drop n l)
drop-take n m l h = rw (take-add n m l) (drop_at (take n l) (take m (drop n l)) n (length-take-le n l h))

-- A part of a slice, from a on, that is lent to a call and comes back as `new`: one that was copied,
pub part_copied : (a n b : ℕ) (l m new : List ℕ) → n ≤ b → new ≡ take (b - (b - n)) (drop (b - n) m)
    → take a l ++ (new ++ drop (a + n - a) (drop a l)) ≡ take a l ++ (take n (drop (b - n) m) ++ drop (a + n) l)
part_copied a n b l m new h e =
    let k : a + n - a ≡ n = omega arith in
    let j : b - (b - n) ≡ n = omega arith in
    rw (e, k, j, drop-drop n a l)

-- and one that was mixed.
pub part-mixed : (a n m b : ℕ) (l left new : List ℕ) → a + n ≤ length l → m + n ≤ b → b ≤ length left
    → (let right = take (a + n - a) (drop a l) in new ≡ in_turn (drop (length right) (take (b - (b - (m + n))) (drop (b - (m + n)) left))) right)
    → take (b - (m + n)) left ++ (new ++ drop (b - (b - (m + n))) (drop (b - (m + n)) left))
    ≡ take (b - (m + n)) left ++ (in_turn (take m (drop (b - m) left)) (take n (drop a l)) ++ drop b left)
part-mixed a n m b l left new h f g e =
    let from = b - (m + n) in
    let k : a + n - a ≡ n = omega arith in
    let j : b - from ≡ n + m = omega arith in
    let fits : n ≤ length (drop from left) = omega (arith, length-drop from left) in
    let then : from + n ≡ b - m = omega arith in
    let last : from + (n + m) ≡ b = omega arith in
    rw (e, part_length a n l h, k, j, drop-take n m (drop from left) fits, drop-drop n from left, then, drop-drop (n + m) from left, last)
