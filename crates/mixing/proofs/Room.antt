-- Room for references, and the part of a slice that is lent for them. Assumes nothing.
use mathlib.Core.Path.{◌≡◌}
use mathlib.Core.Bool.{true, false}
use mathlib.Core.List.{List}
use Prim.Native.Nat.{ℕ, ◌+◌, ◌-◌, ◌≤◌, ◌<◌}
use native.Mathlib.Omega.{arith}
use lib.ListN.{length, take, drop, length-drop}
use lib.Seq.{length-take-le}
use borrow.Author.Tests.{le-leb, lt-leb}
use Rattle.mixing.specs.declared.Place.{Place}
use Rattle.mixing.specs.Room.{room_for}

-- room, and no room
pub room : (from : Place) (n : ℕ) → from.line + from.left + n ≤ 2048 → room_for from n ≡ true
room from n h = le-leb (from.line + from.left + n) 2048 h

pub no_room : (from : Place) (n : ℕ) → 2048 < from.line + from.left + n → room_for from n ≡ false
no_room from n h = lt-leb (from.line + from.left + n) 2048 h

-- how long a part of a slice is, from a on, that is lent to a call
pub part_length : (a n : ℕ) (l : List ℕ) → a + n ≤ length l → length (take (a + n - a) (drop a l)) ≡ n
part_length a n l h =
    let k : a + n - a ≡ n = omega arith in
    let fits : n ≤ length (drop a l) = omega (arith, length-drop a l) in
    rw k (length-take-le n (drop a l) fits)
