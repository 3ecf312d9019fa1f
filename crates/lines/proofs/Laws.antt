-- The cases of the definitions: columns, actions read back, and places. Assumes nothing.
use mathlib.Core.Path.{◌≡◌}
use mathlib.Core.Logic.{◌≢◌}
use mathlib.Core.List.{List}
use Prim.Native.Nat.{ℕ, ◌+◌, ◌/◌, ◌%◌, ◌≤◌, ◌<◌}
use lib.Dec.{ltb}
use Rattle.std.specs.Prelude.{Some, None}
use borrow.Author.Tests.{lt-ltb, le-ltb, eq-eqb, ne_eqb}
use Rattle.bits.specs.Fields.{field_at}
use Rattle.bits.proofs.Logic.{and_true, and_false_left, and_false_right}
use Rattle.lines.specs.declared.Place.{Place}
use Rattle.lines.specs.Lines.{column_of, value_of, shown_at, place_after}

-- a column: a space, or the digit
pub column-space : (n unit : ℕ) → 1 < unit → n < unit → column_of n unit ≡ 32
unfolding column_of
column-space n unit p q = rw (and_true (lt-ltb 1 unit p) (lt-ltb n unit q))

pub column_ones : (n unit : ℕ) → unit ≤ 1 → column_of n unit ≡ 48 + n / unit % 10
unfolding column_of
column_ones n unit p = rw (and_false_left (ltb n unit) (le-ltb 1 unit p))

pub column-digit : (n unit : ℕ) → unit ≤ n → column_of n unit ≡ 48 + n / unit % 10
unfolding column_of
column-digit n unit p = rw (and_false_right (ltb 1 unit) (le-ltb n unit p))

-- an action: idle, one that fetches, and one that also discards
module _ (sheet : List ℕ) (at : ℕ) where
  pub shown_idle : value_of (field_at sheet at 1) ≡ 0 → shown_at sheet at ≡ record { fetched = None; discarded = None; next = at + 1 }
  unfolding shown_at
  shown_idle e = rw (eq-eqb _ 0 e)

  pub shown_fetch : value_of (field_at sheet at 1) ≢ 0 → value_of (field_at sheet (at + 10) 1) ≡ 0 → (x : ℕ) → x ≡ value_of (field_at sheet (at + 1) 9)
      → shown_at sheet at ≡ record { fetched = Some x; discarded = None; next = at + 11 }
  unfolding shown_at
  shown_fetch n e x p = rw (ne_eqb _ 0 n, eq-eqb _ 0 e, p)

  pub shown_replace : value_of (field_at sheet at 1) ≢ 0 → value_of (field_at sheet (at + 10) 1) ≢ 0 → (x z : ℕ) → x ≡ value_of (field_at sheet (at + 1) 9)
      → z ≡ value_of (field_at sheet (at + 11) 9) → shown_at sheet at ≡ record { fetched = Some x; discarded = Some z; next = at + 20 }
  unfolding shown_at
  shown_replace n m x z p q = rw (ne_eqb _ 0 n, ne_eqb _ 0 m, p, q)

-- the place after the round's last line, and after another one
pub place-round : (p : Place) (next disks : ℕ) → p.disk + 1 ≡ disks
    → place_after p next disks ≡ record { line = p.line + 1; at = next; round = p.round + 1; disk = 0 }
unfolding place_after
place-round p next disks e = rw (eq-eqb (p.disk + 1) disks e)

pub place_disk : (p : Place) (next disks : ℕ) → p.disk + 1 ≢ disks
    → place_after p next disks ≡ record { line = p.line + 1; at = next; round = p.round; disk = p.disk + 1 }
unfolding place_after
place_disk p next disks n = rw (ne_eqb (p.disk + 1) disks n)
