-- One field of a ticket: its value is among those of its row, and a reader reads it so. Assumes nothing.
use mathlib.Core.Path.{◌≡◌, refl, subst}
use mathlib.Core.Bool.{Bool, true, false, cond, ◌||◌}
use mathlib.Core.List.{List}
use Prim.Native.Nat.{ℕ, ◌+◌, ◌≤◌, ◌<◌}
use native.Mathlib.Omega.{arith}
use lib.Dec.{ltb, leb}
use lib.ListN.{drop}
use borrow.Author.Tests.{ltb-false, leb-false, le-ltb}
use Rattle.std.specs.Prelude.{Option, Some, None, Result, Ok, Err}
use Rattle.refusal.specs.declared.Refusal.{Refusal}
use Rattle.refusal.specs.Refusals.{number}
use Rattle.bits.specs.Bits.{bits}
use Rattle.bits.specs.Reading.{Reader, bind, ◌>>=◌, ◌>>◌, field, refuse_if}
use Rattle.bits.specs.Fields.{field_at}
use Rattle.bits.proofs.Fields.{field_then}
use Rattle.bits.proofs.Logic.{by_test, or_false_left, or_false_right}
use Rattle.entries.specs.Parts.{outside, entry_of, entry_at, entry_then}
use Rattle.entries.specs.declared.Row.{Row}
use Rattle.entries.specs.declared.Unread.{Unread}
use Rattle.entries.specs.declared.Unread.TheVariants.{Outside}

-- a value that is read is among those of its row
pub entry-within : {R : Type 0} (t : List ℕ) (at : ℕ) (row : Row R) {v : ℕ} → entry_at t at row ≡ Ok v → (row.least ≤ v) × (v < row.limit)
unfolding entry_at entry_of
entry-within {R} t at row {v} e = go (field_at t at row.width) e
  where
    tested : (x : ℕ) (b : Bool) → outside row x ≡ b
        → ◌≡◌ {A = Result ℕ (Unread R)} (cond b (Err (Outside row.refusal)) (Ok x)) (Ok v) → (row.least ≤ v) × (v < row.limit)
    tested x true q p = absurd (let z : ◌≡◌ {A = ℕ} 0 1 = cc in omega arith)
    tested x false q p =
        let same : x ≡ v = cc in
        subst (λ (y : ℕ). (row.least ≤ y) × (y < row.limit)) same (
          ltb-false x row.least (or_false_left (ltb x row.least) (leb row.limit x) q),
          leb-false row.limit x (or_false_right (ltb x row.least) (leb row.limit x) q),
        )

    go : (f : Option ℕ) → entry_of row f ≡ Ok v → (row.least ≤ v) × (v < row.limit)
    go (Some x) p = tested x (outside row x) refl p
    go None p = absurd (let z : ◌≡◌ {A = ℕ} 0 1 = cc in omega arith)

-- A field, and then the test of its row, as a reader reads them.
pub entry_reads : {A : Type 0} (t : List ℕ) (at : ℕ) (row : Row Refusal) (test : ℕ → Bool) (more : ℕ → Reader A) → 0 < row.width
    → ((v : ℕ) → test v ≡ outside row v)
    → (field 1 row.width >>= λ v. refuse_if (number row.refusal) (test v) >> more v) (drop at (bits t))
    ≡ entry_then (drop (at + row.width) (bits t)) more (entry_at t at row)
unfolding ◌>>◌ bind refuse_if entry_at entry_of entry_then
entry_reads t at row test more p same =
    field_then 1 row.width at t _ (λ f. entry_then (drop (at + row.width) (bits t)) more (entry_of row f)) p refl λ v.
    rw (same v) (by_test (outside row v) (λ e. rw e) (λ e. rw e))

-- a row from 0 on tests its limit alone
pub any_test : (k v : ℕ) → leb k v ≡ ltb v 0 || leb k v
any_test k v = rw (le-ltb v 0 (omega arith))
