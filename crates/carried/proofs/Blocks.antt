-- The number of a block that is carried in: what its tests make of it, and that a reader reads it so. Assumes nothing.
use mathlib.Core.Path.{◌≡◌, refl, sym, ap, ◌∙◌}
use mathlib.Core.Bool.{Bool, true, false, cond, not, ◌||◌}
use mathlib.Core.List.{List}
use Prim.Native.Nat.{ℕ, ◌+◌, ◌<◌}
use native.Mathlib.Omega.{arith}
use lib.Dec.{eqb, lit<}
use lib.ListN.{length, get_or, drop}
use borrow.Author.Tests.{eq-eqb, ne_eqb}
use Rattle.std.specs.Prelude.{Result, Ok, Err}
use Rattle.refusal.specs.declared.Refusal.{Refusal}
use Rattle.refusal.specs.declared.Refusal.TheVariants.{CarriedBlock}
use Rattle.bits.specs.Bits.{bits}
use Rattle.bits.specs.Reading.{Reader, bind, ◌>>=◌, ◌>>◌, field, refuse_if}
use Rattle.bits.proofs.Fields.{field_then}
use Rattle.bits.proofs.Logic.{by_test}
use Rattle.entries.specs.Parts.{outside, entry_of, entry_at, entry_then}
use Rattle.carried.specs.Carried.{block_row, on_disk, block_at}
use Rattle.entries.specs.declared.Row.{Row}
use Rattle.entries.specs.declared.Unread.{Unread}
use Rattle.entries.specs.declared.Unread.TheVariants.{Outside}
use Rattle.entries.proofs.Entries.{entry-within}

-- what was read, of a row that is known
pub row_entry : (t : List ℕ) (at : ℕ) {r row : Row Refusal} {x y : Result ℕ (Unread Refusal)}
    → r ≡ row → x ≡ entry_at t at r → x ≡ y → entry_at t at row ≡ y
row_entry t at e f g = ap (entry_at t at) (sym e) ∙ sym f ∙ g

module _ (t disks : List ℕ) (d at least : ℕ) where
  -- the tests, as the code makes them

  pub block_own : {b : ℕ} → entry_at t at (block_row least (length disks)) ≡ Ok b → get_or disks b 0 ≡ d → Ok b ≡ block_at t disks d at least
  unfolding block_at on_disk
  block_own {b} e q = rw (e, eq-eqb (get_or disks b 0) d q) refl

  pub block_other : {b : ℕ} → entry_at t at (block_row least (length disks)) ≡ Ok b → (get_or disks b 0 ≡ d → ⊥)
      → Err (Outside CarriedBlock) ≡ block_at t disks d at least
  unfolding block_at on_disk
  block_other {b} e q = rw (e, ne_eqb (get_or disks b 0) d q) refl

  pub block_refused : {n : Unread Refusal} → entry_at t at (block_row least (length disks)) ≡ Err n → Err n ≡ block_at t disks d at least
  unfolding block_at on_disk
  block_refused e = rw e refl

  -- a number that is read is that of a block
  pub block_within : {v : ℕ} → block_at t disks d at least ≡ Ok v → v < length disks
  unfolding block_at on_disk
  block_within {v} e = go (entry_at t at (block_row least (length disks))) refl e
    where
      tested : (b : ℕ) (own : Bool) → b < length disks → cond own (Ok b) (Err (Outside CarriedBlock)) ≡ Ok v → v < length disks
      tested b true l p = let same : b ≡ v = cc in omega (arith, same, l)
      tested b false l p = absurd (let z : ◌≡◌ {A = ℕ} 0 1 = cc in omega arith)

      go : (x : Result ℕ (Unread Refusal)) → entry_at t at (block_row least (length disks)) ≡ x → on_disk disks d x ≡ Ok v → v < length disks
      go (Ok b) q p = tested b (eqb (get_or disks b 0) d) (entry-within t at (block_row least (length disks)) q).1 p
      go (Err r) q p = absurd (let z : ◌≡◌ {A = ℕ} 0 1 = cc in omega arith)

  -- The field, and then its tests, as a reader reads them.
  pub block_reads : {A : Type 0} (more : ℕ → Reader A)
      → (field 1 9 >>= λ b. refuse_if 26 (outside (block_row least (length disks)) b || not (eqb (get_or disks b 0) d)) >> more b) (drop at (bits t))
      ≡ entry_then (drop (at + 9) (bits t)) more (block_at t disks d at least)
  unfolding ◌>>◌ bind refuse_if block_at on_disk entry_at entry_of entry_then
  block_reads more =
      field_then 1 9 at t _ (λ f. entry_then (drop (at + 9) (bits t)) more (on_disk disks d (entry_of (block_row least (length disks)) f)))
      (lit< tt) refl λ b.
      by_test (outside (block_row least (length disks)) b)
      (λ o. rw o)
      (λ o. by_test (eqb (get_or disks b 0) d) (λ e. rw (o, e)) (λ e. rw (o, e)))
