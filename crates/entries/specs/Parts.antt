-- A ticket's parts, read from a position on: each is a count and then that many entries. Assumes nothing.
use Rattle.std.specs.Prelude.{Bool, cond, ◌||◌, Option, Some, None, Result, Ok, Err, List, ℕ, zero, suc, ◌+◌, ltb, leb, set}
use Rattle.refusal.specs.declared.Refusal.{Refusal}
use Rattle.refusal.specs.declared.Refusal.TheVariants.{TicketEnds}
use Rattle.refusal.specs.Refusals.{number}
use Rattle.bits.specs.Reading.{Read, stop, Reader}
use Rattle.bits.specs.Fields.{field_at}
use Rattle.entries.specs.declared.Row.{Row}
use Rattle.entries.specs.declared.Part.{Part}
use Rattle.entries.specs.declared.Unread.{Unread}
use Rattle.entries.specs.declared.Unread.TheVariants.{Ends, Outside}

-- A value that is not among those of its row.
abbrev pub outside : {R : Type 0} → Row R → ℕ → Bool
outside row v = ltb v row.least || leb row.limit v

-- A field tested as its row says: that the ticket ends inside it comes before the row's own refusal.
unfoldable pub entry_of : {R : Type 0} → Row R → Option ℕ → Result ℕ (Unread R)
entry_of row (Some v) = cond (outside row v) (Err (Outside row.refusal)) (Ok v)
entry_of row None = Err Ends

-- The field of a row at the bit `at`.
unfoldable pub entry_at : {R : Type 0} → List ℕ → ℕ → Row R → Result ℕ (Unread R)
unfolding entry_of
entry_at t at row = entry_of row (field_at t at row.width)

-- The refusal of a ticket whose field is not read: 1 where the ticket ends inside it.
abbrev pub unread_refusal : Unread Refusal → Refusal
unread_refusal Ends = TicketEnds
unread_refusal (Outside r) = r

-- What a reader goes on with after a field: with the value and the bits after it, or not at all, refused with the number.
unfoldable pub entry_then : {A : Type 0} → List ℕ → (ℕ → Reader A) → Result ℕ (Unread Refusal) → Read A
entry_then rest more (Ok v) = more v rest
entry_then rest more (Err u) = stop (number (unread_refusal u))

-- The entries of a part: the bits of each, and what the one at the bit `at` gives; `least` is 1 above the value before it, 0 where there is none.
pub record Entries (E : Type 0) : Type 0 where
  pub width : ℕ
  pub entry : (at least : ℕ) → Result ℕ E

-- The entries of a row, whatever the value before.
abbrev pub of_row : {R : Type 0} → List ℕ → Row R → Entries (Unread R)
of_row t row = record { width = row.width; entry = λ at least. entry_at t at row }

-- A part that was read, or its refusal, and the table that its entries are written into.
pub record Filled (E : Type 0) : Type 0 where
  pub part : Result Part E
  pub table : List ℕ

-- A refusal ends the part, and leaves the table as it is; a value goes on.
unfoldable pub filled_by : {E : Type 0} → Result ℕ E → List ℕ → (ℕ → Filled E) → Filled E
filled_by (Ok v) table more = more v
filled_by (Err r) table more = record { part = Err r; table = table }

-- k entries from the bit `at` on, each written after the one before it, the first at i; of a part of `count` entries.
unfoldable pub fill : {E : Type 0} → Entries E → (count at least i k : ℕ) → List ℕ → Filled E
unfolding filled_by
fill e count at least i zero table = record { part = Ok (record { count = count; next = at }); table = table }
fill e count at least i (suc k) table = filled_by (e.entry at least) table λ v. fill e count (at + e.width) (suc v) (suc i) k (set table i v)

-- A part from the bit `at` on: a count of the row `counts`, and as many entries, the first written at i.
unfoldable pub part_at : {R : Type 0} → List ℕ → ℕ → Row R → Entries (Unread R) → ℕ → List ℕ → Filled (Unread R)
unfolding filled_by fill
part_at t at counts e i table = filled_by (entry_at t at counts) table λ n. fill e n (at + counts.width) 0 i n table
