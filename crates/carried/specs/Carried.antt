-- The blocks carried in (document 02, L9), which follow the references of a ticket, read from a position on: a part for each disk. Assumes nothing.
use Rattle.std.specs.Prelude.{◌≡◌, cond, Result, Ok, Err, List, [], ◌∷◌, ℕ, suc, ◌+◌, ◌*◌, eqb, length, get_or, set}
use Rattle.refusal.specs.declared.Refusal.{Refusal}
use Rattle.refusal.specs.declared.Refusal.TheVariants.{CarriedCount, CarriedBlock}
use Rattle.entries.specs.Parts.{entry_at, unread_refusal, Entries, Filled, part_at}
use Rattle.entries.specs.declared.Row.{Row}
use Rattle.entries.specs.declared.Part.{Part}
use Rattle.entries.specs.declared.Unread.{Unread}
use Rattle.entries.specs.declared.Unread.TheVariants.{Outside}

-- "a 7-bit count of blocks already in its buffer", of a disk with so many slots. "25, a count above the slots".
abbrev pub carried_row : ℕ → Row Refusal
carried_row slots = record { width = 7; least = 0; limit = slots + 1; refusal = CarriedCount }

-- One of "their 9-bit numbers in strictly rising order". "26, a number not above the one before it, B or more",
abbrev pub block_row : ℕ → ℕ → Row Refusal
block_row least blocks = record { width = 9; least = least; limit = blocks; refusal = CarriedBlock }

-- "or on another disk" than d; `disks` has the disk of each block.
unfoldable pub on_disk : List ℕ → ℕ → Result ℕ (Unread Refusal) → Result ℕ (Unread Refusal)
on_disk disks d (Ok b) = cond (eqb (get_or disks b 0) d) (Ok b) (Err (Outside CarriedBlock))
on_disk disks d (Err r) = Err r

-- The number at the bit `at`, of a block on disk d.
unfoldable pub block_at : List ℕ → List ℕ → (d at least : ℕ) → Result ℕ (Unread Refusal)
unfolding on_disk entry_at
block_at t disks d at least = on_disk disks d (entry_at t at (block_row least (length disks)))

abbrev pub blocks_on : List ℕ → List ℕ → ℕ → Entries (Unread Refusal)
blocks_on t disks d = record { width = 9; entry = λ at least. block_at t disks d at least }

-- The blocks carried in on disk d, which has so many slots: written from place d * 64 on.
abbrev pub disk_part : List ℕ → List ℕ → (at d slots : ℕ) → List ℕ → Filled (Unread Refusal)
disk_part t disks at d slots table = part_at t at (carried_row slots) (blocks_on t disks d) (d * 64) table

-- What was read of all disks: their number and the bit after them, or its refusal; how many blocks are carried in on each, and which.
pub record Carried : Type 0 where
  pub part : Result Part Refusal
  pub held : List ℕ
  pub table : List ℕ

-- A disk whose part is refused ends it; another goes on.
unfoldable pub carried_by : Result Part (Unread Refusal) → (held table : List ℕ) → (Part → Carried) → Carried
carried_by (Ok p) held table more = more p
carried_by (Err u) held table more = record { part = Err (unread_refusal u); held = held; table = table }

-- "for each disk": the parts of the disks from d on, which have these slots.
unfoldable pub carried_parts : List ℕ → List ℕ → (at d : ℕ) (slots held table : List ℕ) → Carried
unfolding carried_by part_at
carried_parts t disks at d [] held table = record { part = Ok (record { count = d; next = at }); held = held; table = table }
carried_parts t disks at d (slots ∷ others) held table =
    let f = disk_part t disks at d slots table in
    carried_by f.part held f.table λ p. carried_parts t disks p.next (suc d) others (set held d p.count) f.table

-- A part and two tables are those of what was read.
abbrev pub Gives : Carried → Result Part Refusal → (held table : List ℕ) → Type 0
Gives c part held table = (part ≡ c.part) × (held ≡ c.held) × (table ≡ c.table)
