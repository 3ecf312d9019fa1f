-- A line of a page as it is printed: column by column, from the bytes of a sheet and of its reasons. Assumes nothing.
use Rattle.std.specs.Prelude.{cond, ◌&&◌, Option, Some, None, List, [], ◌∷◌, ℕ, ◌+◌, ◌/◌, ◌%◌, ltb, eqb, get_or}
use Rattle.bits.specs.Fields.{field_at}
use Rattle.model.specs.Page.{legend}
use Rattle.lines.specs.declared.Shown.{Shown}
use Rattle.lines.specs.declared.Place.{Place}

-- A column of a number that is right aligned: its digit of that unit, or a space before its digits;
unfoldable pub column_of : ℕ → ℕ → ℕ
column_of n unit = cond (ltb 1 unit && ltb n unit) 32 (48 + n / unit % 10)

-- and a column of a block, or of `---` where there is none.
unfoldable pub block_column : Option ℕ → ℕ → ℕ
block_column None unit = 45
block_column (Some b) unit = column_of b unit

-- A line: its round, its disk, the fetched and the discarded block, and the letter of its rule, with which the rule's line of the legend begins.
unfoldable pub line_bytes : ℕ → ℕ → Option ℕ → Option ℕ → ℕ → List ℕ
line_bytes round disk fetched discarded rule =
    column_of round 1000 ∷ column_of round 100 ∷ column_of round 10 ∷ column_of round 1 ∷ 32 ∷ column_of disk 1 ∷ 32
    ∷ block_column fetched 100 ∷ block_column fetched 10 ∷ block_column fetched 1 ∷ 32
    ∷ block_column discarded 100 ∷ block_column discarded 10 ∷ block_column discarded 1 ∷ 32
    ∷ get_or (get_or legend rule []) 0 0 ∷ 10 ∷ []

-- A field's value, 0 where the bytes end inside it.
abbrev pub value_of : Option ℕ → ℕ
value_of (Some v) = v
value_of None = 0

-- The action at the bit `at` of a sheet: the blocks that it fetches and discards, if any, and the bit after it.
unfoldable pub shown_at : List ℕ → ℕ → Shown
shown_at sheet at =
    cond (eqb (value_of (field_at sheet at 1)) 0) (record { fetched = None; discarded = None; next = at + 1 })
    (cond (eqb (value_of (field_at sheet (at + 10) 1)) 0)
    (record { fetched = Some (value_of (field_at sheet (at + 1) 9)); discarded = None; next = at + 11 })
    (record { fetched = Some (value_of (field_at sheet (at + 1) 9)); discarded = Some (value_of (field_at sheet (at + 11) 9)); next = at + 20 }))

-- The place after a line's: the next disk's, or that of disk 0 in the next round.
unfoldable pub place_after : Place → ℕ → ℕ → Place
place_after p next disks =
    cond (eqb (p.disk + 1) disks)
    (record { line = p.line + 1; at = next; round = p.round + 1; disk = 0 })
    (record { line = p.line + 1; at = next; round = p.round; disk = p.disk + 1 })

-- The line at a place.
abbrev pub line_at : List ℕ → List ℕ → Place → List ℕ
line_at sheet reasons p =
    let a = shown_at sheet p.at in
    line_bytes p.round p.disk a.fetched a.discarded (get_or reasons p.line 0)
