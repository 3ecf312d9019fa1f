-- Counts of references as the code holds them, and room for more: 2,048 references in all have room. Assumes nothing.
use Rattle.std.specs.Prelude.{Bool, ℕ, ◌+◌, min, leb}
use Rattle.mixing.specs.declared.Place.{Place}

-- A count of references as the code holds it: 2049 for more than 2048.
abbrev pub capped : ℕ → ℕ
capped n = min n 2049

-- Whether there is room for so many references more.
abbrev pub room_for : Place → ℕ → Bool
room_for from n = leb (from.line + from.left + n) 2048
