-- The round count at the start of a sheet. Document 01, "Ticket and sheet": "A sheet is a 12-bit round count R". Assumes nothing.
use Rattle.std.specs.Prelude.{List, ℕ, ◌+◌, ◌*◌, ◌/◌, ◌%◌, get_or, set}

-- A sheet with the round count in its first 12 bits, which were zero: the first byte, and the upper half of the second.
unfoldable pub headed : List ℕ → ℕ → List ℕ
headed s rounds = set (set s 0 (rounds / 16)) 1 (get_or s 1 0 + rounds % 16 * 16)
