-- The desk of a plan: what changes where a reference is passed. Assumes nothing.
use Rattle.std.specs.Prelude.{List, ℕ, get_or, set}
use Rattle.lookup.specs.declared.Steps.{Steps}

-- A row where a reference is passed: the cell of the reference's block is the block's next reference.
abbrev pub passed : List ℕ → Steps → ℕ → List ℕ → List ℕ
passed refs steps i row = set row (get_or refs i 0) (get_or steps.of_block i 0)
