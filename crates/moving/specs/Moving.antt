-- The pointer of a disk moves on to the first reference whose block is missing. Assumes nothing.
use Rattle.std.specs.Prelude.{Bool, false, cond, ◌&&◌, List, ℕ, zero, suc, ◌≤◌, ◌<◌, ltb, length, get_or, set}
use Rattle.lookup.specs.declared.Desk.{Desk}
use Rattle.lookup.specs.declared.Steps.{Steps}
use Rattle.lookup.specs.Desk.{passed}

-- Each of the first n entries of a table leads to a later position, n at most.
abbrev pub Ahead : ℕ → List ℕ → Type 0
Ahead n table = (i : ℕ) → i < n → (i < get_or table i 0) × (get_or table i 0 ≤ n)

-- A pointer moves on from p, over n references at most: to the first reference of its disk whose block is missing, or to the end. Where it passes a
-- reference, the row of later distances gets the next reference of that block.
unfoldable pub move_from : List ℕ → List Bool → Steps → ℕ → ℕ → List ℕ → ℕ × List ℕ
move_from refs resident steps zero p later = (p, later)
move_from refs resident steps (suc n) p later =
    cond (ltb p (length refs) && get_or resident (get_or refs p 0) false)
    (move_from refs resident steps n (get_or steps.of_disk p 0) (passed refs steps p later))
    (p, later)

-- The pointer of disk d moves on from where the desk has it, and the desk has it where it stops. No job has more than 2,048 references.
unfoldable pub moved_on : List ℕ → List Bool → Steps → ℕ → Desk → Desk
moved_on refs resident steps d desk =
    let moved = move_from refs resident steps 2048 (get_or desk.look d 0) desk.later in
    record desk { later = moved.1; look = set desk.look d moved.0 }
