-- Tables of forward distances, and the desk and the steps that are made of them. Document 01, "The two plans": "A block's distance is the position of
-- its first reference at or after the next read, or never." Assumes nothing.
use Rattle.std.specs.Prelude.{List, ℕ, suc, length, get_or}
use Rattle.bits.specs.Bits.{laid}
use Rattle.model.specs.Rules.{distance}
use Rattle.model.specs.Plans.{each}
use Rattle.lookup.specs.Lookup.{ref_disks}
use Rattle.lookup.specs.declared.Desk.{Desk}
use Rattle.lookup.specs.declared.Steps.{Steps}

-- For each number below n its first place in a list at or after p, or the list's length.
unfoldable pub firsts : List ℕ → ℕ → ℕ → List ℕ
firsts l n p = each (distance l p) 0 n

-- The next place of the value at place i of a list, or the list's length.
abbrev pub next_of : List ℕ → ℕ → ℕ
next_of l i = distance l (suc i) (get_or l i 0)

-- The next place of each value of a list, written at the start of a table as far as that reaches. What stands past them does not change.
unfoldable pub agains : List ℕ → List ℕ → List ℕ
agains l table = laid (each (next_of l) 0 (length l)) table

-- A desk for empty buffers: the first reference of each block, which is also the first from its disk's pointer on, and the first one of each disk.
-- No resident is listed, and what stands in that row does not change.
unfoldable pub opened : List ℕ → List ℕ → Desk → Desk
opened disks refs desk =
    let first = firsts refs 512 0 in
    record desk { next = first; later = first; look = firsts (ref_disks disks refs) 512 0 }

-- The steps of a job. What stands past its references does not change.
unfoldable pub stepped : List ℕ → List ℕ → Steps → Steps
stepped disks refs steps = record { of_block = agains refs steps.of_block; of_disk = agains (ref_disks disks refs) steps.of_disk }
