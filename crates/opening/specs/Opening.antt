-- The desk of a plan before round 1: what the blocks carried in (document 02, L9) make of the desk of empty buffers. Assumes nothing.
use Rattle.std.specs.Prelude.{Bool, List, ℕ, zero, suc, take, replicate}
use Rattle.job.specs.declared.Job.{Job as Stored}
use Rattle.lookup.specs.declared.Desk.{Desk}
use Rattle.lookup.specs.declared.Steps.{Steps}
use Rattle.lookup.specs.Desk.{passed}
use Rattle.indexing.specs.Indexing.{opened, stepped}
use Rattle.moving.specs.Moving.{moved_on}
use Rattle.playing.specs.Playing.{start_buffers}
use Rattle.playing.specs.declared.Buffers.{Buffers}

-- The pointers of the disks below d moved on, one after the other.
unfoldable pub moved_all : List ℕ → List Bool → Steps → ℕ → Desk → Desk
unfolding moved_on
moved_all refs resident steps zero desk = desk
moved_all refs resident steps (suc d) desk = moved_on refs resident steps d (moved_all refs resident steps d desk)

-- The references below i read, one after the other: the distance of each one's block is that of its next reference.
unfoldable pub passed_all : List ℕ → Steps → ℕ → Desk → Desk
passed_all refs steps zero desk = desk
passed_all refs steps (suc i) desk =
    let before = passed_all refs steps i desk in
    record before { next = passed refs steps i before.next }

-- The residents are the blocks carried in, the pointers move on past them, and what can be read is read.
unfoldable pub carried_desk : Buffers → List ℕ → ℕ → List ℕ → Steps → Desk → Desk
unfolding moved_all passed_all
carried_desk b blocks disks refs steps desk = passed_all refs steps b.next (moved_all refs b.resident steps disks (record desk { held = blocks }))

-- Tables of zeros, of which the desk and the steps are made.
abbrev pub no_desk : Desk
no_desk = record { next = replicate 512 0; later = replicate 512 0; held = replicate 512 0; look = replicate 512 0 }

abbrev pub no_steps : Steps
no_steps = record { of_block = replicate 2048 0; of_disk = replicate 2048 0 }

-- The steps of a job by value,
unfoldable pub start_steps : Stored → Steps
unfolding stepped
start_steps c = stepped c.disk (take c.count c.refs) no_steps

-- and its desk before round 1. Neither depends on the slots.
unfoldable pub start_desk : Stored → Desk
unfolding start_buffers start_steps carried_desk opened
start_desk c =
    let refs = take c.count c.refs in
    carried_desk (start_buffers c) c.carried c.disks refs (start_steps c) (opened c.disk refs no_desk)
