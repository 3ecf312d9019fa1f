-- What one disk's action changes: the round's actions, and the desk. Assumes nothing.
use Rattle.std.specs.Prelude.{Bool, List, ℕ, ◌<◌, Option, Some, None, get_or, set}
use Rattle.model.specs.Page.{reason}
use Rattle.lookup.specs.declared.Desk.{Desk}
use Rattle.lookup.specs.declared.Steps.{Steps}
use Rattle.moving.specs.Moving.{moved_on}
use Rattle.choosing.specs.Choosing.{meaning}
use Rattle.choosing.specs.declared.Choice.{Choice}
use Rattle.choosing.specs.declared.Choice.TheVariants.{IntoEmpty, OverMinBlock, MinBlockSooner, Waits, NoneMissing}
use Rattle.writing.specs.declared.Action.{Action}

-- A choice that names a block of the 512 and a place of the 512.
abbrev pub Small : Choice → Type 0
Small (IntoEmpty u place) = (u < 512) × (place < 512)
Small (OverMinBlock u place) = (u < 512) × (place < 512)
Small MinBlockSooner = Unit {0}
Small Waits = Unit {0}
Small NoneMissing = Unit {0}

-- The block that a choice fetches, and the one that it discards, if any: over the min-block it discards the resident at the place that was chosen.
abbrev pub fetch_noted : Choice → Option ℕ
fetch_noted (IntoEmpty u place) = Some u
fetch_noted (OverMinBlock u place) = Some u
fetch_noted MinBlockSooner = None
fetch_noted Waits = None
fetch_noted NoneMissing = None

abbrev pub discard_noted : List ℕ → Choice → Option ℕ
discard_noted residents (IntoEmpty u place) = None
discard_noted residents (OverMinBlock u place) = Some (get_or residents place 0)
discard_noted residents MinBlockSooner = None
discard_noted residents Waits = None
discard_noted residents NoneMissing = None

-- The reason, as the place of its line in the legend of a page.
abbrev pub reason_noted : List ℕ → Choice → ℕ
reason_noted residents c = reason (meaning residents c)

-- The action of a choice, as it is written.
abbrev pub noted : List ℕ → Choice → Action
noted residents c = record { fetched = fetch_noted c; discarded = discard_noted residents c; reason = reason_noted residents c }

-- Block u stands at a place among the residents of disk d, and the disk's pointer moves on.
abbrev pub taken_in : List ℕ → List Bool → Steps → ℕ → ℕ → ℕ → Desk → Desk
taken_in refs resident steps d u place desk = moved_on refs resident steps d (record desk { held = set desk.held place u })
