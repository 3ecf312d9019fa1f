-- The desk after a block was taken in, and what is written of a disk's choice. Assumes nothing.
use mathlib.Core.Path.{◌≡◌, refl}
use mathlib.Core.Bool.{Bool, false}
use mathlib.Core.List.{List}
use Prim.Native.Nat.{ℕ, ◌≤◌, ◌<◌}
use lib.Dec.{lit<}
use lib.ListN.{length, get_or, set}
use Rattle.bits.specs.Bits.{Below}
use Rattle.bits.proofs.Fields.{below_any}
use Rattle.model.specs.Page.{reason}
use Rattle.model.specs.Playing.{is_resident}
use Rattle.model.specs.Rules.{action}
use Rattle.model.specs.Rules.{Choice as RuleChoice}
use Rattle.lookup.specs.declared.Desk.{Desk}
use Rattle.lookup.specs.declared.Steps.{Steps}
use Rattle.moving.specs.Moving.{Ahead, move_from, moved_on}
use Rattle.moving.proofs.PointerRight.{Moved, moved_moved, moved_stops}
use Rattle.choosing.specs.Choosing.{meaning}
use Rattle.choosing.specs.declared.Choice.{Choice}
use Rattle.choosing.specs.declared.Choice.TheVariants.{IntoEmpty, OverMinBlock, MinBlockSooner, Waits, NoneMissing}
use Rattle.writing.specs.Writing.{action_in}
use Rattle.writing.specs.Writing.{Small as SmallAction}
use Rattle.writing.specs.declared.Action.{Action}
use Rattle.acting.specs.Acting.{Small, noted, taken_in}

-- The desk after block u was taken in at a place of disk d: its rows, and where the pointer stops.
pub record RowsAfter (refs : List ℕ) (resident : List Bool) (steps : Steps) (d u place : ℕ) (desk after : Desk) : Type 0 where
  pub end : ℕ
  pub same_nexts : after.next ≡ desk.next
  pub new_helds : after.held ≡ set desk.held place u
  pub new_looks : after.look ≡ set desk.look d end
  pub moved : Moved refs resident steps desk.later (get_or desk.look d 0) end after.later
  pub stops : end < length refs → is_resident resident (get_or refs end 0) ≡ false

pub rows_after : (refs : List ℕ) (resident : List Bool) (steps : Steps) (d u place : ℕ) (desk : Desk) → length refs ≤ 2048
    → Ahead (length refs) steps.of_disk → RowsAfter refs resident steps d u place desk (taken_in refs resident steps d u place desk)
unfolding moved_on
rows_after refs resident steps d u place desk few ahead =
    let first : Desk = record desk { held = set desk.held place u } in
    record {
      end = (move_from refs resident steps 2048 (get_or desk.look d 0) desk.later).0;
      same_nexts = refl;
      new_helds = refl;
      new_looks = refl;
      moved = moved_moved refs resident steps ahead d first few;
      stops = moved_stops refs resident steps ahead d first few;
    }

-- What a choice of the model says of an action: what is done, and the reason.
abbrev pub Says : RuleChoice → Action → Type 0
Says c a = (action_in a ≡ action c) × (a.reason ≡ reason c)

-- what is noted is the model's choice, and its blocks are of the 512
pub noted_is : (residents : List ℕ) (c : Choice) → Says (meaning residents c) (noted residents c)
noted_is residents (IntoEmpty u place) = (refl, refl)
noted_is residents (OverMinBlock u place) = (refl, refl)
noted_is residents MinBlockSooner = (refl, refl)
noted_is residents Waits = (refl, refl)
noted_is residents NoneMissing = (refl, refl)

pub noted_small : (residents : List ℕ) → Below 512 residents → (c : Choice) → Small c → SmallAction (noted residents c)
noted_small residents below (IntoEmpty u place) small = (small.0, tt)
noted_small residents below (OverMinBlock u place) small = (small.0, below_any 512 residents (lit< tt) below place)
noted_small residents below MinBlockSooner small = (tt, tt)
noted_small residents below Waits small = (tt, tt)
noted_small residents below NoneMissing small = (tt, tt)
