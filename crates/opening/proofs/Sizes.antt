-- The pointers that have moved on are within the references, and the residents are the blocks carried in. Assumes nothing.
use mathlib.Core.Path.{◌≡◌, refl, sym, ◌∙◌, subst}
use mathlib.Core.Bool.{Bool}
use mathlib.Core.List.{List}
use Prim.Native.Nat.{ℕ, zero, suc, ◌+◌, ◌≤◌}
use native.Mathlib.Omega.{arith}
use lib.ListN.{length, get_or}
use Rattle.std.proofs.Common.{add-one}
use Rattle.bits.specs.Bits.{Below}
use Rattle.bits.proofs.Fields.{below_any}
use Rattle.lookup.specs.declared.Desk.{Desk}
use Rattle.lookup.specs.declared.Steps.{Steps}
use Rattle.lookup.specs.Desk.{passed}
use Rattle.lookup.proofs.Rows.{below_set}
use Rattle.moving.specs.Moving.{Ahead, moved_on}
use Rattle.moving.proofs.PointerRight.{moved_moved}
use Rattle.opening.specs.Opening.{moved_all, passed_all, carried_desk}
use Rattle.playing.specs.declared.Buffers.{Buffers}

module _ (refs : List ℕ) (resident : List Bool) (steps : Steps) (few : length refs ≤ 2048) (ahead : Ahead (length refs) steps.of_disk) where
  pub look_within : (d : ℕ) (desk : Desk) → Below (suc (length refs)) desk.look → get_or desk.look d 0 ≤ length refs
  look_within d desk h = let w = below_any (suc (length refs)) desk.look (omega arith) h d in omega (arith, w)

  pub moved_within : (d : ℕ) (desk : Desk) → Below (suc (length refs)) desk.look → Below (suc (length refs)) (moved_on refs resident steps d desk).look
  unfolding moved_on
  moved_within d desk h =
      let end = (moved_moved refs resident steps ahead d desk few).within (look_within d desk h) in
      below_set (suc (length refs)) desk.look d _ h (omega (arith, end))

  all_within : (d : ℕ) (desk : Desk) → Below (suc (length refs)) desk.look → Below (suc (length refs)) (moved_all refs resident steps d desk).look
  unfolding moved_all
  all_within zero desk h = h
  all_within (suc d) desk h = moved_within d (moved_all refs resident steps d desk) (all_within d desk h)

-- Reading changes the distances alone,
passed_look : (refs : List ℕ) (steps : Steps) (i : ℕ) (desk : Desk) → (passed_all refs steps i desk).look ≡ desk.look
unfolding passed_all
passed_look refs steps zero desk = refl
passed_look refs steps (suc i) desk = passed_look refs steps i desk

passed_held : (refs : List ℕ) (steps : Steps) (i : ℕ) (desk : Desk) → (passed_all refs steps i desk).held ≡ desk.held
unfolding passed_all
passed_held refs steps zero desk = refl
passed_held refs steps (suc i) desk = passed_held refs steps i desk

-- and a pointer that moves on no resident.
moved_held : (refs : List ℕ) (resident : List Bool) (steps : Steps) (d : ℕ) (desk : Desk) → (moved_all refs resident steps d desk).held ≡ desk.held
unfolding moved_all moved_on
moved_held refs resident steps zero desk = refl
moved_held refs resident steps (suc d) desk = moved_held refs resident steps d desk

-- one step of each loop
pub moved_more : (refs : List ℕ) (resident : List Bool) (steps : Steps) (d : ℕ) (desk : Desk)
    → moved_all refs resident steps (d + 1) desk ≡ moved_on refs resident steps d (moved_all refs resident steps d desk)
unfolding moved_all
moved_more refs resident steps d desk = rw add-one refl

pub passed_more : (refs : List ℕ) (steps : Steps) (i : ℕ) (desk : Desk)
    → passed_all refs steps (i + 1) desk ≡ (let before = passed_all refs steps i desk in record before { next = passed refs steps i before.next })
unfolding passed_all
passed_more refs steps i desk = rw add-one refl

-- what `move_all` uses
pub ruleset on_the_way = (moved_more, moved_within, look_within)

-- the whole
module _ (b : Buffers) (blocks : List ℕ) (disks : ℕ) (refs : List ℕ) (steps : Steps) (desk : Desk) where
  pub carried_within : length refs ≤ 2048 → Ahead (length refs) steps.of_disk → Below (suc (length refs)) desk.look
      → Below (suc (length refs)) (carried_desk b blocks disks refs steps desk).look
  unfolding carried_desk
  carried_within few ahead h =
      subst (Below (suc (length refs))) (sym (passed_look refs steps b.next _))
      (all_within refs b.resident steps few ahead disks (record desk { held = blocks }) h)

  pub helds-carried : (carried_desk b blocks disks refs steps desk).held ≡ blocks
  unfolding carried_desk
  helds-carried = passed_held refs steps b.next _ ∙ moved_held refs b.resident steps disks (record desk { held = blocks })
