-- Every reference of a note is a block, 0 to 511. Assumes nothing.
use mathlib.Core.Path.{◌≡◌}
use mathlib.Core.List.{List, [], ◌∷◌}
use Prim.Native.Nat.{ℕ, ◌≤◌, ◌<◌}
use lib.ListN.{length, get_or}
use Rattle.bits.specs.Reading.{given}
use Rattle.bits.proofs.Logic.{Each, each_at}
use Rattle.grammar.specs.Note.{Part, block, inside, Item, once, times, Side, first, next, Note, alone, mixed, ProperPart, ProperItem, ProperSide, Proper, in_turn, part_refs, item_refs, side_refs, note_refs}
use Rattle.grammar.specs.Reading.{note_answer}
use Rattle.grammar.proofs.Lists.{each_both, each-repeated}
use Rattle.grammar.proofs.Gives.{reads_exactly}

abbrev IsBlock : ℕ → Type 0
IsBlock b = b ≤ 511

in_turn_blocks : (left right : List ℕ) → Each IsBlock left → Each IsBlock right → Each IsBlock (in_turn left right)
unfolding in_turn Each
in_turn_blocks [] right p q = q
in_turn_blocks (a ∷ left) [] p q = p
in_turn_blocks (a ∷ left) (b ∷ right) p q = (p.0, (q.0, in_turn_blocks left right p.1 q.1))

mutual
  unfolding Each Proper note_refs

  part_blocks : (p : Part) → ProperPart p → Each IsBlock (part_refs p)
  part_blocks (block b) h = (h, tt)
  part_blocks (inside n) h = note_blocks n h

  item_blocks : (i : Item) → ProperItem i → Each IsBlock (item_refs i)
  item_blocks (once p) h = part_blocks p h
  item_blocks (times p k) h = each-repeated IsBlock k (part_refs p) (part_blocks p h.0)

  side_blocks : (s : Side) → ProperSide s → Each IsBlock (side_refs s)
  side_blocks (first i) h = item_blocks i h
  side_blocks (next s i) h = each_both IsBlock (side_refs s) (item_refs i) (side_blocks s h.0) (item_blocks i h.1)

  note_blocks : (n : Note) → Proper n → Each IsBlock (note_refs n)
  note_blocks (alone s) h = side_blocks s h
  note_blocks (mixed n s) h = in_turn_blocks (note_refs n) (side_refs s) (note_blocks n h.0) (side_blocks s h.1)

pub given_blocks : (t : List ℕ) (room : ℕ) (refs : List ℕ) → note_answer t room ≡ given refs → (i : ℕ) → i < length refs → get_or refs i 0 ≤ 511
given_blocks t room refs e i h =
    let r = (reads_exactly t room refs).0 e in
    each_at IsBlock refs (rw r.4 at (note_blocks r.0 r.1)) i 0 h
