-- How many references a note has: `note_count` is their number, without making them. Assumes nothing.
use mathlib.Core.Path.{◌≡◌, refl, ap, ◌∙◌}
use Prim.Native.Nat.{ℕ, ◌*◌}
use native.Mathlib.Omega.{arith}
use lib.ListN.{length, length-append}
use Rattle.grammar.specs.Note.{Part, block, inside, Item, once, times, Side, first, next, Note, alone, mixed, part_refs, item_refs, side_refs, note_refs, part_count, item_count, side_count, note_count}
use Rattle.grammar.proofs.Lists.{repeated-length, in_turn_length}

mutual
  unfolding note_refs note_count

  pub part-count_is : (p : Part) → length (part_refs p) ≡ part_count p
  part-count_is (block b) = refl
  part-count_is (inside n) = note_count_is n

  pub item_count_is : (i : Item) → length (item_refs i) ≡ item_count i
  item_count_is (once p) = part-count_is p
  item_count_is (times p k) = repeated-length k (part_refs p) ∙ ap (λ (m : ℕ). k * m) (part-count_is p)

  pub side_count_is : (s : Side) → length (side_refs s) ≡ side_count s
  side_count_is (first i) = item_count_is i
  side_count_is (next s i) = length-append (side_refs s) (item_refs i) ∙ (omega (arith, side_count_is s, item_count_is i))

  pub note_count_is : (n : Note) → length (note_refs n) ≡ note_count n
  note_count_is (alone s) = side_count_is s
  note_count_is (mixed n s) = in_turn_length (note_refs n) (side_refs s) ∙ (omega (arith, note_count_is n, side_count_is s))
