-- Document 02, L6, "Passes written as the geophysicists write them": what a note is, how it is written, and what it means. Assumes nothing.
use Rattle.std.specs.Prelude.{List, [], ◌∷◌, ◌++◌, ℕ, zero, suc, ◌+◌, ◌*◌, ◌≤◌, max}
use Rattle.model.specs.Text.{text, decimal}

mutual
  -- "a block number .. or a note in parentheses"
  pub data Part : Type 0 where
    block : ℕ → Part
    inside : Note → Part

  -- "and may be followed by `*` and a count"
  pub data Item : Type 0 where
    once : Part → Item
    times : Part → ℕ → Item

  -- "Items stand one space apart, read in order."
  pub data Side : Type 0 where
    first : Item → Side
    next : Side → Item → Side

  -- "Loosest is ` | `": sides are mixed, and "several group to the left".
  pub data Note : Type 0 where
    alone : Side → Note
    mixed : Note → Side → Note

-- "a block number 0 to 511", "a count 1 to 2048"
unfoldable mutual
  pub ProperPart : Part → Type 0
  ProperPart (block b) = b ≤ 511
  ProperPart (inside n) = Proper n

  pub ProperItem : Item → Type 0
  ProperItem (once p) = ProperPart p
  ProperItem (times p k) = ProperPart p × (1 ≤ k) × (k ≤ 2048)

  pub ProperSide : Side → Type 0
  ProperSide (first i) = ProperItem i
  ProperSide (next s i) = ProperSide s × ProperItem i

  pub Proper : Note → Type 0
  Proper (alone s) = ProperSide s
  Proper (mixed n s) = Proper n × ProperSide s

-- How a note is written, character by character. "Decimal numbers have no leading zeros, except 0 itself"; "Items stand one space apart"; ` | ` has
-- "one space on each side".
unfoldable mutual
  unfolding text decimal

  pub part_text : Part → List ℕ
  part_text (block b) = decimal b
  part_text (inside n) = text "(" ++ (note_text n ++ text ")")

  pub item_text : Item → List ℕ
  item_text (once p) = part_text p
  item_text (times p k) = part_text p ++ (text "*" ++ decimal k)

  pub side_text : Side → List ℕ
  side_text (first i) = item_text i
  side_text (next s i) = side_text s ++ (text " " ++ item_text i)

  pub note_text : Note → List ℕ
  note_text (alone s) = side_text s
  note_text (mixed n s) = note_text n ++ (text " | " ++ side_text s)

-- The same references so many times.
unfoldable pub repeated : ℕ → List ℕ → List ℕ
repeated zero l = []
repeated (suc k) l = l ++ repeated k l

-- "take one reference from the left and one from the right in turn, and when one side is used up, the rest of the other"
unfoldable pub in_turn : List ℕ → List ℕ → List ℕ
in_turn [] right = right
in_turn (a ∷ left) [] = a ∷ left
in_turn (a ∷ left) (b ∷ right) = a ∷ b ∷ in_turn left right

-- What a note means: its references.
unfoldable mutual
  unfolding repeated in_turn

  pub part_refs : Part → List ℕ
  part_refs (block b) = b ∷ []
  part_refs (inside n) = note_refs n

  pub item_refs : Item → List ℕ
  item_refs (once p) = part_refs p
  item_refs (times p k) = repeated k (part_refs p)

  pub side_refs : Side → List ℕ
  side_refs (first i) = item_refs i
  side_refs (next s i) = side_refs s ++ item_refs i

  pub note_refs : Note → List ℕ
  note_refs (alone s) = side_refs s
  note_refs (mixed n s) = in_turn (note_refs n) (side_refs s)

-- How many references these are (`note_count_is`), without making them: with seventeen counts of 2048 they would be 2 to the 187.
unfoldable mutual
  pub part_count : Part → ℕ
  part_count (block b) = 1
  part_count (inside n) = note_count n

  pub item_count : Item → ℕ
  item_count (once p) = part_count p
  item_count (times p k) = k * part_count p

  pub side_count : Side → ℕ
  side_count (first i) = item_count i
  side_count (next s i) = side_count s + item_count i

  pub note_count : Note → ℕ
  note_count (alone s) = side_count s
  note_count (mixed n s) = note_count n + side_count s

-- How many parentheses deep a note is: the most that are open at a time.
unfoldable mutual
  pub part_depth : Part → ℕ
  part_depth (block b) = 0
  part_depth (inside n) = suc (note_depth n)

  pub item_depth : Item → ℕ
  item_depth (once p) = part_depth p
  item_depth (times p k) = part_depth p

  pub side_depth : Side → ℕ
  side_depth (first i) = item_depth i
  side_depth (next s i) = max (side_depth s) (item_depth i)

  pub note_depth : Note → ℕ
  note_depth (alone s) = side_depth s
  note_depth (mixed n s) = max (note_depth n) (side_depth s)
