-- How long a note can be that is given: each of its 2,048 references costs at most 72 characters, `511*1` in 16 pairs of parentheses, each with `*1`,
-- and ` | ` between two. Assumes nothing.
use mathlib.Core.Path.{◌≡◌, refl, ap, ◌∙◌}
use mathlib.Core.List.{List, [], ◌∷◌}
use Prim.Native.Nat.{ℕ, zero, suc, ◌+◌, ◌*◌, ◌≤◌}
use native.Mathlib.Omega.{arith}
use lib.ListN.{length, length-append}
use Rattle.bits.specs.Reading.{given}
use Rattle.model.specs.Text.{decimal}
use Rattle.model.proofs.Text.{decimal_one, decimal-few}
use Rattle.grammar.specs.Note.{Part, block, inside, Item, once, times, Side, first, next, Note, alone, mixed, ProperPart, ProperItem, ProperSide, Proper, part_text, item_text, side_text, note_text, note_refs, part_count, item_count, side_count, note_count, part_depth, item_depth, side_depth, note_depth}
use Rattle.grammar.specs.Reading.{note_answer}
use Rattle.grammar.proofs.Digits.{decimal-longer, by_digits}
use Rattle.grammar.proofs.Texts.{block-text, inside-text, once-text, times-text, first-text, next-text, alone-text, mixed-text}
use Rattle.grammar.proofs.Counts.{note_count_is}
use Rattle.grammar.proofs.Gives.{reads_exactly}

-- a count costs no more characters than it is
decimal-short : (k : ℕ) → 1 ≤ k → length (decimal k) ≤ k
decimal-short =
    by_digits (λ k. 1 ≤ k → length (decimal k) ≤ k)
    (λ d h p. rw (decimal_one d h) (omega arith))
    (λ v d h q so p. rw (decimal-longer v d h q) (omega (arith, so h, length-append (decimal v) ((48 + d) ∷ []))))

grow : (k x : ℕ) → 1 ≤ k → x ≤ k * x
grow zero x h = absurd (omega arith)
grow (suc k) x h = omega arith

-- A text of c references costs w characters for each, with the 3 of ` | `.
record Cost (x : List ℕ) (c w : ℕ) : Type 0 where
  some : 1 ≤ c
  few : length x + 3 ≤ w * c

-- Each pair of parentheses costs 4, with its `*1`.
mutual
  unfolding Proper note_count note_depth

  part_cost : (p : Part) → ProperPart p → (d : ℕ) → part_depth p ≤ d → Cost (part_text p) (part_count p) (6 + 4 * d)
  part_cost (block b) h d e = record { some = omega arith; few = rw block-text (omega (arith, decimal-few 2 b (omega arith))) }
  part_cost (inside n) h zero e = absurd (omega arith)
  part_cost (inside n) h (suc d) e =
      let so = note_cost n h d (omega arith) in
      record { some = so.some; few = rw inside-text (omega (arith, so, length-append (note_text n) (41 ∷ []))) }

  item_cost : (i : Item) → ProperItem i → (d : ℕ) → item_depth i ≤ d → Cost (item_text i) (item_count i) (8 + 4 * d)
  item_cost (once p) h d e = let so = part_cost p h d e in record { some = so.some; few = rw once-text (omega (arith, so)) }
  item_cost (times p k) h d e =
      let so = part_cost p h.0 d e in
      let many = grow k ((6 + 4 * d) * part_count p) h.1 in
      let each = grow (part_count p) k so.some in
      record {
        some = omega (arith, each, h.1);
        few = rw times-text (omega (arith, so, many, each, decimal-short k h.1, length-append (part_text p) (42 ∷ decimal k), h.1));
      }

  side_cost : (s : Side) → ProperSide s → (d : ℕ) → side_depth s ≤ d → Cost (side_text s) (side_count s) (8 + 4 * d)
  side_cost (first i) h d e = rw first-text (item_cost i h d e)
  side_cost (next s i) h d e =
      let left = side_cost s h.0 d (omega arith) in
      let right = item_cost i h.1 d (omega arith) in
      record { some = omega (arith, left); few = rw next-text (omega (arith, left, right, length-append (side_text s) (32 ∷ item_text i))) }

  note_cost : (n : Note) → Proper n → (d : ℕ) → note_depth n ≤ d → Cost (note_text n) (note_count n) (8 + 4 * d)
  note_cost (alone s) h d e = rw alone-text (side_cost s h d e)
  note_cost (mixed n s) h d e =
      let left = note_cost n h.0 d (omega arith) in
      let right = side_cost s h.1 d (omega arith) in
      record { some = omega (arith, left); few = rw mixed-text (omega (arith, left, right, length-append (note_text n) (32 ∷ 124 ∷ 32 ∷ side_text s))) }

-- A text that is given is at most that long.
pub note-length : (t : List ℕ) (room : ℕ) (refs : List ℕ) → note_answer t room ≡ given refs → length t ≤ 147453
note-length t room refs e =
    let r = (reads_exactly t room refs).0 e in
    let cost = (note_cost r.0 r.1 16 r.3).few in
    omega (arith, cost, ap length r.2, ap length r.4, note_count_is r.0, r.5)

-- And one is that long: so many references more, mixed, each in 16 pairs of parentheses.
deep_item : ℕ → Item
deep_item zero = times (block 511) 1
deep_item (suc d) = times (inside (alone (first (deep_item d)))) 1

long_note : ℕ → Note
long_note zero = alone (first (deep_item 16))
long_note (suc k) = mixed (long_note k) (first (deep_item 16))

deep_proper : (d : ℕ) → ProperItem (deep_item d)
unfolding deep_item Proper
deep_proper zero = (omega arith, omega arith, omega arith)
deep_proper (suc d) = (deep_proper d, omega arith, omega arith)

long_proper : (k : ℕ) → Proper (long_note k)
unfolding long_note Proper
long_proper zero = deep_proper 16
long_proper (suc k) = (long_proper k, deep_proper 16)

long_depth : (k : ℕ) → note_depth (long_note k) ≡ 16
unfolding long_note deep_item note_depth
long_depth zero = refl
long_depth (suc k) = omega (arith, long_depth k)

long-count : (k : ℕ) → note_count (long_note k) ≡ suc k
unfolding long_note deep_item note_count
long-count zero = refl
long-count (suc k) = omega (arith, long-count k)

deep-length : length (side_text (first (deep_item 16))) ≡ 69
unfolding deep_item note_text
deep-length = refl

long-length : (k : ℕ) → length (note_text (long_note k)) ≡ 69 + 72 * k
unfolding long_note
long-length zero = rw alone-text (deep-length ∙ (omega arith))
long-length (suc k) =
    let side = side_text (first (deep_item 16)) in
    rw mixed-text (omega (arith, long-length k, deep-length, length-append (note_text (long_note k)) (32 ∷ 124 ∷ 32 ∷ side)))

pub note_longest : (t : List ℕ) × (refs : List ℕ) × (note_answer t 2048 ≡ given refs) × (length t ≡ 147453)
note_longest =
    let n = long_note 2047 in
    let c : length (note_refs n) ≡ 2048 = note_count_is n ∙ long-count 2047 in
    let few : length (note_refs n) ≤ 2048 = omega arith in (
      note_text n,
      note_refs n,
      (reads_exactly (note_text n) 2048 (note_refs n)).1 (n, long_proper 2047, refl, omega (arith, long_depth 2047), refl, few, few),
      long-length 2047,
    )
