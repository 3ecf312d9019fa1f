-- Parentheses: how many are open after a text, the most at a time, and that this is a note's depth. Assumes nothing.
use mathlib.Core.Path.{◌≡◌, refl, ap, ◌∙◌}
use mathlib.Core.List.{List, [], ◌∷◌, ◌++◌}
use Prim.Native.Nat.{ℕ, zero, suc, pred, ◌+◌, ◌≤◌, max}
use native.Mathlib.Omega.{arith}
use lib.Dec.{eqb, leb}
use lib.ListN.{length, take}
use borrow.Author.Tests.{ne_eqb, leb-true, leb-false}
use Rattle.bits.proofs.Logic.{by_test}
use Rattle.model.specs.Text.{decimal}
use Rattle.model.proofs.Text.{decimal_one}
use Rattle.grammar.specs.Note.{Part, block, inside, Item, once, times, Side, first, next, Note, alone, mixed, part_text, item_text, side_text, note_text, part_depth, item_depth, side_depth, note_depth}
use Rattle.grammar.specs.Reading.{State}
use Rattle.grammar.specs.Places.{opened_by, opened_from, opened}
use Rattle.grammar.proofs.Digits.{decimal-longer, by_digits}
use Rattle.grammar.proofs.Texts.{block-text, inside-text, once-text, times-text, first-text, next-text, alone-text, mixed-text}
use Rattle.grammar.proofs.Steps.{Digit, Step, opens, numbers, block_on, stars, counts, count_on, closes, spaces, bars, mixes}

pub opened_append : (k : ℕ) (a l : List ℕ) → opened_from k (a ++ l) ≡ opened_from (opened_from k a) l
unfolding opened_from
opened_append k [] l = refl
opened_append k (c ∷ a) l = opened_append (opened_by k c) a l

pub opened_last : (k : ℕ) (a : List ℕ) (c : ℕ) → opened_from k (a ++ c ∷ []) ≡ opened_by (opened_from k a) c
unfolding opened_from
opened_last k a c = opened_append k a (c ∷ [])

pub opened_up : (k c : ℕ) → opened_by k c ≤ suc k
opened_up k c =
    let down : pred k ≤ suc k = omega arith in
    by_test (eqb c 40) (λ t. rw t (omega arith)) (λ t. by_test (eqb c 41) (λ u. rw (t, u) down) (λ u. rw (t, u) (omega arith)))

-- no other character opens or closes
plain : (k c : ℕ) → (c ≡ 40 → ⊥) → (c ≡ 41 → ⊥) → opened_by k c ≡ k
plain k c p q = rw (ne_eqb c 40 p, ne_eqb c 41 q)

plain_digit : (k : ℕ) {c d : ℕ} → Digit c d → opened_by k c ≡ k
plain_digit k {c} g = plain k c (omega arith) (omega arith)

-- a step opens and closes as its character says
pub step_opened : {c : ℕ} {s t : State} → Step c s t → opened_by (length s.outer) c ≡ length t.outer
step_opened (opens {o = o} e w) = ap (opened_by (length o)) e
step_opened (numbers {o = o} g w) = plain_digit (length o) g
step_opened (block_on {o = o} g p q) = plain_digit (length o) g
step_opened (stars {o = o} e) = ap (opened_by (length o)) e
step_opened (counts {o = o} g h) = plain_digit (length o) g
step_opened (count_on {o = o} g p q) = plain_digit (length o) g
step_opened (closes {o = o} e) = ap (opened_by (suc (length o))) e
step_opened (spaces {o = o} e) = ap (opened_by (length o)) e
step_opened (bars {o = o} e) = ap (opened_by (length o)) e
step_opened (mixes {o = o} e) = ap (opened_by (length o)) e

-- The most that are open at a time.
unfoldable pub most_from : ℕ → List ℕ → ℕ
most_from k [] = k
most_from k (c ∷ l) = max k (most_from (opened_by k c) l)

most_low : (k : ℕ) (l : List ℕ) → k ≤ most_from k l
unfolding most_from
most_low k [] = omega arith
most_low k (c ∷ l) = omega arith

pub most_append : (k : ℕ) (a l : List ℕ) → most_from k (a ++ l) ≡ max (most_from k a) (most_from (opened_from k a) l)
unfolding most_from opened_from
most_append k [] l = omega (arith, most_low k l)
most_append k (c ∷ a) l = omega (arith, most_append (opened_by k c) a l)

pub most_last : (k : ℕ) (a : List ℕ) (c : ℕ) → most_from k (a ++ c ∷ []) ≡ max (most_from k a) (opened_from k (a ++ c ∷ []))
unfolding most_from opened_from
most_last k [] c = refl
most_last k (x ∷ a) c = omega (arith, most_last (opened_by k x) a c)

pub front_most : (k j : ℕ) (l : List ℕ) → opened_from k (take j l) ≤ most_from k l
unfolding most_from opened_from
front_most k zero l = most_low k l
front_most k (suc j) [] = omega arith
front_most k (suc j) (c ∷ l) = omega (arith, front_most (opened_by k c) j l)

pub most_met : (k : ℕ) (l : List ℕ) → (j : ℕ) × (opened_from k (take j l) ≡ most_from k l)
unfolding most_from opened_from
most_met k [] = (0, refl)
most_met k (c ∷ l) =
    let so = most_met (opened_by k c) l in
    by_test (leb k (most_from (opened_by k c) l))
    (λ t. (suc so.0, so.1 ∙ (omega (arith, leb-true k (most_from (opened_by k c) l) t))))
    (λ t. (0, omega (arith, leb-false k (most_from (opened_by k c) l) t)))

-- A text that closes what it opens, and has d open at the most.
record Level (x : List ℕ) (d : ℕ) : Type 0 where
  closed : (k : ℕ) → opened_from k x ≡ k
  most : (k : ℕ) → most_from k x ≡ k + d

level_one : (c : ℕ) → (c ≡ 40 → ⊥) → (c ≡ 41 → ⊥) → Level (c ∷ []) 0
unfolding most_from opened_from
level_one c p q = record { closed = λ k. plain k c p q; most = λ k. omega (arith, plain k c p q) }

level_append : {a b : List ℕ} {d e f : ℕ} → Level a d → Level b e → f ≡ max d e → Level (a ++ b) f
level_append {a} {b} {d} {e} p q h = record {
  closed = λ k. opened_append k a b ∙ (rw (p.closed k) (q.closed k));
  most = λ k. most_append k a b ∙ (rw (p.closed k) (omega (arith, p.most k, q.most k)));
}

level_inside : {x : List ℕ} {d : ℕ} → Level x d → Level (40 ∷ (x ++ 41 ∷ [])) (suc d)
unfolding most_from opened_from
level_inside {x} {d} p = record {
  closed = λ k. opened_append (suc k) x (41 ∷ []) ∙ (rw (p.closed (suc k)));
  most = λ k.
      let all = most_append (suc k) x (41 ∷ []) in
      let last : most_from (opened_from (suc k) x) (41 ∷ []) ≡ suc k = rw (p.closed (suc k)) (omega arith) in
      omega (arith, p.most (suc k));
}

level_decimal : (n : ℕ) → Level (decimal n) 0
level_decimal =
    by_digits (λ n. Level (decimal n) 0)
    (λ d h. rw (decimal_one d h) (level_one (48 + d) (omega arith) (omega arith)))
    (λ v d h q so. rw (decimal-longer v d h q) (level_append so (level_one (48 + d) (omega arith) (omega arith)) (omega arith)))

level_cons : (c : ℕ) {x : List ℕ} {d : ℕ} → (c ≡ 40 → ⊥) → (c ≡ 41 → ⊥) → Level x d → Level (c ∷ x) d
level_cons c p q h = level_append (level_one c p q) h (omega arith)

level_bar : {x : List ℕ} {d : ℕ} → Level x d → Level (32 ∷ 124 ∷ 32 ∷ x) d
level_bar h = level_cons 32 (omega arith) (omega arith) (level_cons 124 (omega arith) (omega arith) (level_cons 32 (omega arith) (omega arith) h))

-- Each part, item, side and note is level at its depth.
mutual
  unfolding note_depth

  part_level : (p : Part) → Level (part_text p) (part_depth p)
  part_level (block b) = rw block-text (level_decimal b)
  part_level (inside n) = rw inside-text (level_inside (note_level n))

  item_level : (i : Item) → Level (item_text i) (item_depth i)
  item_level (once p) = rw once-text (part_level p)
  item_level (times p k) = rw times-text (level_append (part_level p) (level_cons 42 (omega arith) (omega arith) (level_decimal k)) (omega arith))

  side_level : (s : Side) → Level (side_text s) (side_depth s)
  side_level (first i) = rw first-text (item_level i)
  side_level (next s i) = rw next-text (level_append (side_level s) (level_cons 32 (omega arith) (omega arith) (item_level i)) refl)

  note_level : (n : Note) → Level (note_text n) (note_depth n)
  note_level (alone s) = rw alone-text (side_level s)
  note_level (mixed n s) = rw mixed-text (level_append (note_level n) (level_bar (side_level s)) refl)

-- A note's depth is the most that are open at a time.
pub most_depth : (n : Note) → most_from 0 (note_text n) ≡ note_depth n
most_depth n = (note_level n).most 0 ∙ (omega arith)

pub depth_most : (n : Note) → ((j : ℕ) → opened (take j (note_text n)) ≤ note_depth n) × ((j : ℕ) × (opened (take j (note_text n)) ≡ note_depth n))
depth_most n =
    let m = most_met 0 (note_text n) in
    (λ j. omega (arith, front_most 0 j (note_text n), most_depth n), (m.0, m.1 ∙ most_depth n))
