-- Every note is read: reading goes through its text, however deep, and comes to its last item. So a note has one reading. Assumes nothing.
use mathlib.Core.Path.{◌≡◌, refl, sym, ap, ◌∙◌}
use mathlib.Core.List.{List, [], ◌∷◌, ◌++◌, append_assoc, append-nil}
use mathlib.Core.Option.{Option, none, some}
use Prim.Native.Nat.{ℕ, ◌+◌, ◌≤◌}
use native.Mathlib.Omega.{arith}
use Rattle.model.specs.Text.{decimal}
use Rattle.model.proofs.Text.{decimal_one}
use Rattle.grammar.specs.Note.{Part, block, inside, Item, once, times, Side, first, next, Note, alone, mixed, ProperPart, ProperItem, ProperSide, Proper, part_text, item_text, side_text, note_text}
use Rattle.grammar.specs.Reading.{Before, nothing, side_with, note_with, Mode, begin, read, star, space, bar, State, state, after, Outcome, whole, stuck, end_in, start}
use Rattle.grammar.proofs.Digits.{decimal-longer, by_digits}
use Rattle.grammar.proofs.Texts.{block-text, inside-text, once-text, times-text, first-text, next-text, alone-text, mixed-text}
use Rattle.grammar.proofs.Steps.{Starts, fresh, spaced, digit_of, Step, opens, numbers, block_on, stars, counts, count_on, closes, spaces, bars, mixes, step_after}

-- Reading on to the end, however many parentheses are open; none where a character came with which no note can go on.
abbrev go_on : Option State → ℕ → Option State
go_on none c = none
go_on (some s) c = after s c

unfoldable pub through : Option State → List ℕ → Option State
through x [] = x
through x (c ∷ l) = through (go_on x c) l

pub through_none : (l : List ℕ) → through none l ≡ none
unfolding through
through_none [] = refl
through_none (c ∷ l) = through_none l

pub through_append : (x : Option State) (a l : List ℕ) → through x (a ++ l) ≡ through (through x a) l
unfolding through
through_append x [] l = refl
through_append x (c ∷ a) l = through_append (go_on x c) a l

through_step : {c : ℕ} {s t : State} (l : List ℕ) → Step c s t → through (some s) (c ∷ l) ≡ through (some t) l
unfolding through
through_step l w = rw (step_after w)

-- The digits of a block, and of a count.
block_through : (v : ℕ) → v ≤ 511 → (m : Mode) (b : Before) → Starts m b → (o : List Before) (l : List ℕ)
    → through (some (state m o)) (decimal v ++ l) ≡ through (some (state (read b (once (block v))) o)) l
block_through =
    by_digits (λ v. v ≤ 511 → (m : Mode) (b : Before) → Starts m b → (o : List Before) (l : List ℕ)
    → through (some (state m o)) (decimal v ++ l) ≡ through (some (state (read b (once (block v))) o)) l)
    (λ d h p m b w o l. rw (decimal_one d h) (through_step l (numbers (digit_of h) w)))
    (λ v d h q so p m b w o l.
    rw (decimal-longer v d h q, append_assoc) (so (omega arith) m b w o ((48 + d) ∷ l) ∙ through_step l (block_on (digit_of q) h p)))

count_through : (k : ℕ) → 1 ≤ k → k ≤ 2048 → (b : Before) (p : Part) (o : List Before) (l : List ℕ)
    → through (some (state (star b p) o)) (decimal k ++ l) ≡ through (some (state (read b (times p k)) o)) l
count_through =
    by_digits (λ k. 1 ≤ k → k ≤ 2048 → (b : Before) (p : Part) (o : List Before) (l : List ℕ)
    → through (some (state (star b p) o)) (decimal k ++ l) ≡ through (some (state (read b (times p k)) o)) l)
    (λ d h one few b p o l. rw (decimal_one d h) (through_step l (counts (digit_of h) one)))
    (λ k d h q so one few b p o l.
    rw (decimal-longer k d h q, append_assoc) (so h (omega arith) b p o ((48 + d) ∷ l) ∙ through_step l (count_on (digit_of q) h few)))

-- A note as its last item and what stands before it.
last_item : Side → Item
last_item (first i) = i
last_item (next s i) = i

items_before : Side → Option Side
items_before (first i) = none
items_before (next s i) = some s

last_side : Note → Side
last_side (alone s) = s
last_side (mixed n s) = s

sides_before : Note → Option Note
sides_before (alone s) = none
sides_before (mixed n s) = some n

-- where reading stands after a note, or a side with these sides before it
abbrev after_side : Option Note → Side → Mode
after_side n s = read (record { sides = n; items = items_before s }) (last_item s)

pub after_note : Note → Mode
after_note n = after_side (sides_before n) (last_side n)

side-is : (s : Side) → side_with (items_before s) (last_item s) ≡ s
unfolding last_item items_before
side-is (first i) = refl
side-is (next s i) = refl

note_is : (n : Note) → note_with (record { sides = sides_before n; items = items_before (last_side n) }) (last_item (last_side n)) ≡ n
unfolding last_side sides_before
note_is (alone s) = ap alone (side-is s)
note_is (mixed n s) = ap (mixed n) (side-is s)

-- Reading goes through each part, item, side and note.
mutual
  unfolding Proper last_item items_before last_side sides_before after_note

  part_through : (p : Part) → ProperPart p → (m : Mode) (b : Before) → Starts m b → (o : List Before) (l : List ℕ)
      → through (some (state m o)) (part_text p ++ l) ≡ through (some (state (read b (once p)) o)) l
  part_through (block v) h m b w o l = rw block-text (block_through v (omega arith) m b w o l)
  part_through (inside n) h m b w o l =
      let rest : List ℕ = 41 ∷ l in
      rw (inside-text, append_assoc)
      (through_step (note_text n ++ rest) (opens refl w)
      ∙ note_through n h (b ∷ o) rest
      ∙ through_step l (closes refl)
      ∙ ap (λ (x : Note). through (some (state (read b (once (inside x))) o)) l) (note_is n))

  item_through : (i : Item) → ProperItem i → (m : Mode) (b : Before) → Starts m b → (o : List Before) (l : List ℕ)
      → through (some (state m o)) (item_text i ++ l) ≡ through (some (state (read b i) o)) l
  item_through (once p) h m b w o l = rw once-text (part_through p h m b w o l)
  item_through (times p k) h m b w o l =
      let rest : List ℕ = decimal k ++ l in
      rw (times-text, append_assoc) (part_through p h.0 m b w o (42 ∷ rest) ∙ through_step rest (stars refl) ∙ count_through k h.1 h.2 b p o l)

  side_through : (s : Side) → ProperSide s → (n : Option Note) (o : List Before) (l : List ℕ)
      → through (some (state (begin (record { sides = n; items = none })) o)) (side_text s ++ l) ≡ through (some (state (after_side n s) o)) l
  side_through (first i) h n o l = rw first-text (item_through i h (begin (record { sides = n; items = none })) (record { sides = n; items = none }) fresh o l)
  side_through (next s i) h n o l =
      let rest : List ℕ = item_text i ++ l in
      rw (next-text, append_assoc)
      (side_through s h.0 n o (32 ∷ rest)
      ∙ through_step rest (spaces refl)
      ∙ ap (λ (x : Side). through (some (state (space n x) o)) rest) (side-is s)
      ∙ item_through i h.1 (space n s) (record { sides = n; items = some s }) spaced o l)

  note_through : (n : Note) → Proper n → (o : List Before) (l : List ℕ) → through (some (state (begin nothing) o)) (note_text n ++ l) ≡ through (some (state (after_note n) o)) l
  note_through (alone s) h o l = rw alone-text (side_through s h none o l)
  note_through (mixed n s) h o l =
      let rest : List ℕ = side_text s ++ l in
      rw (mixed-text, append_assoc)
      (note_through n h.0 o (32 ∷ 124 ∷ 32 ∷ rest)
      ∙ through_step (124 ∷ 32 ∷ rest) (spaces refl)
      ∙ through_step (32 ∷ rest) (bars refl)
      ∙ ap (λ (x : Note). through (some (state (bar x) o)) (32 ∷ rest)) (note_is n)
      ∙ through_step rest (mixes refl)
      ∙ side_through s h.1 (some n) o l)

-- The whole text of a note leads from the start to where it ends, and there it is that note.
pub note_read : (n : Note) → Proper n → through (some start) (note_text n) ≡ some (state (after_note n) [])
unfolding through
note_read n h = rw (append-nil (note_text n)) at (note_through n h [] [])

pub note-ends : (n : Note) → end_in (after_note n) [] ≡ whole n
unfolding after_note end_in
note-ends n = ap whole (note_is n)

outcome_of : Option State → Outcome
outcome_of none = stuck 22 []
outcome_of (some s) = end_in s.mode s.outer

-- Two notes that are written alike are the same note.
pub one_reading : (n m : Note) → Proper n → Proper m → note_text n ≡ note_text m → n ≡ m
unfolding outcome_of
one_reading n m p q e =
    let same : some (state (after_note n) []) ≡ some (state (after_note m) []) = sym (note_read n p) ∙ ap (through (some start)) e ∙ note_read m q in
    let ends : whole n ≡ whole m = sym (note-ends n) ∙ ap outcome_of same ∙ note-ends m in
    cc
