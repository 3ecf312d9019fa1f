-- What has been read where reading stands: each step adds its character, and all that a state holds is proper. Assumes nothing.
use mathlib.Core.Path.{◌≡◌, refl, sym, ap, ◌∙◌}
use mathlib.Core.List.{List, [], ◌∷◌, ◌++◌, append_assoc, append-nil}
use mathlib.Core.Option.{Option, none, some}
use Prim.Native.Nat.{ℕ, ◌+◌, ◌*◌, ◌≤◌}
use native.Mathlib.Omega.{arith}
use Rattle.bits.proofs.Logic.{Each}
use Rattle.model.specs.Text.{decimal}
use Rattle.model.proofs.Text.{decimal_one}
use Rattle.grammar.specs.Note.{block, inside, Item, once, times, Side, Note, ProperPart, ProperItem, ProperSide, Proper, part_text, item_text, side_text, note_text}
use Rattle.grammar.specs.Reading.{Before, nothing, side_with, mixed_with, note_with, Mode, begin, read, star, space, bar, State, state}
use Rattle.grammar.proofs.Digits.{decimal-longer}
use Rattle.grammar.proofs.Texts.{block-text, inside-text, once-text, times-text, first-text, next-text, alone-text, mixed-text}
use Rattle.grammar.proofs.Steps.{Starts, fresh, spaced, Digit, Step, opens, numbers, block_on, stars, counts, count_on, closes, spaces, bars, mixes}

-- The text of the sides before, and of the items before, with what stands between them and what follows.
unfoldable pub sides_text : Option Note → List ℕ
sides_text none = []
sides_text (some n) = note_text n ++ 32 ∷ 124 ∷ 32 ∷ []

unfoldable pub items_text : Option Side → List ℕ
items_text none = []
items_text (some s) = side_text s ++ 32 ∷ []

unfoldable pub before_text : Before → List ℕ
before_text b = sides_text b.sides ++ items_text b.items

unfoldable pub mode_text : Mode → List ℕ
mode_text (begin b) = before_text b
mode_text (read b i) = before_text b ++ item_text i
mode_text (star b p) = before_text b ++ (part_text p ++ 42 ∷ [])
mode_text (space n s) = sides_text n ++ (side_text s ++ 32 ∷ [])
mode_text (bar n) = note_text n ++ 32 ∷ 124 ∷ []

unfoldable pub outer_text : List Before → List ℕ
outer_text [] = []
outer_text (b ∷ o) = outer_text o ++ (before_text b ++ 40 ∷ [])

-- What has been read.
unfoldable pub so_far : State → List ℕ
so_far s = outer_text s.outer ++ mode_text s.mode

before_text_is : (b : Before) → before_text b ≡ sides_text b.sides ++ items_text b.items
unfolding before_text
before_text_is b = refl

before_nothing : before_text nothing ≡ []
unfolding before_text sides_text items_text
before_nothing = refl

before_sides : (n : Note) → before_text (record { sides = some n; items = none }) ≡ note_text n ++ 32 ∷ 124 ∷ 32 ∷ []
unfolding before_text sides_text items_text
before_sides n = append-nil (note_text n ++ 32 ∷ 124 ∷ 32 ∷ [])

-- the text of what ends with an item
pub side_with_text : (x : Option Side) (i : Item) → side_text (side_with x i) ≡ items_text x ++ item_text i
unfolding items_text
side_with_text none i = first-text i
side_with_text (some s) i = simp (next-text, append_assoc)

pub mixed_with_text : (x : Option Note) (s : Side) → note_text (mixed_with x s) ≡ sides_text x ++ side_text s
unfolding sides_text
mixed_with_text none s = alone-text s
mixed_with_text (some n) s = simp (mixed-text, append_assoc)

pub note_with_text : (b : Before) (i : Item) → note_text (note_with b i) ≡ before_text b ++ item_text i
unfolding before_text
note_with_text b i = simp (mixed_with_text, side_with_text, append_assoc)

starts_text : {m : Mode} {b : Before} → Starts m b → mode_text m ≡ before_text b
unfolding mode_text before_text items_text
starts_text fresh = refl
starts_text spaced = refl

-- a step within a note adds its character, if it does so to the text of the mode; and a digit is its own text
in_mode : (o : List Before) (m : Mode) (x : List ℕ) → mode_text m ≡ x → (t : Mode) (c : ℕ) → mode_text t ≡ x ++ c ∷ [] → so_far (state t o) ≡ so_far (state m o) ++ c ∷ []
unfolding so_far
in_mode o m x p t c q = rw (p, q) (sym (append_assoc (outer_text o) x (c ∷ [])))

digit-text : {c d : ℕ} → Digit c d → decimal d ≡ c ∷ []
digit-text {c} {d} g = decimal_one d g.small ∙ ap (λ (x : ℕ). x ∷ []) (sym g.written)

longer-text : {c d : ℕ} (v : ℕ) → Digit c d → 1 ≤ v → decimal (v * 10 + d) ≡ decimal v ++ c ∷ []
longer-text {c} {d} v g p = decimal-longer v d p g.small ∙ ap (λ (x : ℕ). decimal v ++ x ∷ []) (sym g.written)

open_text : (b : Before) (o : List Before) (m : Mode) → mode_text m ≡ before_text b → so_far (state (begin nothing) (b ∷ o)) ≡ so_far (state m o) ++ 40 ∷ []
unfolding so_far mode_text outer_text
open_text b o m e =
    rw (e, before_nothing) (append-nil (outer_text o ++ (before_text b ++ 40 ∷ [])) ∙ sym (append_assoc (outer_text o) (before_text b) (40 ∷ [])))

close_text : (b x : Before) (o : List Before) (i : Item)
    → so_far (state (read x (once (inside (note_with b i)))) o) ≡ so_far (state (read b i) (x ∷ o)) ++ 41 ∷ []
unfolding so_far mode_text outer_text
close_text b x o i = simp (once-text, inside-text, note_with_text, append_assoc)

-- a step adds its character
pub step_text : {c : ℕ} {s t : State} → Step c s t → so_far t ≡ so_far s ++ c ∷ []
unfolding mode_text
step_text {c} (opens {m = m} {b = b} {o = o} e w) = rw e (open_text b o m (starts_text w))
step_text {c} (numbers {m = m} {b = b} {o = o} {d = d} g w) = in_mode o m (before_text b) (starts_text w) (read b (once (block d))) c (simp (once-text, block-text, digit-text g))
step_text {c} (block_on {b = b} {o = o} {v = v} {d = d} g p q) =
    in_mode o (read b (once (block v))) _ refl (read b (once (block (v * 10 + d)))) c (simp (once-text, block-text, longer-text v g p, append_assoc))
step_text {c} (stars {b = b} {o = o} {p = p} e) = in_mode o (read b (once p)) _ refl (star b p) c (simp (e, once-text, append_assoc))
step_text {c} (counts {b = b} {o = o} {p = p} {d = d} g h) = in_mode o (star b p) _ refl (read b (times p d)) c (simp (times-text, digit-text g, append_assoc))
step_text {c} (count_on {b = b} {o = o} {p = p} {k = k} {d = d} g h q) =
    in_mode o (read b (times p k)) _ refl (read b (times p (k * 10 + d))) c (simp (times-text, longer-text k g h, append_assoc))
step_text {c} (closes {b = b} {x = x} {o = o} {i = i} e) = rw e (close_text b x o i)
step_text {c} (spaces {b = b} {o = o} {i = i} e) = in_mode o (read b i) _ refl (space b.sides (side_with b.items i)) c (simp (e, before_text_is, side_with_text, append_assoc))
step_text {c} (bars {n = n} {s = s} {o = o} e) = in_mode o (space n s) _ refl (bar (mixed_with n s)) c (simp (e, mixed_with_text, append_assoc))
step_text {c} (mixes {n = n} {o = o} e) = in_mode o (bar n) _ refl (begin (record { sides = some n; items = none })) c (simp (e, before_sides, append_assoc))

-- All that a state holds is proper.
abbrev pub ProperSides : Option Note → Type 0
ProperSides none = Unit {0}
ProperSides (some n) = Proper n

abbrev pub ProperItems : Option Side → Type 0
ProperItems none = Unit {0}
ProperItems (some s) = ProperSide s

abbrev pub ProperBefore : Before → Type 0
ProperBefore b = ProperSides b.sides × ProperItems b.items

abbrev pub ProperMode : Mode → Type 0
ProperMode (begin b) = ProperBefore b
ProperMode (read b i) = ProperBefore b × ProperItem i
ProperMode (star b p) = ProperBefore b × ProperPart p
ProperMode (space n s) = ProperSides n × ProperSide s
ProperMode (bar n) = Proper n

pub record ProperState (s : State) : Type 0 where
  pub mode : ProperMode s.mode
  pub outer : Each ProperBefore s.outer

pub side_with_proper : (x : Option Side) (i : Item) → ProperItems x → ProperItem i → ProperSide (side_with x i)
unfolding Proper
side_with_proper none i p q = q
side_with_proper (some s) i p q = (p, q)

pub mixed_with_proper : (x : Option Note) (s : Side) → ProperSides x → ProperSide s → Proper (mixed_with x s)
unfolding Proper
mixed_with_proper none s p q = q
mixed_with_proper (some n) s p q = (p, q)

pub note_with_proper : (b : Before) (i : Item) → ProperBefore b → ProperItem i → Proper (note_with b i)
note_with_proper b i p q = mixed_with_proper b.sides (side_with b.items i) p.0 (side_with_proper b.items i p.1 q)

starts_proper : {m : Mode} {b : Before} → Starts m b → ProperMode m → ProperBefore b
starts_proper fresh h = h
starts_proper spaced h = h

-- a step from a proper state leads to one
pub step_proper : {c : ℕ} {s t : State} → Step c s t → ProperState s → ProperState t
unfolding Proper Each
step_proper (opens e w) h = record { mode = (tt, tt); outer = (starts_proper w h.mode, h.outer) }
step_proper (numbers g w) h = record { mode = (starts_proper w h.mode, omega arith); outer = h.outer }
step_proper (block_on g p q) h = record { mode = (h.mode.0, omega arith); outer = h.outer }
step_proper (stars e) h = record { mode = h.mode; outer = h.outer }
step_proper (counts g d) h = record { mode = (h.mode.0, (h.mode.1, d, omega arith)); outer = h.outer }
step_proper (count_on g p q) h = record { mode = (h.mode.0, (h.mode.1.0, omega arith, omega arith)); outer = h.outer }
step_proper (closes {b = b} {i = i} e) h = record { mode = (h.outer.0, note_with_proper b i h.mode.0 h.mode.1); outer = h.outer.1 }
step_proper (spaces {b = b} {i = i} e) h = record { mode = (h.mode.0.0, side_with_proper b.items i h.mode.0.1 h.mode.1); outer = h.outer }
step_proper (bars {n = n} {s = s} e) h = record { mode = mixed_with_proper n s h.mode.0 h.mode.1; outer = h.outer }
step_proper (mixes e) h = record { mode = (h.mode, tt); outer = h.outer }
