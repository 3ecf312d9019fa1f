-- How each kind of note is written, character by character: the equations of the definitions, with which nothing else need open them. Assumes
-- nothing.
use mathlib.Core.Path.{◌≡◌, refl}
use mathlib.Core.List.{[], ◌∷◌, ◌++◌}
use Prim.Native.Nat.{ℕ}
use Rattle.model.specs.Text.{decimal}
use Rattle.grammar.specs.Note.{Part, block, inside, Item, once, times, Side, first, next, Note, alone, mixed, part_text, item_text, side_text, note_text}

pub block-text : (b : ℕ) → part_text (block b) ≡ decimal b
unfolding note_text
block-text b = refl

-- "(" is 40 and ")" is 41
pub inside-text : (n : Note) → part_text (inside n) ≡ 40 ∷ (note_text n ++ 41 ∷ [])
unfolding note_text
inside-text n = refl

pub once-text : (p : Part) → item_text (once p) ≡ part_text p
unfolding note_text
once-text p = refl

-- "*" is 42
pub times-text : (p : Part) (k : ℕ) → item_text (times p k) ≡ part_text p ++ 42 ∷ decimal k
unfolding note_text
times-text p k = refl

pub first-text : (i : Item) → side_text (first i) ≡ item_text i
unfolding note_text
first-text i = refl

-- a space is 32
pub next-text : (s : Side) (i : Item) → side_text (next s i) ≡ side_text s ++ 32 ∷ item_text i
unfolding note_text
next-text s i = refl

pub alone-text : (s : Side) → note_text (alone s) ≡ side_text s
unfolding note_text
alone-text s = refl

-- "|" is 124
pub mixed-text : (n : Note) (s : Side) → note_text (mixed n s) ≡ note_text n ++ 32 ∷ 124 ∷ 32 ∷ side_text s
unfolding note_text
mixed-text n s = refl
