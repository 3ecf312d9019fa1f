-- Where a text that is no note is turned away: document 02, L6, "22, malformed, met at the first character (or the end) with which no note can go on,
-- and 23, more than 16 parentheses open, whichever is met first from the left, and 22 where both fall on one character". The promises say these of
-- what reading comes to. A place k of a text is its character with k characters before it, or its end. Assumes nothing.
use Rattle.std.specs.Prelude.{◌≡◌, cond, List, [], ◌∷◌, ◌++◌, ℕ, suc, pred, ◌≤◌, ◌<◌, eqb, length, take}
use Prim.Native.Char.{code}
use Rattle.grammar.specs.Note.{Note, Proper, note_text}

-- The text is this note.
abbrev pub IsNote : List ℕ → Note → Type 0
IsNote t n = Proper n × (note_text n ≡ t)

-- A note can go on with it: some note begins with this text.
abbrev pub Begins : List ℕ → Type 0
Begins t = (n : Note) × (rest : List ℕ) × IsNote (t ++ rest) n

-- How many parentheses are open after a character, of so many before it; and after a text.
abbrev pub opened_by : ℕ → ℕ → ℕ
opened_by k c = cond (eqb c (code "(")) (suc k) (cond (eqb c (code ")")) (pred k) k)

unfoldable pub opened_from : ℕ → List ℕ → ℕ
opened_from k [] = k
opened_from k (c ∷ l) = opened_from (opened_by k c) l

abbrev pub opened : List ℕ → ℕ
opened t = opened_from 0 t

-- "more than 16 parentheses open" is met at no character before the place.
abbrev pub ShallowTo : List ℕ → ℕ → Type 0
ShallowTo t place = (j : ℕ) → j ≤ place → opened (take j t) ≤ 16

-- "the first character (or the end) with which no note can go on"
pub data CannotGoOn (t : List ℕ) (place : ℕ) : Type 0 where
  at_character : place < length t → (Begins (take (suc place) t) → ⊥) → CannotGoOn t place
  at_end : place ≡ length t → ((n : Note) → IsNote t n → ⊥) → CannotGoOn t place

-- 22 is met at this place: a note can go on with all that stands before it, 23 is not met in that, and with what stands here no note can go on.
pub record Malformed (t : List ℕ) (place : ℕ) : Type 0 where
  pub begun : Begins (take place t)
  pub shallow : ShallowTo t place
  pub cannot_go_on : CannotGoOn t place

-- 23 is met at this place: its character is the 17th parenthesis open, and a note can go on with it ("22 where both fall on one character").
pub record TooDeep (t : List ℕ) (place : ℕ) : Type 0 where
  pub within : place < length t
  pub begun : Begins (take (suc place) t)
  pub shallow : ShallowTo t place
  pub deep : opened (take (suc place) t) ≡ 17

-- The numbers of a refused call.
abbrev pub note_refusals : List ℕ
note_refusals = 22 ∷ 23 ∷ 24 ∷ []
