-- How a note is read, character by character, and what the call gives. Document 02, L6: "22, malformed, met at the first character (or the end) with
-- which no note can go on, and 23, more than 16 parentheses open, whichever is met first from the left, and 22 where both fall on one character; then
-- 24, more than 2048 references or than the lent buffer holds." Assumes nothing.
use Rattle.std.specs.Prelude.{Bool, true, false, cond, ◌&&◌, ◌||◌, List, [], ◌∷◌, ℕ, ◌+◌, ◌*◌, ◌-◌, ltb, leb, eqb, length}
use Rattle.std.proofs.Math.Option.{Option, none, some}
use Prim.Native.Char.{code}
use Rattle.bits.specs.Reading.{Answer, given, refused}
use Rattle.grammar.specs.Note.{Part, block, inside, Item, once, times, Side, first, next, Note, alone, mixed, note_count, note_refs}

-- What has been read of a note before the item that is read now: the sides that are complete, as one note, and the items of the side begun.
pub record Before : Type 0 where
  pub sides : Option Note
  pub items : Option Side

abbrev pub nothing : Before
nothing = record { sides = none; items = none }

-- With that item the side is this, and if the note ends with it, the note is this.
abbrev pub side_with : Option Side → Item → Side
side_with none i = first i
side_with (some s) i = next s i

abbrev pub mixed_with : Option Note → Side → Note
mixed_with none s = alone s
mixed_with (some n) s = mixed n s

abbrev pub note_with : Before → Item → Note
note_with b i = mixed_with b.sides (side_with b.items i)

-- Where reading stands in a note.
pub data Mode : Type 0 where
  -- an item begins
  begin : Before → Mode
  -- an item has been read, and its last number may go on
  read : Before → Item → Mode
  -- `*` has been read, and a count begins
  star : Before → Part → Mode
  -- after an item there is a space: the sides before, and the items of this one
  space : Option Note → Side → Mode
  -- and after the space a `|`: the sides so far
  bar : Note → Mode

-- Where reading stands: in a note, and before each parenthesis that is open, the innermost first, in the note around it.
pub record State : Type 0 where
  pub mode : Mode
  pub outer : List Before

abbrev pub state : Mode → List Before → State
state m o = record { mode = m; outer = o }

abbrev pub is_digit : ℕ → Bool
is_digit c = leb (code "0") c && leb c (code "9")

abbrev pub digit : ℕ → ℕ
digit c = c - code "0"

-- A number goes on with a digit if it is not 0 ("no leading zeros") and stays within its bound.
abbrev pub goes_on : ℕ → ℕ → ℕ → Bool
goes_on most v c = is_digit c && (ltb 0 v && leb (v * 10 + digit c) most)

-- "a block number 0 to 511", "a count 1 to 2048": the item with a digit more, if it can have one
unfoldable pub longer : Item → ℕ → Option Item
longer (once (block v)) c = cond (goes_on 511 v c) (some (once (block (v * 10 + digit c)))) none
longer (once (inside n)) c = none
longer (times p k) c = cond (goes_on 2048 k c) (some (times p (k * 10 + digit c))) none

-- Where an item begins: a parenthesis that opens begins a note within this one, a digit a block number.
abbrev pub at_begin : Before → List Before → ℕ → Option State
at_begin b o c =
    cond (eqb c (code "(")) (some (state (begin nothing) (b ∷ o)))
    (cond (is_digit c) (some (state (read b (once (block (digit c)))) o)) none)

-- `)`: the note that ends is an item of the note around it, if a parenthesis is open.
unfoldable pub closed : Note → List Before → Option State
closed n [] = none
closed n (b ∷ o) = some (state (read b (once (inside n))) o)

-- `*`: a count follows a part that has none yet.
unfoldable pub starred : Before → Item → List Before → Option State
starred b (once p) o = some (state (star b p) o)
starred b (times p k) o = none

-- A digit: the last number of an item goes on.
unfoldable pub grown : Before → List Before → Option Item → Option State
grown b o none = none
grown b o (some i) = some (state (read b i) o)

-- The state after one character more; none if no note can go on with it.
unfoldable pub after_in : Mode → List Before → ℕ → Option State
unfolding longer closed starred grown
after_in (begin b) o c = at_begin b o c
after_in (read b i) o c =
    cond (eqb c (code " ")) (some (state (space b.sides (side_with b.items i)) o))
    (cond (eqb c (code ")")) (closed (note_with b i) o)
    (cond (eqb c (code "*")) (starred b i o)
    (grown b o (longer i c))))
after_in (star b p) o c = cond (is_digit c && ltb 0 (digit c)) (some (state (read b (times p (digit c))) o)) none
after_in (space n s) o c =
    cond (eqb c (code "|")) (some (state (bar (mixed_with n s)) o)) (at_begin (record { sides = n; items = some s }) o c)
after_in (bar n) o c = cond (eqb c (code " ")) (some (state (begin (record { sides = some n; items = none })) o)) none

abbrev pub after : State → ℕ → Option State
after s c = after_in s.mode s.outer c

-- What reading comes to: the text is a note, or it is refused, with this number and this text left from the character on at which that is met.
pub data Outcome : Type 0 where
  whole : Note → Outcome
  stuck : ℕ → List ℕ → Outcome

-- "or the end": the text is a note if an item ends it and no parenthesis is open.
unfoldable pub end_in : Mode → List Before → Outcome
end_in (begin b) o = stuck 22 []
end_in (read b i) [] = whole (note_with b i)
end_in (read b i) (x ∷ o) = stuck 22 []
end_in (star b p) o = stuck 22 []
end_in (space n s) o = stuck 22 []
end_in (bar n) o = stuck 22 []

-- Reading on: each character is refused with 22 if no note can go on with it, then with 23 if it leaves more than 16 parentheses open.
unfoldable pub scan : State → List ℕ → Outcome
unfolding after_in end_in
scan s [] = end_in s.mode s.outer
scan s (c ∷ l) =
    elim (after s c) [
      | none ↦ stuck 22 (c ∷ l)
      | some t ↦ elim (ltb 16 (length t.outer)) [ true ↦ stuck 23 (c ∷ l) | false ↦ scan t l ]
    ]

-- The call, for a text and a lent slice of `room` entries: the references, or the number.
unfoldable pub with_room : ℕ → Outcome → Answer (List ℕ)
unfolding note_count note_refs
with_room room (whole n) = elim (ltb 2048 (note_count n) || ltb room (note_count n)) [ true ↦ refused 24 | false ↦ given (note_refs n) ]
with_room room (stuck n l) = refused n

abbrev pub start : State
start = state (begin nothing) []

unfoldable pub note_answer : List ℕ → ℕ → Answer (List ℕ)
unfolding scan with_room
note_answer t room = with_room room (scan start t)
