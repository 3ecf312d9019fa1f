-- What the two readers say of an item and of a note that they read: reading by characters (`scan`) goes on after it, or comes to its refusal,
-- wherever it stands; and its references are built. Assumes nothing.
use Rattle.std.specs.Prelude.{◌≡◌, true, cond, ◌⊎◌, List, [], ◌∷◌, ◌++◌, ℕ, ◌+◌, ◌-◌, ◌≤◌, ◌<◌, eqb, length, take, drop, Result, Ok, Err}
use Rattle.std.proofs.Math.Option.{none}
use Prim.Native.Char.{code}
use Rattle.grammar.specs.Note.{Item, item_refs, item_count, note_refs, note_count}
use Rattle.grammar.specs.Reading.{Before, nothing, note_with, begin, read, state, longer, starred, grown, stuck, scan}
use Rattle.refusal.specs.Refusals.{number}
use Rattle.pieces.specs.Pieces.{begins_with}
use Rattle.pieces.specs.declared.Met.{Met}
use Rattle.mixing.specs.declared.Place.{Place}
use Rattle.mixing.specs.Room.{capped}
use Rattle.building.specs.declared.Piece.{Piece}

-- The line and the left after a piece has been built.
pub record Built (from : Place) (refs line₀ left₀ line left : List ℕ) : Type 0 where
  pub in_line : take (from.line + length refs) line ≡ take from.line line₀ ++ refs
  pub on_left : drop (2048 - from.left) left ≡ drop (2048 - from.left) left₀

-- An item does not go on with the text that is left: no count and no digit follows.
unfoldable pub Ended : Item → List ℕ → Type 0
Ended i [] = Unit {0}
Ended i (c ∷ l) = (b : Before) (o : List Before) → cond (eqb c (code "*")) (starred b i o) (grown b o (longer i c)) ≡ none

-- An item that was read: reading goes on after it, wherever it stands.
pub record ItemGot (t : List ℕ) (from : Place) (line₀ left₀ line left : List ℕ) (r : Piece) (i : Item) : Type 0 where
  pub further : from.at < r.at
  pub within : r.at ≤ length t
  pub scanned : (b : Before) (o : List Before) → length o + from.depth ≡ 16
      → scan (state (begin b) o) (drop from.at t) ≡ scan (state (read b i) o) (drop r.at t)
  pub ended : Ended i (drop r.at t)
  pub counted : r.count ≡ capped (item_count i)
  pub built : from.line + from.left + item_count i ≤ 2048 → Built from (item_refs i) line₀ left₀ line left

-- A refusal: reading comes to it, wherever the item stands.
pub record ItemRefused (t : List ℕ) (from : Place) (m : Met) : Type 0 where
  pub met : (b : Before) (o : List Before) → length o + from.depth ≡ 16
      → scan (state (begin b) o) (drop from.at t) ≡ stuck (number m.refusal) (drop m.at t)

unfoldable pub ItemRead : List ℕ → Place → List ℕ → List ℕ → List ℕ → List ℕ → Result Piece Met → Type 0
ItemRead t from line₀ left₀ line left (Ok r) = (i : Item) × ItemGot t from line₀ left₀ line left r i
ItemRead t from line₀ left₀ line left (Err m) = ItemRefused t from m

-- A note that was read, up to the end of the text or a parenthesis that closes it: its last item, and what stands before that.
pub record NoteGot (t : List ℕ) (from : Place) (line₀ left₀ line left : List ℕ) (r : Piece) (b : Before) (i : Item) : Type 0 where
  pub further : from.at < r.at
  pub within : r.at ≤ length t
  pub scanned : (o : List Before) → length o + from.depth ≡ 16
      → scan (state (begin nothing) o) (drop from.at t) ≡ scan (state (read b i) o) (drop r.at t)
  pub ends : (r.at ≡ length t) ⊎ (begins_with (code ")") (drop r.at t) ≡ true)
  pub counted : r.count ≡ capped (note_count (note_with b i))
  pub built : from.line + from.left + note_count (note_with b i) ≤ 2048 → Built from (note_refs (note_with b i)) line₀ left₀ line left

pub record NoteRefused (t : List ℕ) (from : Place) (m : Met) : Type 0 where
  pub met : (o : List Before) → length o + from.depth ≡ 16
      → scan (state (begin nothing) o) (drop from.at t) ≡ stuck (number m.refusal) (drop m.at t)

unfoldable pub NoteRead : List ℕ → Place → List ℕ → List ℕ → List ℕ → List ℕ → Result Piece Met → Type 0
NoteRead t from line₀ left₀ line left (Ok r) = (b : Before) × (i : Item) × NoteGot t from line₀ left₀ line left r b i
NoteRead t from line₀ left₀ line left (Err m) = NoteRefused t from m
