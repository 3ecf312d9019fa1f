-- A note so far: what has been read before its next item, and what is built of it. Assumes nothing.
use mathlib.Core.Path.{◌≡◌, refl, sym, ap, ◌∙◌}
use mathlib.Core.Bool.{true}
use mathlib.Core.List.{List, [], ◌++◌, append-nil}
use mathlib.Core.Logic.{◌⊎◌}
use mathlib.Core.Option.{Option, none, some}
use Prim.Native.Nat.{ℕ, ◌+◌, ◌-◌, ◌≤◌}
use native.Mathlib.Omega.{arith}
use lib.ListN.{length, take, drop}
use Rattle.grammar.specs.Note.{Item, Side, Note, in_turn, item_refs, side_refs, note_refs, item_count, side_count, note_count}
use Rattle.grammar.specs.Reading.{Before, nothing, side_with, mixed_with, note_with, begin, state, scan}
use Rattle.grammar.proofs.Counts.{item_count_is, side_count_is, note_count_is}
use Rattle.pieces.specs.Pieces.{begins_with}
use Rattle.pieces.specs.declared.Met.{Met}
use Rattle.mixing.specs.declared.Place.{Place}
use Rattle.mixing.specs.Room.{capped}
use Rattle.building.specs.declared.Piece.{Piece}
use Rattle.sides.specs.declared.Sides.{Sides}
use Rattle.sides.specs.Sides.{side_mixed, taken_back}
use Rattle.notes.specs.Readers.{ItemGot, ItemRefused, NoteGot, NoteRefused}
use Rattle.sides.proofs.Laws.{side_fits, back_fits}
use Rattle.notes.proofs.Lines.{Ends, ends_front, ends-refs, ends_more, ends-laid, Holds, holds-refs, holds_rest, holds-laid, cap_few}
use Rattle.notes.proofs.Joints.{with_item, with_side, GoesOn, Wrong}

-- The items and the sides before the next item, which may be none.
abbrev items_refs : Option Side → List ℕ
items_refs none = []
items_refs (some s) = side_refs s

abbrev items_count : Option Side → ℕ
items_count none = 0
items_count (some s) = side_count s

abbrev sides_refs : Option Note → List ℕ
sides_refs none = []
sides_refs (some n) = note_refs n

abbrev sides_count : Option Note → ℕ
sides_count none = 0
sides_count (some n) = note_count n

items_is : (x : Option Side) → length (items_refs x) ≡ items_count x
items_is none = refl
items_is (some s) = side_count_is s

sides_is : (x : Option Note) → length (sides_refs x) ≡ sides_count x
sides_is none = refl
sides_is (some n) = note_count_is n

side-refs : (x : Option Side) (i : Item) → side_refs (side_with x i) ≡ items_refs x ++ item_refs i
unfolding side_refs
side-refs none i = refl
side-refs (some s) i = refl

side-count : (x : Option Side) (i : Item) → side_count (side_with x i) ≡ items_count x + item_count i
unfolding side_count
side-count none i = omega arith
side-count (some s) i = refl

note-refs : (x : Option Note) (s : Side) → note_refs (mixed_with x s) ≡ in_turn (sides_refs x) (side_refs s)
unfolding note_refs in_turn
note-refs none s = refl
note-refs (some n) s = refl

note-count : (x : Option Note) (s : Side) → note_count (mixed_with x s) ≡ sides_count x + side_count s
unfolding note_count
note-count none s = omega arith
note-count (some n) s = refl

-- Reading has come to the place `at`, before an item; the counts of the side and of the sides before it; and both are built, if there is room.
pub record SoFar (t : List ℕ) (from : Place) (line₀ left₀ line left : List ℕ) (at side mixed : ℕ) (b : Before) : Type 0 where
  pub begun : from.at ≤ at
  pub scanned : (o : List Before) → length o + from.depth ≡ 16 → scan (state (begin nothing) o) (drop from.at t) ≡ scan (state (begin b) o) (drop at t)
  pub side_is : side ≡ capped (items_count b.items)
  pub mixed_is : mixed ≡ capped (sides_count b.sides)
  pub built : from.line + from.left + (sides_count b.sides + items_count b.items) ≤ 2048
      → Ends from.line line₀ (items_refs b.items) line × Holds from.left left₀ (sides_refs b.sides) left

pub so_far_none : (t : List ℕ) (from : Place) (line left : List ℕ) → SoFar t from line left line left from.at 0 0 nothing
so_far_none t from line left =
    let a : from.line + 0 ≡ from.line = omega arith in
    let h : from.left + 0 ≡ from.left = omega arith in
    record {
      begun = omega arith;
      scanned = λ o e. refl;
      side_is = refl;
      mixed_is = refl;
      built = λ f. (rw a (sym (append-nil (take from.line line))), rw h);
    }

-- The next item is read at this place, and then the line and the left are these.
module _ (t : List ℕ) (from : Place) (line₀ left₀ line left : List ℕ) (at side mixed : ℕ) (b : Before) (s : SoFar t from line₀ left₀ line left at side mixed b) where
  abbrev pub next_place : Place
  next_place = record { at = at; depth = from.depth; line = capped (from.line + side); left = capped (from.left + mixed) }

  pub item_refused : {m : Met} → ItemRefused t next_place m → NoteRefused t from m
  item_refused x = record { met = λ o e. s.scanned o e ∙ x.met b o e }

  module _ (line₁ left₁ : List ℕ) (long : length line₁ ≡ 2048) (wide : length left₁ ≡ 2048) (r : Piece) (i : Item) (x : ItemGot t next_place line left line₁ left₁ r i) where
    abbrev all : ℕ
    all = sides_count b.sides + (items_count b.items + item_count i)

    -- the side with the item, in the line
    item_built : from.line + from.left + all ≤ 2048
        → Ends from.line line₀ (side_refs (side_with b.items i)) line₁ × Holds from.left left₀ (sides_refs b.sides) left₁
    item_built f =
        let u = s.built (omega arith) in
        let n = items_is b.items in
        let m = sides_is b.sides in
        let k = item_count_is i in
        let p = s.side_is ∙ cap_few (items_count b.items) (omega arith) in
        let q = s.mixed_is ∙ cap_few (sides_count b.sides) (omega arith) in
        let a : capped (from.line + side) ≡ from.line + length (items_refs b.items) = cap_few (from.line + side) (omega arith) ∙ omega arith in
        let h : capped (from.left + mixed) ≡ from.left + length (sides_refs b.sides) = cap_few (from.left + mixed) (omega arith) ∙ omega arith in
        let v = x.built (rw (a, h) (omega arith)) in (
          rw (side-refs b.items i) (ends_more from.line line₀ (items_refs b.items) (item_refs i) line line₁ u.0 (rw (← a) v.in_line)),
          ap (λ (j : ℕ). drop (2048 - j) left₁) (sym h) ∙ v.on_left ∙ ap (λ (j : ℕ). drop (2048 - j) left) h ∙ u.1,
        )

    -- the counts
    abbrev pub sides : Sides
    sides = record { side = capped (side + r.count); mixed = mixed }

    side-is : sides.side ≡ capped (side_count (side_with b.items i))
    side-is =
        let a = s.side_is in
        let c = x.counted in
        let d = side-count b.items i in
        omega arith

    mixed-is : capped (mixed + sides.side) ≡ capped (note_count (note_with b i))
    mixed-is =
        let a = s.mixed_is in
        let c = side-is in
        let d = note-count b.sides (side_with b.items i) in
        omega arith

    -- another item of the side
    pub item_follows : {to : ℕ} → GoesOn t r.at i with_item to → SoFar t from line₀ left₀ line₁ left₁ to sides.side mixed (with_item b i)
    item_follows g =
        record {
          begun = let p = s.begun in let q = x.further in let n = g.on in omega arith;
          scanned = λ o e. s.scanned o e ∙ x.scanned b o e ∙ g.scanned b o (omega arith);
          side_is = side-is;
          mixed_is = s.mixed_is;
          built = λ f. let d = side-count b.items i in item_built (omega arith);
        }

    -- the side is complete
    complete_built : from.line + from.left + note_count (note_with b i) ≤ 2048
        → Ends from.line line₀ [] line₁ × Holds from.left left₀ (note_refs (note_with b i)) (side_mixed true line₁ from sides left₁)
    complete_built f =
        let d = side-count b.items i in
        let n = note-count b.sides (side_with b.items i) in
        let own = side_refs (side_with b.items i) in
        let others = sides_refs b.sides in
        let u = item_built (omega arith) in
        let j = side_count_is (side_with b.items i) in
        let m = sides_is b.sides in
        let w = note_count_is (note_with b i) in
        let p : sides.side ≡ length own = side-is ∙ cap_few (side_count (side_with b.items i)) (omega arith) ∙ sym j in
        let q : mixed ≡ length others = s.mixed_is ∙ cap_few (sides_count b.sides) (omega arith) ∙ sym m in
        let fits : from.line + length own ≤ length line₁ = omega arith in
        let front = ends_front from.line line₀ own line₁ fits u.0 in
        let right : take sides.side (drop from.line line₁) ≡ own = rw p (ends-refs from.line line₀ own line₁ fits u.0) in
        let few : from.left + length others ≤ 2048 = omega arith in
        let before : take mixed (drop (2048 - from.left - mixed) left₁) ≡ others = rw q (holds-refs from.left left₀ others left₁ few u.1) in
        let rest = holds_rest from.left left₀ others left₁ few u.1 in
        let room : from.line + from.left + (mixed + sides.side) ≤ 2048 = omega arith in
        let total : mixed + sides.side ≡ length (note_refs (note_with b i)) = omega arith in
        let a : from.line + 0 ≡ from.line = omega arith in (
          rw a (front ∙ sym (append-nil (take from.line line₀))),
          rw (side_fits line₁ from sides left₁ room, right, before, ← note-refs b.sides (side_with b.items i), total)
              (holds-laid from.left left₀ (note_refs (note_with b i)) left₁ (omega arith) wide rest),
        )

    -- another side
    pub side_follows : {to : ℕ} → GoesOn t r.at i with_side to
        → SoFar t from line₀ left₀ line₁ (side_mixed true line₁ from sides left₁) to 0 (capped (mixed + sides.side)) (with_side b i)
    side_follows g =
        record {
          begun = let p = s.begun in let q = x.further in let n = g.on in omega arith;
          scanned = λ o e. s.scanned o e ∙ x.scanned b o e ∙ g.scanned b o (omega arith);
          side_is = refl;
          mixed_is = mixed-is;
          built = λ f. complete_built (omega arith);
        }

    -- the end of the note
    pub note-ends : (r.at ≡ length t) ⊎ (begins_with 41 (drop r.at t) ≡ true)
        → NoteGot t from line₀ left₀ (taken_back (side_mixed true line₁ from sides left₁) from (capped (mixed + sides.side)) line₁) (side_mixed true line₁ from sides left₁)
        (record { at = r.at; count = capped (mixed + sides.side) }) b i
    note-ends e =
        record {
          further = let p = s.begun in let q = x.further in omega arith;
          within = x.within;
          scanned = λ o h. s.scanned o h ∙ x.scanned b o h;
          ends = e;
          counted = mixed-is;
          built = λ f.
              let left₂ = side_mixed true line₁ from sides left₁ in
              let refs = note_refs (note_with b i) in
              let u = complete_built f in
              let w = note_count_is (note_with b i) in
              let q : capped (mixed + sides.side) ≡ length refs = mixed-is ∙ cap_few (note_count (note_with b i)) (omega arith) ∙ sym w in
              let few : from.left + length refs ≤ 2048 = omega arith in
              let own : take (capped (mixed + sides.side)) (drop (2048 - from.left - capped (mixed + sides.side)) left₂) ≡ refs = rw q (holds-refs from.left left₀ refs left₂ few u.1) in
              let room : from.line + from.left + capped (mixed + sides.side) ≤ 2048 = omega arith in
              let front = ends_front from.line line₀ [] line₁ (omega arith) u.0 in
              record {
                in_line = rw (back_fits left₂ from (capped (mixed + sides.side)) line₁ room, own) (ends-laid from.line line₀ refs line₁ _ (omega arith) front);
                on_left = holds_rest from.left left₀ refs left₂ few u.1;
              };
        }

    -- nothing that can follow
    pub joint_refused : {m : Met} → Wrong t r.at i m → NoteRefused t from m
    joint_refused w = record { met = λ o e. s.scanned o e ∙ x.scanned b o e ∙ w.met b o (omega arith) }
