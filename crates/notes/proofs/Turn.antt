-- One turn of the loop over the items of a note, by what the calls in it return. Assumes nothing.
use Rattle.std.proofs.Common.{◌≡◌, true, ℕ, ◌+◌, ◌≤◌, ◌<◌, List, Result, Ok, Err, length, sym, subst, arith}
use Rattle.grammar.specs.Note.{Item}
use Rattle.grammar.specs.Reading.{Before}
use Rattle.pieces.specs.Pieces.{joint_at}
use Rattle.pieces.specs.declared.Met.{Met}
use Rattle.pieces.specs.declared.Joint.{Joint}
use Rattle.pieces.specs.declared.Joint.TheVariants.{Item as AnItem, Side as ASide, End}
use Rattle.mixing.specs.declared.Place.{Place}
use Rattle.mixing.specs.Room.{capped}
use Rattle.building.specs.declared.Piece.{Piece}
use Rattle.sides.specs.declared.Sides.{Sides}
use Rattle.sides.specs.Sides.{sides_after, side_mixed, taken_back}
use Rattle.notes.specs.Readers.{ItemGot, ItemRead, NoteRead}
use Rattle.notes.proofs.Joints.{Follows, follows, with_item, with_side}
use Rattle.notes.proofs.SoFar.{SoFar, next_place, item_refused, item_follows, side_follows, note-ends, joint_refused}

-- The place p, q at which the item is read.
module _ (t : List ℕ) (from : Place) (line₀ left₀ line left : List ℕ) (at side mixed : ℕ) (b : Before) (s : SoFar t from line₀ left₀ line left at side mixed b)
    (p q : ℕ) (e : p ≡ capped (from.line + side)) (f : q ≡ capped (from.left + mixed)) (line₁ left₁ : List ℕ) where
  abbrev here : Place
  here = next_place t from line₀ left₀ line left at side mixed b s

  abbrev there : Place
  there = record from { at = at; line = p; left = q }

  -- the item is refused
  pub item-wrong : (m : Met) → ItemRead t there line left line₁ left₁ (Err m) → NoteRead t from line₀ left₀ line₁ left₁ (Err m)
  unfolding ItemRead NoteRead
  item-wrong m h = item_refused t from line₀ left₀ line left at side mixed b s (rw (← e, ← f) h)

  -- and where it is not:
  module _ (r : Piece) (h : ItemRead t there line left line₁ left₁ (Ok r)) where
    got-here : (i : Item) × ItemGot t here line left line₁ left₁ r i
    unfolding ItemRead
    got-here = rw (← e, ← f) h

    pub counts-few : side + r.count ≤ 4098
    counts-few = let a = s.side_is in let c = got-here.1.counted in omega arith

    module _ (long : length line₁ ≡ 2048) (wide : length left₁ ≡ 2048) where
      follows-here : (j : Result Joint Met) → j ≡ joint_at t r.at → Follows t r.at got-here.0 j
      follows-here j g = subst (Follows t r.at got-here.0) (sym g) (follows t r.at got-here.0 got-here.1.ended got-here.1.within)

      -- nothing that can follow,
      pub joint-wrong : (m : Met) → Err m ≡ joint_at t r.at → NoteRead t from line₀ left₀ line₁ left₁ (Err m)
      unfolding NoteRead
      joint-wrong m g = joint_refused t from line₀ left₀ line left at side mixed b s line₁ left₁ long wide r got-here.0 got-here.1 (follows-here (Err m) g)

      module _ (k : ℕ) (u : k ≡ capped (side + r.count)) where
        -- another item,
        pub same-side : (to : ℕ) → Ok (AnItem to) ≡ joint_at t r.at → (at < to) × (to ≤ length t) × ((x : Before) × SoFar t from line₀ left₀ line₁ left₁ to k mixed x)
        same-side to g =
            let w = follows-here (Ok (AnItem to)) g in
            let c = got-here.1.further in
            let n = w.on in (
              omega arith,
              w.within,
              (
                with_item b got-here.0,
                rw u (item_follows t from line₀ left₀ line left at side mixed b s line₁ left₁ long wide r got-here.0 got-here.1 w),
              ),
            )

        module _ (sides : Sides) (v : sides ≡ sides_after true (record { side = k; mixed = mixed })) (left₂ : List ℕ)
            (w : left₂ ≡ side_mixed true line₁ from (record { side = k; mixed = mixed }) left₁) where
          -- another side,
          pub next-side : (to : ℕ) → Ok (ASide to) ≡ joint_at t r.at
              → (at < to) × (to ≤ length t) × ((x : Before) × SoFar t from line₀ left₀ line₁ left₂ to sides.side sides.mixed x)
          next-side to g =
              let y = follows-here (Ok (ASide to)) g in
              let c = got-here.1.further in
              let n = y.on in (
                omega arith,
                y.within,
                (
                  with_side b got-here.0,
                  rw (v, w, u) (side_follows t from line₀ left₀ line left at side mixed b s line₁ left₁ long wide r got-here.0 got-here.1 y),
                ),
              )

          -- or the end of the note.
          pub note-over : Ok End ≡ joint_at t r.at → (line₂ : List ℕ) → line₂ ≡ taken_back left₂ from sides.mixed line₁
              → NoteRead t from line₀ left₀ line₂ left₂ (Ok (record { at = r.at; count = sides.mixed }))
          unfolding NoteRead
          note-over g line₂ y = (
            b,
            got-here.0,
            rw (y, v, w, u) (note-ends t from line₀ left₀ line left at side mixed b s line₁ left₁ long wide r got-here.0 got-here.1 (follows-here (Ok End) g)),
          )
