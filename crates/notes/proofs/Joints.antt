-- What follows an item: another item, another side, the end of the note, or nothing that can follow. Assumes nothing.
use mathlib.Core.Path.{◌≡◌, refl, ap, ◌∙◌}
use mathlib.Core.Bool.{true, false}
use mathlib.Core.List.{List, [], ◌∷◌}
use mathlib.Core.Logic.{◌⊎◌, inl, inr}
use mathlib.Core.Option.{Option, none, some}
use Prim.Native.Nat.{ℕ, suc, ◌+◌, ◌≤◌, ◌<◌}
use native.Mathlib.Omega.{arith}
use lib.Dec.{leb}
use lib.ListN.{length, drop, get_or}
use borrow.Author.Tests.{leb-true, leb-false}
use Rattle.bits.proofs.Logic.{by_test}
use Rattle.grammar.specs.Note.{Item, Side, Note}
use Rattle.grammar.specs.Reading.{Before, side_with, note_with, begin, read, space, bar, state, after_in, after, stuck, scan}
use Rattle.std.proofs.Common.{Result, Ok, Err}
use Rattle.refusal.specs.Refusals.{number}
use Rattle.pieces.specs.declared.Met.{Met}
use Rattle.pieces.specs.declared.Joint.{Joint}
use Rattle.pieces.specs.declared.Joint.TheVariants.{Item as AnItem, Side as ASide, End}
use Rattle.pieces.specs.Pieces.{begins_with, joint_at}
use Rattle.pieces.proofs.Laws.{char_at, begins_within, joint_side, joint_bar, joint_item, joint_close, joint_end, joint_wrong}
use Rattle.notes.specs.Readers.{Ended}
use Rattle.grammar.proofs.Scan.{scan_on, scan-stuck}
use Rattle.notes.proofs.Scanning.{spaces, bars, bar_spaces, ended_off}
use Rattle.notes.proofs.Parts.{char_here}

-- what has been read before the next item of the side, and before the first of the next side
abbrev pub with_item : Before → Item → Before
with_item b i = record { sides = b.sides; items = some (side_with b.items i) }

abbrev pub with_side : Before → Item → Before
with_side b i = record { sides = some (note_with b i); items = none }

-- Reading goes on at `to`, before another item.
pub record GoesOn (t : List ℕ) (at : ℕ) (i : Item) (before : Before → Item → Before) (to : ℕ) : Type 0 where
  pub on : at < to
  pub within : to ≤ length t
  pub scanned : (b : Before) (o : List Before) → length o ≤ 16 → scan (state (read b i) o) (drop at t) ≡ scan (state (begin (before b i)) o) (drop to t)

-- Nothing that can follow.
pub record Wrong (t : List ℕ) (at : ℕ) (i : Item) (m : Met) : Type 0 where
  pub met : (b : Before) (o : List Before) → length o ≤ 16 → scan (state (read b i) o) (drop at t) ≡ stuck (number m.refusal) (drop m.at t)

-- The four cases.
abbrev pub Follows : List ℕ → ℕ → Item → Result Joint Met → Type 0
Follows t at i (Ok (AnItem to)) = GoesOn t at i with_item to
Follows t at i (Ok (ASide to)) = GoesOn t at i with_side to
Follows t at i (Ok End) = (at ≡ length t) ⊎ (begins_with 41 (drop at t) ≡ true)
Follows t at i (Err m) = Wrong t at i m

-- after a space an item begins, unless a bar stands there; after a bar a space stands
space_begins : (n : Option Note) (s : Side) (o : List Before) (l : List ℕ) → begins_with 124 l ≡ false
    → scan (state (space n s) o) l ≡ scan (state (begin (record { sides = n; items = some s })) o) l
unfolding scan begins_with after_in
space_begins n s o [] e = refl
space_begins n s o (c ∷ l) e = let same : after (state (space n s) o) c ≡ after (state (begin (record { sides = n; items = some s })) o) c = rw e in rw (same, scan)

bar_wrong : (n : Note) (o : List Before) (l : List ℕ) → begins_with 32 l ≡ false → scan (state (bar n) o) l ≡ stuck 22 l
unfolding scan begins_with after_in
bar_wrong n o [] e = refl
bar_wrong n o (c ∷ l) e = scan-stuck (state (bar n) o) c l (rw e)

module _ (t : List ℕ) (at : ℕ) (i : Item) where
  module _ (e : begins_with 32 (drop at t) ≡ true) where
    spaced : (b : Before) (o : List Before) → length o ≤ 16 → scan (state (read b i) o) (drop at t) ≡ scan (state (space b.sides (side_with b.items i)) o) (drop (at + 1) t)
    spaced b o few =
        ap (scan (state (read b i) o)) (char_here 32 t at e)
        ∙ scan_on (state (read b i) o) (state (space b.sides (side_with b.items i)) o) 32 (drop (at + 1) t) (spaces b i o) few

    barred : begins_with 124 (drop (at + 1) t) ≡ true → (b : Before) (o : List Before) → length o ≤ 16
        → scan (state (read b i) o) (drop at t) ≡ scan (state (bar (note_with b i)) o) (drop (at + 2) t)
    barred f b o few =
        let two : at + 1 + 1 ≡ at + 2 = omega arith in
        let s = state (space b.sides (side_with b.items i)) o in
        spaced b o few ∙ ap (scan s) (char_here 124 t (at + 1) f)
        ∙ scan_on s (state (bar (note_with b i)) o) 124 (drop (at + 1 + 1) t) (bars b.sides (side_with b.items i) o) few
        ∙ ap (λ (k : ℕ). scan (state (bar (note_with b i)) o) (drop k t)) two

    after-bar : begins_with 124 (drop (at + 1) t) ≡ true → Follows t at i (joint_at t at)
    after-bar f =
        let three : at + 2 + 1 ≡ at + 3 = omega arith in
        by_test (begins_with 32 (drop (at + 2) t))
        (λ g. let w = begins_within 32 t (at + 2) refl g in
        rw (joint_side t at e f g) record {
          on = omega arith;
          within = omega arith;
          scanned = λ b o few.
              barred f b o few ∙ ap (scan (state (bar (note_with b i)) o)) (char_here 32 t (at + 2) g)
              ∙ scan_on (state (bar (note_with b i)) o) (state (begin (with_side b i)) o) 32 (drop (at + 2 + 1) t) (bar_spaces (note_with b i) o) few
              ∙ ap (λ (k : ℕ). scan (state (begin (with_side b i)) o) (drop k t)) three;
        })
        (λ g. rw (joint_bar t at e f g) record { met = λ b o few. barred f b o few ∙ bar_wrong (note_with b i) o (drop (at + 2) t) g })

    after-space : Follows t at i (joint_at t at)
    after-space =
        let w = begins_within 32 t at refl e in
        by_test (begins_with 124 (drop (at + 1) t))
        after-bar
        (λ f. rw (joint_item t at e f) record {
          on = omega arith;
          within = omega arith;
          scanned = λ b o few.
              spaced b o few ∙ space_begins b.sides (side_with b.items i) o (drop (at + 1) t) f;
        })

  module _ (ended : Ended i (drop at t)) (within : at ≤ length t) (e : begins_with 32 (drop at t) ≡ false) where
    other : begins_with 41 (drop at t) ≡ false → at < length t → Follows t at i (joint_at t at)
    unfolding begins_with
    other f h =
        let is = char_at t at h in
        rw (joint_wrong t at e f h) record {
          met = λ b o few.
              rw is (scan-stuck (state (read b i) o) (get_or t at 0) (drop (suc at) t) (ended_off b i o (get_or t at 0) (drop (suc at) t) (rw is at ended) (rw is at e) (rw is at f)));
        }

    after_other : Follows t at i (joint_at t at)
    after_other =
        by_test (begins_with 41 (drop at t))
        (λ f. rw (joint_close t at e f) (inr f))
        (λ f. by_test (leb (length t) at)
        (λ g. let h = leb-true (length t) at g in rw (joint_end t at h) (inl (omega arith)))
        (λ g. other f (leb-false (length t) at g)))

  pub follows : Ended i (drop at t) → at ≤ length t → Follows t at i (joint_at t at)
  follows ended within = by_test (begins_with 32 (drop at t)) after-space (after_other ended within)
