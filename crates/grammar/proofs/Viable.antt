-- Where reading stands, some note can go on: what has been read can be completed. And where reading cannot go on, no note can. Assumes nothing.
use mathlib.Core.Path.{◌≡◌, refl, sym, ap, ◌∙◌}
use mathlib.Core.List.{List, [], ◌∷◌, ◌++◌, append_assoc, append-nil}
use mathlib.Core.Option.{none, some}
use Prim.Native.Nat.{ℕ}
use native.Mathlib.Omega.{arith}
use Rattle.grammar.specs.Note.{inside, Item, once, Note, note_text}
use Rattle.grammar.specs.Reading.{Before, note_with, Mode, begin, read, star, space, bar, State, state, after, whole, end_in, start}
use Rattle.grammar.specs.Places.{IsNote, Begins}
use Rattle.grammar.proofs.Steps.{fresh, spaced, digit_of, Step, numbers, counts, closes, mixes}
use Rattle.grammar.proofs.SoFar.{mode_text, outer_text, so_far, note_with_text, step_text, ProperState, note_with_proper, step_proper}
use Rattle.grammar.proofs.Complete.{through, through_none, through_append, after_note, note_read, note-ends}

-- The front of a text with which a note begins.
pub begins_front : (t rest : List ℕ) → Begins (t ++ rest) → Begins t
begins_front t rest b = (b.0, rest ++ b.1, (b.2.0, b.2.1 ∙ append_assoc t rest b.1))

begins_step : {c : ℕ} {s t : State} → Step c s t → Begins (so_far t) → Begins (so_far s)
begins_step {c} {s} {t} w b = begins_front (so_far s) (c ∷ []) (rw (step_text w) at b)

-- An item has been read: close what is open.
read_begins : (o : List Before) (b : Before) (i : Item) → ProperState (state (read b i) o) → Begins (so_far (state (read b i) o))
unfolding so_far mode_text outer_text
read_begins [] b i h = (note_with b i, [], (note_with_proper b i h.mode.0 h.mode.1, note_with_text b i ∙ sym (append-nil _)))
read_begins (x ∷ o) b i h = let w = closes refl in begins_step w (read_begins o x (once (inside (note_with b i))) (step_proper w h))

-- Else go on with `0`, ` 0` or `1`.
then_read : {c : ℕ} {s : State} (b : Before) (i : Item) (o : List Before) → Step c s (state (read b i) o) → ProperState s → Begins (so_far s)
then_read b i o w h = begins_step w (read_begins o b i (step_proper w h))

begin_begins : (b : Before) (o : List Before) → ProperState (state (begin b) o) → Begins (so_far (state (begin b) o))
begin_begins b o h = then_read b _ o (numbers {d = 0} (digit_of (omega arith)) fresh) h

in_mode : (m : Mode) (o : List Before) → ProperState (state m o) → Begins (so_far (state m o))
in_mode (begin b) o h = begin_begins b o h
in_mode (read b i) o h = read_begins o b i h
in_mode (star b p) o h = then_read b _ o (counts {d = 1} (digit_of (omega arith)) (omega arith)) h
in_mode (space n s) o h = then_read _ _ o (numbers {d = 0} (digit_of (omega arith)) spaced) h
in_mode (bar n) o h = let w = mixes refl in begins_step w (begin_begins _ o (step_proper w h))

pub state_begins : (s : State) → ProperState s → Begins (so_far s)
state_begins s h = in_mode s.mode s.outer h

-- One character more.
pub through_one : (t : List ℕ) (s : State) (c : ℕ) → through (some start) t ≡ some s → through (some start) (t ++ c ∷ []) ≡ after s c
unfolding through
through_one t s c e = through_append (some start) t (c ∷ []) ∙ (rw e)

-- Through a text with which a note begins, reading comes somewhere; and through a note, to where that note ends.
pub begins_through : (t : List ℕ) → through (some start) t ≡ none → Begins t → ⊥
begins_through t e b =
    let n = b.0 in
    let here = note_read n b.2.0 in
    let lost : through (some start) (note_text n) ≡ none = rw (b.2.1, through_append (some start) t b.1, e) (through_none b.1) in
    let z : ◌≡◌ {A = ℕ} 0 1 = cc in
    omega arith

pub note_leads : (t : List ℕ) (s : State) (n : Note) → through (some start) t ≡ some s → IsNote t n → end_in s.mode s.outer ≡ whole n
note_leads t s n e h =
    let here = note_read n h.0 in
    let same : s ≡ state (after_note n) [] = cc (ap (through (some start)) h.1) in
    rw same (note-ends n)
