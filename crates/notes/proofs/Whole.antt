-- A whole text, read as one note: what the call gives, and what is promised of it. Assumes nothing.
use mathlib.Core.Path.{◌≡◌, refl, sym, ap, subst, ◌∙◌}
use Rattle.std.proofs.Common.{Result, Ok, Err}
use mathlib.Core.Bool.{true}
use mathlib.Core.Logic.{◌⊎◌, inl, inr, ⊎_elim}
use mathlib.Core.Option.{none}
use mathlib.Core.List.{List, [], ◌++◌}
use Prim.Native.Nat.{ℕ, ◌+◌, ◌≤◌, ◌<◌}
use native.Mathlib.Omega.{arith}
use lib.Dec.{ltb}
use lib.ListN.{length, take, drop}
use lib.Seq.{length-take-le}
use borrow.Author.Tests.{lt-ltb, le-ltb}
use Rattle.bits.specs.Bits.{over}
use Rattle.bits.specs.Reading.{given, refused}
use Rattle.bits.proofs.Logic.{by_test, clash}
use Rattle.grammar.specs.Note.{Item, Note, note_refs, note_count}
use Rattle.grammar.specs.Reading.{Before, note_with, read, state, start, after_in, after, closed, whole, stuck, scan, with_room, note_answer}
use Rattle.grammar.proofs.Counts.{note_count_is}
use Rattle.grammar.proofs.Promises.{reads_exactly, one_reading, malformed, too-deep, too_many_lem, note_numbers}
use Rattle.pieces.specs.Pieces.{begins_with}
use Rattle.pieces.proofs.Laws.{drop_past}
use Rattle.mixing.specs.declared.Place.{Place}
use Rattle.building.specs.declared.Piece.{Piece}
use Rattle.notes.specs.Readers.{NoteGot, NoteRefused, NoteRead}
use Rattle.refusal.specs.declared.Refusal.{Refusal}
use Rattle.refusal.specs.declared.Refusal.TheVariants.{NoteMalformed, NoteParentheses, NoteReferences}
use Rattle.refusal.specs.Refusals.{number, refusal_of}
use Rattle.refusal.proofs.Numbers.{refusal_of-number}
use Rattle.pieces.specs.declared.Met.{Met}
use Rattle.notes.specs.Notes.{passes_as, refs_after, Exact}
use Rattle.grammar.proofs.Scan.{scan-stuck}
use Rattle.notes.proofs.Parts.{char_here}

-- where the call begins
abbrev pub first : Place
first = record { at = 0; depth = 16; line = 0; left = 0 }

-- a parenthesis that closes where none is open
not_open : (b : Before) (i : Item) → after (state (read b i) []) 41 ≡ none
unfolding after_in closed
not_open b i = refl

-- what the call gives, from what reading comes to
answer-stuck : (t l : List ℕ) (room n : ℕ) → scan start t ≡ stuck n l → note_answer t room ≡ refused n
unfolding note_answer with_room
answer-stuck t l room n e = rw e

with_fits : (room : ℕ) (n : Note) → note_count n ≤ 2048 → note_count n ≤ room → with_room room (whole n) ≡ given (note_refs n)
unfolding with_room
with_fits room n h k = rw (le-ltb 2048 (note_count n) h, le-ltb room (note_count n) k, with_room)

with_many : (room : ℕ) (n : Note) → (2048 < note_count n) ⊎ (room < note_count n) → with_room room (whole n) ≡ refused 24
unfolding with_room
with_many room n h =
    by_test (ltb 2048 (note_count n))
    (λ e. rw (e, with_room))
    (λ e. ⊎_elim (λ w. clash (lt-ltb 2048 (note_count n) w) e) (λ w. rw (e, lt-ltb room (note_count n) w, with_room)) h)

answer-whole : (t : List ℕ) (room : ℕ) (n : Note) → scan start t ≡ whole n → note_answer t room ≡ with_room room (whole n)
unfolding note_answer
answer-whole t room n e = rw e

-- A note that was refused.
refused-answer : (t : List ℕ) (room : ℕ) {m : Met} → NoteRefused t first m → note_answer t room ≡ refused (number m.refusal)
refused-answer t room {m} x = answer-stuck t (drop m.at t) room (number m.refusal) (x.met [] refl)

-- A note that was read, with its references at the front of the line.
module _ (t : List ℕ) (room : ℕ) (line₀ left₀ line left : List ℕ) (p : Piece) (b : Before) (i : Item) (x : NoteGot t first line₀ left₀ line left p b i) where
  read_so : scan start t ≡ scan (state (read b i) []) (drop p.at t)
  read_so = x.scanned [] refl

  at-end : scan (state (read b i) []) [] ≡ whole (note_with b i)
  unfolding scan
  at-end = refl

  refs_are : p.count ≡ note_count (note_with b i) → note_count (note_with b i) ≤ 2048 → note_refs (note_with b i) ≡ take p.count line
  refs_are e h =
      let u = x.built (omega arith) in
      let n = note_count_is (note_with b i) in
      let k : 0 + length (note_refs (note_with b i)) ≡ p.count = omega arith in
      sym (ap (λ (j : ℕ). take j line) (sym k) ∙ u.in_line)

  -- a parenthesis closes that is not open
  closing-answer : (p.at ≡ length t → ⊥) → note_answer t room ≡ refused 22
  closing-answer off =
      let e : begins_with 41 (drop p.at t) ≡ true = ⊎_elim (λ w. absurd (off w)) (λ w. w) x.ends in
      answer-stuck t (drop p.at t) room 22 (read_so ∙ rw (char_here 41 t p.at e) (scan-stuck (state (read b i) []) 41 (drop (p.at + 1) t) (not_open b i)))

  -- the text ends with the note
  module _ (last : p.at ≡ length t) where
    all : scan start t ≡ whole (note_with b i)
    all = let none_left : drop p.at t ≡ [] = drop_past t p.at (omega arith) in read_so ∙ ap (scan (state (read b i) [])) none_left ∙ at-end

    many-answer : (2048 < p.count) ⊎ (room < p.count) → note_answer t room ≡ refused 24
    many-answer h =
        let c = x.counted in
        answer-whole t room (note_with b i) all ∙ with_many room (note_with b i) (⊎_elim (λ w. inl (omega arith)) (λ w. inr (omega arith)) h)

    whole-answer : p.count ≤ 2048 → p.count ≤ room → note_answer t room ≡ given (take p.count line)
    whole-answer few fits =
        let c = x.counted in
        let same : p.count ≡ note_count (note_with b i) = omega arith in
        answer-whole t room (note_with b i) all ∙ with_fits room (note_with b i) (omega arith) (omega arith) ∙ ap given (refs_are same (omega arith))

-- What is promised of the call, from what it gives.
module _ (t lent : List ℕ) where
  given_exact : (refs : List ℕ) → note_answer t (length lent) ≡ given refs → Exact t lent (over refs lent) (Ok (length refs))
  given_exact refs e =
      let w = (reads_exactly t (length lent) refs).0 e in
      record {
        numbers = λ m z. absurd (cc);
        means = (λ z. (w.0, (w.1, w.2), w.3, rw w.4 w.5, rw w.4 w.6), λ x. refl);
        written = λ n x k z. let same : note_refs n ≡ refs = ap note_refs (one_reading n w.0 x.0 w.1 (x.1 ∙ sym w.2)) ∙ w.4 in (rw same, rw same (cc));
        malformed = (λ z. absurd (cc), λ k. let f = (malformed t (length lent)).1 k in absurd (cc));
        too_deep = (λ z. absurd (cc), λ k. let f = (too-deep t (length lent)).1 k in absurd (cc));
        too_many = (λ z. absurd (cc), λ x. let f = (too_many_lem t (length lent)).1 (x.0, x.1.0, x.1.1, x.2, x.3) in absurd (cc));
        unchanged = λ m z. absurd (cc);
      }

  refused_exact : (r : Refusal) → note_answer t (length lent) ≡ refused (number r) → Exact t lent lent (Err r)
  refused_exact r e =
      record {
        numbers = λ m z. let same : r ≡ m = cc in rw (← same) ((note_numbers (number r)).1 (t, length lent, e));
        means = (λ z. absurd (cc), λ x. let f = (reads_exactly t (length lent) (note_refs x.0)).1 (x.0, x.1.0, x.1.1, x.2, refl, x.3, x.4) in absurd (cc));
        written = λ n x k z. absurd (cc);
        malformed = (λ z. (malformed t (length lent)).0 (e ∙ ap refused (as_number NoteMalformed z)), λ k. of_number NoteMalformed ((malformed t (length lent)).1 k));
        too_deep = (λ z. (too-deep t (length lent)).0 (e ∙ ap refused (as_number NoteParentheses z)), λ k. of_number NoteParentheses ((too-deep t (length lent)).1 k));
        too_many = (
          λ z. let x = (too_many_lem t (length lent)).0 (e ∙ ap refused (as_number NoteReferences z)) in (x.0, (x.1, x.2), x.3, x.4),
          λ x. of_number NoteReferences ((too_many_lem t (length lent)).1 (x.0, x.1.0, x.1.1, x.2, x.3)),
        );
        unchanged = λ m z. refl;
      }
    where
      as_number : (m : Refusal) → ◌≡◌ {A = Result ℕ Refusal} (Err r) (Err m) → number r ≡ number m
      as_number m z = let same : r ≡ m = cc in ap number same

      of_number : (m : Refusal) → note_answer t (length lent) ≡ refused (number m) → ◌≡◌ {A = Result ℕ Refusal} (Err r) (Err m)
      of_number m f =
          let same : number r ≡ number m = cc in
          ap (λ (k : Refusal). Err k) (sym (refusal_of-number r) ∙ ap refusal_of same ∙ refusal_of-number m)

  -- The call, refused and not.
  pub call_refused : (r : Refusal) → note_answer t (length lent) ≡ refused (number r) → let a = note_answer t (length lent) in
      (Err r ≡ passes_as a) × (lent ≡ refs_after a lent) × Exact t lent lent (Err r)
  unfolding refs_after
  call_refused r e = (rw (e, refusal_of-number r), rw e, refused_exact r e)

  pub call_given : (line : List ℕ) (count : ℕ) → count ≤ 2048 → length line ≡ 2048 → note_answer t (length lent) ≡ given (take count line)
      → (l : List ℕ) → l ≡ take count line ++ drop count lent → let a = note_answer t (length lent) in
      (Ok count ≡ passes_as a) × (l ≡ refs_after a lent) × Exact t lent l (Ok count)
  unfolding refs_after over
  call_given line count few long e l h =
      let n : length (take count line) ≡ count = length-take-le count line (omega arith) in
      let same : l ≡ over (take count line) lent = h ∙ rw n in
      (rw (e, n), same ∙ rw e, rw same (subst (λ (k : ℕ). Exact t lent (over (take count line) lent) (Ok k)) n (given_exact (take count line) e)))

-- The same, of a note that was read or refused.
module _ (t lent line₀ left₀ line left : List ℕ) where
  pub not_read : (m : Met) → NoteRead t first line₀ left₀ line left (Err m) → let a = note_answer t (length lent) in
      (Err m.refusal ≡ passes_as a) × (lent ≡ refs_after a lent) × Exact t lent lent (Err m.refusal)
  unfolding NoteRead
  not_read m x = call_refused t lent m.refusal (refused-answer t (length lent) x)

  module _ (p : Piece) (h : NoteRead t first line₀ left₀ line left (Ok p)) where
    pub not_closed : (p.at ≡ length t → ⊥) → let a = note_answer t (length lent) in
        (Err NoteMalformed ≡ passes_as a) × (lent ≡ refs_after a lent) × Exact t lent lent (Err NoteMalformed)
    unfolding NoteRead
    not_closed off = call_refused t lent NoteMalformed (closing-answer t (length lent) line₀ left₀ line left p h.0 h.1 h.2 off)

    pub too_many_read : p.at ≡ length t → (2048 < p.count) ⊎ (length lent < p.count) → let a = note_answer t (length lent) in
        (Err NoteReferences ≡ passes_as a) × (lent ≡ refs_after a lent) × Exact t lent lent (Err NoteReferences)
    unfolding NoteRead
    too_many_read last many = call_refused t lent NoteReferences (many-answer t (length lent) line₀ left₀ line left p h.0 h.1 h.2 last many)

    pub note_given : p.at ≡ length t → (count : ℕ) → count ≡ p.count → count ≤ 2048 → count ≤ length lent → length line ≡ 2048
        → (l : List ℕ) → l ≡ take count line ++ drop count lent
        → let a = note_answer t (length lent) in (Ok count ≡ passes_as a) × (l ≡ refs_after a lent) × Exact t lent l (Ok count)
    unfolding NoteRead
    note_given last count same few fits long =
        call_given t lent line count few long
        (rw same (whole-answer t (length lent) line₀ left₀ line left p h.0 h.1 h.2 last (omega arith) (omega arith)))
