-- What the call gives, from what the text is; and the numbers of a refused call. Assumes nothing.
use mathlib.Core.Path.{◌≡◌, refl, sym, ap, subst, ◌∙◌}
use mathlib.Core.Logic.{◌↔◌, ◌⊎◌, inl, inr}
use mathlib.Core.Bool.{true}
use mathlib.Core.List.{List, []}
use Prim.Native.Nat.{ℕ, ◌≤◌, ◌<◌}
use native.Mathlib.Omega.{arith}
use lib.Dec.{ltb, eqb}
use lib.ListN.{length, drop}
use borrow.Author.Tests.{ltb-true, ltb-false, lt-ltb, le-ltb, eqb-true}
use Rattle.bits.specs.Reading.{Answer, given, refused}
use Rattle.bits.proofs.Logic.{by_test, clash}
use Rattle.model.specs.Text.{text}
use Rattle.model.specs.Calls.{among}
use Rattle.grammar.specs.Note.{Note, Proper, note_text, note_refs, note_count, note_depth}
use Rattle.grammar.specs.Reading.{Outcome, whole, stuck, scan, with_room, start, note_answer}
use Rattle.grammar.specs.Places.{IsNote, Malformed, TooDeep, note_refusals}
use Rattle.grammar.proofs.Counts.{note_count_is}
use Rattle.grammar.proofs.Outcomes.{Met, taken, malformed, deep, start-met, note_scan, malformed-scan, deep-scan}

-- A note with its references, of which there are not too many, and of which there are.
room_for : (room : ℕ) (n : Note) → length (note_refs n) ≤ 2048 → length (note_refs n) ≤ room → with_room room (whole n) ≡ given (note_refs n)
unfolding with_room
room_for room n p q =
    let c = note_count_is n in
    rw (le-ltb 2048 (note_count n) (omega arith), le-ltb room (note_count n) (omega arith), with_room)

no_room : (room : ℕ) (n : Note) → (2048 < length (note_refs n)) ⊎ (room < length (note_refs n)) → with_room room (whole n) ≡ refused 24
unfolding with_room
no_room room n (inl h) = let c = note_count_is n in rw (lt-ltb 2048 (note_count n) (omega arith), with_room)
no_room room n (inr h) =
    let c = note_count_is n in
    by_test (ltb 2048 (note_count n)) (λ y. rw (y, with_room)) (λ y. rw (y, lt-ltb room (note_count n) (omega arith), with_room))

-- What the call gives, and why.
data Answered (t : List ℕ) (room : ℕ) : Answer (List ℕ) → Type 0 where
  gives : (n : Note) → IsNote t n → note_depth n ≤ 16 → length (note_refs n) ≤ 2048 → length (note_refs n) ≤ room → Answered t room (given (note_refs n))
  many : (n : Note) → IsNote t n → note_depth n ≤ 16 → (2048 < length (note_refs n)) ⊎ (room < length (note_refs n)) → Answered t room (refused 24)
  no_note : (k : ℕ) → Malformed t k → Answered t room (refused 22)
  too_deep : (k : ℕ) → TooDeep t k → Answered t room (refused 23)

from_met : {t : List ℕ} {o : Outcome} (room : ℕ) → Met t o → Answered t room (with_room room o)
unfolding with_room
from_met room (taken {n = n} h d) =
    by_test (ltb 2048 (length (note_refs n)))
    (λ y. let more = inl (ltb-true 2048 (length (note_refs n)) y) in rw (no_room room n more) (many n h d more))
    (λ y. by_test (ltb room (length (note_refs n)))
    (λ z. let more = inr (ltb-true room (length (note_refs n)) z) in rw (no_room room n more) (many n h d more))
    (λ z. let p = ltb-false 2048 (length (note_refs n)) y in
    let q = ltb-false room (length (note_refs n)) z in
    rw (room_for room n p q) (gives n h d p q)))
from_met room (malformed k e m) = no_note k m
from_met room (deep k e m) = too_deep k m

answered : (t : List ℕ) (room : ℕ) → Answered t room (note_answer t room)
unfolding note_answer
answered t room = from_met room (start-met t)

answer_is : (t : List ℕ) (room : ℕ) (o : Outcome) → scan start t ≡ o → note_answer t room ≡ with_room room o
unfolding note_answer
answer_is t room o e = ap (with_room room) e

-- It gives a string exactly if the text is a note whose meaning it is,
given_note : {t : List ℕ} {room : ℕ} {refs : List ℕ} → Answered t room (given refs)
    → (n : Note) × Proper n × (note_text n ≡ t) × (note_depth n ≤ 16) × (note_refs n ≡ refs) × (length refs ≤ 2048) × (length refs ≤ room)
given_note (gives n h d p q) = (n, h.0, h.1, d, refl, p, q)

pub reads_exactly : (t : List ℕ) (room : ℕ) (refs : List ℕ) → (note_answer t room ≡ given refs)
    ↔ ((n : Note) × Proper n × (note_text n ≡ t) × (note_depth n ≤ 16) × (note_refs n ≡ refs) × (length refs ≤ 2048) × (length refs ≤ room))
reads_exactly t room refs = (
  λ e. given_note (rw e at (answered t room)),
  λ h. let n = h.0 in
      let same = h.4 in
      answer_is t room (whole n) (note_scan t n (h.1, h.2) h.3) ∙ room_for room n (rw same h.5) (rw same h.6) ∙ ap given same,
)

-- 24 exactly if it is a note with too many references,
refused-many : {t : List ℕ} {room : ℕ} → Answered t room (refused 24)
    → (n : Note) × Proper n × (note_text n ≡ t) × (note_depth n ≤ 16) × ((2048 < length (note_refs n)) ⊎ (room < length (note_refs n)))
refused-many (many n h d m) = (n, h.0, h.1, d, m)

pub too_many_lem : (t : List ℕ) (room : ℕ) → (note_answer t room ≡ refused 24)
    ↔ ((n : Note) × Proper n × (note_text n ≡ t) × (note_depth n ≤ 16) × ((2048 < length (note_refs n)) ⊎ (room < length (note_refs n))))
too_many_lem t room = (
  λ e. refused-many (rw e at (answered t room)),
  λ h. let n = h.0 in answer_is t room (whole n) (note_scan t n (h.1, h.2) h.3) ∙ no_room room n h.4,
)

-- 22 exactly if it is malformed at a place, and 23 exactly if it is too deep at a place.
refused-malformed : {t : List ℕ} {room : ℕ} → Answered t room (refused 22) → (k : ℕ) × Malformed t k
refused-malformed (no_note k m) = (k, m)

refused-deep : {t : List ℕ} {room : ℕ} → Answered t room (refused 23) → (k : ℕ) × TooDeep t k
refused-deep (too_deep k m) = (k, m)

pub is_malformed : (t : List ℕ) (room : ℕ) → (note_answer t room ≡ refused 22) ↔ ((k : ℕ) × Malformed t k)
unfolding with_room
is_malformed t room = (
  λ e. refused-malformed (rw e at (answered t room)),
  λ m. answer_is t room (stuck 22 (drop m.0 t)) (malformed-scan t m.0 m.1),
)

pub is_too_deep : (t : List ℕ) (room : ℕ) → (note_answer t room ≡ refused 23) ↔ ((k : ℕ) × TooDeep t k)
unfolding with_room
is_too_deep t room = (
  λ e. refused-deep (rw e at (answered t room)),
  λ m. answer_is t room (stuck 23 (drop m.0 t)) (deep-scan t m.0 m.1),
)

-- A refused call gives 22, 23 or 24, and each of them for some text and room.
abbrev Refused : ℕ → Type 0
Refused n = (t : List ℕ) × (room : ℕ) × (note_answer t room ≡ refused n)

refused-among : {t : List ℕ} {room n : ℕ} → Answered t room (refused n) → among n note_refusals ≡ true
unfolding among
refused-among (many m h d more) = refl
refused-among (no_note k m) = refl
refused-among (too_deep k m) = refl

among-refused : (n : ℕ) → among n note_refusals ≡ true → Refused n
unfolding text among note_answer
among-refused n e =
    by_test (eqb n 22)
    (λ y. subst Refused (sym (eqb-true n 22 y)) ([], 0, refl))
    (λ y. by_test (eqb n 23)
    (λ z. subst Refused (sym (eqb-true n 23 z)) (text "(((((((((((((((((", 0, refl))
    (λ z. by_test (eqb n 24)
    (λ w. subst Refused (sym (eqb-true n 24 w)) (text "1", 0, refl))
    (λ w. clash e (rw (y, z, w)))))

pub note_numbers : (n : ℕ) → (among n note_refusals ≡ true) ↔ ((t : List ℕ) × (room : ℕ) × (note_answer t room ≡ refused n))
note_numbers n = (among-refused n, λ h. refused-among (rw h.2 at (answered h.0 h.1)))
