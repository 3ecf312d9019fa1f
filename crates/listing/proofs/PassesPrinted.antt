-- The line of references block by block, and what is left in the buffer of `passes`: what is printed for its input. Assumes nothing.
use mathlib.Core.Path.{◌≡◌, refl, sym, ap, ◌∙◌}
use Rattle.std.proofs.Common.{Ok, Err}
use mathlib.Core.Bool.{true}
use mathlib.Core.Logic.{◌⊎◌, inl, inr}
use mathlib.Core.List.{List, [], ◌∷◌, ◌++◌, append_assoc}
use Prim.Native.Nat.{ℕ, zero, suc, ◌+◌, ◌-◌, ◌≤◌, ◌<◌}
use native.Mathlib.Numerals.{add-one}
use native.Mathlib.Omega.{arith}
use lib.Dec.{ltb, leb, eqb}
use lib.ListN.{length, take, get_or, length-append}
use lib.Seq.{take_all, take_at, take-length, length-take-le, get_or_at}
use borrow.Author.Tests.{le-ltb, ltb-false, leb-true, leb-false, eq-eqb, ne_eqb, eqb-true}
use Rattle.bits.specs.Bits.{laid, over}
use Rattle.bits.specs.Reading.{Answer, given, refused}
use Rattle.bits.proofs.Logic.{by_test, clash}
use Rattle.model.specs.Calls.{among}
use Rattle.model.specs.Text.{decimal}
use Rattle.model.proofs.Text.{decimal-few}
use Rattle.grammar.specs.Note.{Note, note_count, note_refs, note_depth}
use Rattle.grammar.specs.Places.{IsNote, Malformed, TooDeep, note_refusals}
use Rattle.grammar.specs.Reading.{Outcome, whole, stuck, scan, start, with_room, note_answer}
use Rattle.grammar.proofs.Promises.{reads_exactly, given_blocks, malformed, too-deep, too_many_lem, note_numbers, note-length}
use Rattle.notes.specs.Notes.{passes_as, refs_after}
use Rattle.refusal.specs.declared.Refusal.{Refusal}
use Rattle.refusal.specs.Refusals.{number, refusal_of}
use Rattle.texts.specs.Texts.{Put, refusal_line}
use Rattle.texts.proofs.Laws.{put_start, put_then, put_same, put_laid}
use Rattle.listing.specs.Passes.{note_length, note_in, spaced, Blocks, passes_line, passes_lines, passes_printed}

-- What stands before the block i: a space, but before the first nothing.
unfoldable pub space_before : ℕ → List ℕ
space_before zero = []
space_before (suc i) = 32 ∷ []

pub space-few : (i : ℕ) → (length (space_before i) ≤ 1) × (length (space_before i) ≤ i)
unfolding space_before
space-few zero = omega arith
space-few (suc i) = omega arith

pub space-none : {at : ℕ} {a : List ℕ} (i : ℕ) → i ≤ 0 → Put at (space_before i) a a at
unfolding space_before
space-none {at} {a} zero h = put_start at a
space-none (suc i) h = absurd (omega arith)

pub space_put : {at n : ℕ} {a b : List ℕ} (i : ℕ) → 0 < i → Put at (32 ∷ []) a b n → Put at (space_before i) a b n
unfolding space_before
space_put zero h p = absurd (omega arith)
space_put (suc i) h p = p

-- One block more, of at most three digits.
pub block_three : (b : ℕ) → b ≤ 511 → length (decimal b) ≤ 3
block_three b h = decimal-few 2 b (omega arith)

spaced_more : (i : ℕ) (l : List ℕ) → i < length l → spaced (take (suc i) l) ≡ spaced (take i l) ++ (space_before i ++ decimal (get_or l i 0))
unfolding spaced space_before
spaced_more i [] h = absurd (omega arith)
spaced_more zero (b ∷ l) h = refl
spaced_more (suc i) (b ∷ []) h = absurd (omega arith)
spaced_more (suc zero) (b ∷ c ∷ l) h = refl
spaced_more (suc (suc i)) (b ∷ c ∷ l) h =
    ap (λ (s : List ℕ). decimal b ++ 32 ∷ s) (spaced_more (suc i) (c ∷ l) (omega arith))
    ∙ sym (append_assoc (decimal b) (32 ∷ spaced (c ∷ take i l)) (32 ∷ decimal (get_or l i 0)))

pub put_block : {at k m n : ℕ} {a b c e : List ℕ} (i : ℕ) (blocks : List ℕ) → i < length blocks → Put at (spaced (take i blocks)) a b k → Put k (space_before i) b c m
    → Put m (decimal (get_or blocks i 0)) c e n → Put at (spaced (take (i + 1) blocks)) a e n
put_block i blocks h p q r = rw (add-one i) (put_same (sym (spaced_more i blocks h)) (put_then p (put_then q r)))

-- The note in an input.
pub none_read : (input : List ℕ) → length input < 1 → input ≡ note_in input
unfolding note_in
none_read [] e = refl
none_read (b ∷ input) e = absurd (omega arith)

module _ (input : List ℕ) where
  pub feed_read : get_or input (length input - 1) 0 ≡ 10 → take (length input - 1) input ≡ note_in input
  unfolding note_in
  feed_read e = rw (eq-eqb (get_or input (length input - 1) 0) 10 e)

  pub all_read : (get_or input (length input - 1) 0 ≡ 10 → ⊥) → input ≡ note_in input
  unfolding note_in
  all_read e = rw (ne_eqb (get_or input (length input - 1) 0) 10 e) (sym (take-length input))

  read_most : length input ≤ note_length input + 1
  read_most =
      by_test (eqb (get_or input (length input - 1) 0) 10) (λ y. rw y (omega arith)) (λ y. rw y (omega arith))

  pub read-within : note_length input ≤ length input
  read-within =
      by_test (eqb (get_or input (length input - 1) 0) 10) (λ y. rw y (omega arith)) (λ y. rw y (omega arith))

-- A call that is refused gives the number of its refusal, 22, 23 or 24.
number_back : (n : ℕ) → among n note_refusals ≡ true → (number (refusal_of n) ≡ n) × (n ≤ 24)
unfolding among refusal_of
number_back n e =
    by_test (eqb n 22)
    (λ x. rw (eqb-true n 22 x) (refl, omega arith))
    (λ x. by_test (eqb n 23)
    (λ y. rw (eqb-true n 23 y) (refl, omega arith))
    (λ y. by_test (eqb n 24)
    (λ z. rw (eqb-true n 24 z) (refl, omega arith))
    (λ z. clash e (rw (x, y, z)))))

pub refused_by : (t : List ℕ) (room : ℕ) (r : Refusal) → Err r ≡ passes_as (note_answer t room) → (note_answer t room ≡ refused (number r)) × (number r ≤ 24)
refused_by t room r e = go (note_answer t room) refl e
  where
    go : (x : Answer (List ℕ)) → note_answer t room ≡ x → Err r ≡ passes_as x → (x ≡ refused (number r)) × (number r ≤ 24)
    go (given refs) q f = absurd (cc)
    go (refused n) q f =
        let same : r ≡ refusal_of n = cc in
        let back = number_back n ((note_numbers n).1 (t, room, q)) in
        let is : number r ≡ n = ap number same ∙ back.0 in
        (ap refused (sym is), omega (arith, is, back.1))

-- A call that is not refused gives a string, at the start of the slice.
pub given_by : (t : List ℕ) (room count : ℕ) (lent after : List ℕ) → Ok count ≡ passes_as (note_answer t room) → after ≡ refs_after (note_answer t room) lent
    → note_answer t room ≡ given (take count after)
unfolding refs_after over
given_by t room count lent after e f = go (note_answer t room) e f
  where
    go : (x : Answer (List ℕ)) → Ok count ≡ passes_as x → after ≡ refs_after x lent → x ≡ given (take count after)
    go (given refs) p q = let n : length refs ≡ count = cc in ap given (rw q (sym (take_at refs _ count n)))
    go (refused n) p q = absurd (cc)

-- A buffer holds what is printed, and that has n bytes, of which there are few.
abbrev pub Printed : List ℕ → List ℕ → List ℕ → ℕ → Type 0
Printed input out after n = (after ≡ laid (passes_printed input) out) × ((n ≡ length (passes_printed input)) × (n ≤ 8192))

-- No string has more than 2,048 references, so a longer slice changes no answer.
room_enough : (room : ℕ) (o : Outcome) → 2048 ≤ room → with_room room o ≡ with_room 2048 o
unfolding with_room
room_enough room (stuck n l) h = refl
room_enough room (whole n) h =
    by_test (ltb 2048 (note_count n))
    (λ y. rw (y, with_room))
    (λ y. let few = ltb-false 2048 (note_count n) y in rw (y, le-ltb room (note_count n) (omega (arith, few)), with_room))

answer-enough : (t : List ℕ) (room : ℕ) → 2048 ≤ room → note_answer t room ≡ note_answer t 2048
unfolding note_answer
answer-enough t room h = room_enough room (scan start t) h

-- a text that is put at the start of the buffer
put_printed : (input : List ℕ) {s out after : List ℕ} {n : ℕ} → passes_printed input ≡ s → Put 0 s out after n → n ≤ 8192 → Printed input out after n
put_printed input same put few = let w = put_laid (sym same) put in (w.0, (w.1, few))

-- A slice of `room` entries, of which there are enough, and the note in the input.
module _ (input t : List ℕ) (room : ℕ) (is : t ≡ note_in input) (enough : 2048 ≤ room) where
  same : note_answer (note_in input) 2048 ≡ note_answer t room
  same = sym (answer-enough (note_in input) room enough) ∙ ap (λ (s : List ℕ). note_answer s room) (sym is)

  pub refusal_printed : (r : Refusal) → Err r ≡ passes_as (note_answer t room)
      → {k : ℕ} → k ≡ number r → {out after : List ℕ} {n : ℕ} → Put 0 (refusal_line k) out after n → n ≤ 14 → Printed input out after n
  unfolding passes_printed passes_lines
  refusal_printed r e is put few = put_printed input (ap passes_lines (same ∙ (refused_by t room r e).0 ∙ ap refused (sym is))) put (omega (arith, few))

  module _ (count : ℕ) (lent after : List ℕ) (e : Ok count ≡ passes_as (note_answer t room)) (f : after ≡ refs_after (note_answer t room) lent) where
    string_is : note_answer (note_in input) 2048 ≡ given (take count after)
    string_is = same ∙ given_by t room count lent after e f

    pub count-within : count ≤ 2048
    count-within = go (note_answer t room) refl e
      where
        go : (x : Answer (List ℕ)) → note_answer t room ≡ x → Ok count ≡ passes_as x → count ≤ 2048
        go (given refs) q p = let n : count ≡ length refs = cc in let few = ((reads_exactly t room refs).0 q).5 in omega (arith, n, few)
        go (refused n) q p = absurd (cc)

    pub string_blocks : Blocks (take count after)
    string_blocks = record {
      few = ((reads_exactly (note_in input) 2048 (take count after)).0 string_is).5;
      small = given_blocks (note_in input) 2048 (take count after) string_is;
    }

    pub string_printed : {out end : List ℕ} {n : ℕ} → Put 0 (passes_line (take count after)) out end n → n ≤ 8192 → Printed input out end n
    unfolding passes_printed passes_lines
    string_printed put few = put_printed input (ap passes_lines string_is) put few

-- The note in an input: one line feed at its end is not part of it, and all else is.
pub note_in_feed : (s : List ℕ) → note_in (s ++ 10 ∷ []) ≡ s
unfolding note_in
note_in_feed s =
    let long : length (s ++ 10 ∷ []) - 1 ≡ length s = omega (arith, length-append s (10 ∷ [])) in
    let last : get_or (s ++ 10 ∷ []) (length (s ++ 10 ∷ []) - 1) 0 ≡ 10 = get_or_at s 10 [] 0 _ (sym long) in
    rw (eq-eqb (get_or (s ++ 10 ∷ []) (length (s ++ 10 ∷ []) - 1) 0) 10 last, long) (take_at s (10 ∷ []) (length s) refl)

pub note_in_all : (s : List ℕ) (b : ℕ) → (b ≡ 10 → ⊥) → note_in (s ++ b ∷ []) ≡ s ++ b ∷ []
unfolding note_in
note_in_all s b f =
    let long : length (s ++ b ∷ []) - 1 ≡ length s = omega (arith, length-append s (b ∷ [])) in
    let last : get_or (s ++ b ∷ []) (length (s ++ b ∷ []) - 1) 0 ≡ b = get_or_at s b [] 0 _ (sym long) in
    rw (ne_eqb (get_or (s ++ b ∷ []) (length (s ++ b ∷ []) - 1) 0) 10 (λ e. f (sym last ∙ e))) (take-length (s ++ b ∷ []))

-- An input of more than 147,454 bytes, one more than the longest note has, is refused.
pub long-refused : (input : List ℕ) → 147454 < length input → (n : ℕ) × (passes_printed input ≡ refusal_line n)
unfolding passes_printed passes_lines note_in
long-refused input h = go (note_answer (note_in input) 2048) refl
  where
    go : (x : Answer (List ℕ)) → note_answer (note_in input) 2048 ≡ x → (n : ℕ) × (passes_printed input ≡ refusal_line n)
    go (given refs) q =
        let few = note-length (note_in input) 2048 refs q in
        let long = length-take-le (note_length input) input (read-within input) in
        let most = read_most input in
        absurd (omega (arith, few, long, most, h))
    go (refused n) q = (n, ap passes_lines q)

-- So what is printed for the first 1,048,576 bytes of an input is what is printed for the input, or both are refused. The numbers can differ: a
-- longer `1 1 1 ..` has too many references, 24, and cut after a space it is malformed, 22.
pub cut_passes : (t : List ℕ) → (passes_printed (take 1048576 t) ≡ passes_printed t)
    ⊎ ((m : ℕ) × (n : ℕ) × (passes_printed (take 1048576 t) ≡ refusal_line m) × (passes_printed t ≡ refusal_line n))
cut_passes t =
    by_test (leb (length t) 1048576)
    (λ y. inl (ap passes_printed (take_all 1048576 t (leb-true (length t) 1048576 y))))
    (λ y. let long = leb-false (length t) 1048576 y in
    let e = length-take-le 1048576 t (omega (arith, long)) in
    let a = long-refused (take 1048576 t) (omega (arith, e)) in
    let b = long-refused t (omega (arith, long)) in
    inr (a.0, b.0, a.1, b.1))

-- What is printed for an input, in the terms of the grammar alone: the references of every note that is within the bounds, and otherwise why there
-- are none.
pub passes_exactly : (input : List ℕ) (n : Note) → IsNote (note_in input) n → note_depth n ≤ 16 → length (note_refs n) ≤ 2048
    → passes_printed input ≡ passes_line (note_refs n)
unfolding passes_printed passes_lines
passes_exactly input n h d f = ap passes_lines ((reads_exactly (note_in input) 2048 (note_refs n)).1 (n, h.0, h.1, d, refl, f, f))

pub passes_malformed : (input : List ℕ) (k : ℕ) → Malformed (note_in input) k → passes_printed input ≡ refusal_line 22
unfolding passes_printed passes_lines
passes_malformed input k h = ap passes_lines ((malformed (note_in input) 2048).1 (k, h))

pub passes_too_deep : (input : List ℕ) (k : ℕ) → TooDeep (note_in input) k → passes_printed input ≡ refusal_line 23
unfolding passes_printed passes_lines
passes_too_deep input k h = ap passes_lines ((too-deep (note_in input) 2048).1 (k, h))

pub passes_too_many : (input : List ℕ) (n : Note) → IsNote (note_in input) n → note_depth n ≤ 16 → 2048 < length (note_refs n) → passes_printed input ≡ refusal_line 24
unfolding passes_printed passes_lines
passes_too_many input n h d f = ap passes_lines ((too_many_lem (note_in input) 2048).1 (n, h.0, h.1, d, inl f))
