-- What the call returns and leaves in the lent slice, and what is promised of it. Assumes nothing.
use Rattle.std.specs.Prelude.{◌≡◌, true, ◌↔◌, ◌⊎◌, List, ℕ, ◌≤◌, ◌<◌, length, Result, Ok, Err, IsOk}
use Rattle.bits.specs.Bits.{over}
use Rattle.bits.specs.Reading.{Answer, given, refused}
use Rattle.grammar.specs.Note.{Note, note_refs, note_depth}
use Rattle.model.specs.Calls.{among}
use Rattle.grammar.specs.Places.{IsNote, Malformed, TooDeep, note_refusals}
use Rattle.refusal.specs.declared.Refusal.{Refusal}
use Rattle.refusal.specs.declared.Refusal.TheVariants.{NoteMalformed, NoteParentheses, NoteReferences}
use Rattle.refusal.specs.Refusals.{number, refusal_of}

-- "its count is returned"; document 01: "A refused call returns its number with all counts 0"; a refusal carries no count
abbrev pub passes_as : Answer (List ℕ) → Result ℕ Refusal
passes_as (given refs) = Ok (length refs)
passes_as (refused n) = Err (refusal_of n)

-- "It goes into a lent slice of 16-bit numbers, one for each reference ..; entries past it stay"; a refused call "changes no lent byte".
unfoldable pub refs_after : Answer (List ℕ) → List ℕ → List ℕ
unfolding over
refs_after (given refs) lent = over refs lent
refs_after (refused n) lent = lent

-- "The string is exactly the meaning of the note", and which texts are turned away, with which number: all that the call returns, for every text and
-- every slice, in the terms of the grammar alone.
pub record Exact (t lent after : List ℕ) (r : Result ℕ Refusal) : Type 0 where
  pub numbers : (e : Refusal) → r ≡ Err e → among (number e) note_refusals ≡ true
  pub means : IsOk r ↔ ((n : Note) × IsNote t n × (note_depth n ≤ 16) × (length (note_refs n) ≤ 2048) × (length (note_refs n) ≤ length lent))
  pub written : (n : Note) → IsNote t n → (count : ℕ) → r ≡ Ok count → (after ≡ over (note_refs n) lent) × (count ≡ length (note_refs n))
  pub malformed : (r ≡ Err NoteMalformed) ↔ ((k : ℕ) × Malformed t k)
  pub too_deep : (r ≡ Err NoteParentheses) ↔ ((k : ℕ) × TooDeep t k)
  pub too_many : (r ≡ Err NoteReferences)
      ↔ ((n : Note) × IsNote t n × (note_depth n ≤ 16) × ((2048 < length (note_refs n)) ⊎ (length lent < length (note_refs n))))
  pub unchanged : (e : Refusal) → r ≡ Err e → after ≡ lent
