-- All that is promised of notes, in the terms of document 02, L6. Each promise is closed by one citation. `Note` (specs/Note.antt) says what a note
-- is, `note_text` how it is written and `note_refs` what it means; `scan` and `note_answer` (specs/Reading.antt) what reading comes to and what the call
-- gives, for any characters and any room in the lent slice; `Malformed` and `TooDeep` (specs/Places.antt) where 22 and 23 are met. Assumes nothing.
use mathlib.Core.Path.{◌≡◌}
use mathlib.Core.Logic.{◌↔◌, ◌⊎◌}
use mathlib.Core.Bool.{true}
use mathlib.Core.List.{List}
use Prim.Native.Nat.{ℕ, ◌≤◌, ◌<◌}
use lib.ListN.{length, get_or, take, drop}
use Rattle.bits.specs.Reading.{given, refused}
use Rattle.model.specs.Calls.{among}
use Rattle.grammar.specs.Note.{Note, Proper, note_text, note_refs, note_depth}
use Rattle.grammar.specs.Reading.{stuck, scan, start, note_answer}
use Rattle.grammar.specs.Places.{opened, Malformed, TooDeep, note_refusals}
use Rattle.grammar.proofs.Blocks
use Rattle.grammar.proofs.Complete
use Rattle.grammar.proofs.Open
use Rattle.grammar.proofs.Outcomes
use Rattle.grammar.proofs.Gives
use Rattle.grammar.proofs.Longest

-- 1. "The string is exactly the meaning of the note": the call gives a string exactly if the text is some note at most 16 parentheses deep, whose
-- meaning it is, with at most 2,048 references and no more than the slice holds.
pub reads_exactly : (t : List ℕ) (room : ℕ) (refs : List ℕ) → (note_answer t room ≡ given refs)
    ↔ ((n : Note) × Proper n × (note_text n ≡ t) × (note_depth n ≤ 16) × (note_refs n ≡ refs) × (length refs ≤ 2048) × (length refs ≤ room))
reads_exactly = Gives.reads_exactly

-- Each of them is a block, 0 to 511, so that an entry of 16 bits holds it.
pub given_blocks : (t : List ℕ) (room : ℕ) (refs : List ℕ) → note_answer t room ≡ given refs → (i : ℕ) → i < length refs → get_or refs i 0 ≤ 511
given_blocks = Blocks.given_blocks

-- 2. "a note has one reading": two notes that are written alike are the same note.
pub one_reading : (n m : Note) → Proper n → Proper m → note_text n ≡ note_text m → n ≡ m
one_reading = Complete.one_reading

-- 3. "22, malformed, met at the first character (or the end) with which no note can go on": the call is refused with 22 exactly if the text is
-- malformed at some place, and that place is where reading stops.
pub malformed : (t : List ℕ) (room : ℕ) → (note_answer t room ≡ refused 22) ↔ ((k : ℕ) × Malformed t k)
malformed = Gives.is_malformed

pub malformed-place : (t : List ℕ) (k : ℕ) → k ≤ length t → (scan start t ≡ stuck 22 (drop k t)) ↔ Malformed t k
malformed-place t k h = (Outcomes.scan-malformed t k h, Outcomes.malformed-scan t k)

-- 4. "and 23, more than 16 parentheses open, whichever is met first from the left, and 22 where both fall on one character": the same for 23.
pub too-deep : (t : List ℕ) (room : ℕ) → (note_answer t room ≡ refused 23) ↔ ((k : ℕ) × TooDeep t k)
too-deep = Gives.is_too_deep

pub too_deep-place : (t : List ℕ) (k : ℕ) → k ≤ length t → (scan start t ≡ stuck 23 (drop k t)) ↔ TooDeep t k
too_deep-place t k h = (Outcomes.scan_too_deep t k h, Outcomes.deep-scan t k)

-- How deep a note is, is the most parentheses that are open at a time.
pub depth_is : (n : Note) → ((j : ℕ) → opened (take j (note_text n)) ≤ note_depth n) × ((j : ℕ) × (opened (take j (note_text n)) ≡ note_depth n))
depth_is = Open.depth_most

-- 5. "then 24, more than 2048 references or than the lent buffer holds": exactly if the text is a note at most 16 deep with so many.
pub too_many_lem : (t : List ℕ) (room : ℕ) → (note_answer t room ≡ refused 24)
    ↔ ((n : Note) × Proper n × (note_text n ≡ t) × (note_depth n ≤ 16) × ((2048 < length (note_refs n)) ⊎ (room < length (note_refs n))))
too_many_lem = Gives.too_many_lem

-- 6. A refused call gives one of 22, 23 and 24, and each of these for some text and room.
pub note_numbers : (n : ℕ) → (among n note_refusals ≡ true) ↔ ((t : List ℕ) × (room : ℕ) × (note_answer t room ≡ refused n))
note_numbers = Gives.note_numbers

-- 7. A text that is given has at most 147,453 characters, 72 for each of 2,048 references less the last ` | `; and one is that long.
pub note-length : (t : List ℕ) (room : ℕ) (refs : List ℕ) → note_answer t room ≡ given refs → length t ≤ 147453
note-length = Longest.note-length

pub note_longest : (t : List ℕ) × (refs : List ℕ) × (note_answer t 2048 ≡ given refs) × (length t ≡ 147453)
note_longest = Longest.note_longest
