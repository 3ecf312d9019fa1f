-- Request L10: calls for the least slots and what each gives, for jobs of the table of `model` and one more. Each row ends in the proof that its call
-- gives what it says, by computation. Assumes nothing.
use mathlib.Core.Path.{◌≡◌, refl}
use mathlib.Core.List.{List, [], ◌∷◌}
use mathlib.Core.Option.{Option, none, some}
use Prim.Native.Nat.{ℕ}
use Rattle.bits.specs.Reading.{Answer, given, refused, bind, ◌>>=◌, ◌>>◌, give, field, refuse_if, many, is_closed, closing, answer, read_all}
use Rattle.model.specs.Job.{up_to}
use Rattle.model.specs.Ticket.{slots_field, disk_field, ref_field, carried_blocks, carried_field, carried_fields, ticket_reader, ticket_of}
use Rattle.model.specs.Playing.{none_resident, load}
use Rattle.model.specs.Calls.{stop_at, job_up_to, references_of, Counts}
use Rattle.model.proofs.Rows.{hex, counts}
use Rattle.model.proofs.Jobs.{ticket_a, ticket_d, ticket_g, ticket_full}
use Rattle.slot_counts.specs.Slots.{SlotsFound, with_sheet, slots_answer}

-- one disk with 64 slots and 64 blocks, all of them carried in, string 63
abbrev ticket_all : List ℕ
ticket_all = hex 103 0x180200000000000000000000000000000000000000000000000000008fe00000202018100a0603820120a058301a0e078402212098502a160b860321a0d8703a1e0f8804222118904a26138a0522a158b05a2e178c06232198d06a361b8e0723a1d8f07a3e1f80

record Case : Type 0 where
  ticket : List ℕ
  stop : ℕ
  disk : ℕ
  wanted : ℕ
  room : ℕ
  gives : Answer (Option SlotsFound)
  holds : slots_answer ticket stop disk wanted room ≡ gives

-- a call with a stop; and one with the stop N of its ticket
abbrev row_up_to : (stop : ℕ) (t : List ℕ) (d wanted room : ℕ) (a : Answer (Option SlotsFound)) → slots_answer t stop d wanted room ≡ a → Case
row_up_to stop t d wanted room a e = record { ticket = t; stop = stop; disk = d; wanted = wanted; room = room; gives = a; holds = e }

abbrev row : (t : List ℕ) (d wanted room : ℕ) (a : Answer (Option SlotsFound)) → slots_answer t (references_of (ticket_of t)) d wanted room ≡ a → Case
row t d wanted room a e = row_up_to (references_of (ticket_of t)) t d wanted room a e

-- a slot count, with the counts and the sheet of the short plan for it
abbrev found : ℕ → Counts → List ℕ → Answer (Option SlotsFound)
found s c sheet = given (some (record { slots = s; counts = c; sheet = sheet }))

table : List Case
unfolding hex slots_answer stop_at up_to job_up_to ◌>>=◌ ◌>>◌ bind give field refuse_if many is_closed closing answer read_all slots_field disk_field ref_field carried_blocks carried_field carried_fields ticket_reader ticket_of load none_resident with_sheet
table =
    -- "the least slot count for that disk, .., with which some sheet finishes within those rounds, the other disks unchanged. Give the
    -- short sheet for it". G's disk 0, which has three slots: 6 rounds with three, and 5 with four; with two slots 9, with one 13.
    row ticket_g 0 6 40962 (found 3 (counts 6 6 5) (hex 23 0x0068010220140a8090320380a078120280e0481e038080)) refl ∷
    row ticket_g 0 5 40962 (found 4 (counts 5 4 5) (hex 17 0x0058010220140a8090320340f0220481c0)) refl ∷
    row ticket_g 0 8 40962 (found 3 (counts 6 6 5) (hex 23 0x0068010220140a8090320380a078120280e0481e038080)) refl ∷
    row ticket_g 0 9 40962 (found 2 (counts 9 9 5) (hex 32 0x0098010220140a80a0181901c0503c0900c0680a0181207806004070120080c0)) refl ∷
    row ticket_g 0 13 40962 (found 1 (counts 13 13 5) (hex 43 0x00d801022018020540500c0c80e0281e0480203403002028060481e0080900c0080a014070120080d00c00)) refl ∷
    row ticket_g 0 18446744073709551615 43 (found 1 (counts 13 13 5) (hex 43 0x00d801022018020540500c0c80e0281e0480203403002028060481e0080900c0080a014070120080d00c00)) refl ∷
    -- G's disk 1, which has three slots too: 8 rounds with two, where disk 0 with two would take 9.
    row ticket_g 1 8 40962 (found 2 (counts 8 6 6) (hex 27 0x0088010220140a80880e0281a0480a0381e0640903a06816038080)) refl ∷
    -- "or the answer none": A takes a round with any slots. Up to a stop; nothing to read.
    row ticket_a 0 0 40962 (given none) refl ∷
    row ticket_a 0 1 40962 (found 1 (counts 1 1 0) (hex 3 0x001800)) refl ∷
    row_up_to 4 ticket_g 0 3 40962 (found 1 (counts 3 3 1) (hex 10 0x00380102201801014020)) refl ∷
    row_up_to 0 ticket_a 0 0 40962 (found 1 (counts 0 0 0) (hex 2 0x0000)) refl ∷
    -- "from 1 to 64 and not below the blocks it carries in": F with 1 carried in on disk 0, and 2 and 3 on disk 1, up to 2, where nothing has to be
    -- fetched; and 64 blocks carried in.
    row_up_to 2 ticket_full 0 0 40962 (found 1 (counts 0 0 0) (hex 2 0x0000)) refl ∷
    row_up_to 2 ticket_full 1 0 40962 (found 2 (counts 0 0 0) (hex 2 0x0000)) refl ∷
    row ticket_all 0 0 40962 (found 64 (counts 0 0 0) (hex 2 0x0000)) refl ∷
    -- "Turned away: 27, the disk is not in the ticket, tested after the stop, and 17 where that sheet's buffer is too small": of the 3 bytes of A's
    -- sheet, exact room and one byte less. 27 comes before 17 and before none, and 21 and the ticket's numbers before 27; none needs no room.
    row ticket_a 0 1 3 (found 1 (counts 1 1 0) (hex 3 0x001800)) refl ∷
    row ticket_a 0 1 2 (refused 17) refl ∷
    row ticket_a 0 0 0 (given none) refl ∷
    row ticket_a 1 1 2 (refused 27) refl ∷
    row ticket_a 1 0 40962 (refused 27) refl ∷
    row ticket_a 18446744073709551615 1 40962 (refused 27) refl ∷
    row ticket_d 2 4 40962 (refused 27) refl ∷
    row_up_to 2 ticket_a 1 1 2 (refused 21) refl ∷
    row_up_to 2 ticket_a 0 1 40962 (refused 21) refl ∷
    row_up_to 2 [] 1 1 0 (refused 1) refl ∷
    row_up_to 2 (hex 7 0x10200800100001) 1 1 0 (refused 8) refl ∷
    []
