-- Document 01, "Jobs worked through": the jobs marked P as one table of calls and what each gives, with rows for the order in which the numbers of a
-- refusal are tested, which no theorem sees, and for the calls of document 02 but that of L10 (crates/slot_counts/proofs/Answers.antt). "Cases marked
-- P are proved together as one table over the definitions": each row (`Rows`) ends in the proof that its call gives what it says, by computation. The
-- jobs are those of `Jobs`. Assumes nothing.
use mathlib.Core.Path.{◌≡◌, refl}
use mathlib.Core.Bool.{true, false}
use mathlib.Core.List.{List, [], ◌∷◌}
use native.Mathlib.Omega.{arith}
use Rattle.bits.specs.Reading.{bind, ◌>>=◌, ◌>>◌, give, field, refuse_if, many, is_closed, closing, answer, read_all}
use Rattle.model.specs.Job.{Job, up_to}
use Rattle.model.specs.Ticket.{slots_field, disk_field, ref_field, carried_blocks, carried_field, carried_fields, ticket_reader, ticket_of}
use Rattle.model.specs.Playing.{none_resident, start, load, play}
use Rattle.model.specs.Text.{text}
use Rattle.model.specs.Page.{ended}
use Rattle.model.specs.Sheet.{discard_reader, fetch_reader, action_reader, round_reader, rounds_reader, sheet_reader, schedule_read}
use Rattle.model.specs.Valid.{discards_full_from}
use Rattle.model.specs.Calls.{stop_at, job_up_to, SparingWithin, is_first, is_second, is_short, is_sparing}
use Rattle.model.proofs.Rows.{hex, read, plan, plan_into, page, check, choose, plan_from_c, check_from_c, choose_from_c, passes, writes, number, job, outcome, Case, row_up_to, ticket_in, row, job_with, job_carrying, counts, planned, page_with, chose}
use Rattle.model.proofs.Jobs.{ticket_a, ticket_b, ticket_c, ticket_d, ticket_e, ticket_f, ticket_g, ticket_two, job_two, replacing, ticket_waiting, job_waiting, counts_short, counts_waiting, ticket_ten, ticket_hundred, ticket_both, ticket_again, ticket_full, lines_f, lines_g, lines_g5, lines_both, lines_full, lines_ten}

-- The schedule `replacing` discards beside an empty slot; with one slot it discards from the full one.
pub beside_empty : discards_full_from job_two (start job_two) replacing ≡ false
unfolding discards_full_from start none_resident load
beside_empty = refl

pub in_full : (let j : Job = record { slots = 1 ∷ []; block_disks = 0 ∷ 0 ∷ []; refs = 0 ∷ 1 ∷ []; carried = [] ∷ [] } in discards_full_from j (start j) replacing) ≡ true
unfolding discards_full_from start none_resident load
in_full = refl

-- Request L8, of the two plans in the row of `ticket_waiting`: 30 rounds are within D times 18, and would not be within D − 1 times;
waiting_within : SparingWithin job_waiting counts_short counts_waiting
unfolding SparingWithin
waiting_within = omega arith

-- 36 would be too, and 37 would not.
waiting_most : SparingWithin job_waiting counts_short (counts 36 17 17) × (SparingWithin job_waiting counts_short (counts 37 17 17) → ⊥)
unfolding SparingWithin
waiting_most = (omega arith, λ h. omega (arith, h))

-- Where two tests that follow each other can both refuse, a row says which one does. These cannot: 1 inside the last carried block and 8; 10 and the
-- end inside the first fetch bit, since a sheet has whole bytes; 11 for a block of B or more and 12, since no such block is ever in a buffer; 13 and
-- either of 20 and 14, since the discard bit leads to 13 or to those two.
pub table : List Case
unfolding hex outcome ticket_in stop_at up_to job_up_to text ended ◌>>=◌ ◌>>◌ bind give field refuse_if many is_closed closing answer read_all slots_field disk_field ref_field carried_blocks carried_field carried_fields ticket_reader ticket_of discard_reader fetch_reader action_reader round_reader rounds_reader sheet_reader schedule_read play load none_resident
table =
    -- A: "one disk, one slot, one block, string 0. Both sheets 00 18 00; 1 round; sparing"
    row (read ticket_a) (job_with (1 ∷ []) (0 ∷ []) (0 ∷ [])) refl ∷
    row (plan ticket_a) (planned is_sparing 3 (counts 1 1 0) (counts 1 1 0) (hex 3 0x001800) (hex 3 0x001800)) refl ∷
    row (check ticket_a (hex 3 0x001800)) (passes (counts 1 1 0)) refl ∷
    -- B: "N = 0. 0 rounds; sheets 00 00; sparing"
    row (read ticket_b) (job_with (1 ∷ []) (0 ∷ []) []) refl ∷
    row (plan ticket_b) (planned is_sparing 2 (counts 0 0 0) (counts 0 0 0) (hex 2 0x0000) (hex 2 0x0000)) refl ∷
    row (check ticket_b (hex 2 0x0000)) (passes (counts 0 0 0)) refl ∷
    -- C: "1; 1; 0 1 0. 3 rounds, 3 fetches; sparing"
    row (read ticket_c) (job_with (1 ∷ []) (0 ∷ 0 ∷ []) (0 ∷ 1 ∷ 0 ∷ [])) refl ∷
    row (plan ticket_c) (planned is_sparing 8 (counts 3 3 0) (counts 3 3 0) (hex 8 0x00380100c0100402) (hex 8 0x00380100c0100402)) refl ∷
    -- D: "2; 1 and 1; blocks 0,1 and 2,3; 0 2 3 1. 2 rounds, fetches 2 and 2; sparing"
    row (read ticket_d) (job_with (1 ∷ 1 ∷ []) (0 ∷ 0 ∷ 1 ∷ 1 ∷ []) (0 ∷ 2 ∷ 3 ∷ 1 ∷ [])) refl ∷
    row (plan ticket_d) (planned is_sparing 10 (counts 2 2 2) (counts 2 2 2) (hex 10 0x00280101201802038080) (hex 10 0x00280101201802038080)) refl ∷
    -- E: "2; 1 and 1; blocks 0,1 and 2,3; 2 3 0 1. 3 rounds, fetches 2 and 2; sparing"
    row (read ticket_e) (job_with (1 ∷ 1 ∷ []) (0 ∷ 0 ∷ 1 ∷ 1 ∷ []) (2 ∷ 3 ∷ 0 ∷ 1 ∷ [])) refl ∷
    row (plan ticket_e) (planned is_sparing 10 (counts 3 2 2) (counts 3 2 2) (hex 10 0x00380101101c0500c000) (hex 10 0x00380101101c0500c000)) refl ∷
    -- F: "2; 1 and 2; blocks 0,1 and 2,3,4; 2 3 0 1 2 4 3. 4 rounds each; short fetches 2 and 4, sparing 2 and 3; sparing"
    row (read ticket_f) (job_with (1 ∷ 2 ∷ []) (0 ∷ 0 ∷ 1 ∷ 1 ∷ 1 ∷ []) (2 ∷ 3 ∷ 0 ∷ 1 ∷ 2 ∷ 4 ∷ 3 ∷ [])) refl ∷
    row (plan ticket_f) (planned is_sparing 11 (counts 4 2 4) (counts 4 2 3) (hex 14 0x00480101101a018020480d01c080) (hex 11 0x00480101101a0180081202)) refl ∷
    row (check ticket_f (hex 14 0x00480101101a018020480d01c080)) (passes (counts 4 2 4)) refl ∷
    row (check ticket_f (hex 11 0x00480101101a0180081202)) (passes (counts 4 2 3)) refl ∷
    -- G: "Figure 1 of document 000: 3 slots each, a1..a4 as 0..3, b1..b4 as 4..7. Short 6 rounds, sparing 7; fetches 6 and 5 in both; short"
    row (read ticket_g) (job_with (3 ∷ 3 ∷ []) (0 ∷ 0 ∷ 0 ∷ 0 ∷ 1 ∷ 1 ∷ 1 ∷ 1 ∷ []) (0 ∷ 1 ∷ 2 ∷ 4 ∷ 3 ∷ 0 ∷ 1 ∷ 5 ∷ 6 ∷ 7 ∷ 2 ∷ 4 ∷ 5 ∷ 6 ∷ 0 ∷ 1 ∷ 2 ∷ 4 ∷ 3 ∷ 0 ∷ 1 ∷ [])) refl ∷
    row (plan ticket_g) (planned is_short 23 (counts 6 6 5) (counts 7 6 5) (hex 23 0x0068010220140a8090320380a078120280e0481e038080) (hex 23 0x0078010220140a809032038090140703c0c81a0780e020)) refl ∷
    -- H: "A's ticket, sheet 00 00. 15"
    row (check ticket_a (hex 2 0x0000)) (number 15) refl ∷
    -- K: "Empty ticket; the single byte 00. 1; 2"
    row (plan []) (number 1) refl ∷
    row (plan (hex 1 0x00)) (number 2) refl ∷
    -- L, which a program runs too: "A planned into buffers of 3 and 2 bytes; of 2 and 2. 18; 17". 17 is about the short sheet, of 14 bytes in F,
    -- and 18 about the sparing one, of 11: exact room, and one byte less for each. The ticket comes before both: A's with a byte more, and no room.
    row (plan_into ticket_a 3 2) (number 18) refl ∷
    row (plan_into ticket_a 2 2) (number 17) refl ∷
    row (plan_into ticket_f 14 11) (planned is_sparing 11 (counts 4 2 4) (counts 4 2 3) (hex 14 0x00480101101a018020480d01c080) (hex 11 0x00480101101a0180081202)) refl ∷
    row (plan_into ticket_f 13 11) (number 17) refl ∷
    row (plan_into ticket_f 14 10) (number 18) refl ∷
    row (plan_into (hex 8 0x1020080010000000) 0 0) (number 8) refl ∷
    row (plan_into (hex 8 0x1020080010000000) 40962 0) (number 8) refl ∷
    -- The order of a ticket's refusals. 1 comes before the value of the field in which the ticket ends. With zeros for the bits that are missing,
    -- it would be 0 and 120 slots; B 0 and 992; disk 6 of 1; N 4080; references 0 and 448 of 1 block. (D 0: the empty ticket of K.)
    row (plan (hex 1 0x10)) (number 1) refl ∷
    row (plan (hex 1 0x1f)) (number 1) refl ∷
    row (plan (hex 2 0x1020)) (number 1) refl ∷
    row (plan (hex 2 0x103f)) (number 1) refl ∷
    row (plan (hex 4 0x10202003)) (number 1) refl ∷
    row (plan (hex 4 0x102008ff)) (number 1) refl ∷
    row (plan (hex 6 0x102008002000)) (number 1) refl ∷
    row (plan (hex 6 0x102008002007)) (number 1) refl ∷
    -- A field's value comes before the end inside the next field: D 9 (D 0: the byte 00 of K); 0 and 65 slots, before the next disk's and before B;
    -- B 0, before N, and 513, before the disk of block 0 and of block 1; disk 1 of 1, before the next block's and before N; N 2049; reference 1
    -- of 1 block.
    row (plan (hex 1 0x90)) (number 2) refl ∷
    row (plan (hex 2 0x2000)) (number 3) refl ∷
    row (plan (hex 2 0x2820)) (number 3) refl ∷
    row (plan (hex 2 0x1000)) (number 3) refl ∷
    row (plan (hex 2 0x1820)) (number 3) refl ∷
    row (plan (hex 3 0x102000)) (number 4) refl ∷
    row (plan (hex 7 0x60204081020601)) (number 4) refl ∷
    row (plan (hex 3 0x103008)) (number 4) refl ∷
    row (plan (hex 3 0x102011)) (number 5) refl ∷
    row (plan (hex 3 0x102009)) (number 5) refl ∷
    row (plan (hex 5 0x1020088010)) (number 6) refl ∷
    row (plan (hex 6 0x102008002008)) (number 7) refl ∷
    -- The last reference, 1 of 1 block, comes before the end inside the count of carried blocks, before the closing bits 0001 and before a byte
    -- more: 7, and then 8 for each of the last two by itself.
    row (plan (hex 6 0x102008001008)) (number 7) refl ∷
    row (plan (hex 7 0x10200800100801)) (number 7) refl ∷
    row (plan (hex 8 0x1020080010080000)) (number 7) refl ∷
    row (plan (hex 7 0x10200800100001)) (number 8) refl ∷
    row (plan (hex 8 0x1020080010000000)) (number 8) refl ∷
    -- The ticket comes before the sheet: a ticket for each number with the empty sheet, and the last with a sheet of 2,049 rounds.
    row (check [] []) (number 1) refl ∷
    row (check (hex 1 0x00) []) (number 2) refl ∷
    row (check (hex 2 0x1000) []) (number 3) refl ∷
    row (check (hex 3 0x102000) []) (number 4) refl ∷
    row (check (hex 3 0x102009) []) (number 5) refl ∷
    row (check (hex 5 0x1020088010) []) (number 6) refl ∷
    row (check (hex 6 0x102008001008) []) (number 7) refl ∷
    row (check (hex 7 0x10200800100001) []) (number 8) refl ∷
    row (check (hex 7 0x10200800100001) (hex 2 0x8010)) (number 8) refl ∷
    -- The order of a sheet's refusals. 9 comes before the value of the field in which the sheet ends. With zeros for the bits that are missing, it
    -- would be 0 and 4,080 rounds; fetches of block 448 of 1, with D's ticket of block 0 by disk 1, and of block 0 again; with C's ticket nothing
    -- discarded though the one slot is taken, and a discard of block 0, which is not in it; with ones for them and A's ticket, a
    -- discard though the slot is empty.
    row (check ticket_a []) (number 9) refl ∷
    row (check ticket_a (hex 1 0xff)) (number 9) refl ∷
    row (check ticket_a (hex 2 0x001f)) (number 9) refl ∷
    row (check ticket_d (hex 2 0x0014)) (number 9) refl ∷
    row (check ticket_a (hex 3 0x002801)) (number 9) refl ∷
    row (check ticket_c (hex 5 0x0098000201)) (number 9) refl ∷
    row (check ticket_c (hex 5 0x0028050040)) (number 9) refl ∷
    row (check ticket_a (hex 3 0x003200)) (number 9) refl ∷
    -- R comes before the end inside the rounds: 2,049 rounds, before round 5, and before the block that round 1 fetches.
    row (check ticket_a (hex 2 0x8010)) (number 10) refl ∷
    row (check ticket_a (hex 2 0x8018)) (number 10) refl ∷
    -- What is fetched comes before the end inside the discard bit: block 1 of 1, with D's ticket block 2 of disk 1 by disk 0, block 0 twice; inside
    -- the discarded block: block 5 of 1; and inside disk 1's action: block 2 by disk 0 again.
    row (check ticket_a (hex 3 0x003201)) (number 11) refl ∷
    row (check ticket_d (hex 3 0x002202)) (number 11) refl ∷
    row (check ticket_a (hex 5 0x0098000200)) (number 12) refl ∷
    row (check ticket_a (hex 3 0x001816)) (number 11) refl ∷
    row (check ticket_d (hex 3 0x001809)) (number 11) refl ∷
    -- What is discarded comes before the end inside the next action. Nothing, though the one slot is taken: with C's ticket, before the next round,
    -- and with D's, before disk 1's action. Block 1, which is not in the buffer though its one slot is taken: likewise.
    row (check ticket_c (hex 5 0x0098000402)) (number 13) refl ∷
    row (check ticket_d (hex 7 0x00380080600400)) (number 13) refl ∷
    row (check ticket_c (hex 6 0x008040080601)) (number 14) refl ∷
    row (check ticket_d (hex 7 0x00320040480601)) (number 14) refl ∷
    -- 11 comes before 12: with D's ticket disk 1 fetches block 0 of disk 0, which is in the buffer there. 12 comes before 13: block 0 is fetched
    -- twice, and nothing is discarded though the one slot is taken.
    row (check ticket_d (hex 5 0x0018010000)) (number 11) refl ∷
    row (check ticket_a (hex 5 0x0028010000)) (number 12) refl ∷
    -- 13 and 14 come before 15, with references left after the last action: with D's ticket disk 1 fetches block 3 beside block 2 in its one slot;
    -- in the second sheet it also discards block 3, which is not in that slot.
    row (check ticket_d (hex 5 0x0024044060)) (number 13) refl ∷
    row (check ticket_d (hex 6 0x002404407018)) (number 14) refl ∷
    -- 9 comes before 15, with the reference left: the sheet ends where round 5 is due, and inside the block that round 2 fetches.
    row (check ticket_a (hex 2 0x0050)) (number 9) refl ∷
    row (check ticket_a (hex 2 0x0024)) (number 9) refl ∷
    -- 15 comes before 16: the reference is left, with the closing bits 0001 and with a byte more: 15, and then 16 for each of the two by itself.
    row (check ticket_a (hex 2 0x0001)) (number 15) refl ∷
    row (check ticket_a (hex 3 0x000000)) (number 15) refl ∷
    row (check ticket_a (hex 3 0x001801)) (number 16) refl ∷
    row (check ticket_a (hex 4 0x00180000)) (number 16) refl ∷
    -- The other cases of 11, 13 and 14: with D's ticket disk 0 fetches block 2 of disk 1; with C's ticket block 1 is fetched beside block 0 in the
    -- one slot; the fetched block is itself discarded; with D's ticket disk 0 discards block 2, which is in the buffer of disk 1, and block 9 of 4.
    row (check ticket_d (hex 3 0x001808)) (number 11) refl ∷
    row (check ticket_c (hex 5 0x0038010080)) (number 13) refl ∷
    row (check ticket_c (hex 6 0x00380100c020)) (number 14) refl ∷
    row (check ticket_d (hex 7 0x00380101201808)) (number 14) refl ∷
    row (check ticket_d (hex 7 0x00380101201824)) (number 14) refl ∷
    -- Request L3: "20, a discard though a slot is empty". Two slots: block 1 replaces block 0 beside the empty one, in a sheet that document 01 lets
    -- pass (`LegalSheet`, specs/Valid.antt). With F's ticket disk 0 discards from its one full slot, and disk 1 from two slots of which one is empty;
    -- with G's two of three are.
    row (check ticket_two (hex 6 0x00280100c000)) (number 20) refl ∷
    row (check ticket_f (hex 10 0x00280101201802038080)) (number 20) refl ∷
    row (check ticket_g (hex 6 0x002800806000)) (number 20) refl ∷
    -- "tested once the discard bit is read as 1 and before the discarded block's field", so before 9 of that field and before 14: the sheet ends
    -- inside the field, and block 0 is discarded from the empty buffer. Where the one slot is taken, 9 and 14 stand above.
    row (check ticket_a (hex 3 0x001802)) (number 20) refl ∷
    row (check ticket_a (hex 4 0x00180200)) (number 20) refl ∷
    -- 11 and 12 come before it, with the discard bit 1: block 5 of 2, and block 0 again, which is resident beside an empty slot.
    row (check ticket_two (hex 3 0x001816)) (number 11) refl ∷
    row (check ticket_two (hex 5 0x0028010040)) (number 12) refl ∷
    -- It comes before the end inside the next action, and before 15 and 16: the next round, and with D's ticket disk 1's action; the references of C
    -- are left; a closing bit, and a byte more.
    row (check ticket_a (hex 4 0x00280200)) (number 20) refl ∷
    row (check ticket_d (hex 4 0x00180200)) (number 20) refl ∷
    row (check ticket_c (hex 4 0x00180200)) (number 20) refl ∷
    row (check ticket_two (hex 6 0x00280100c001)) (number 20) refl ∷
    row (check ticket_two (hex 7 0x00280100c00000)) (number 20) refl ∷
    -- Where every slot is taken the discard passes: two slots, three blocks, and block 2 replaces block 0. A choice has the check's number.
    row (check (hex 10 0x1040180000c000101000) (hex 7 0x00380100a02800)) (passes (counts 3 3 0)) refl ∷
    row (choose ticket_two (hex 6 0x00280100c000) (hex 2 0x0000)) (number 20) refl ∷
    row (choose ticket_two (hex 5 0x0028010080) (hex 6 0x00280100c000)) (number 20) refl ∷
    -- Request L1: "The second is handed back if it takes no more rounds than the first, otherwise the first". F's two sheets of 4 rounds, in either
    -- order; G's, of 6 and 7 rounds.
    row (choose ticket_f (hex 14 0x00480101101a018020480d01c080) (hex 11 0x00480101101a0180081202)) (chose is_second 11) refl ∷
    row (choose ticket_f (hex 11 0x00480101101a0180081202) (hex 14 0x00480101101a018020480d01c080)) (chose is_second 14) refl ∷
    row (choose ticket_g (hex 23 0x0068010220140a8090320380a078120280e0481e038080) (hex 23 0x0078010220140a809032038090140703c0c81a0780e020)) (chose is_first 23) refl ∷
    row (choose ticket_g (hex 23 0x0078010220140a809032038090140703c0c81a0780e020) (hex 23 0x0068010220140a8090320380a078120280e0481e038080)) (chose is_second 23) refl ∷
    -- "both are checked, the first before the second": the ticket's number before either sheet's; the first's before the second's, in both orders;
    -- and the number of a bad sheet beside a good one.
    row (choose (hex 7 0x10200800100001) [] (hex 2 0x0000)) (number 8) refl ∷
    row (choose ticket_a [] (hex 2 0x0000)) (number 9) refl ∷
    row (choose ticket_a (hex 2 0x0000) []) (number 15) refl ∷
    row (choose ticket_a (hex 3 0x001801) (hex 3 0x001800)) (number 16) refl ∷
    row (choose ticket_a (hex 3 0x001800) (hex 3 0x001801)) (number 16) refl ∷
    -- Request L2: the page of the plan handed back, in a buffer of its exact length. B's, of no rounds, is the legend alone; F's, of the sparing
    -- plan, has all five letters; G's is of the short plan: "Round 4, disk 0 of case G reads `   4 0   3   2 M`". The last two have numbers of more
    -- digits.
    row (page ticket_b 2 2 85) (page_with []) refl ∷
    row (page ticket_f 14 11 221) (page_with lines_f) refl ∷
    row (page ticket_g 23 23 289) (page_with lines_g) refl ∷
    row (page ticket_ten 26 26 255) (page_with lines_ten) refl ∷
    row (page ticket_hundred 6 6 119) (page_with ("   1 0 100 --- E" ∷ "   2 0  10 100 M" ∷ [])) refl ∷
    -- "W idle because the sparing plan waits though S does not hold": in round 3 the sparing plan of disk 0 would wait too, and S is shown.
    row (page ticket_both 40962 40962 278613) (page_with lines_both) refl ∷
    -- "19, the page does not fit, tested after 18": one byte less for the page. 17, 18 and the ticket's number come first, with no room for the page.
    row (page ticket_b 2 2 84) (number 19) refl ∷
    row (page ticket_f 14 11 220) (number 19) refl ∷
    row (page ticket_f 14 10 0) (number 18) refl ∷
    row (page ticket_f 13 11 0) (number 17) refl ∷
    row (page (hex 8 0x1020080010000000) 40962 40962 0) (number 8) refl ∷
    -- Request L5: "the number of references that count; none at or past it is consumed". A up to 0, and G up to 5, where disk 1 has no U after block
    -- 4: its plans, a check of them, a choice, and the page. G's own short sheet also passes there, and A's passes for no reference.
    row_up_to 0 (read ticket_a) (job_with (1 ∷ []) (0 ∷ []) []) refl ∷
    row_up_to 0 (plan ticket_a) (planned is_sparing 2 (counts 0 0 0) (counts 0 0 0) (hex 2 0x0000) (hex 2 0x0000)) refl ∷
    row_up_to 0 (check ticket_a (hex 2 0x0000)) (passes (counts 0 0 0)) refl ∷
    row_up_to 0 (check ticket_a (hex 3 0x001800)) (passes (counts 0 1 0)) refl ∷
    row_up_to 5 (read ticket_g) (job_with (3 ∷ 3 ∷ []) (0 ∷ 0 ∷ 0 ∷ 0 ∷ 1 ∷ 1 ∷ 1 ∷ 1 ∷ []) (0 ∷ 1 ∷ 2 ∷ 4 ∷ 3 ∷ [])) refl ∷
    row_up_to 5 (plan ticket_g) (planned is_sparing 10 (counts 4 4 1) (counts 4 4 1) (hex 10 0x00480102201202203808) (hex 10 0x00480102201202203808)) refl ∷
    row_up_to 5 (check ticket_g (hex 10 0x00480102201202203808)) (passes (counts 4 4 1)) refl ∷
    row_up_to 5 (check ticket_g (hex 23 0x0068010220140a8090320380a078120280e0481e038080)) (passes (counts 4 6 5)) refl ∷
    row_up_to 5 (choose ticket_g (hex 23 0x0068010220140a8090320380a078120280e0481e038080) (hex 10 0x00480102201202203808)) (chose is_second 10) refl ∷
    row_up_to 5 (page ticket_g 10 10 221) (page_with lines_g5) refl ∷
    -- The reference at the stop is the first that does not count: after that sheet the references 5 and 6 are in the buffers, and 7 is not.
    row_up_to 7 (check ticket_g (hex 10 0x00480102201202203808)) (passes (counts 4 4 1)) refl ∷
    row_up_to 8 (check ticket_g (hex 10 0x00480102201202203808)) (number 15) refl ∷
    -- "The lookup of the next reference now answers "never" for references at or past the stop": for the string 0 1 2 1 block 2 replaces block 0,
    -- which is not read again; up to 3 neither of the two is, and it replaces block 1, the highest.
    row (plan ticket_again) (planned is_sparing 7 (counts 3 3 0) (counts 3 3 0) (hex 7 0x00380100a02800) (hex 7 0x00380100a02800)) refl ∷
    row_up_to 3 (plan ticket_again) (planned is_sparing 7 (counts 3 3 0) (counts 3 3 0) (hex 7 0x00380100a02804) (hex 7 0x00380100a02804)) refl ∷
    -- "21, the stop is above N, tested after 8": a stop of N + 1 with no room and with the empty sheet, and the largest of a `usize`; the ticket's
    -- number comes first, 1 and 8, with either. (A stop of N is that of every row without one.)
    row_up_to 2 (plan_into ticket_a 0 0) (number 21) refl ∷
    row_up_to 2 (page ticket_a 0 0 0) (number 21) refl ∷
    row_up_to 2 (check ticket_a []) (number 21) refl ∷
    row_up_to 2 (choose ticket_a [] []) (number 21) refl ∷
    row_up_to 18446744073709551615 (plan ticket_a) (number 21) refl ∷
    row_up_to 1 (plan ticket_b) (number 21) refl ∷
    row_up_to 1 (plan []) (number 1) refl ∷
    row_up_to 18446744073709551615 (plan []) (number 1) refl ∷
    row_up_to 18446744073709551615 (plan (hex 7 0x10200800100001)) (number 8) refl ∷
    row_up_to 2 (plan_into (hex 7 0x10200800100001) 0 0) (number 8) refl ∷
    row_up_to 2 (page (hex 8 0x1020080010000000) 0 0 0) (number 8) refl ∷
    row_up_to 2 (check (hex 7 0x10200800100001) []) (number 8) refl ∷
    row_up_to 2 (choose (hex 8 0x1020080010000000) [] []) (number 8) refl ∷
    -- A refusal by the stop writes nothing, from C.
    row_up_to 2 (plan_from_c ticket_a (hex 3 0xffffff)) (writes (hex 3 0xffffff)) refl ∷
    row_up_to 2 (check_from_c ticket_a (hex 3 0x001800) (hex 3 0xffffff)) (writes (hex 3 0xffffff)) refl ∷
    row_up_to 2 (choose_from_c ticket_a (hex 3 0x001800) (hex 3 0x001800) (hex 3 0xffffff)) (writes (hex 3 0xffffff)) refl ∷
    -- Request L7: "the room now charges up to the round in which the last reference is consumed .., 0 where nothing had to be fetched. Fetches are
    -- still counted to the end". A with an idle round at the end, and with one before its fetch, which is charged; no reference and an idle round;
    -- G's short sheet up to 4, where its third round reads the last, and with three idle rounds more.
    row (check ticket_a (hex 3 0x002800)) (passes (counts 1 1 0)) refl ∷
    row (check ticket_a (hex 3 0x002400)) (passes (counts 2 1 0)) refl ∷
    row_up_to 0 (check ticket_a (hex 2 0x0010)) (passes (counts 0 0 0)) refl ∷
    row_up_to 4 (check ticket_g (hex 23 0x0068010220140a8090320380a078120280e0481e038080)) (passes (counts 3 6 5)) refl ∷
    row (check ticket_g (hex 24 0x0098010220140a8090320380a078120280e0481e03808000)) (passes (counts 6 6 5)) refl ∷
    -- What is written after the last reference is checked all the same: the end inside an action, a fetch of a block that is there, a byte too many.
    row (check ticket_a (hex 3 0x002801)) (number 9) refl ∷
    row (check ticket_a (hex 5 0x0028010000)) (number 12) refl ∷
    row (check ticket_a (hex 4 0x00280000)) (number 16) refl ∷
    -- "The choice of L1 and the claim of fewest rounds use the charged number": A's sheet with an idle round more is as good as without; G's short
    -- sheet of nine rounds, six of them charged, against the sparing one of seven, and of eight with seven charged.
    row (choose ticket_a (hex 3 0x001800) (hex 3 0x002800)) (chose is_second 3) refl ∷
    row (choose ticket_g (hex 23 0x0078010220140a809032038090140703c0c81a0780e020) (hex 24 0x0098010220140a8090320380a078120280e0481e03808000)) (chose is_second 24) refl ∷
    row (choose ticket_g (hex 24 0x0098010220140a8090320380a078120280e0481e03808000) (hex 23 0x0088010220140a809032038090140703c0c81a0780e020)) (chose is_first 24) refl ∷
    -- Request L8: the sparing plan takes more rounds than the short one, by more than D − 1 = 1 times, and saves no fetch by it.
    row (read ticket_waiting) (job job_waiting) refl ∷
    row (plan ticket_waiting) (planned is_short 83 counts_short counts_waiting (hex 83 0x01280d03a00408806034050040b03c0700c0d024010140f02c0301c09034050040b03c0700c0d024010140f02c0301c09034050040b03c0700c0d024010140f02c0301c09034050040b03c0700c0d022078140) (hex 86 0x01e80d03a004088060320581e0280501c0040d02a078120080d00c0440903a0581a0280501c0040d02a078120080d00c0440903a0581a0280501c0040d02a078120080d00c0480a008120740b0340700c0d022078140)) refl ∷
    -- Request L9: "After the references a ticket now has, for each disk, a 7-bit count of blocks already in its buffer and their 9-bit numbers in
    -- strictly rising order." A with its block carried in: nothing has to be fetched, an idle round is not charged, and the block is there.
    row (read (hex 8 0x1020080010001000)) (job_carrying (1 ∷ []) (0 ∷ []) (0 ∷ []) ((0 ∷ []) ∷ [])) refl ∷
    row (plan (hex 8 0x1020080010001000)) (planned is_sparing 2 (counts 0 0 0) (counts 0 0 0) (hex 2 0x0000) (hex 2 0x0000)) refl ∷
    row (check (hex 8 0x1020080010001000) (hex 2 0x0000)) (passes (counts 0 0 0)) refl ∷
    row (check (hex 8 0x1020080010001000) (hex 2 0x0010)) (passes (counts 0 0 0)) refl ∷
    row (check (hex 8 0x1020080010001000) (hex 3 0x001800)) (number 12) refl ∷
    -- "25, a count above the slots, tested at the count": 1 comes before it, where the ticket ends inside the count (111 of 7 bits), and 7 of the
    -- last reference; it comes before the end inside a number, and before a number that is 1 of 1 block.
    row (plan (hex 6 0x102008001007)) (number 1) refl ∷
    row (plan (hex 7 0x10200800100820)) (number 7) refl ∷
    row (plan (hex 7 0x10200800100020)) (number 25) refl ∷
    row (plan (hex 9 0x102008001000200804)) (number 25) refl ∷
    -- "26, a number not above the one before it, B or more, or on another disk, tested at that number": 1 comes before it, where the ticket ends
    -- inside the number (0000 and 1111 of 9 bits). Of one disk with two slots and three blocks: 0 and 0, 1 and 0, 3, 0 and 3; then 0 and 2, as many
    -- as there are slots.
    row (plan (hex 7 0x10200800100010)) (number 1) refl ∷
    row (plan (hex 7 0x1020080010001f)) (number 1) refl ∷
    row (plan (hex 8 0x1020080010001008)) (number 26) refl ∷
    row (plan (hex 12 0x1040180000c0001010200000)) (number 26) refl ∷
    row (plan (hex 12 0x1040180000c0001010200800)) (number 26) refl ∷
    row (plan (hex 11 0x1040180000c00010101018)) (number 26) refl ∷
    row (plan (hex 12 0x1040180000c000101020000c)) (number 26) refl ∷
    row (read (hex 12 0x1040180000c0001010200008)) (job_carrying (2 ∷ []) (0 ∷ 0 ∷ 0 ∷ []) (0 ∷ 1 ∷ 2 ∷ []) ((0 ∷ 2 ∷ []) ∷ [])) refl ∷
    row (plan (hex 12 0x1040180000c0001010200008)) (planned is_sparing 4 (counts 1 1 0) (counts 1 1 0) (hex 4 0x00180600) (hex 4 0x00180600)) refl ∷
    -- A number that is refused comes before the end inside the next one. Two disks with a slot each, D's: block 2 on disk 0 and block 1 on disk 1; of
    -- the first disk 26 comes before 25 of the second, and 25 before 26; a number of the second disk may be below one of the first.
    row (plan (hex 11 0x1040180000c00010102018)) (number 26) refl ∷
    row (plan (hex 14 0x2020404009004000080601020200)) (number 26) refl ∷
    row (plan (hex 14 0x2020404009004000080601000402)) (number 26) refl ∷
    row (plan (hex 17 0x2020404009004000080601020204020180)) (number 26) refl ∷
    row (plan (hex 17 0x2020404009004000080601040000810080)) (number 25) refl ∷
    row (read (hex 11 0x2020402200040004020400)) (job_carrying (1 ∷ 1 ∷ []) (1 ∷ 0 ∷ []) (0 ∷ []) ((1 ∷ []) ∷ (0 ∷ []) ∷ [])) refl ∷
    -- Of disk 1, with two slots: 3 and 2, 2 and 2; then 2 and 3.
    row (plan (hex 12 0x202080400900100000403010)) (number 26) refl ∷
    row (plan (hex 12 0x202080400900100000402010)) (number 26) refl ∷
    row (read (hex 12 0x202080400900100000402018)) (job_carrying (1 ∷ 2 ∷ []) (0 ∷ 0 ∷ 1 ∷ 1 ∷ []) (0 ∷ []) ([] ∷ (2 ∷ 3 ∷ []) ∷ [])) refl ∷
    -- A number that is not above the one before it, and one on another disk, are refused at that number: before the end inside the next one, before
    -- 25 of the next disk and before the end inside its count, before a closing bit that is 1 and before a byte more.
    row (plan (hex 9 0x106018000001800000)) (number 26) refl ∷
    row (plan (hex 13 0x2040404009000040100020100c)) (number 26) refl ∷
    row (plan (hex 12 0x1040180000c0001010200001)) (number 26) refl ∷
    row (plan (hex 13 0x1040180000c000101020000000)) (number 26) refl ∷
    row (plan (hex 9 0x204040400900004020)) (number 26) refl ∷
    row (plan (hex 8 0x2020402040000804)) (number 26) refl ∷
    row (plan (hex 9 0x202040204000080401)) (number 26) refl ∷
    -- A count above the slots is 25 whatever it is: 127, the largest, and 65 of 64 slots.
    row (plan (hex 7 0x102008001007f0)) (number 25) refl ∷
    row (plan (hex 7 0x18000800100410)) (number 25) refl ∷
    -- "both before 8": a count of 2 with one slot and two sound numbers, and a number 1 of 1 block, each with a closing bit that is 1 and with a byte
    -- more; 8 by itself then. And so before 21, and before anything of a sheet or a room.
    row (plan (hex 10 0x10201000020004000081)) (number 25) refl ∷
    row (plan (hex 11 0x1020100002000400008000)) (number 25) refl ∷
    row (plan (hex 8 0x1020080010001009)) (number 26) refl ∷
    row (plan (hex 9 0x102008001000100800)) (number 26) refl ∷
    row (plan (hex 8 0x1020080010001001)) (number 8) refl ∷
    row (plan (hex 9 0x102008001000100000)) (number 8) refl ∷
    row_up_to 2 (plan_into (hex 7 0x10200800100020) 0 0) (number 25) refl ∷
    row_up_to 2 (check (hex 7 0x10200800100020) []) (number 25) refl ∷
    row_up_to 2 (page (hex 7 0x10200800100020) 0 0 0) (number 25) refl ∷
    row_up_to 2 (choose (hex 7 0x10200800100020) [] []) (number 25) refl ∷
    row_up_to 2 (plan_into (hex 8 0x1020080010001008) 0 0) (number 26) refl ∷
    row_up_to 2 (check (hex 8 0x1020080010001008) []) (number 26) refl ∷
    row_up_to 2 (page (hex 8 0x1020080010001008) 0 0 0) (number 26) refl ∷
    row_up_to 2 (choose (hex 8 0x1020080010001008) [] []) (number 26) refl ∷
    -- "Before round 1 the suite reads as far as these allow": F with 1 carried in on disk 0, and 2 and 3 on disk 1, reads 2 3; up to 2 that is all.
    row (plan ticket_full) (planned is_sparing 10 (counts 3 2 2) (counts 3 2 1) (hex 12 0x003802018120380600203810) (hex 10 0x00380201403001024040)) refl ∷
    row (check ticket_full (hex 12 0x003802018120380600203810)) (passes (counts 3 2 2)) refl ∷
    row (check ticket_full (hex 10 0x00380201403001024040)) (passes (counts 3 2 1)) refl ∷
    row (page ticket_full 40962 40962 278613) (page_with lines_full) refl ∷
    row_up_to 2 (plan ticket_full) (planned is_sparing 2 (counts 0 0 0) (counts 0 0 0) (hex 2 0x0000) (hex 2 0x0000)) refl ∷
    row (choose ticket_full (hex 12 0x003802018120380600203810) (hex 10 0x00380201403001024040)) (chose is_second 10) refl ∷
    -- Nothing is discarded though every slot is taken, by a block carried in: 13. A block that was carried in and discarded is gone: fetched again it
    -- is no 12, discarded again it is 14.
    row (check ticket_full (hex 3 0x001800)) (number 13) refl ∷
    row (check ticket_full (hex 12 0x003802014030040901a03808)) (passes (counts 3 2 2)) refl ∷
    row (check ticket_full (hex 7 0x00280201403008)) (number 14) refl ∷
    -- Where all slots are taken by blocks that are never read, the highest goes first. One disk, two slots, blocks 0 to 3, string 0 1, with 2 and 3.
    row (plan (hex 11 0x1040200000100002080403)) (planned is_sparing 7 (counts 2 2 0) (counts 2 2 0) (hex 7 0x00280203806020) (hex 7 0x00280203806020)) refl ∷
    -- A slot that is empty beside a block carried in: a discard is 20. One disk, two slots, two blocks, string 0 1, with 1.
    row (plan (hex 10 0x10401000040000810080)) (planned is_sparing 3 (counts 1 1 0) (counts 1 1 0) (hex 3 0x001800) (hex 3 0x001800)) refl ∷
    row (check (hex 10 0x10401000040000810080) (hex 4 0x00180201)) (number 20) refl ∷
    -- From C: "in 16 bits each and most significant byte first: for planning the mark (0 short, 1 sparing), the length of the part, then for the
    -- short and for the sparing plan the rounds and eight fetch counts; for the check the rounds and eight fetch counts", and by L1 "0 (first) or 1
    -- (second) and that sheet's length". "As far as that slice reaches", and no byte more; "a refusal writes nothing there".
    row (plan_from_c ticket_f (hex 41 0xffffffffffffffffffffffffffffffffffffffffffffffffffffffffffffffffffffffffffffffffff)) (writes (hex 41 0x0001000b000400020004000000000000000000000000000400020003000000000000000000000000ff)) refl ∷
    row (plan_from_c ticket_g (hex 5 0xffffffffff)) (writes (hex 5 0x0000001700)) refl ∷
    row (plan_from_c [] (hex 3 0xffffff)) (writes (hex 3 0xffffff)) refl ∷
    row (check_from_c ticket_f (hex 11 0x00480101101a0180081202) (hex 19 0xffffffffffffffffffffffffffffffffffffff)) (writes (hex 19 0x000400020003000000000000000000000000ff)) refl ∷
    row (check_from_c ticket_a (hex 2 0x0000) (hex 3 0xffffff)) (writes (hex 3 0xffffff)) refl ∷
    row (choose_from_c ticket_f (hex 14 0x00480101101a018020480d01c080) (hex 11 0x00480101101a0180081202) (hex 5 0xffffffffff)) (writes (hex 5 0x0001000bff)) refl ∷
    row (choose_from_c ticket_a (hex 3 0x001800) (hex 3 0x002800) (hex 3 0xffffff)) (writes (hex 3 0x000100)) refl ∷
    row (choose_from_c ticket_a (hex 3 0x001800) (hex 3 0x001801) (hex 3 0xffffff)) (writes (hex 3 0xffffff)) refl ∷
    []
