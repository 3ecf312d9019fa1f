-- A ticket: document 01, "Ticket and sheet", its table of ticket fields, and document 02's request L9: how a job is written, and how a ticket is
-- read, with the numbers 1 to 8 of "Numbers of a refused call" and L9's 25 and 26, each tested as soon as the field that it speaks of is read.
-- Assumes nothing.
use Rattle.std.specs.Prelude.{not, ◌||◌, List, [], ◌∷◌, ◌++◌, ℕ, zero, suc, ltb, leb, eqb, length, get_or}
use Rattle.bits.specs.Bits.{digits, fields}
use Rattle.bits.specs.Reading.{Answer, Reader, ◌>>=◌, ◌>>◌, give, field, refuse_if, many, closing, read_all}
use Rattle.model.specs.Job.{Job, disk_count, block_count, ref_count}

-- L9: "for each disk, a 7-bit count of blocks already in its buffer and their 9-bit numbers"
unfoldable pub carried_bits : List (List ℕ) → List ℕ
unfolding digits fields
carried_bits [] = []
carried_bits (blocks ∷ more) = digits 7 (length blocks) ++ (fields 9 blocks ++ carried_bits more)

-- The fields of a job's ticket, in the table's order: disks D, 4 bits; buffer slots, 7 bits for each disk; blocks B, 10 bits; disk of each block,
-- 3 bits; references N, 12 bits; each reference, 9 bits; and "after the references" the blocks carried in.
unfoldable pub ticket_bits : Job → List ℕ
ticket_bits j =
    digits 4 (disk_count j) ++ (fields 7 j.slots ++ (digits 10 (block_count j) ++ (fields 3 j.block_disks ++ (digits 12 (ref_count j)
    ++ (fields 9 j.refs ++ carried_bits j.carried)))))

-- A field of w bits. "1. The ticket ends inside a field that is due."
abbrev pub ticket_field : ℕ → Reader ℕ
ticket_field w = field 1 w

-- "buffer slots, one field per disk", 7 bits, 1 to 64. "3. A disk has 0 slots or more than 64."
unfoldable pub slots_field : Reader ℕ
slots_field = do
  s ← ticket_field 7
  refuse_if 3 (eqb s 0 || ltb 64 s)
  give s

-- "disk of each block, in block order", 3 bits, 0 to D − 1. "5. A block's disk is D or more."
unfoldable pub disk_field : ℕ → Reader ℕ
disk_field disks = do
  k ← ticket_field 3
  refuse_if 5 (leb disks k)
  give k

-- "each reference, a block number", 9 bits, 0 to B − 1. "7. A reference is B or more."
unfoldable pub ref_field : ℕ → Reader ℕ
ref_field blocks = do
  r ← ticket_field 9
  refuse_if 7 (leb blocks r)
  give r

-- L9: k numbers "in strictly rising order", none below `least`, of blocks on disk d; `disks` has the disk of each block. "26, a number not above the
-- one before it, B or more, or on another disk, tested at that number".
unfoldable pub carried_blocks : List ℕ → ℕ → ℕ → ℕ → Reader (List ℕ)
carried_blocks disks d zero least = give []
carried_blocks disks d (suc k) least = do
  b ← ticket_field 9
  refuse_if 26 (ltb b least || leb (length disks) b || not (eqb (get_or disks b 0) d))
  more ← carried_blocks disks d k (suc b)
  give (b ∷ more)

-- The blocks carried in on disk d, which has so many slots. "25, a count above the slots, tested at the count".
unfoldable pub carried_field : List ℕ → ℕ → ℕ → Reader (List ℕ)
carried_field disks d slots = do
  k ← ticket_field 7
  refuse_if 25 (ltb slots k)
  carried_blocks disks d k 0

-- "for each disk", of the slots of the disks from d on
unfoldable pub carried_fields : List ℕ → ℕ → List ℕ → Reader (List (List ℕ))
carried_fields disks d [] = give []
carried_fields disks d (slots ∷ others) = do
  blocks ← carried_field disks d slots
  more ← carried_fields disks (suc d) others
  give (blocks ∷ more)

-- The ticket, field by field. "2. D is 0 or above 8. 4. B is 0 or above 512. 6. N is above 2048. 8. The ticket's closing bits are not all zero, or a
-- byte follows." L9: 25 and 26 "both before 8".
unfoldable pub ticket_reader : Reader Job
ticket_reader = do
  d ← ticket_field 4
  refuse_if 2 (eqb d 0 || ltb 8 d)
  slots ← many d slots_field
  b ← ticket_field 10
  refuse_if 4 (eqb b 0 || ltb 512 b)
  disks ← many b (disk_field d)
  n ← ticket_field 12
  refuse_if 6 (ltb 2048 n)
  refs ← many n (ref_field b)
  carried ← carried_fields disks 0 slots
  closing 8
  give (record { slots = slots; block_disks = disks; refs = refs; carried = carried })

-- "A ticket is accepted if its reading meets none of the ticket's conditions": the job that it says, or its number.
unfoldable pub ticket_of : List ℕ → Answer Job
ticket_of t = read_all ticket_reader t
