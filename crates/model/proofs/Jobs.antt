-- The jobs of the table's rows (`Answers`): tickets, schedules, and the lines of their pages. Assumes nothing.
use mathlib.Core.List.{List, [], ◌∷◌, ◌++◌}
use Prim.Native.Nat.{ℕ}
use Prim.Native.String.{String}
use Rattle.model.specs.Job.{Job}
use Rattle.model.specs.Playing.{fetch, replace, Schedule}
use Rattle.model.specs.Calls.{Counts}
use Rattle.model.proofs.Rows.{hex, counts}

-- the tickets of document 01's jobs
abbrev pub ticket_a : List ℕ
ticket_a = hex 7 0x10200800100000

abbrev pub ticket_b : List ℕ
ticket_b = hex 6 0x102008000000

abbrev pub ticket_c : List ℕ
ticket_c = hex 10 0x10201000060000800000

abbrev pub ticket_d : List ℕ
ticket_d = hex 13 0x20204040090040000806010000

abbrev pub ticket_e : List ℕ
ticket_e = hex 13 0x20204040090040100c00010000

abbrev pub ticket_f : List ℕ
ticket_f = hex 17 0x2020805009200e020180002020200c0000

abbrev pub ticket_g : List ℕ
ticket_g = hex 34 0x2060c080002490150000404040180002050301c04040281800010101006000080000

-- one disk, two slots, two blocks, string 0 1
abbrev pub ticket_two : List ℕ
ticket_two = hex 8 0x1040100004000080

-- that job, and a schedule in which block 1 replaces block 0 beside the empty slot; with one slot it replaces it in the full one
abbrev pub job_two : Job
job_two = record { slots = 2 ∷ []; block_disks = 0 ∷ 0 ∷ []; refs = 0 ∷ 1 ∷ []; carried = [] ∷ [] }

abbrev pub replacing : Schedule
replacing = (fetch 0 ∷ []) ∷ (replace 1 0 ∷ []) ∷ []

-- A job of Theorem 8 (document 000): two disks with two slots and four blocks each, and sixteen references four times.
abbrev pub ticket_waiting : List ℕ
ticket_waiting = hex 82 0x2040808000249040018000200038100a04008080602028180e06018000200038100a04008080602028180e06018000200038100a04008080602028180e06018000200038100a04008080602028180e060000

abbrev pub job_waiting : Job
job_waiting = record {
  slots = 2 ∷ 2 ∷ [];
  block_disks = 0 ∷ 0 ∷ 0 ∷ 0 ∷ 1 ∷ 1 ∷ 1 ∷ 1 ∷ [];
  refs = let l : List ℕ = 3 ∷ 0 ∷ 1 ∷ 0 ∷ 7 ∷ 4 ∷ 5 ∷ 4 ∷ 1 ∷ 2 ∷ 3 ∷ 2 ∷ 5 ∷ 6 ∷ 7 ∷ 6 ∷ [] in l ++ l ++ l ++ l;
  carried = [] ∷ [] ∷ [];
}

abbrev pub counts_short : Counts
counts_short = counts 18 17 17

abbrev pub counts_waiting : Counts
counts_waiting = counts 30 17 17

-- one disk, one slot, two blocks, string 0 1 0 1 .. of ten references; and one with 101 blocks, string 100 10
abbrev pub ticket_ten : List ℕ
ticket_ten = hex 17 0x1020100014000080002000080002000080

abbrev pub ticket_hundred : List ℕ
ticket_hundred = hex 46 0x10232800000000000000000000000000000000000000000000000000000000000000000000000000000232028000

-- slots 2 and 1, blocks 0 to 2 and 3 to 5, string 3 4 5 0 1 2 1 0
abbrev pub ticket_both : List ℕ
ticket_both = hex 18 0x204040600124020060402800020200800000

-- one disk, two slots, three blocks, string 0 1 2 1
abbrev pub ticket_again : List ℕ
ticket_again = hex 11 0x1040180001000010100400

-- F with 1 carried in on disk 0, and 2 and 3 on disk 1, whose slots are then all taken
abbrev pub ticket_full : List ℕ
ticket_full = hex 20 0x2020805009200e020180002020200c0804100806

-- the lines of the pages of F, of G, of G up to 5, and of three of these jobs
abbrev pub lines_f : List String
lines_f =
    "   1 0   0 --- E" ∷
    "   1 1   2 --- E" ∷
    "   2 0 --- --- S" ∷
    "   2 1   3 --- E" ∷
    "   3 0   1   0 M" ∷
    "   3 1 --- --- W" ∷
    "   4 0 --- --- N" ∷
    "   4 1   4   2 M" ∷
    []

abbrev pub lines_g : List String
lines_g =
    "   1 0   0 --- E" ∷
    "   1 1   4 --- E" ∷
    "   2 0   1 --- E" ∷
    "   2 1   5 --- E" ∷
    "   3 0   2 --- E" ∷
    "   3 1   6 --- E" ∷
    "   4 0   3   2 M" ∷
    "   4 1   7   4 M" ∷
    "   5 0   2   3 M" ∷
    "   5 1   4   7 M" ∷
    "   6 0   3   2 M" ∷
    "   6 1 --- --- N" ∷
    []

abbrev pub lines_g5 : List String
lines_g5 =
    "   1 0   0 --- E" ∷
    "   1 1   4 --- E" ∷
    "   2 0   1 --- E" ∷
    "   2 1 --- --- N" ∷
    "   3 0   2 --- E" ∷
    "   3 1 --- --- N" ∷
    "   4 0   3   2 M" ∷
    "   4 1 --- --- N" ∷
    []

abbrev pub lines_both : List String
lines_both =
    "   1 0   0 --- E" ∷
    "   1 1   3 --- E" ∷
    "   2 0   1 --- E" ∷
    "   2 1   4   3 M" ∷
    "   3 0 --- --- S" ∷
    "   3 1   5   4 M" ∷
    "   4 0   2   0 M" ∷
    "   4 1 --- --- N" ∷
    "   5 0   0   2 M" ∷
    "   5 1 --- --- N" ∷
    []

abbrev pub lines_full : List String
lines_full =
    "   1 0   0   1 M" ∷
    "   1 1 --- --- W" ∷
    "   2 0   1   0 M" ∷
    "   2 1 --- --- W" ∷
    "   3 0 --- --- N" ∷
    "   3 1   4   2 M" ∷
    []

abbrev pub lines_ten : List String
lines_ten =
    "   1 0   0 --- E" ∷
    "   2 0   1   0 M" ∷
    "   3 0   0   1 M" ∷
    "   4 0   1   0 M" ∷
    "   5 0   0   1 M" ∷
    "   6 0   1   0 M" ∷
    "   7 0   0   1 M" ∷
    "   8 0   1   0 M" ∷
    "   9 0   0   1 M" ∷
    "  10 0   1   0 M" ∷
    []
