-- Notes worked through: what the call gives for a text and a room, and where a text is turned away. Each row ends in the proof that it holds, by
-- computation. Assumes nothing.
use mathlib.Core.Path.{◌≡◌, refl}
use mathlib.Core.List.{List, [], ◌∷◌, ◌++◌}
use Prim.Native.Nat.{ℕ}
use Prim.Native.String.{String}
use lib.ListN.{replicate}
use Rattle.bits.specs.Reading.{Answer, given, refused}
use Rattle.model.specs.Text.{text}
use Rattle.grammar.specs.Reading.{stuck, scan, start, note_answer}

pub record Case : Type 0 where
  pub note : String
  pub room : ℕ
  pub gives : Answer (List ℕ)
  pub holds : note_answer (text note) room ≡ gives

abbrev row : (note : String) (room : ℕ) (gives : Answer (List ℕ)) → note_answer (text note) room ≡ gives → Case
row note room gives e = record { note = note; room = room; gives = gives; holds = e }

pub table : List Case
unfolding text note_answer
table =
    -- document 02: "So `1 2*3 | (4 5)*2` gives 1 4 2 5 2 4 2 5": with just room for it, and with one entry less
    row "1 2*3 | (4 5)*2" 8 (given (1 ∷ 4 ∷ 2 ∷ 5 ∷ 2 ∷ 4 ∷ 2 ∷ 5 ∷ [])) refl ∷
    row "1 2*3 | (4 5)*2" 7 (refused 24) refl ∷
    -- "the rest of the other": of a longer left, and of a longer right
    row "1 2 3 | 4" 4 (given (1 ∷ 4 ∷ 2 ∷ 3 ∷ [])) refl ∷
    row "1 | 4 5 6" 4 (given (1 ∷ 4 ∷ 5 ∷ 6 ∷ [])) refl ∷
    -- "several group to the left": not 1 3 2 5 4 6; with parentheses they group to the right
    row "1 2 | 3 4 | 5 6" 6 (given (1 ∷ 5 ∷ 3 ∷ 6 ∷ 2 ∷ 4 ∷ [])) refl ∷
    row "1 2 | (3 4 | 5 6)" 6 (given (1 ∷ 3 ∷ 2 ∷ 5 ∷ 4 ∷ 6 ∷ [])) refl ∷
    -- a count binds closest, to one block or to all that stands in the parentheses
    row "7 8*2" 3 (given (7 ∷ 8 ∷ 8 ∷ [])) refl ∷
    row "(7 8)*2 9" 5 (given (7 ∷ 8 ∷ 7 ∷ 8 ∷ 9 ∷ [])) refl ∷
    row "(1 2 | 3)*2 | 9" 7 (given (1 ∷ 9 ∷ 3 ∷ 2 ∷ 1 ∷ 3 ∷ 2 ∷ [])) refl ∷
    row "((5*2)*3)" 6 (given (replicate 6 5)) refl ∷
    -- the least and the greatest block and count; each kind of number of digits
    row "0" 1 (given (0 ∷ [])) refl ∷
    row "511*1" 1 (given (511 ∷ [])) refl ∷
    row "10 100 99" 3 (given (10 ∷ 100 ∷ 99 ∷ [])) refl ∷
    row "3*10" 10 (given (replicate 10 3)) refl ∷
    -- as many references as a string can have, as the room has, and one more
    row "1*2048" 2048 (given (replicate 2048 1)) refl ∷
    row "1*2048" 2047 (refused 24) refl ∷
    row "1*2048 1" 4096 (refused 24) refl ∷
    row "(1*2)*1025" 4096 (refused 24) refl ∷
    row "5" 0 (refused 24) refl ∷
    -- counts that no number of 32 bits holds, and none of 64
    row "((1*2048)*2048)*2048" 2048 (refused 24) refl ∷
    row "((((((((((((((((1*2048)*2048)*2048)*2048)*2048)*2048)*2048)*2048)*2048)*2048)*2048)*2048)*2048)*2048)*2048)*2048)*2048" 2048 (refused 24) refl ∷
    -- 16 parentheses deep, and 17
    row "((((((((((((((((1))))))))))))))))" 1 (given (1 ∷ [])) refl ∷
    row "(((((((((((((((((1)))))))))))))))))" 1 (refused 23) refl ∷
    row "1 ((((((((((((((((2)))))))))))))))) ((3))" 3 (given (1 ∷ 2 ∷ 3 ∷ [])) refl ∷
    -- 22 and 23 before 24
    row "1*2048 1)" 0 (refused 22) refl ∷
    row "1*2048 1 (((((((((((((((((" 0 (refused 23) refl ∷
    []

-- Where a text is turned away: what stands before the place, and from it on; and the number.
pub record Place : Type 0 where
  pub before : String
  pub rest : String
  pub number : ℕ
  pub holds : scan start (text before ++ text rest) ≡ stuck number (text rest)

abbrev at : (before rest : String) (number : ℕ) → scan start (text before ++ text rest) ≡ stuck number (text rest) → Place
at before rest number e = record { before = before; rest = rest; number = number; holds = e }

pub places : List Place
unfolding text scan
places =
    -- the empty note
    at "" "" 22 refl ∷
    -- leading zeros; a block above 511; counts 0, with a leading zero, above 2048; a second count; no block
    at "0" "1" 22 refl ∷
    at "0" "0" 22 refl ∷
    at "51" "2" 22 refl ∷
    at "100" "0" 22 refl ∷
    at "1*" "0" 22 refl ∷
    at "1*" "01" 22 refl ∷
    at "1*204" "9" 22 refl ∷
    at "1*2048" "0" 22 refl ∷
    at "1*2" "*3" 22 refl ∷
    at "(1)" "2" 22 refl ∷
    at "" "*2" 22 refl ∷
    at "1*" "" 22 refl ∷
    at "1*" "(2)" 22 refl ∷
    -- parentheses: empty, not closed, not opened
    at "(" ")" 22 refl ∷
    at "(" "" 22 refl ∷
    at "(1" "" 22 refl ∷
    at "1" ")" 22 refl ∷
    at "(1)" ")" 22 refl ∷
    at "1" "(2)" 22 refl ∷
    at "(1 " ")" 22 refl ∷
    at "(1 | " ")" 22 refl ∷
    -- spaces: at the end, at the beginning, two of them
    at "1 " "" 22 refl ∷
    at "" " 1" 22 refl ∷
    at "1 " " 2" 22 refl ∷
    at "(" " 1)" 22 refl ∷
    -- ` | ` without its spaces; with an empty side
    at "1" "|2" 22 refl ∷
    at "1 |" "2" 22 refl ∷
    at "1 |" "" 22 refl ∷
    at "1 | " "" 22 refl ∷
    at "" " | 1" 22 refl ∷
    at "" "| 1" 22 refl ∷
    at "1 | " "| 2" 22 refl ∷
    -- other characters
    at "1" "\n" 22 refl ∷
    at "" "\n" 22 refl ∷
    at "1 " "ÿ" 22 refl ∷
    at "" "a" 22 refl ∷
    at "1" "/" 22 refl ∷
    at "1" ":" 22 refl ∷
    -- the 17th parenthesis, and what comes before it or on it
    at "((((((((((((((((" "(1)" 23 refl ∷
    at "((((((((((((((((" "(" 23 refl ∷
    at "((((((((((((((((1 " "(" 23 refl ∷
    at "1" "(((((((((((((((((" 22 refl ∷
    at "((((((((((((((((1" "(" 22 refl ∷
    at "(" ")((((((((((((((((" 22 refl ∷
    at "((((((((((((((((" "()" 23 refl ∷
    at "(((((((((((((((1) ((" "(" 23 refl ∷
    []
