-- Document 02, L2, "A wall page of the run": the page of a plan. "For the plan handed back, one line per round and disk, 16 columns and a line feed".
-- Assumes nothing.
use Rattle.std.specs.Prelude.{List, [], ◌∷◌, ◌++◌, map, ℕ, suc}
use Rattle.std.proofs.Math.Option.{Option, none, some}
use Prim.Native.Char.{code}
use Rattle.model.specs.Rules.{Choice, into_empty, over_min_block, min_block_sooner, waits, none_missing}
use Rattle.model.specs.Text.{text, decimal, right_in, filled_to}

-- "the letter of the rule that gave the action. Letters: E into an empty slot, M in place of the min-block, S idle because the min-block is due
-- sooner than U, W idle because the sparing plan waits though S does not hold, N no U."
abbrev pub letter : Choice → ℕ
letter (into_empty u) = code "E"
letter (over_min_block u v) = code "M"
letter min_block_sooner = code "S"
letter waits = code "W"
letter none_missing = code "N"

-- "fetched block (3, right aligned, or `---`), space, discarded block the same way": a block, or none
unfoldable pub block_text : Option ℕ → List ℕ
unfolding text decimal right_in
block_text none = text "---"
block_text (some b) = right_in 3 (decimal b)

abbrev pub fetched_block : Choice → Option ℕ
fetched_block (into_empty u) = some u
fetched_block (over_min_block u v) = some u
fetched_block min_block_sooner = none
fetched_block waits = none
fetched_block none_missing = none

abbrev pub discarded_block : Choice → Option ℕ
discarded_block (into_empty u) = none
discarded_block (over_min_block u v) = some v
discarded_block min_block_sooner = none
discarded_block waits = none
discarded_block none_missing = none

-- "round (4, right aligned), space, disk (1), space, fetched block .., space, discarded block .., space, and the letter", and a line feed
unfoldable pub line_of : ℕ → ℕ → Choice → List ℕ
unfolding decimal right_in block_text
line_of round disk c =
    right_in 4 (decimal round) ++ 32 ∷ (decimal disk ++ 32 ∷ (block_text (fetched_block c) ++ 32 ∷ (block_text (discarded_block c) ++ 32 ∷ letter c ∷ 10 ∷ [])))

-- "one line per round and disk": those of a round, from a disk on,
unfoldable pub round_lines : ℕ → ℕ → List Choice → List ℕ
unfolding line_of
round_lines round disk [] = []
round_lines round disk (c ∷ more) = line_of round disk c ++ round_lines round (suc disk) more

-- and of all rounds, from a round on.
unfoldable pub lines_from : ℕ → List (List Choice) → List ℕ
unfolding round_lines
lines_from round [] = []
lines_from round (choices ∷ more) = round_lines round 0 choices ++ lines_from (suc round) more

-- "Five legend lines of 16 columns close the page, in this order, filled with spaces and each ended by a line feed"
unfoldable pub legend : List (List ℕ)
unfolding text filled_to
legend = map (λ s. filled_to 16 (text s)) ("E empty slot" ∷ "M min-block out" ∷ "S used sooner" ∷ "W waits" ∷ "N none left" ∷ [])

unfoldable pub ended : List (List ℕ) → List ℕ
ended [] = []
ended (line ∷ more) = line ++ 10 ∷ ended more

-- The page of a plan, whose rounds count from 1.
unfoldable pub page_of : List (List Choice) → List ℕ
unfolding lines_from legend ended
page_of plan = lines_from 1 plan ++ ended legend

-- The reasons of a plan, round by round and disk by disk, each as the place of its line in the legend.
abbrev pub reason : Choice → ℕ
reason (into_empty u) = 0
reason (over_min_block u v) = 1
reason min_block_sooner = 2
reason waits = 3
reason none_missing = 4

unfoldable pub reasons_of : List (List Choice) → List ℕ
reasons_of [] = []
reasons_of (choices ∷ more) = map reason choices ++ reasons_of more
