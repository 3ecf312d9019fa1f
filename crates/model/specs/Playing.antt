-- Document 01, "Playing a round", and document 02's request L9, the blocks carried in. A schedule (axioms A1 and A2 of document 000) is a list of
-- rounds, and a round has one action for each disk. Assumes nothing.
use Rattle.std.specs.Prelude.{Bool, true, false, cond, ◌&&◌, List, [], ◌∷◌, ℕ, zero, suc, ◌+◌, ltb, eqb, get_or, set, drop, replicate}
use Rattle.model.specs.Job.{Job, block_count, ref_count, disk_of}

-- How many of the numbers below n pass a test.
unfoldable pub count : (ℕ → Bool) → ℕ → ℕ
count test zero = 0
count test (suc n) = cond (test n) (suc (count test n)) (count test n)

-- What one disk does in one round: nothing; fetch a block and discard nothing; fetch a block (first) in place of another (second).
pub data Action : Type 0 where
  idle : Action
  fetch : ℕ → Action
  replace : ℕ → ℕ → Action

abbrev pub Schedule : Type 0
Schedule = List (List Action)

-- "Which blocks are in the buffers is kept as one mark for each of the 512 block numbers", and the next read is "the first reference not yet
-- consumed". The rounds played so far are counted too.
pub record State : Type 0 where
  pub resident : List Bool
  pub next : ℕ
  pub round : ℕ

-- Empty buffers: a mark for each block number, and none is set.
unfoldable pub none_resident : List Bool
none_resident = replicate 512 false

abbrev pub is_resident : List Bool → ℕ → Bool
is_resident marks b = get_or marks b false

-- the blocks in the buffer of disk d
unfoldable pub load : Job → List Bool → ℕ → ℕ
unfolding count
load j marks d = count (λ b. eqb (disk_of j b) d && is_resident marks b) (block_count j)

-- "Each disk does its action: the discarded block leaves, then the fetched one enters."
unfoldable pub act : List Bool → Action → List Bool
act marks idle = marks
act marks (fetch x) = set marks x true
act marks (replace x z) = set (set marks z false) x true

unfoldable pub act_all : List Bool → List Action → List Bool
unfolding act
act_all marks [] = marks
act_all marks (a ∷ more) = act_all (act marks a) more

-- How many references are consumed of those still due: "The suite consumes references in order while the next one's block is in its buffer,
-- and the reading stops at the first missing block or at the end."
unfoldable pub consumed : List Bool → List ℕ → ℕ
consumed marks [] = 0
consumed marks (r ∷ due) = let more = suc (consumed marks due) in cond (is_resident marks r) more 0

-- L9: "blocks already in its buffer". The marks with those of a disk set too,
unfoldable pub marked : List Bool → List ℕ → List Bool
marked marks [] = marks
marked marks (b ∷ more) = marked (set marks b true) more

-- and with those of each disk, one disk after the other.
unfoldable pub marked_all : List Bool → List (List ℕ) → List Bool
unfolding marked
marked_all marks [] = marks
marked_all marks (blocks ∷ more) = marked_all (marked marks blocks) more

-- The state before round 1. L9: "Before round 1 the suite reads as far as these allow." With nothing carried in, "buffers are empty at the start" of
-- document 01, and nothing is read.
unfoldable pub start : Job → State
unfolding none_resident marked_all consumed
start j =
    let marks = marked_all none_resident j.carried in
    record { resident = marks; next = consumed marks j.refs; round = 0 }

-- "Playing takes the state of the buffers and gives back the next": one round, its actions and then its reading.
unfoldable pub play_round : Job → State → List Action → State
unfolding act_all consumed
play_round j s actions =
    let marks = act_all s.resident actions in
    record { resident = marks; next = s.next + consumed marks (drop s.next j.refs); round = suc s.round }

unfoldable pub play : Job → State → Schedule → State
unfolding play_round
play j s [] = s
play j s (actions ∷ more) = play j (play_round j s actions) more

-- whether an action fetches a block, as a number
abbrev pub fetched : Action → ℕ
fetched idle = 0
fetched (fetch x) = 1
fetched (replace x z) = 1

-- whether an action discards a block, as a number
abbrev pub discarded : Action → ℕ
discarded idle = 0
discarded (fetch x) = 0
discarded (replace x z) = 1

-- L7: "the room now charges up to the round in which the last reference is consumed". From the state s on, each round that starts while references
-- remain is charged, and no other,
unfoldable pub charged_from : Job → State → Schedule → ℕ
unfolding play_round
charged_from j s [] = 0
charged_from j s (actions ∷ more) = let rest = charged_from j (play_round j s actions) more in cond (ltb s.next (ref_count j)) (suc rest) 0

-- and from the start: "A sheet's rounds are from now on that number, 0 where nothing had to be fetched."
unfoldable pub charged : Job → Schedule → ℕ
unfolding charged_from start
charged j schedule = charged_from j (start j) schedule

-- A number that each action of disk d has, summed over all rounds.
unfoldable pub total : (Action → ℕ) → ℕ → Schedule → ℕ
total of d [] = 0
total of d (actions ∷ more) = of (get_or actions d idle) + total of d more

-- "its fetches on a disk are the actions of that disk, in all R rounds, that fetch a block"
unfoldable pub fetches : Schedule → ℕ → ℕ
unfolding total
fetches schedule d = total fetched d schedule
