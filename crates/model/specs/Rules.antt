-- Document 01, "The two plans": distance, U, min-block, and the short and the sparing rule, each as one action with the reason for it.
-- A rule looks only at the state at the start of a round. Assumes nothing.
use Rattle.std.specs.Prelude.{Bool, cond, not, ◌&&◌, List, [], ◌∷◌, ℕ, zero, suc, ◌+◌, ltb, leb, eqb, drop}
use Rattle.std.proofs.Math.Option.{Option, none, some}
use Rattle.model.specs.Job.{Job, block_count, ref_count, slots_of, disk_of}
use Rattle.model.specs.Playing.{count, Action, idle, fetch, replace, State, is_resident, load}

-- The place of the first b in a list, or the list's length.
unfoldable pub place : List ℕ → ℕ → ℕ
place [] b = 0
place (r ∷ more) b = let later = suc (place more b) in cond (eqb r b) 0 later

-- "A block's distance is the position of its first reference at or after the next read, or never": here from any position, and never is N.
unfoldable pub distance : List ℕ → ℕ → ℕ → ℕ
unfolding place
distance refs from b = from + place (drop from refs) b

-- Of two numbers the one that is preferred, where there may be only one.
unfoldable pub prefer : (ℕ → ℕ → Bool) → ℕ → Option ℕ → Option ℕ
prefer before b none = some b
prefer before b (some c) = cond (before b c) (some b) (some c)

-- Of the numbers below n that pass a test the one that comes before all others. They are tried upwards, and each takes the place of the best so
-- far if it comes before that one: where `before` also holds of two equal ones, the highest number of several equal ones is taken.
unfoldable pub best : (ℕ → Bool) → (ℕ → ℕ → Bool) → ℕ → Option ℕ
unfolding prefer
best test before zero = none
best test before (suc n) = let rest = best test before n in cond (test n) (prefer before n rest) rest

-- the distance of a block at the start of the round
abbrev pub distance_now : Job → State → ℕ → ℕ
distance_now j s b = distance j.refs s.next b

-- a block of disk d in the buffer, and one outside it
abbrev pub in_buffer : Job → State → ℕ → ℕ → Bool
in_buffer j s d b = eqb (disk_of j b) d && is_resident s.resident b

abbrev pub missing : Job → State → ℕ → ℕ → Bool
missing j s d b = eqb (disk_of j b) d && not (is_resident s.resident b)

-- U. "For a disk, U is the one of its blocks outside the buffer with the least distance; if all of these are never, there is no U."
unfoldable pub nearest_missing : Job → State → ℕ → Option ℕ
unfolding best distance
nearest_missing j s d =
    best (λ b. missing j s d b && ltb (distance_now j s b) (ref_count j)) (λ b c. ltb (distance_now j s b) (distance_now j s c)) (block_count j)

-- "The min-block is the buffered block with the greatest distance; never is greatest of all, and among several of never the highest block
-- number is taken." The order is ≤ and not <, so that of several nevers the last that is tried is taken, the highest.
unfoldable pub min_block : Job → State → ℕ → Option ℕ
unfolding best distance
min_block j s d = best (in_buffer j s d) (λ b c. leb (distance_now j s c) (distance_now j s b)) (block_count j)

abbrev pub slot_empty : Job → State → ℕ → Bool
slot_empty j s d = ltb (load j s.resident d) (slots_of j d)

-- One action with the reason for it. The letters are those of a page (`Page.antt`).
pub data Choice : Type 0 where
  -- E: U is fetched into an empty slot
  into_empty : ℕ → Choice
  -- M: U (first) replaces the min-block (second)
  over_min_block : ℕ → ℕ → Choice
  -- S: idle, the min-block is referenced before U
  min_block_sooner : Choice
  -- W: idle, the sparing plan waits though S does not hold
  waits : Choice
  -- N: idle, there is no U
  none_missing : Choice

abbrev pub action : Choice → Action
action (into_empty u) = fetch u
action (over_min_block u v) = replace u v
action min_block_sooner = idle
action waits = idle
action none_missing = idle

abbrev pub Rule : Type 0
Rule = Job → State → ℕ → Choice

-- "With full slots it is idle if the min-block is referenced before U; otherwise U replaces the min-block." The min-block has the greatest distance,
-- so the reason S says that every buffered block is referenced before U. No disk of a sound job has 0 slots, so full slots hold a min-block; where
-- they held none, S would be true of no blocks.
unfoldable pub short_full : Job → State → ℕ → Option ℕ → Choice
unfolding distance
short_full j s u none = min_block_sooner
short_full j s u (some v) = cond (ltb (distance_now j s v) (distance_now j s u)) min_block_sooner (over_min_block u v)

-- "If there is no U, the disk is idle. If a slot is empty, both plans fetch U and discard nothing."
unfoldable pub short_of : Job → State → ℕ → Option ℕ → Choice
unfolding short_full min_block load
short_of j s d none = none_missing
short_of j s d (some u) = cond (slot_empty j s d) (into_empty u) (short_full j s u (min_block j s d))

-- "Short (P-MIN, Definition 4)."
unfoldable pub short : Rule
unfolding short_of nearest_missing
short j s d = short_of j s d (nearest_missing j s d)

-- "counted from the position of U's reference on, some buffered block has a later distance than the min-block, two nevers counting as equal"
unfoldable pub some_later : Job → State → ℕ → ℕ → ℕ → Bool
unfolding count distance
some_later j s d u v =
    let from = distance_now j s u in
    ltb 0 (count (λ b. in_buffer j s d b && ltb (distance j.refs from v) (distance j.refs from b)) (block_count j))

-- What the sparing rule makes of the short rule's choice: where U would replace the min-block, it waits "if, counted from the position of U's
-- reference on, some buffered block has a later distance than the min-block"; every other choice stays.
unfoldable pub unless_later : Job → State → ℕ → Choice → Choice
unfolding some_later
unless_later j s d (into_empty u) = into_empty u
unless_later j s d (over_min_block u v) = cond (some_later j s d u v) waits (over_min_block u v)
unless_later j s d min_block_sooner = min_block_sooner
unless_later j s d waits = waits
unless_later j s d none_missing = none_missing

-- "Sparing (P-CON, Definition 5). It does as the short plan, but is also idle if" some buffered block has a later distance than the min-block.
unfoldable pub sparing : Rule
unfolding unless_later short
sparing j s d = unless_later j s d (short j s d)
