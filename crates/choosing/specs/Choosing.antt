-- What a rule chooses for one disk, from the desk. `proofs/Chosen.antt` leads from here to the model's rules. Assumes nothing.
use Rattle.std.specs.Prelude.{Bool, false, cond, ◌||◌, List, ℕ, zero, suc, ◌+◌, ◌-◌, ◌*◌, ltb, leb, length, get_or}
use Rattle.model.specs.Rules.{short, sparing, into_empty, over_min_block, min_block_sooner, waits, none_missing}
use Rattle.model.specs.Rules.{Choice as RuleChoice, Rule as JobRule}
use Rattle.lookup.specs.declared.Desk.{Desk}
use Rattle.choosing.specs.declared.Choice.{Choice}
use Rattle.choosing.specs.declared.Choice.TheVariants.{IntoEmpty, OverMinBlock, MinBlockSooner, Waits, NoneMissing}
use Rattle.choosing.specs.declared.Rule.{Rule}
use Rattle.choosing.specs.declared.Rule.TheVariants.{Short, Sparing}

-- Residents are compared by distance and then by number: the resident at a place, as one number.
abbrev pub key_at : List ℕ → List ℕ → ℕ → ℕ
key_at residents next i = get_or next (get_or residents i 0) 0 * 512 + get_or residents i 0

-- The place of the greatest among the residents from `base` to `base + k`.
unfoldable pub last_place : List ℕ → List ℕ → ℕ → ℕ → ℕ
last_place residents next base zero = base
last_place residents next base (suc k) =
    let best = last_place residents next base k in
    cond (leb (key_at residents next best) (key_at residents next (base + suc k))) (base + suc k) best

-- Whether one of the k residents from `base` on stands beyond a bound.
unfoldable pub some_beyond : List ℕ → List ℕ → ℕ → ℕ → ℕ → Bool
some_beyond residents later bound base zero = false
some_beyond residents later bound base (suc k) = some_beyond residents later bound base k || ltb bound (get_or later (get_or residents (base + k) 0) 0)

-- "It does as the short plan, but is also idle if" some buffered block has a later distance than the min-block.
abbrev pub also_idle : Rule → Bool → Bool
also_idle Short later = false
also_idle Sparing later = later

-- With full slots: the min-block stands at `place`.
unfoldable pub choice_full : Rule → Desk → ℕ → ℕ → ℕ → ℕ → ℕ → Choice
unfolding some_beyond
choice_full rule desk look u base count place =
    let far = get_or desk.next (get_or desk.held place 0) 0 in
    cond (ltb far look) MinBlockSooner
    (cond (also_idle rule (some_beyond desk.held desk.later far base count)) Waits (OverMinBlock u place))

-- What a rule chooses for disk d, which holds `count` blocks in its slots.
unfoldable pub choice_from : List ℕ → Rule → ℕ → ℕ → ℕ → Desk → Choice
unfolding choice_full last_place
choice_from refs rule d count slots desk =
    let look = get_or desk.look d 0 in
    let u = get_or refs look 0 in
    cond (leb (length refs) look) NoneMissing
    (cond (ltb count slots) (IntoEmpty u (d * 64 + count))
    (choice_full rule desk look u (d * 64) count (last_place desk.held desk.next (d * 64) (count - 1))))

-- Which of the model's rules it is, and which of its choices.
abbrev pub rule_of : Rule → JobRule
rule_of Short = short
rule_of Sparing = sparing

abbrev pub meaning : List ℕ → Choice → RuleChoice
meaning residents (IntoEmpty u place) = into_empty u
meaning residents (OverMinBlock u place) = over_min_block u (get_or residents place 0)
meaning residents MinBlockSooner = min_block_sooner
meaning residents Waits = waits
meaning residents NoneMissing = none_missing
