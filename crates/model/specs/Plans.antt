-- Document 01, "The two plans": what a plan is, for any rule and from any state. Assumes nothing.
use Rattle.std.specs.Prelude.{true, false, List, [], ◌∷◌, map, ℕ, zero, suc, ltb, take}
use Rattle.model.specs.Job.{Job, disk_count, ref_count}
use Rattle.model.specs.Playing.{Schedule, State, start, play_round, play}
use Rattle.model.specs.Rules.{Choice, action, Rule}

-- f i, f (i + 1), .., k of them
unfoldable pub each : {A : Type 0} → (ℕ → A) → ℕ → ℕ → List A
each f i zero = []
each f i (suc k) = f i ∷ each f (suc i) k

-- "In each round and on each disk": all of a round's choices are made from the state at its start.
unfoldable pub choices : Rule → Job → State → List Choice
unfolding each
choices rule j s = each (rule j s) 0 (disk_count j)

-- "Planning starts a round only while references remain." `most` rounds are started at the most.
unfoldable pub plan_from : Rule → Job → ℕ → State → List (List Choice)
unfolding choices play_round
plan_from rule j zero s = []
plan_from rule j (suc most) s =
    elim (ltb s.next (ref_count j)) [
      | true ↦ choices rule j s ∷ plan_from rule j most (play_round j s (map action (choices rule j s)))
      | false ↦ []
    ]

-- A plan of a whole job: "neither takes more than N rounds".
unfoldable pub plan_of : Rule → Job → List (List Choice)
unfolding plan_from start
plan_of rule j = plan_from rule j (ref_count j) (start j)

-- A plan without its reasons.
unfoldable pub schedule_of : Rule → Job → Schedule
unfolding plan_of
schedule_of rule j = map (map action) (plan_of rule j)

-- The state at the start of a plan's round, where r rounds have been played.
unfoldable pub state_after : Rule → Job → ℕ → State
unfolding schedule_of start play
state_after rule j r = play j (start j) (take r (schedule_of rule j))
