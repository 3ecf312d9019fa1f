-- A round's actions with the reasons for them, disk by disk: the fetched and the discarded block, if any, and the reason. Assumes nothing.
use Rattle.std.specs.Prelude.{List, map, ℕ, ◌%◌, ◌<◌, Option, Some, None, IfSome}
use Rattle.model.specs.Playing.{idle, fetch, replace}
use Rattle.model.specs.Playing.{Action as JobAction}
use Rattle.writing.specs.declared.Action.{Action}

-- An action with blocks of the 512.
abbrev pub Small : Action → Type 0
Small a = IfSome a.fetched (λ u. u < 512) × IfSome a.discarded (λ v. v < 512)

-- The action that a fetched and a discarded block are: where none is fetched it is idle, whatever the discarded one is,
abbrev pub action_of : Option ℕ → Option ℕ → JobAction
action_of None discarded = idle
action_of (Some u) None = fetch u
action_of (Some u) (Some v) = replace u v

-- that of a disk,
abbrev pub action_in : Action → JobAction
action_in a = action_of a.fetched a.discarded

-- and of all disks of a round.
abbrev pub actions_in : List Action → List JobAction
actions_in acts = map action_in acts

-- The reason for an action as a byte,
abbrev pub reason_byte : Action → ℕ
reason_byte a = a.reason % 256

-- and those of all disks of a round.
abbrev pub reasons_in : List Action → List ℕ
reasons_in acts = map reason_byte acts

-- The action of a disk of which no block is missing.
abbrev pub idle_action : Action
idle_action = record { fetched = None; discarded = None; reason = 4 }
