-- What a plan is driven with, and from. Assumes nothing.
use mathlib.Core.List.{List}
use Prim.Native.Nat.{ℕ}
use Rattle.model.specs.Job.{Job}
use Rattle.playing.specs.declared.Buffers.{Buffers}
use Rattle.lookup.specs.declared.Desk.{Desk}
use Rattle.lookup.specs.declared.Steps.{Steps}
use Rattle.choosing.specs.declared.Rule.{Rule}
use Rattle.writing.specs.declared.Action.{Action}
use Rattle.driving.specs.Driving.{PlanInput, PlanState}

-- what `drive` is lent, and what it changes
abbrev pub input_with : List ℕ → List ℕ → Steps → Rule → PlanInput
input_with slots refs steps rule = record { slots = slots; refs = refs; steps = steps; rule = rule }

abbrev pub state_with : Buffers → Desk → List Action → PlanState
state_with b desk acts = record { buffers = b; desk = desk; acts = acts }

-- what a job lends to its plan
abbrev pub input_of : Job → Steps → Rule → PlanInput
input_of j steps rule = input_with j.slots j.refs steps rule
