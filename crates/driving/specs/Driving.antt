-- A plan driven from a desk: what each disk's turn, the reading and each round change; its rounds, its fetches and how many bits its sheet has.
-- `proofs/Driven.antt` leads from here to the model's plan. Assumes nothing.
use Rattle.std.specs.Prelude.{Bool, true, false, cond, ◌&&◌, List, [], ◌∷◌, ◌++◌, ℕ, zero, suc, ltb, length, get_or, set, take, replicate}
use Rattle.model.specs.Playing.{Schedule, fetches}
use Rattle.model.specs.Plans.{each}
use Rattle.model.specs.Sheet.{sheet_bits}
use Rattle.lookup.specs.Desk.{passed}
use Rattle.lookup.specs.declared.Desk.{Desk}
use Rattle.lookup.specs.declared.Steps.{Steps}
use Rattle.playing.specs.Playing.{fetch_into, replace_in, consume_one}
use Rattle.playing.specs.declared.Buffers.{Buffers}
use Rattle.choosing.specs.Choosing.{choice_from}
use Rattle.choosing.specs.declared.Rule.{Rule}
use Rattle.choosing.specs.declared.Choice.{Choice}
use Rattle.choosing.specs.declared.Choice.TheVariants.{IntoEmpty, OverMinBlock, MinBlockSooner, Waits, NoneMissing}
use Rattle.acting.specs.Acting.{noted, taken_in}
use Rattle.acting.specs.declared.Input.{Input}
use Rattle.writing.specs.Writing.{actions_in, reasons_in, idle_action}
use Rattle.writing.specs.declared.Action.{Action}
use Rattle.driving.specs.declared.Totals.{Totals}

-- What does not change while a plan is driven: the slots of each disk, the references, the steps between them, and the rule.
pub record PlanInput : Type 0 where
  pub slots : List ℕ
  pub refs : List ℕ
  pub steps : Steps
  pub rule : Rule

-- as it is lent
abbrev pub lent : Input → PlanInput
lent i = record { slots = i.slots.now; refs = i.refs.now; steps = i.steps.now; rule = i.rule }

-- What changes: the playing state, the desk, and the actions of the round.
pub record PlanState : Type 0 where
  pub buffers : Buffers
  pub desk : Desk
  pub acts : List Action

-- The actions before the first round: no disk acts.
abbrev pub no_acts : List Action
no_acts = replicate 8 idle_action

-- What the rule chooses for disk d,
abbrev pub choice_at : PlanInput → ℕ → PlanState → Choice
choice_at k d p = choice_from k.refs k.rule d (get_or p.buffers.held d 0) (get_or k.slots d 0) p.desk

-- the buffers after that choice,
abbrev pub buffers_after : ℕ → List ℕ → Buffers → Choice → Buffers
buffers_after d residents b (IntoEmpty u place) = fetch_into b u d
buffers_after d residents b (OverMinBlock u place) = replace_in b (get_or residents place 0) u d
buffers_after d residents b MinBlockSooner = b
buffers_after d residents b Waits = b
buffers_after d residents b NoneMissing = b

-- the desk after it, where a fetched block is taken in,
abbrev pub desk_after : PlanInput → ℕ → List Bool → Desk → Choice → Desk
desk_after k d resident desk (IntoEmpty u place) = taken_in k.refs resident k.steps d u place desk
desk_after k d resident desk (OverMinBlock u place) = taken_in k.refs resident k.steps d u place desk
desk_after k d resident desk MinBlockSooner = desk
desk_after k d resident desk Waits = desk
desk_after k d resident desk NoneMissing = desk

-- and all three after disk d's turn: its choice is noted, played and taken in.
abbrev pub after_turn : PlanInput → ℕ → PlanState → Choice → PlanState
after_turn k d p c =
    record {
      buffers = buffers_after d p.desk.held p.buffers c;
      desk = desk_after k d (buffers_after d p.desk.held p.buffers c).resident p.desk c;
      acts = set p.acts d (noted p.desk.held c);
    }

-- "In each round and on each disk": the disks below d, in order.
unfoldable pub turns : PlanInput → ℕ → PlanState → PlanState
turns k zero p = p
turns k (suc d) p = let before = turns k d p in after_turn k d before (choice_at k d before)

-- One reference is consumed: the distance of its block is that of its next one.
abbrev pub read_next : PlanInput → PlanState → PlanState
read_next k p =
    let i = p.buffers.next in
    record { buffers = consume_one p.buffers; desk = record p.desk { next = passed k.refs k.steps i p.desk.next }; acts = p.acts }

-- Whether the next read is due and its block in the buffer.
abbrev pub can_read : PlanInput → PlanState → Bool
can_read k p = ltb p.buffers.next (length k.refs) && get_or p.buffers.resident (get_or k.refs p.buffers.next 0) false

-- "The suite consumes references in order while the next one's block is in its buffer": n of them at most.
unfoldable pub read_from : PlanInput → ℕ → PlanState → PlanState
read_from k zero p = p
read_from k (suc n) p = cond (can_read k p) (read_from k n (read_next k p)) p

-- One round: all disks act,
abbrev pub all_acted : PlanInput → PlanState → PlanState
all_acted k p = turns k (length k.slots) p

-- whose actions are the round's,
abbrev pub round_acts : PlanInput → PlanState → List Action
round_acts k p = take (length k.slots) (all_acted k p).acts

-- and the suite reads on.
abbrev pub round_from : PlanInput → PlanState → PlanState
round_from k p = read_from k (length k.refs) (all_acted k p)

-- "Planning starts a round only while references remain": the rounds from a state on, `most` at most,
unfoldable pub driven_from : PlanInput → ℕ → PlanState → Schedule
driven_from k zero p = []
driven_from k (suc most) p =
    elim (ltb p.buffers.next (length k.refs)) [
      | true ↦ actions_in (round_acts k p) ∷ driven_from k most (round_from k p)
      | false ↦ []
    ]

-- the reasons for their actions,
unfoldable pub reasons_from : PlanInput → ℕ → PlanState → List ℕ
reasons_from k zero p = []
reasons_from k (suc most) p =
    elim (ltb p.buffers.next (length k.refs)) [
      | true ↦ reasons_in (round_acts k p) ++ reasons_from k most (round_from k p)
      | false ↦ []
    ]

-- and the state after them.
unfoldable pub end_from : PlanInput → ℕ → PlanState → PlanState
end_from k zero p = p
end_from k (suc most) p =
    elim (ltb p.buffers.next (length k.refs)) [
      | true ↦ end_from k most (round_from k p)
      | false ↦ p
    ]

-- The rounds written, the fetches and the bits of a schedule.
unfoldable pub totals_of : Schedule → Totals
unfolding fetches each sheet_bits
totals_of schedule = record { rounds = length schedule; fetches = each (fetches schedule) 0 8; bits = length (sheet_bits schedule) }
