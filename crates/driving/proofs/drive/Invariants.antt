-- `drive`: before each round, each turn and each reference what is known is one record (`BeforeRound`, `BeforeTurn`, `BeforeRead`). The measures are
-- the rounds, the disks and the references left. Assumes nothing.
use Rattle.std.proofs.Common.{◌≡◌, ◌-◌, length}
use Rattle.driving.specs.Driving.{lent}
use Rattle.driving.proofs.Input.{state_with}
use Rattle.driving.proofs.RestOfPlan.{BeforeRound, BeforeTurn, BeforeRead}
use Rattle.driving.proofs.drive.Given as goal

abbrev pub invariant-disks : goal.invariant-disks
invariant-disks l =
    BeforeTurn (lent l.input) (state_with l.initial.b l.initial.desk l.initial.acts) l.d (state_with l.b l.desk l.acts)

abbrev pub invariant-references : goal.invariant-references
invariant-references l =
    BeforeRead (lent l.input) (state_with l.initial.b l.initial.desk l.acts) (state_with l.b l.desk l.acts)

abbrev pub decreases-references : goal.decreases-references
decreases-references l = length l.refs - l.b.next

abbrev pub invariant-rounds : goal.invariant-rounds
invariant-rounds l =
    BeforeRound (lent l.input) l.most (state_with l.initial.b l.initial.desk l.initial.acts) (state_with l.b l.desk l.acts)
    l.initial.out.reasons.now l.fetches l.out.sheet.now l.out.reasons.now l.rounds l.at
    × (l.out.sheet.ghost_name ≡ l.initial.out.sheet.ghost_name) × (l.out.reasons.ghost_name ≡ l.initial.out.reasons.ghost_name)

abbrev pub decreases-rounds : goal.decreases-rounds
decreases-rounds l = l.most - l.rounds
