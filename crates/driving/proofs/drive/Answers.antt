-- `drive` meets its contract: what is known before a round, a turn and a reference (`Invariants`) is taken on by each. Assumes nothing.
use Rattle.std.proofs.Common.{set, refl, ap, ◌∙◌, arith}
use Rattle.playing.specs.Playing.{consume_one}
use Rattle.playing.specs.declared.Buffers.{Buffers}
use Rattle.driving.specs.Driving.{lent, read_from}
use Rattle.driving.proofs.Input.{state_with}
use Rattle.driving.proofs.Sizes.{chosen-small, into_fits, over_fits}
use Rattle.driving.proofs.WrittenSoFar.{written_room, written_clear, written-few, header_fits}
use Rattle.driving.proofs.RestOfPlan.{round-first, round-next, NoneLeft, all_played, all_read, last_totals, last_sheet, last_desk, last_reasons}
use Rattle.driving.proofs.RestOfPlan.{turn_first, turn_next, turn_last, turn_acts, turn_each, turn_into, turn_over, turn_idle}
use Rattle.driving.proofs.RestOfPlan.{read_first, read_next_lem, read-missing, read_end}
use Rattle.driving.proofs.drive.Goals as goal
use Rattle.driving.proofs.drive.Goals.{in-IntoEmpty, in-OverMinBlock, in-MinBlockSooner, else-rounds-test, then-rounds-test+else-b-refs}

pub rounds-init : goal.rounds-init
rounds-init c = (round-first c.requires.0 c.requires.1 c.requires.2 c.requires.3, refl, refl)

pub disks-init : goal.disks-init
disks-init c = turn_first c.rounds.invariant.0.sized c.rounds.invariant.0.kept

pub note-requires : goal.note-requires
note-requires c =
    let h = c.disks.invariant in (
      chosen-small (lent c.args.input) h.sized (state_with c.disks.b c.disks.desk c.disks.acts) h.kept c.disks.d c.disks-test.true _ c.rule_choice-c.ensures,
      h.kept.small_helds,
    )

pub fetch-b-requires : goal.fetch-b-requires
fetch-b-requires c =
    let f = into_fits _ c.disks.invariant.sized _ c.disks.invariant.kept c.disks.d c.disks-test.true _ c.rule_choice-c.ensures _ _ c.in-IntoEmpty.is in
    (f.0, f.2, omega arith)

pub take_in-requires-clause-d_bound : goal.take_in-requires-clause-d_bound
take_in-requires-clause-d_bound c =
    let f = into_fits _ c.disks.invariant.sized _ c.disks.invariant.kept c.disks.d c.disks-test.true _ c.rule_choice-c.ensures _ _ c.in-IntoEmpty.is in
    (f.2, f.0, f.1, f.3)

pub held_at-requires : goal.held_at-requires
held_at-requires c =
    (over_fits _ c.disks.invariant.sized _ c.disks.invariant.kept c.disks.d c.disks-test.true _ c.rule_choice-c.ensures _ _ c.in-OverMinBlock.is).1

pub replace-b-requires : goal.replace-b-requires
replace-b-requires c =
    let f = over_fits _ c.disks.invariant.sized _ c.disks.invariant.kept c.disks.d c.disks-test.true _ c.rule_choice-c.ensures _ _ c.in-OverMinBlock.is in
    (omega (arith, c.held_at.ensures), f.0, f.2, f.4)

pub take_in-requires-in-OverMinBlock-clause-d_bound : goal.take_in-requires-in-OverMinBlock-clause-d_bound
take_in-requires-in-OverMinBlock-clause-d_bound c =
    let f = over_fits _ c.disks.invariant.sized _ c.disks.invariant.kept c.disks.d c.disks-test.true _ c.rule_choice-c.ensures _ _ c.in-OverMinBlock.is in
    (f.2, f.0, f.1, f.3)

pub disks-preserved : goal.disks-preserved
disks-preserved c =
    let k = lent c.args.input in
    let l = c.disks in
    let x = c.rule_choice-c.result in
    let noted = ap (set l.acts l.d) c.note.ensures in
    turn_next l.invariant c.disks-test.true c.rule_choice-c.ensures
    (elim c.match-c.branch [
      | in-IntoEmpty w ↦ turn_into k l.d l.b l.desk l.acts x noted _ _ w.in-IntoEmpty.is w.fetch-b.ensures w.b-is (w.desk-is ∙ w.take_in.ensures)
      | in-OverMinBlock w ↦
          turn_over k l.d l.b l.desk l.acts x noted _ _ w.in-OverMinBlock.is w.held_at.ensures w.replace-b.ensures w.b-is
          (w.desk-is ∙ w.take_in-in-OverMinBlock.ensures)
      | in-MinBlockSooner w ↦ turn_idle k l.d l.b l.desk l.acts x noted w.in-MinBlockSooner.is w.b-is w.desk-is
    ])

pub put_round-at-requires-clause-start_in_bounds : goal.put_round-at-requires-clause-start_in_bounds
put_round-at-requires-clause-start_in_bounds c =
    let h = c.rounds.invariant.0 in
    let few = h.few_rounds in
    let room = written_room h.written (omega arith) in
    (omega (arith, room), omega (arith, room))

pub put_round-at-requires-clause-clear_from : goal.put_round-at-requires-clause-clear_from
put_round-at-requires-clause-clear_from c =
    let h = c.rounds.invariant.0 in
    let few = h.few_rounds in
    written_clear h.written (omega arith)

pub tally-requires : goal.tally-requires
tally-requires c =
    let h = c.rounds.invariant.0 in
    let few = h.few_rounds in
    (omega (arith, turn_each c.disks.invariant, h.sized.few_disks), written-few h.written (omega arith))

pub references-init : goal.references-init
references-init c = read_first c.disks.invariant.sized c.disks.invariant.kept

pub rounds-preserved : goal.rounds-preserved
rounds-preserved c =
    let all = turn_last c.disks.invariant c.disks-test.false in
    let h = c.references.invariant in
    let next = round-next c.rounds.invariant.0 c.rounds-test.true c.if-b-refs.true h.kept (read_end h c.references-test.false ∙ ap (read_from _ _) all)
    _ (turn_acts c.disks.invariant c.disks-test.false) (turn_each c.disks.invariant)
    c.tally.ensures c.put_round-at.ensures.sheet_after c.put_round-at.ensures.value c.lay_reasons.ensures in
    (next, c.rounds.invariant.1, c.rounds.invariant.2)

pub rounds-preserved-then-not-b-refs : goal.rounds-preserved-then-not-b-refs
rounds-preserved-then-not-b-refs c =
    let all = turn_last c.disks.invariant c.disks-test.false in
    let h = c.references.invariant in
    let next = round-next c.rounds.invariant.0 c.rounds-test.true c.if-b-refs.true h.kept
    (read-missing h c.if-not-b-refs.true ∙ ap (read_from _ _) all)
    _ (turn_acts c.disks.invariant c.disks-test.false) (turn_each c.disks.invariant)
    c.tally.ensures c.put_round-at.ensures.sheet_after c.put_round-at.ensures.value c.lay_reasons.ensures in
    (next, c.rounds.invariant.1, c.rounds.invariant.2)

pub references-smaller : goal.references-smaller
unfolding consume_one
references-smaller c =
    let next = ap (λ (b : Buffers). b.next) c.consume-b.ensures in
    omega (arith, next)

pub references-preserved : goal.references-preserved
references-preserved c =
    read_next_lem c.references.invariant c.references-test.true c.if-not-b-refs.false
    (λ i. state_with (c.consume-b.ensures i) (c.read.ensures i) c.disks.acts)

pub put_header-requires : goal.put_header-requires
put_header-requires c =
    let h = c.rounds.invariant.0 in
    let few = h.few_rounds in
    let within = h.within in
    let fits = header_fits h.written (omega arith) in
    (omega (arith, fits), fits.1, fits.2)

pub returns-clause-driven : goal.returns-clause-driven
returns-clause-driven c =
    let h = c.rounds.invariant.0 in
    let none : NoneLeft h =
    elim c.rounds-test.branch [
      | else-rounds-test w ↦ all_played h w.rounds-test.false
      | then-rounds-test+else-b-refs w ↦ all_read h w.if-b-refs.false
    ]
    in
    (last_totals h none, last_sheet h none c.put_header.ensures, last_reasons h none, last_desk h none)

pub returns-clause-same_slices : goal.returns-clause-same_slices
returns-clause-same_slices c = (c.rounds.invariant.1, c.rounds.invariant.2)
