-- `put_round` meets its contract. Assumes nothing.
use Rattle.writing.proofs.Packing.{wrote_start, wrote_clear, wrote_room, wrote_more}
use Rattle.writing.proofs.put_round.Goals as goal

pub loop-a-init : goal.loop-a-init
loop-a-init c =
    let p = c.requires in
    wrote_start (record { few = p.acts_bound.0; small = p.acts_bound.1; room = p.start_in_bounds.0; near = p.start_in_bounds.1; clear = p.clear_from })

pub put_action-at-requires-clause-at_in_bounds : goal.put_action-at-requires-clause-at_in_bounds
put_action-at-requires-clause-at_in_bounds c = wrote_room c.loop-a.invariant c.loop-a-test.true

pub put_action-at-requires-clause-clear_from : goal.put_action-at-requires-clause-clear_from
put_action-at-requires-clause-clear_from c = wrote_clear c.loop-a.invariant c.loop-a-test.true

pub loop-a-preserved : goal.loop-a-preserved
loop-a-preserved c = wrote_more c.loop-a.invariant c.loop-a-test.true _ c.put_action-at.ensures.value c.put_action-at.ensures.sheet_after
