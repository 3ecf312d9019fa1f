-- `slots_text::slots` meets its contract. Assumes nothing.
use Rattle.slots_text.proofs.SlotsPrinted.{few, least-printed}
use Rattle.slots_text.proofs.slots.Goals as goal

pub put_least-requires : goal.put_least-requires
put_least-requires c = few _ _ _ c.least.ensures

pub returns : goal.returns
returns c =
    let printed = least-printed c.args.ticket.now c.args.disk c.args.wanted c.least.ensures c.put_least.ensures.text in
    record { bytes = printed.0; count = printed.1; few = c.put_least.ensures.few }
