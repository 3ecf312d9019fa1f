-- `listing::passes` meets its contract, for a string and for a refusal. Assumes nothing.
use Rattle.std.proofs.Common.{arith}
use Rattle.std.proofs.Math.Seq.{length-take-le}
use Rattle.listing.proofs.PassesPrinted.{refusal_printed, count-within, string_blocks, string_printed}
use Rattle.listing.proofs.passes.Goals as goal

pub slice_bounds-blocks-end : goal.slice_bounds-blocks-end
slice_bounds-blocks-end c =
    omega (arith, count-within c.args.input.now _ _ c.note_in.ensures (omega arith) _ _ _ c.in-Ok.ensures.0 c.in-Ok.ensures.1, c.read.auto.refs)

pub slice_bounds-put_blocks-end : goal.slice_bounds-put_blocks-end
slice_bounds-put_blocks-end c =
    let few = count-within c.args.input.now _ _ c.note_in.ensures (omega arith) _ _ _ c.in-Ok.ensures.0 c.in-Ok.ensures.1 in
    omega (arith, length-take-le c.in-Ok.count c.read.new.refs (omega (arith, few, c.read.auto.refs)))

pub put_blocks-requires : goal.put_blocks-requires
put_blocks-requires c = string_blocks c.args.input.now _ _ c.note_in.ensures (omega arith) _ _ _ c.in-Ok.ensures.0 c.in-Ok.ensures.1

pub returns-in-Ok-clause-bytes : goal.returns-in-Ok-clause-bytes
returns-in-Ok-clause-bytes c =
    (string_printed c.args.input.now _ _ c.note_in.ensures (omega arith) _ _ _ c.in-Ok.ensures.0 c.in-Ok.ensures.1
    c.put_blocks.ensures.text c.put_blocks.ensures.few).0

pub returns-in-Ok-clause-count : goal.returns-in-Ok-clause-count
returns-in-Ok-clause-count c =
    (string_printed c.args.input.now _ _ c.note_in.ensures (omega arith) _ _ _ c.in-Ok.ensures.0 c.in-Ok.ensures.1
    c.put_blocks.ensures.text c.put_blocks.ensures.few).1.0

pub returns-in-Err-clause-bytes : goal.returns-in-Err-clause-bytes
returns-in-Err-clause-bytes c =
    (refusal_printed c.args.input.now _ _ c.note_in.ensures (omega arith) _ c.in-Err.ensures.0 c.number.ensures c.put_refusal.ensures.text c.put_refusal.ensures.few).0

pub returns-in-Err-clause-count : goal.returns-in-Err-clause-count
returns-in-Err-clause-count c =
    (refusal_printed c.args.input.now _ _ c.note_in.ensures (omega arith) _ c.in-Err.ensures.0 c.number.ensures c.put_refusal.ensures.text c.put_refusal.ensures.few).1.0
