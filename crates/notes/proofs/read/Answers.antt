-- `notes::read` meets its contract: what was read of the note decides what the call gives. Assumes nothing.
use Rattle.std.proofs.Common.{◌≡◌, Err, inl, inr, arith, rules}
use Rattle.notes.proofs.Whole.{not_read, not_closed, too_many_read, note_given}
use Rattle.notes.proofs.read.Goals as goal

pub returns-in_err-whole : goal.returns-in_err-whole
returns-in_err-whole c =
    let e : c.from_residual.result ≡ Err c.in_err-whole.field-0.0.refusal = search rules in
    rw e (not_read c.args.note.now c.args.refs.now _ _ c.read_note.new.line c.read_note.new.left _ c.in_err-whole.ensures)

pub returns-then-whole-note : goal.returns-then-whole-note
returns-then-whole-note c =
    not_closed c.args.note.now c.args.refs.now _ _ c.read_note.new.line c.read_note.new.left c.in_ok-whole.whole c.in_ok-whole.ensures c.if-whole-note.true

pub returns-then-count-gt2048 : goal.returns-then-count-gt2048
returns-then-count-gt2048 c =
    too_many_read c.args.note.now c.args.refs.now _ _ c.read_note.new.line c.read_note.new.left c.in_ok-whole.whole c.in_ok-whole.ensures c.if-whole-note.false
    (elim c.then-count-gt2048.either [ inl e ↦ inl (omega arith) | inr e ↦ inr (omega arith) ])

pub returns : goal.returns
returns c =
    note_given c.args.note.now c.args.refs.now _ _ c.read_note.new.line c.read_note.new.left c.in_ok-whole.whole c.in_ok-whole.ensures c.if-whole-note.false
    _ (omega arith) c.if-count-gt2048.false c.if-refs-count.false c.read_note.auto.line _ (rw c.copy_from_slice.ensures.after)
