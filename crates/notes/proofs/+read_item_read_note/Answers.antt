-- The proof of the cycle of calls {read_item, read_note}: an item is a block or a note in parentheses, with a count; and what a turn of the loop over
-- the items of a note does is in `proofs/Turn.antt`. Assumes nothing.
use Rattle.std.proofs.Common.{◌≡◌, Err, arith, rules, sym, ◌∙◌}
use Rattle.bits.proofs.Logic.{some_number}
use Rattle.grammar.specs.Reading.{nothing}
use Rattle.pieces.proofs.Laws.{begins_within}
use Rattle.building.specs.Building.{closed_at, counted_at}
use Rattle.building.proofs.Laws.{of_met}
use Rattle.notes.specs.Readers.{ItemRead}
use Rattle.notes.proofs.Parts.{PartRead, part-few, deep-refused, inside-read, block_read, counted-read}
use Rattle.notes.proofs.SoFar.{so_far_none}
use Rattle.notes.proofs.Turn.{item-wrong, counts-few, joint-wrong, same-side, next-side, note-over}
use Rattle.notes.proofs.+read_item_read_note.Goals as goal
use Rattle.notes.proofs.+read_item_read_note.Goals.{read_item-then-is_at+else-from-eq0, read_item-else-is_at}

pub read_item-returns-then-from-eq0 : goal.read_item-returns-then-from-eq0
unfolding ItemRead
read_item-returns-then-from-eq0 t c = deep-refused c.args.text.now c.args.from (sym c.if-is_at.ensures) c.if-from-eq0.true

-- a parenthesis that opens is within the text
pub read_item-overflow_add-within : goal.read_item-overflow_add-within
read_item-overflow_add-within t c = omega (arith, begins_within _ c.args.text.now c.args.from.at c.is_at.ensures c.if-is_at.true)

-- a note in parentheses, or a block, and then the count
pub read_item-counted-requires : goal.read_item-counted-requires
read_item-counted-requires t c =
    let part : PartRead c.args.text.now c.args.from c.args.line.now c.args.left.now c.if-is_at.line c.if-is_at.left c.if-is_at.part =
    elim c.if-is_at.branch [
      | read_item-then-is_at+else-from-eq0 w ↦ rw (w.line-is, w.left-is, w.part-is, of_met (closed_at c.args.text.now) _ w.closed-part.ensures)
          (inside-read c.args.text.now c.args.from (sym w.if-is_at.ensures) (some_number _ w.if-from-eq0.false) c.args.line.now c.args.left.now
          _ _ _ w.read_note-inner.ensures)
      | read_item-else-is_at w ↦ rw (w.line-is, w.left-is, w.part-is, w.read_block-part.ensures.piece, w.read_block-part.ensures.laid)
          (block_read c.args.text.now c.args.from c.args.line.now c.args.left.now c.requires.line_long (sym w.if-is_at.ensures))
    ] in
    (c.requires.few, c.requires.fewer, c.if-is_at.auto.line ∙ c.requires.line_long, part-few _ _ _ _ _ _ _ part)

pub read_item-returns : goal.read_item-returns
read_item-returns t c =
    let part : PartRead c.args.text.now c.args.from c.args.line.now c.args.left.now c.if-is_at.line c.if-is_at.left c.if-is_at.part =
    elim c.if-is_at.branch [
      | read_item-then-is_at+else-from-eq0 w ↦ rw (w.line-is, w.left-is, w.part-is, of_met (closed_at c.args.text.now) _ w.closed-part.ensures)
          (inside-read c.args.text.now c.args.from (sym w.if-is_at.ensures) (some_number _ w.if-from-eq0.false) c.args.line.now c.args.left.now
          _ _ _ w.read_note-inner.ensures)
      | read_item-else-is_at w ↦ rw (w.line-is, w.left-is, w.part-is, w.read_block-part.ensures.piece, w.read_block-part.ensures.laid)
          (block_read c.args.text.now c.args.from c.args.line.now c.args.left.now c.requires.line_long (sym w.if-is_at.ensures))
    ] in
    rw (of_met (counted_at c.args.text.now) _ c.counted.ensures.piece, c.counted.ensures.repeats)
    (counted-read _ _ _ _ _ _ _ (c.if-is_at.auto.line ∙ c.requires.line_long) part)

pub read_note-loop-item-init : goal.read_note-loop-item-init
read_note-loop-item-init t c = (nothing, so_far_none c.args.text.now c.args.from c.args.line.now c.args.left.now, c.requires)

pub read_note-returns-in_err-item : goal.read_note-returns-in_err-item
read_note-returns-in_err-item t c =
    let e : c.from_residual.result ≡ Err c.in_err-item.field-0.0 = search rules in
    rw e (item-wrong _ _ _ _ _ _ _ _ _ _ c.loop-item.invariant.1 _ _ c.cap.ensures c.cap-in-loop-item.ensures _ _ _ c.in_err-item.ensures)

pub read_note-returns-in_err-joint : goal.read_note-returns-in_err-joint
read_note-returns-in_err-joint t c =
    let e : c.from_residual-in_err-joint.result ≡ Err c.in_err-joint.field-0.0 = search rules in
    rw e (joint-wrong _ _ _ _ _ _ _ _ _ _ c.loop-item.invariant.1 _ _ c.cap.ensures c.cap-in-loop-item.ensures _ _ c.in_ok-item.item c.in_ok-item.ensures
    (c.read_item.auto.line ∙ c.loop-item.invariant.2.line_long) (c.read_item.auto.left ∙ c.loop-item.invariant.2.left_long) _ c.in_err-joint.ensures)

pub read_note-overflow_add-sides : goal.read_note-overflow_add-sides
read_note-overflow_add-sides t c =
    let few = counts-few _ _ _ _ _ _ _ _ _ _ c.loop-item.invariant.1 _ _ c.cap.ensures c.cap-in-loop-item.ensures _ _ c.in_ok-item.item c.in_ok-item.ensures in
    omega (arith, few)

-- another item of the side
pub read_note-loop-item-smaller-in-Item : goal.read_note-loop-item-smaller-in-Item
read_note-loop-item-smaller-in-Item t c =
    let on = same-side _ _ _ _ _ _ _ _ _ _ c.loop-item.invariant.1 _ _ c.cap.ensures c.cap-in-loop-item.ensures _ _ c.in_ok-item.item c.in_ok-item.ensures
    (c.read_item.auto.line ∙ c.loop-item.invariant.2.line_long) (c.read_item.auto.left ∙ c.loop-item.invariant.2.left_long)
    _ c.cap-in-loop-item-2.ensures _ (rw c.in-Item.is at c.in_ok-joint.ensures) in
    omega (arith, on.0, on.1)

pub read_note-loop-item-preserved-in-Item : goal.read_note-loop-item-preserved-in-Item
read_note-loop-item-preserved-in-Item t c =
    let long = c.read_item.auto.line ∙ c.loop-item.invariant.2.line_long in
    let wide = c.read_item.auto.left ∙ c.loop-item.invariant.2.left_long in
    let on = same-side _ _ _ _ _ _ _ _ _ _ c.loop-item.invariant.1 _ _ c.cap.ensures c.cap-in-loop-item.ensures _ _ c.in_ok-item.item c.in_ok-item.ensures
    long wide _ c.cap-in-loop-item-2.ensures _ (rw c.in-Item.is at c.in_ok-joint.ensures) in (
      on.2.0,
      on.2.1,
      record {
        few = c.loop-item.invariant.2.few;
        fewer = c.loop-item.invariant.2.fewer;
        line_long = long;
        left_long = wide;
      },
    )

-- another side
pub read_note-loop-item-smaller : goal.read_note-loop-item-smaller
read_note-loop-item-smaller t c =
    let on = next-side _ _ _ _ _ _ _ _ _ _ c.loop-item.invariant.1 _ _ c.cap.ensures c.cap-in-loop-item.ensures _ _ c.in_ok-item.item c.in_ok-item.ensures
    (c.read_item.auto.line ∙ c.loop-item.invariant.2.line_long) (c.read_item.auto.left ∙ c.loop-item.invariant.2.left_long)
    _ c.cap-in-loop-item-2.ensures _ c.mix_side-sides.ensures.counts _ c.mix_side-sides.ensures.mixes _ (rw c.in-Side.is at c.in_ok-joint.ensures) in
    omega (arith, on.0, on.1)

pub read_note-loop-item-preserved : goal.read_note-loop-item-preserved
read_note-loop-item-preserved t c =
    let long = c.read_item.auto.line ∙ c.loop-item.invariant.2.line_long in
    let wide = c.read_item.auto.left ∙ c.loop-item.invariant.2.left_long in
    let on = next-side _ _ _ _ _ _ _ _ _ _ c.loop-item.invariant.1 _ _ c.cap.ensures c.cap-in-loop-item.ensures _ _ c.in_ok-item.item c.in_ok-item.ensures
    long wide _ c.cap-in-loop-item-2.ensures _ c.mix_side-sides.ensures.counts _ c.mix_side-sides.ensures.mixes _ (rw c.in-Side.is at c.in_ok-joint.ensures) in (
      on.2.0,
      on.2.1,
      record {
        few = c.loop-item.invariant.2.few;
        fewer = c.loop-item.invariant.2.fewer;
        line_long = long;
        left_long = c.mix_side-sides.auto.left ∙ wide;
      },
    )

-- the end of the note
pub read_note-returns-in-End : goal.read_note-returns-in-End
read_note-returns-in-End t c =
    note-over _ _ _ _ _ _ _ _ _ _ c.loop-item.invariant.1 _ _ c.cap.ensures c.cap-in-loop-item.ensures _ _ c.in_ok-item.item c.in_ok-item.ensures
    (c.read_item.auto.line ∙ c.loop-item.invariant.2.line_long) (c.read_item.auto.left ∙ c.loop-item.invariant.2.left_long)
    _ c.cap-in-loop-item-2.ensures _ c.mix_side-whole.ensures.counts _ c.mix_side-whole.ensures.mixes (rw c.in-End.is at c.in_ok-joint.ensures)
    _ c.take_back.ensures
