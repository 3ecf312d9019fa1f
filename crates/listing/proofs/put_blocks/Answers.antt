-- `listing::put_blocks` meets its contract: what `Invariants.antt` says holds at first, a block more keeps it, and a line feed ends the line. Assumes
-- nothing.
use Rattle.std.proofs.Common.{arith, ap}
use Rattle.std.proofs.Math.Seq.{take_all}
use Rattle.texts.specs.Texts.{Put}
use Rattle.texts.proofs.Laws.{put_start, put_then, put_same}
use Rattle.listing.specs.Passes.{spaced, passes_line}
use Rattle.listing.proofs.PassesPrinted.{space_before, space-few, space-none, space_put, block_three, put_block}
use Rattle.listing.proofs.put_blocks.Goals as goal
use Rattle.listing.proofs.put_blocks.Goals.{then-i-gt0, else-i-gt0}

pub loop-i-init : goal.loop-i-init
unfolding spaced
loop-i-init c = (omega arith, put_start _ _)

pub loop-i-preserved : goal.loop-i-preserved
loop-i-preserved c =
    -- the space, if there is one, is put; and the block is small
    let space : Put c.loop-i.at (space_before c.loop-i.i) c.loop-i.out c.if-i-gt0.out c.if-i-gt0.at = elim c.if-i-gt0.branch [
      | then-i-gt0 w ↦ rw (w.out-is, w.at-is) (space_put c.loop-i.i w.if-i-gt0.true w.put-at.ensures)
      | else-i-gt0 w ↦ rw (w.out-is, w.at-is) (space-none c.loop-i.i w.if-i-gt0.false)
    ] in
    let few = space-few c.loop-i.i in
    let next = space.next in
    let three = block_three _ (c.requires.small c.loop-i.i c.loop-i-test.true) in
    let put = c.put_decimal-at.ensures in
    let last = put.next in
    (omega (arith, few.0, few.1, next, three, last), put_block c.loop-i.i _ c.loop-i-test.true c.loop-i.invariant.1 space put)

pub returns-clause-text : goal.returns-clause-text
unfolding passes_line
returns-clause-text c = put_then (put_same (ap spaced (take_all c.loop-i.i _ c.loop-i-test.false)) c.loop-i.invariant.1) c.put.ensures
