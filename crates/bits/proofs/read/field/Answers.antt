-- `bits::read::field` meets its contract: the window shows the field, and the test is that of the end. Assumes nothing.
use borrow.Author.Tests.{le-leb, lt-leb}
use Rattle.std.proofs.Common.{◌+◌, ◌*◌, length, refl, arith}
use Rattle.bits.specs.Fields.{field_at}
use Rattle.bits.proofs.Window.{one_shifted, window_shows}
use Rattle.bits.proofs.read.field.Goals as goal

pub returns-then-at-width : goal.returns-then-at-width
unfolding field_at
returns-then-at-width c =
    let s = c.args.s.now in
    let at = c.args.at in
    let w = c.args.width in
    rw (c.window-shown.ensures, one_shifted w (omega arith), window_shows w at s (omega arith), le-leb (at + w) (length s * 8) (omega arith)) refl

pub returns-else-at-width : goal.returns-else-at-width
unfolding field_at
returns-else-at-width c = rw (lt-leb (c.args.at + c.args.width) (length c.args.s.now * 8) (omega arith)) refl
