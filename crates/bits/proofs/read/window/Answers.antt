-- `bits::read::window` meets its contract: three bytes are 24 bits. Assumes nothing.
use Rattle.bits.proofs.Window.{window_bytes}
use Rattle.bits.proofs.read.window.Goals as goal

pub returns : goal.returns
returns c =
    let a = c.byte_at.ensures in
    let b = c.byte_at-2.ensures in
    let d = c.byte_at-3.ensures in
    rw (a.value, b.value, d.value) (window_bytes c.args.i c.args.s.now (rw a.value at a.byte) (rw b.value at b.byte) (rw d.value at d.byte))
