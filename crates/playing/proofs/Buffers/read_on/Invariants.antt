-- The invariant of `read_on`: reading on from here gives what it gives from the start. The measure is the number of references left.
use Rattle.std.proofs.Common.{◌≡◌, ◌-◌, take}
use Rattle.playing.specs.Playing.{read_on_from}
use Rattle.playing.proofs.Buffers.read_on.Given as goal

abbrev pub invariant-loop-self : goal.invariant-loop-self
invariant-loop-self l = read_on_from l.self (take l.count l.refs) ≡ read_on_from l.initial.self (take l.count l.refs)

abbrev pub decreases-loop-self : goal.decreases-loop-self
decreases-loop-self l = l.count - l.self.next
