-- `repeat` meets its contract: each turn writes the reference that stands one time before. Assumes nothing.
use Rattle.std.proofs.Common.{take, arith}
use Rattle.std.proofs.Math.Seq.{length-take-le}
use Rattle.grammar.specs.Note.{repeated}
use Rattle.mixing.proofs.Laws.{begins_all, repeat_start, repeat_more}
use Rattle.mixing.proofs.repeat.Goals as goal

pub loop-i-init : goal.loop-i-init
loop-i-init c = repeat_start c.args.one c.args.times c.args.part.now c.requires.0 c.requires.1

pub loop-i-preserved : goal.loop-i-preserved
loop-i-preserved c =
    let a = c.args in
    let l = c.loop-i in
    let first = length-take-le a.one a.part.now (omega arith) in
    repeat_more a.one a.times l.i (take a.one a.part.now) l.part first l.auto.i (omega arith) l.invariant

pub returns : goal.returns
returns c = begins_all (repeated c.args.times (take c.args.one c.args.part.now)) c.loop-i.part c.loop-i.i c.loop-i.invariant (omega arith)
