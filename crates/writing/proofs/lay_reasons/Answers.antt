-- `lay_reasons` meets its contract: a reason is laid within the slice, and past its end there is nothing to lay. Assumes nothing.
use Rattle.std.proofs.Common.{rules, ◌+◌, sym, ◌∙◌}
use Rattle.std.specs.Prelude.{None}
use lib.Seq.{set_out}
use Rattle.bits.proofs.Fields.{laid_at_nil}
use Rattle.writing.specs.declared.Action.{Action}
use Rattle.writing.proofs.Reasons.{laid_disk}
use Rattle.writing.proofs.lay_reasons.Goals as goal
use Rattle.writing.proofs.lay_reasons.Goals.{then-start-d, else-start-d}

pub loop-d-init : goal.loop-d-init
loop-d-init c = sym (laid_at_nil c.args.start c.args.reasons.now)

pub loop-d-preserved : goal.loop-d-preserved
loop-d-preserved c =
    let a = c.args in
    let l = c.loop-d in
    let none : Action = record { fetched = None; discarded = None; reason = 0 } in
    rw (laid_disk a.reasons.now a.start a.acts.now l.d none c.loop-d-test.true, ← l.invariant)
    (elim c.if-start-d.branch [
      | then-start-d w ↦ search rules
      | else-start-d w ↦ w.reasons-is ∙ sym (set_out l.reasons (a.start + l.d) _ w.if-start-d.false)
    ])
