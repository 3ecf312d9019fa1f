-- `building::closed` meets its contract. Assumes nothing.
use Rattle.std.proofs.Common.{◌≡◌, Err, arith, sym, ap, ◌∙◌}
use Rattle.pieces.specs.declared.Met.{Met}
use Rattle.pieces.proofs.Laws.{begins_within}
use Rattle.building.specs.Building.{closed_at}
use Rattle.building.proofs.Laws.{step_reads, step_refuses, closed_paren, closed_wrong}
use Rattle.building.proofs.closed.Goals as goal

pub returns-then-not-is_at : goal.returns-then-not-is_at
returns-then-not-is_at g c =
    let e : closed_at c.args.text.now c.in_ok-inner.inner ≡ Err c.malformed.result =
    closed_wrong _ _ (sym c.if-not-is_at.ensures) ∙ ap (λ (m : Met). Err m) (sym c.malformed.ensures) in
    rw c.in_ok-inner.was (step_refuses _ (closed_at c.args.text.now) c.in_ok-inner.inner _ e c.from.ensures)

pub overflow_add-result : goal.overflow_add-result
overflow_add-result g c = omega (arith, begins_within _ c.args.text.now c.in_ok-inner.inner.at c.is_at.ensures c.if-not-is_at.false)

pub returns : goal.returns
returns g c = rw c.in_ok-inner.was (step_reads _ (closed_at c.args.text.now) c.in_ok-inner.inner (closed_paren _ _ (sym c.if-not-is_at.ensures)))
