-- `advance` meets its contract. Assumes nothing.
use Rattle.std.proofs.Common.{ℕ, ◌≡◌, suc, ◌-◌, false, get_or, refl, sym, ap, ◌∙◌, arith}
use Rattle.moving.specs.Moving.{move_from}
use Rattle.moving.proofs.Moves.{move_step}
use Rattle.moving.proofs.advance.Goals as goal

pub loop-p-init : goal.loop-p-init
loop-p-init c = (2048, omega arith, refl)

pub loop-p-preserved : goal.loop-p-preserved
loop-p-preserved c =
    let refs = c.args.refs.now in
    let resident = c.args.resident.now in
    let steps = c.args.steps.now in
    let l = c.loop-p in
    let left = l.invariant.0 - 1 in
    let one : suc left ≡ l.invariant.0 = omega arith in
    let here = ap (λ (b : ℕ). get_or resident b false) (sym c.from.ensures) ∙ c.if-resident-from.true in
    let on = move_step refs resident steps left l.p l.later c.loop-p-test.true here in
    (left, omega (arith, c.requires.2 l.p), rw (c.after-p.ensures, c.pass.ensures) on ∙ ap (λ (n : ℕ). move_from refs resident steps n l.p l.later) one ∙ l.invariant.2)
