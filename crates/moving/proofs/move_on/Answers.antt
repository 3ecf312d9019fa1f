-- `move_on`: `advance` from where the pointer stands, and the pointer is set to what it found. Assumes nothing.
use Rattle.std.proofs.Common.{ℕ, List, set, ap, ◌∙◌, arith}
use Rattle.moving.specs.Moving.{move_from, moved_on}
use Rattle.moving.proofs.Moves.{stop-within}
use Rattle.moving.proofs.move_on.Goals as goal

pub point-requires : goal.point-requires
point-requires c =
    let within = stop-within _ _ _ c.requires.refs_len_bound.2 2048 _ _ _ _ (omega arith) c.advance-p.ensures in
    (omega arith, omega (arith, within))

pub returns : goal.returns
unfolding moved_on
returns c =
    let desk = c.args.desk.now in
    c.point.ensures ∙ ap (λ (m : ℕ × List ℕ). record desk { later = m.1; look = set desk.look c.args.d m.0 }) (c.advance-p.ensures
    ∙ ap (λ (p : ℕ). move_from c.args.refs.now c.args.resident.now c.args.steps.now 2048 p desk.later) c.look_of-look.ensures)
