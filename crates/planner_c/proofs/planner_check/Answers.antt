-- `planner_c::planner_check` meets its contract. Assumes nothing.
use Rattle.std.proofs.Common.{◌≡◌, refl, ◌∙◌}
use Rattle.bits.specs.Reading.{Answer, given, refused}
use Rattle.model.specs.Calls.{Counts}
use Rattle.checking.specs.Checking.{checked_of}
use Rattle.returning.specs.Returning.{counts_as}
use Rattle.counts.proofs.Written.{by_value, check_wrote}
use Rattle.planner.proofs.Laws.{check_promised}
use Rattle.planner_c.proofs.planner_check.Goals as goal

checked_is : (a : Answer Counts) → checked_of a ≡ by_value counts_as a
unfolding checked_of
checked_is (given v) = refl
checked_is (refused n) = refl

pub returns : goal.returns
returns c =
    let a = c.args in
    let k = c.check.ensures in
    let l = c.lay_checked.ensures in
    let u = check_wrote a.ticket.now a.stop a.sheet.now _ (k.0 ∙ checked_is _) _ c.numbered.ensures _ _ _ l.0 l.1 in
    let p = check_promised a.ticket.now a.stop a.sheet.now in
    (u.0, u.1, p.0, p.1)
