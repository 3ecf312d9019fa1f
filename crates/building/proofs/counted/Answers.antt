-- `building::counted` meets its contract: each branch is a case of `counted_at` and of `counted_line`, and a count is 1 to 2048, so that the references
-- are at most 2049 times 2048. Assumes nothing.
use Rattle.std.proofs.Common.{◌≡◌, ℕ, List, Ok, ◌*◌, ◌≤◌, arith, sym, ◌∙◌}
use Rattle.std.proofs.Math.Nat.{mul-le-mul, mul_comm}
use Rattle.mixing.proofs.Room.{part_length}
use Rattle.pieces.specs.Pieces.{count_at}
use Rattle.pieces.specs.declared.Counted.{Counted}
use Rattle.pieces.proofs.Laws.{count-within}
use Rattle.building.specs.Building.{counted_at}
use Rattle.building.proofs.Laws.{step_reads, step_refuses, counted_wrong, line_wrong, counted-times, line_full, line_times, part-repeated}
use Rattle.building.proofs.counted.Goals as goal
use Rattle.building.proofs.counted.Goals.{then-begin-from-le2048, else-begin-from-le2048}

count-few : (t : List ℕ) (at count : ℕ) {n : Counted} → count_at t at ≡ Ok n → count ≤ 2049 → count * n.times ≤ 2049 * 2048
count-few t at count e h = mul-le-mul h (count-within t at e).1

-- a count that is refused
pub returns-in_err-c-clause-piece : goal.returns-in_err-c-clause-piece
returns-in_err-c-clause-piece g c =
    rw c.in_ok-part.was
    (step_refuses _ (counted_at c.args.text.now) c.in_ok-part.part _ (counted_wrong _ _ (sym c.in_err-c.ensures)) c.from_residual-in_err-c.ensures.1)

pub returns-in_err-c-clause-repeats : goal.returns-in_err-c-clause-repeats
returns-in_err-c-clause-repeats g c = rw c.in_ok-part.was (sym (line_wrong _ _ _ _ _ (sym c.in_err-c.ensures)))

pub overflow_mul-count : goal.overflow_mul-count
overflow_mul-count g c =
    omega (arith, count-few c.args.text.now c.in_ok-part.part.at c.in_ok-part.part.count (sym c.in_ok-c.ensures) (c.requires.3 _ c.in_ok-part.was))

pub overflow_add-begin-2 : goal.overflow_add-begin-2
overflow_add-begin-2 g c =
    omega (arith, count-few c.args.text.now c.in_ok-part.part.at c.in_ok-part.part.count (sym c.in_ok-c.ensures) (c.requires.3 _ c.in_ok-part.was))

pub repeat-requires : goal.repeat-requires
repeat-requires g c = (
  part_length c.args.from.line (c.in_ok-part.part.count * c.in_ok-c.c.times) c.args.line.now (omega arith) ∙ mul_comm _ _,
  (count-within c.args.text.now c.in_ok-part.part.at (sym c.in_ok-c.ensures)).0,
)

pub returns-clause-piece : goal.returns-clause-piece
returns-clause-piece g c =
    rw (c.cap.ensures, c.in_ok-part.was)
    (step_reads _ (counted_at c.args.text.now) c.in_ok-part.part (counted-times _ _ (sym c.in_ok-c.ensures)))

-- the line, with and without room
pub returns-clause-repeats : goal.returns-clause-repeats
returns-clause-repeats g c =
    rw c.in_ok-part.was (elim c.if-begin-from-le2048.branch [
      | then-begin-from-le2048 w ↦ w.line-is
          ∙ part-repeated c.args.from.line c.in_ok-part.part.count c.in_ok-c.c.times c.args.line.now _
          (count-within c.args.text.now c.in_ok-part.part.at (sym c.in_ok-c.ensures)).0 w.repeat.ensures
          ∙ sym (line_times _ _ _ _ _ (sym c.in_ok-c.ensures) w.if-begin-from-le2048.true)
      | else-begin-from-le2048 w ↦ w.line-is ∙ sym (line_full _ _ _ _ _ (sym c.in_ok-c.ensures) w.if-begin-from-le2048.false)
    ])
