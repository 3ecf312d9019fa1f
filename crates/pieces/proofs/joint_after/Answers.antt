-- `pieces::joint_after` meets its contract: the characters that were seen are within the text, and each branch is a case of `joint_at`. Assumes nothing.
use Rattle.std.proofs.Common.{◌+◌, inl, inr, arith, sym, ◌∙◌}
use Rattle.pieces.proofs.Laws.{begins_within, joint_side, joint_bar, joint_item, joint_close, joint_end, joint_wrong}
use Rattle.pieces.proofs.joint_after.Goals as goal

pub returns-then-text-at : goal.returns-then-text-at
returns-then-text-at c =
    elim c.if-text-at.either [
      | inl e ↦ sym (joint_close _ _ (sym c.if-not-is_at.ensures) (sym c.is_at-then-not-is_at.ensures ∙ e))
      | inr e ↦ sym (joint_end _ _ e.1)
    ]

pub returns-else-text-at : goal.returns-else-text-at
returns-else-text-at c =
    rw c.malformed.ensures (sym (joint_wrong _ _ (sym c.if-not-is_at.ensures) (sym c.is_at-then-not-is_at.ensures ∙ c.if-text-at.false.0) c.if-text-at.false.1))

pub overflow_add-at : goal.overflow_add-at
overflow_add-at c = omega (arith, begins_within _ c.args.text.now c.args.at c.is_at.ensures c.if-not-is_at.false)

pub overflow_add-result : goal.overflow_add-result
overflow_add-result c = omega (arith, begins_within _ c.args.text.now c.args.at c.is_at.ensures c.if-not-is_at.false)

pub returns-then-not-is_at-2 : goal.returns-then-not-is_at-2
returns-then-not-is_at-2 c = sym (joint_item _ _ (sym c.if-not-is_at.ensures) (sym c.if-not-is_at-2.ensures))

pub overflow_add-at-2 : goal.overflow_add-at-2
overflow_add-at-2 c = omega (arith, begins_within _ c.args.text.now (c.args.at + 1) c.is_at-2.ensures c.if-not-is_at-2.false)

pub returns-then-not-is_at-3 : goal.returns-then-not-is_at-3
returns-then-not-is_at-3 c =
    rw c.malformed-then-not-is_at-3.ensures (sym (joint_bar _ _ (sym c.if-not-is_at.ensures) (sym c.if-not-is_at-2.ensures) (sym c.if-not-is_at-3.ensures)))

pub overflow_add-result-2 : goal.overflow_add-result-2
overflow_add-result-2 c = omega (arith, begins_within _ c.args.text.now (c.args.at + 2) c.is_at-3.ensures c.if-not-is_at-3.false)

pub returns : goal.returns
returns c = sym (joint_side _ _ (sym c.if-not-is_at.ensures) (sym c.if-not-is_at-2.ensures) (sym c.if-not-is_at-3.ensures))
