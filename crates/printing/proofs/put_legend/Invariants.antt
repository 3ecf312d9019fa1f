-- The invariant of `put_legend`: the lines of the rules below `rule` are written. Assumes nothing.
use Rattle.std.proofs.Common.{◌≡◌, take}
use Rattle.bits.specs.Fields.{laid_at}
use Rattle.model.specs.Page.{legend, ended}
use Rattle.printing.proofs.put_legend.Given as goal

abbrev pub invariant-loop-rule : goal.invariant-loop-rule
invariant-loop-rule l = l.page ≡ laid_at l.at (ended (take l.rule legend)) l.initial.page
