-- `bits::copy_front` meets its contract: the bytes copied are the first n, and those after them stay. Assumes nothing.
use Rattle.std.proofs.Common.{sym, ap, ◌∙◌, ◌++◌, List, ℕ, drop}
use Rattle.bits.proofs.Fields.{over-take}
use Rattle.bits.proofs.copy_front.Goals as goal

pub returns : goal.returns
returns c =
    ap (λ (l : List ℕ). l ++ drop c.args.n c.args.dst.now) c.copy_from_slice.ensures.after
    ∙ sym (over-take c.args.n c.args.src.now c.args.dst.now c.requires.of_source)
