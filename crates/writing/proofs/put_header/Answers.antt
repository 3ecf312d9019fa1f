-- `put_header` meets its contract: the two stores are those of `headed`. Assumes nothing.
use Rattle.std.proofs.Common.{rules}
use Rattle.writing.specs.Heading.{headed}
use Rattle.writing.proofs.put_header.Goals as goal

pub returns : goal.returns
unfolding headed
returns c = search rules
