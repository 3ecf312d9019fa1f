-- `listing::note_in` meets its contract: an input with a line feed at its end, an empty one, and any other. Assumes nothing.
use Rattle.std.proofs.Common.{arith}
use Rattle.listing.proofs.PassesPrinted.{none_read, feed_read, all_read}
use Rattle.listing.proofs.note_in.Goals as goal

pub returns-in-10 : goal.returns-in-10
returns-in-10 c = feed_read c.args.input.now (omega arith)

pub returns-in_default : goal.returns-in_default
returns-in_default c = none_read c.args.input.now (omega arith)

pub returns-in_default-2 : goal.returns-in_default-2
returns-in_default-2 c = all_read c.args.input.now (λ e. omega arith)
