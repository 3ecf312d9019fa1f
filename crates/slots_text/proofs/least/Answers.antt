-- `slots_text::least` meets its contract, for a ticket that is read and for one that is refused. Assumes nothing.
use Rattle.std.proofs.Common.{sym, ◌∙◌, rules}
use Rattle.slots_text.proofs.SlotsPrinted.{least_read, least_refused}
use Rattle.slots_text.proofs.least.Goals as goal

pub returns-in_err-job : goal.returns-in_err-job
returns-in_err-job c = least_refused _ _ _ (sym c.read.ensures ∙ c.in_err-job.was) (search rules)

pub returns : goal.returns
returns c = least_read _ _ _ (sym c.read.ensures ∙ c.in_ok-job.was) c.least_slots.ensures.0
