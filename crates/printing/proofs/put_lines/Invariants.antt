-- `put_lines`: before each line what is known is one record (`BeforeLine`), and the line's number is that of its reason. Assumes nothing.
use Rattle.std.proofs.Common.{◌≡◌}
use Rattle.printing.proofs.Pages.{BeforeLine}
use Rattle.printing.proofs.put_lines.Given as goal

abbrev pub invariant-loop-reason : goal.invariant-loop-reason
invariant-loop-reason l = record {
  before : BeforeLine l.sheet l.reasons l.disks l.count l.initial.page l.page l.place;
  number : l.place.line ≡ l.reason-index;
}
