-- `page_text::page` meets its contract, for a page and for a refusal. Assumes nothing.
use Rattle.std.proofs.Common.{ap}
use Rattle.texts.specs.Texts.{refusal_line}
use Rattle.texts.proofs.Laws.{put_same}
use Rattle.page_text.proofs.PagePrinted.{page-printed, refusal_printed}
use Rattle.page_text.proofs.page.Goals as goal

pub returns-in-Ok-clause-bytes : goal.returns-in-Ok-clause-bytes
returns-in-Ok-clause-bytes c = (page-printed c.args.ticket.now c.args.out.now c.in-Ok.ensures.1 c.in-Ok.ensures.0).0

pub returns-in-Ok-clause-count : goal.returns-in-Ok-clause-count
returns-in-Ok-clause-count c = (page-printed c.args.ticket.now c.args.out.now c.in-Ok.ensures.1 c.in-Ok.ensures.0).1

pub returns-in-Err-clause-bytes : goal.returns-in-Err-clause-bytes
returns-in-Err-clause-bytes c =
    (refusal_printed c.args.ticket.now c.args.out.now c.in-Err.ensures.1 c.in-Err.ensures.0 (put_same (ap refusal_line c.number.ensures) c.put_refusal.ensures.text)).0

pub returns-in-Err-clause-count : goal.returns-in-Err-clause-count
returns-in-Err-clause-count c =
    (refusal_printed c.args.ticket.now c.args.out.now c.in-Err.ensures.1 c.in-Err.ensures.0 (put_same (ap refusal_line c.number.ensures) c.put_refusal.ensures.text)).1
