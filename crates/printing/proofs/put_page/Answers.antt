-- `put_page` meets its contract. Assumes nothing.
use Rattle.printing.proofs.Pages.{page_put}
use Rattle.printing.proofs.put_page.Goals as goal

pub returns : goal.returns
returns c = page_put c.args.sheet.now c.args.reasons.now c.args.disks c.args.count c.args.page.now c.put_lines.ensures c.put_legend.ensures
