-- `put_text` meets its contract. Assumes nothing.
use Rattle.std.proofs.Common.{refl}
use Rattle.printing.proofs.Pages.{text-laid}
use Rattle.printing.proofs.put_text.Goals as goal

pub returns : goal.returns
returns c = text-laid c.args.at _ c.args.text.now c.args.page.now refl c.requires c.copy_front.ensures
