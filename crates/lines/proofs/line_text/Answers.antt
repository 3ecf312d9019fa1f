-- `line_text` meets its contract, column by column. Assumes nothing.
use Rattle.std.proofs.Common.{refl}
use Rattle.model.specs.Plans.{each}
use Rattle.model.specs.Text.{text, filled_to}
use Rattle.model.specs.Page.{legend}
use Rattle.lines.specs.Lines.{line_bytes}
use Rattle.lines.proofs.line_text.Goals as goal

pub returns : goal.returns
unfolding line_bytes legend text filled_to each
returns c = rw (c.column.ensures, c.column-2.ensures, c.column-3.ensures, c.column-4.ensures, c.column-5.ensures, c.block_column.ensures, c.block_column-2.ensures, c.block_column-3.ensures, c.block_column-4.ensures, c.block_column-5.ensures, c.block_column-6.ensures) refl
