-- `entries::checked` meets its contract: its tests are those of the definition. Assumes nothing.
use Rattle.std.proofs.Common.{arith}
use Rattle.std.proofs.lemmas.Bool.Decides.{nat_tests}
use Rattle.entries.specs.Parts.{entry_of, entry_at}
use Rattle.entries.proofs.checked.Goals as goal

pub returns-in_default : goal.returns-in_default
unfolding entry_at entry_of
returns-in_default g c = grind (arith, nat_tests, c.in_default.ensures)

pub returns-then-v-row : goal.returns-then-v-row
unfolding entry_at entry_of
returns-then-v-row g c = grind (arith, nat_tests, c.in-Some.ensures)

pub returns : goal.returns
unfolding entry_at entry_of
returns g c = grind (arith, nat_tests, c.in-Some.ensures)
