-- `texts::put_refusal` meets its contract. Assumes nothing.
use Rattle.std.proofs.Common.{arith}
use Rattle.model.specs.Plans.{each}
use Rattle.model.specs.Text.{text}
use Rattle.texts.specs.Texts.{refusal_line}
use Rattle.texts.proofs.Laws.{end_seven, put_then}
use Rattle.texts.proofs.put_refusal.Goals as goal

pub returns-clause-text : goal.returns-clause-text
unfolding refusal_line text each
returns-clause-text c = put_then c.put_word-at.ensures c.put_end.ensures

pub returns-clause-few : goal.returns-clause-few
returns-clause-few c =
    let word = c.put_word-at.ensures.next in
    let end = c.put_end.ensures.next in
    let seven = end_seven c.args.number c.requires in
    omega (arith, word, end, seven)
