-- `slots_text::put_least` meets its contract where there is an answer. Assumes nothing.
use Rattle.std.proofs.Common.{◌≡◌, ◌<◌, Ok, Some, None, ap, ◌∙◌, subst, arith}
use Rattle.model.specs.Text.{text}
use Rattle.model.specs.Plans.{each}
use Rattle.texts.proofs.Laws.{end_seven, put_then}
use Rattle.slots_text.specs.Text.{least_text, Few}
use Rattle.slots_text.proofs.put_least.Goals as goal

pub returns-in-None-clause-text : goal.returns-in-None-clause-text
unfolding least_text text each
returns-in-None-clause-text c = let e : c.args.least ≡ Ok None = c.in-Ok.is ∙ ap Ok c.in-None.is in rw e c.put_word.ensures

pub returns-in-Some-clause-text : goal.returns-in-Some-clause-text
unfolding least_text text each
returns-in-Some-clause-text c =
    let e : c.args.least ≡ Ok (Some c.in-Some.found) = c.in-Ok.is ∙ ap Ok c.in-Some.is in
    rw e (put_then c.put_word-at.ensures c.put_end.ensures)

pub returns-in-Some-clause-few : goal.returns-in-Some-clause-few
returns-in-Some-clause-few c =
    let e : c.args.least ≡ Ok (Some c.in-Some.found) = c.in-Ok.is ∙ ap Ok c.in-Some.is in
    let few : c.in-Some.found.slots < 65 = subst Few e c.requires in
    let at = c.put_word-at.ensures.next in
    let length = c.put_end.ensures.next in
    let most = end_seven c.in-Some.found.slots (omega (arith, few)) in
    omega (arith, at, length, most)
