-- `put_lines` meets its contract: a line that is due is written at its place, and the next place follows. Assumes nothing.
use Rattle.std.proofs.Common.{◌≡◌, ◌<◌, ℕ, refl, sym, ap, ◌∙◌, get_or, arith}
use Rattle.std.proofs.lemmas.List.{get_or-take, length-take-le}
use Rattle.lines.specs.declared.Shown.{Shown}
use Rattle.lines.specs.Lines.{line_bytes, place_after}
use Rattle.printing.proofs.Pages.{line_on, line_first, line_next, lines_all}
use Rattle.printing.proofs.put_lines.Goals as goal

pub loop-reason-init : goal.loop-reason-init
loop-reason-init c = record { before = line_first; number = refl }

pub loop-reason-preserved : goal.loop-reason-preserved
loop-reason-preserved c =
    let l = c.loop-reason in
    let p = l.place in
    let reasons = c.args.reasons.now in
    let shown = c.action_at-shown.ensures in
    let due : l.reason-index < c.args.count = omega (arith, length-take-le c.args.count reasons (omega arith)) in
    let reason : c.from.result ≡ get_or reasons p.line 0 =
    c.from.ensures ∙ get_or-take c.args.count reasons l.reason-index 0 due ∙ ap (λ (n : ℕ). get_or reasons n 0) (sym l.invariant.number) in
    let on = line_on p c.action_at-shown.result.next c.args.disks c.after-place.ensures in
    record {
      before = line_next l.invariant.before (omega arith) _
          (c.line_text-text.ensures ∙ (λ i. let x = shown i in line_bytes p.round p.disk x.fetched x.discarded (reason i)))
          c.put_text.ensures
          (c.after-place.ensures ∙ ap (λ (x : Shown). place_after p x.next c.args.disks) shown);
      number = omega (arith, on);
    }

pub returns : goal.returns
returns c = lines_all c.loop-reason.invariant.before (omega (arith, length-take-le c.args.count c.args.reasons.now (omega arith)))
