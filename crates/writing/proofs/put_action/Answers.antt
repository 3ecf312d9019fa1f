-- `put_action` meets its contract: the bits of an action are put as one field, and none are for an idle one. Assumes nothing.
use mathlib.Core.Path.{refl}
use Rattle.bits.proofs.Bits.{length_digits}
use Rattle.model.specs.Sheet.{action_bits}
use Rattle.writing.proofs.Packing.{fetch-field, replace-field, idle_put, action-idle, action-fetch, action-replace}
use Rattle.writing.proofs.put_action.Goals as goal

pub returns-in_default-clause-value : goal.returns-in_default-clause-value
unfolding action_bits
returns-in_default-clause-value c = rw (action-idle c.args.a.fetched c.args.a.discarded c.in_default.is) refl

pub returns-in_default-clause-sheet_after : goal.returns-in_default-clause-sheet_after
returns-in_default-clause-sheet_after c =
    rw (action-idle c.args.a.fetched c.args.a.discarded c.in_default.is) (idle_put c.args.sheet.now c.args.at)

pub returns-in_default-discarded-clause-value : goal.returns-in_default-discarded-clause-value
returns-in_default-discarded-clause-value c =
    let a = c.args.a in
    let u = c.in-Some.u in
    let small = rw c.in-Some.is at c.requires.small.0 in
    rw (action-fetch a.fetched a.discarded c.in-Some.is c.in_default-discarded.is, ← fetch-field u small, length_digits) refl

pub returns-in_default-discarded-clause-sheet_after : goal.returns-in_default-discarded-clause-sheet_after
returns-in_default-discarded-clause-sheet_after c =
    let a = c.args.a in
    let u = c.in-Some.u in
    let small = rw c.in-Some.is at c.requires.small.0 in
    rw (action-fetch a.fetched a.discarded c.in-Some.is c.in_default-discarded.is, ← fetch-field u small) c.put.ensures

pub returns-clause-value : goal.returns-clause-value
returns-clause-value c =
    let a = c.args.a in
    let u = c.in-Some.u in
    let v = c.in-Some-discarded.v in
    let small = rw c.in-Some.is at c.requires.small.0 in
    let small_v = rw c.in-Some-discarded.is at c.requires.small.1 in
    rw (action-replace a.fetched a.discarded c.in-Some.is c.in-Some-discarded.is, ← replace-field u v small small_v, length_digits) refl

pub returns-clause-sheet_after : goal.returns-clause-sheet_after
returns-clause-sheet_after c =
    let a = c.args.a in
    let u = c.in-Some.u in
    let v = c.in-Some-discarded.v in
    let small = rw c.in-Some.is at c.requires.small.0 in
    let small_v = rw c.in-Some-discarded.is at c.requires.small.1 in
    rw (action-replace a.fetched a.discarded c.in-Some.is c.in-Some-discarded.is, ← replace-field u v small small_v) c.put-2.ensures
