-- The reasons of a round, laid one after the other. Assumes nothing.
use mathlib.Core.Path.{◌≡◌, sym, ◌∙◌}
use mathlib.Core.List.{List, [], ◌∷◌}
use Prim.Native.Nat.{ℕ, ◌+◌, ◌<◌}
use native.Mathlib.Numerals.{add-one}
use native.Mathlib.Omega.{arith}
use lib.ListN.{length, get_or, set, take}
use lib.Seq.{take-suc}
use Rattle.std.proofs.lemmas.List.{length-map, length-take-le, map-append}
use Rattle.bits.specs.Fields.{laid_at}
use Rattle.bits.proofs.Fields.{laid_then, laid_byte}
use Rattle.writing.specs.declared.Action.{Action}
use Rattle.writing.specs.Writing.{reason_byte, reasons_in}

pub reasons_length : (acts : List Action) → length (reasons_in acts) ≡ length acts
reasons_length acts = length-map acts reason_byte

-- one disk more
pub laid_disk : (lent : List ℕ) (start : ℕ) (acts : List Action) (d : ℕ) (x : Action) → d < length acts
    → laid_at start (reasons_in (take (d + 1) acts)) lent
    ≡ set (laid_at start (reasons_in (take d acts)) lent) (start + d) (reason_byte (get_or acts d x))
laid_disk lent start acts d x l =
    let r = reason_byte (get_or acts d x) in
    let many = reasons_length (take d acts) ∙ length-take-le d acts (omega arith) in
    rw (add-one d, take-suc acts d x l, map-append)
    (sym (laid_then start (start + d) (reasons_in (take d acts)) (r ∷ []) lent (omega (arith, many))) ∙ laid_byte (start + d) r _)
