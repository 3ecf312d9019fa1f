-- What is printed for an argument's value is what is printed for the number itself, however large that is. Assumes nothing.
use mathlib.Core.Path.{◌≡◌, ap}
use mathlib.Core.List.{List}
use Prim.Native.Nat.{ℕ}
use native.Mathlib.Omega.{arith}
use lib.Dec.{ltb}
use borrow.Author.Tests.{ltb-true, ltb-false}
use Rattle.bits.proofs.Logic.{by_test}
use Rattle.arguments.specs.Arguments.{capped}
use Rattle.slots_text.specs.SlotsText.{slots_printed}
use Rattle.slots_text.proofs.SlotsPrinted.{large_disk, large_rounds}

disk_capped : (t : List ℕ) (d wanted : ℕ) → slots_printed t (capped d) wanted ≡ slots_printed t d wanted
disk_capped t d wanted =
    by_test (ltb 65535 d)
    (λ y. let l = ltb-true 65535 d y in large_disk t (capped d) d wanted (omega (arith, l)) (omega (arith, l)))
    (λ y. let l = ltb-false 65535 d y in ap (λ (n : ℕ). slots_printed t n wanted) (omega (arith, l)))

rounds-capped : (t : List ℕ) (d wanted : ℕ) → slots_printed t d (capped wanted) ≡ slots_printed t d wanted
rounds-capped t d wanted =
    by_test (ltb 65535 wanted)
    (λ y. let l = ltb-true 65535 wanted y in large_rounds t d (capped wanted) wanted (omega (arith, l)) (omega (arith, l)))
    (λ y. let l = ltb-false 65535 wanted y in ap (slots_printed t d) (omega (arith, l)))
