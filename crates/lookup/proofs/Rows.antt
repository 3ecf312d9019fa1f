-- A row of a desk below a bound, where an entry is written. Assumes nothing.
use mathlib.Core.Path.{sym, subst}
use mathlib.Core.List.{List}
use Prim.Native.Nat.{ℕ, ◌<◌}
use native.Mathlib.Omega.{arith}
use lib.Dec.{eqb}
use lib.ListN.{length, get_or, set, length-set}
use lib.Seq.{get_or-set_same, get_or-set_other}
use borrow.Author.Tests.{eqb-true, eqb-false}
use Rattle.bits.specs.Bits.{Below}
use Rattle.bits.proofs.Logic.{by_test}

-- a list below a bound stays so with a small number in it
pub below_set : (n : ℕ) (l : List ℕ) (i v : ℕ) → Below n l → v < n → Below n (set l i v)
below_set n l i v below small k r =
    by_test (eqb k i)
    (λ y. let same = eqb-true k i y in
    let inside : i < length l = (let e = length-set l i v in omega (arith, r, e)) in
    subst (λ (x : ℕ). get_or (set l i v) x 0 < n) (sym same) (rw (get_or-set_same l i v 0 inside) small))
    (λ f. rw (get_or-set_other l i k v 0 (eqb-false k i f)) (below k (let e = length-set l i v in omega (arith, r, e))))
