-- What the tables say of each block, reference and disk. Assumes nothing.
use mathlib.Core.Path.{◌≡◌, refl, sym, ap, ◌∙◌}
use mathlib.Core.Logic.{◌≢◌}
use mathlib.Core.List.{List, [], ◌∷◌}
use Prim.Native.Nat.{ℕ, zero, suc, ◌+◌, ◌<◌}
use native.Mathlib.Omega.{arith}
use lib.Dec.{eqb}
use lib.ListN.{length, get_or, set, length-set}
use lib.Seq.{get_or-set_same, get_or-set_other, ext_get_or}
use borrow.Author.Tests.{eqb-true, eqb-false}
use Rattle.bits.specs.Bits.{laid}
use Rattle.bits.proofs.Logic.{by_test}
use Rattle.model.specs.Plans.{each}
use Rattle.model.specs.Rules.{distance}
use Rattle.model.proofs.Plans.{length-each, get_d_each}
use Rattle.lookup.specs.Lookup.{ref_disks, chain_from}
use Rattle.lookup.proofs.Laws.{ref_disks-length, ref_disks_at}
use Rattle.indexing.specs.Indexing.{firsts, next_of, agains}

-- the list f 0, f 1, .., and with one value changed
each_at : {A : Type 0} (f : ℕ → A) (n k : ℕ) (x : A) → k < n → get_or (each f 0 n) k x ≡ f k
each_at f n k x l = get_d_each f 0 n k x l ∙ ap f (let e : 0 + k ≡ k = omega arith in e)

pub set-each : (f g : ℕ → ℕ) (n b v : ℕ) → b < n → g b ≡ v → ((i : ℕ) → i ≢ b → f i ≡ g i) → set (each f 0 n) b v ≡ each g 0 n
set-each f g n b v p e other =
    let lf = length-each f 0 n in
    let lg = length-each g 0 n in
    let ls = length-set (each f 0 n) b v in
    ext_get_or 0 (set (each f 0 n) b v) (each g 0 n) (omega (arith, lf, lg, ls)) λ i q.
    let small : i < n = omega (arith, lf, ls, q) in
    get_d_each-set i small ∙ sym (each_at g n i 0 small)
  where
    get_d_each-set : (i : ℕ) → i < n → get_or (set (each f 0 n) b v) i 0 ≡ g i
    get_d_each-set i q =
        let lf = length-each f 0 n in
        by_test (eqb i b)
        (λ y. let same = eqb-true i b y in rw same (get_or-set_same (each f 0 n) b v 0 (omega (arith, lf)) ∙ sym e))
        (λ y. let apart = eqb-false i b y in get_or-set_other (each f 0 n) b i v 0 apart ∙ each_at f n i 0 q ∙ other i apart)

-- a string written over another as far as that reaches

laid-at : (s lent : List ℕ) (i : ℕ) → i < length s → i < length lent → get_or (laid s lent) i 0 ≡ get_or s i 0
unfolding laid
laid-at [] lent i h room = absurd (omega arith)
laid-at (x ∷ s) [] i h room = absurd (omega arith)
laid-at (x ∷ s) (y ∷ lent) zero h room = refl
laid-at (x ∷ s) (y ∷ lent) (suc i) h room = laid-at s lent i (omega arith) (omega arith)

-- what the tables hold

pub firsts-length : (l : List ℕ) (n p : ℕ) → length (firsts l n p) ≡ n
unfolding firsts
firsts-length l n p = length-each (distance l p) 0 n

pub firsts_at : (l : List ℕ) (n p b : ℕ) → b < n → get_or (firsts l n p) b 0 ≡ distance l p b
unfolding firsts
firsts_at l n p b h = each_at (distance l p) n b 0 h

pub agains_at : (l table : List ℕ) (i : ℕ) → i < length l → i < length table → get_or (agains l table) i 0 ≡ distance l (suc i) (get_or l i 0)
unfolding agains
agains_at l table i h room =
    let e = length-each (next_of l) 0 (length l) in
    laid-at (each (next_of l) 0 (length l)) table i (omega (arith, e)) room ∙ each_at (next_of l) (length l) i 0 h

-- what `chain` writes
module _ (disks refs : List ℕ) where
  pub chain_head : (n d : ℕ) → d < n → get_or (firsts (ref_disks disks refs) n 0) d 0 ≡ chain_from disks refs 0 d
  chain_head n d h = firsts_at (ref_disks disks refs) n 0 d h

  pub chain_next : (table : List ℕ) (i : ℕ) → i < length refs → i < length table
      → get_or (agains (ref_disks disks refs) table) i 0 ≡ chain_from disks refs (suc i) (get_or disks (get_or refs i 0) 0)
  chain_next table i h room =
      let l = ref_disks-length disks refs in
      agains_at (ref_disks disks refs) table i (omega (arith, l)) room ∙ ap (chain_from disks refs (suc i)) (ref_disks_at disks refs i h)
