-- What the references of a disk are, and that passing a reference keeps the distances right. Assumes nothing.
use mathlib.Core.Path.{◌≡◌, refl, sym, ap, ◌∙◌}
use mathlib.Core.Logic.{◌≢◌}
use mathlib.Core.List.{List, [], ◌∷◌}
use Prim.Native.Nat.{ℕ, zero, suc, ◌≤◌, ◌<◌}
use native.Mathlib.Omega.{arith}
use lib.Dec.{eqb}
use lib.ListN.{length, get_or, set}
use lib.Seq.{get_or-set_same, get_or-set_other}
use borrow.Author.Tests.{eqb-true, eqb-false}
use Rattle.bits.proofs.Logic.{by_test}
use Rattle.model.specs.Rules.{distance}
use Rattle.lookup.specs.Lookup.{ref_disks, chain_from}
use Rattle.model.proofs.Distances.{distance_from, distance_to, distance_hit, distance_least, distance_skip, distance_on}

-- the disks of the references

pub ref_disks-length : (disks refs : List ℕ) → length (ref_disks disks refs) ≡ length refs
unfolding ref_disks
ref_disks-length disks [] = refl
ref_disks-length disks (r ∷ refs) = ap suc (ref_disks-length disks refs)

pub ref_disks_at : (disks refs : List ℕ) (i : ℕ) → i < length refs → get_or (ref_disks disks refs) i 0 ≡ get_or disks (get_or refs i 0) 0
unfolding ref_disks
ref_disks_at disks [] i h = absurd (omega arith)
ref_disks_at disks (r ∷ refs) zero h = refl
ref_disks_at disks (r ∷ refs) (suc i) h = ref_disks_at disks refs i (omega arith)

-- passing a reference

-- where a block's entry is its distance from a reference, after `pass` it is its distance from the next one
pub pass_distance : (refs first : List ℕ) (at v b : ℕ) → at < length refs → get_or refs at 0 < length first
    → v ≡ distance refs (suc at) (get_or refs at 0)
    → get_or first b 0 ≡ distance refs at b → get_or (set first (get_or refs at 0) v) b 0 ≡ distance refs (suc at) b
pass_distance refs first at v b h room e was =
    by_test (eqb b (get_or refs at 0))
    (λ y. let same = eqb-true b (get_or refs at 0) y in rw same (get_or-set_same first (get_or refs at 0) v 0 room ∙ e))
    (λ f. let apart = eqb-false b (get_or refs at 0) f in
    get_or-set_other first (get_or refs at 0) b v 0 apart ∙ was ∙ sym (distance_on refs at b (λ q. apart (sym q)) h))

-- the references of a disk

module _ (disks refs : List ℕ) where
  pub chain-from : (p d : ℕ) → p ≤ chain_from disks refs p d
  chain-from p d = distance_from (ref_disks disks refs) p d

  pub chain_to : (p d : ℕ) → p ≤ length refs → chain_from disks refs p d ≤ length refs
  chain_to p d h =
      let l = ref_disks-length disks refs in
      let m = distance_to (ref_disks disks refs) p d (omega (arith, l)) in
      omega (arith, l, m)

  pub chain_hit : (p d : ℕ) → chain_from disks refs p d < length refs → get_or disks (get_or refs (chain_from disks refs p d) 0) 0 ≡ d
  chain_hit p d h =
      let l = ref_disks-length disks refs in
      sym (ref_disks_at disks refs (chain_from disks refs p d) h) ∙ distance_hit (ref_disks disks refs) p d (omega (arith, l))

  pub chain_least : (p d i : ℕ) → p ≤ length refs → p ≤ i → i < chain_from disks refs p d → get_or disks (get_or refs i 0) 0 ≢ d
  chain_least p d i w h l q =
      let m = chain_to p d w in
      distance_least (ref_disks disks refs) p d i h l (ref_disks_at disks refs i (omega (arith, m)) ∙ q)

  -- a pointer that goes to the next reference of disk d keeps the distances of its blocks
  pub chain_distance : (p d b : ℕ) → p ≤ length refs → get_or disks b 0 ≡ d → distance refs (chain_from disks refs p d) b ≡ distance refs p b
  chain_distance p d b w on =
      distance_skip refs p (chain_from disks refs p d) b (chain-from p d) (chain_to p d w)
      (λ i h l q. chain_least p d i w h l (ap (λ (c : ℕ). get_or disks c 0) q ∙ on))

  -- a pointer on a reference of disk d passes it and goes to the next one of d: the entries of d's blocks are then right from there
  pub chain_pass : (first : List ℕ) (at v d b : ℕ) → at < length refs → get_or refs at 0 < length first → v ≡ distance refs (suc at) (get_or refs at 0)
      → get_or disks b 0 ≡ d → get_or first b 0 ≡ distance refs at b
      → get_or (set first (get_or refs at 0) v) b 0 ≡ distance refs (chain_from disks refs (suc at) d) b
  chain_pass first at v d b h room e on was = pass_distance refs first at v b h room e was ∙ sym (chain_distance (suc at) d b h on)
