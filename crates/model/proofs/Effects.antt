-- What fetching U does to the blocks of its disk that are missed up to a position q: nothing is missed any more, or one block less, or as much as
-- any buffer must miss. Both theorems use this and nothing else of an action. Assumes nothing.
use mathlib.Core.Path.{◌≡◌, sym, ap, ◌∙◌}
use mathlib.Core.Logic.{◌≢◌}
use mathlib.Core.Bool.{true, false}
use Prim.Native.Nat.{ℕ, suc, ◌+◌, ◌≤◌, ◌<◌}
use native.Mathlib.Omega.{arith}
use lib.Dec.{eqb}
use lib.ListN.{length}
use borrow.Author.Tests.{eqb-true, eqb-false}
use Rattle.bits.proofs.Logic.{by_test, clash}
use Rattle.model.specs.Job.{Job, block_count, slots_of}
use Rattle.model.specs.Playing.{fetch, replace, State, is_resident, load, act}
use Rattle.model.specs.Rules.{distance_now}
use Rattle.model.specs.Valid.{Legal}
use Rattle.model.proofs.Buffers.{load_own, entered, replaced_in, replaced_out, fetch_kept, replace_kept, apart}
use Rattle.model.proofs.Choosing.{Nearest, Last}
use Rattle.model.proofs.Missing.{want, miss, miss_zero, pigeonhole_full, miss_less}

module _ (j : Job) (s : State) (d q u : ℕ) (long : block_count j ≤ length s.resident) (n : Nearest j s d u) where
  -- up to U's reference nothing is missed
  pub none_before : q ≤ distance_now j s u → miss j d s.next q s.resident ≡ 0
  none_before l = miss_zero j d s.next q s.resident λ b k on out. (let m = n.least b k on out in omega (arith, m))

  -- U into an empty slot
  into_u : is_resident (act s.resident (fetch u)) u ≡ true
  into_u = entered s.resident u (let k = n.block.known in omega (arith, k))

  into_was : (b : ℕ) → is_resident (act s.resident (fetch u)) b ≡ false → is_resident s.resident b ≡ false
  into_was b out =
      by_test (eqb b u)
      (λ y. clash (ap (is_resident (act s.resident (fetch u))) (eqb-true b u y) ∙ into_u) out)
      (λ f. sym (fetch_kept s.resident u b (eqb-false b u f)) ∙ out)

  pub into_clear : q ≤ distance_now j s u → miss j d s.next q (act s.resident (fetch u)) ≡ 0
  into_clear l = miss_zero j d s.next q (act s.resident (fetch u)) λ b k on out. (let m = n.least b k on (into_was b out) in omega (arith, m))

  pub into_gain : distance_now j s u < q → suc (miss j d s.next q (act s.resident (fetch u))) ≤ miss j d s.next q s.resident
  into_gain l =
      miss_less j d s.next q u s.resident (act s.resident (fetch u)) n.block.known n.block.on_disk l n.block.mark into_u
      (λ b k on due out. into_was b out)

  -- U in place of the min-block v
  module _ (v : ℕ) (full : slots_of j d ≤ load j s.resident d) (l : Last j s d v) where
    over_u : is_resident (act s.resident (replace u v)) u ≡ true
    over_u = replaced_in s.resident u v (let k = n.block.known in omega (arith, k))

    over_v : is_resident (act s.resident (replace u v)) v ≡ false
    over_v = replaced_out s.resident u v (let k = l.block.known in omega (arith, k)) (apart s.resident u v n.block.mark l.block.mark)

    over_was : (b : ℕ) → b ≢ v → is_resident (act s.resident (replace u v)) b ≡ false → is_resident s.resident b ≡ false
    over_was b x out =
        by_test (eqb b u)
        (λ y. clash (ap (is_resident (act s.resident (replace u v))) (eqb-true b u y) ∙ over_u) out)
        (λ f. sym (replace_kept s.resident u v b (eqb-false b u f) x) ∙ out)

    pub over_clear : q ≤ distance_now j s u → distance_now j s u ≤ distance_now j s v → miss j d s.next q (act s.resident (replace u v)) ≡ 0
    over_clear a p = miss_zero j d s.next q (act s.resident (replace u v)) λ b k on out.
        by_test (eqb b v)
        (λ y. let same = ap (distance_now j s) (eqb-true b v y) in omega (arith, same))
        (λ f. let m = n.least b k on (over_was b (eqb-false b v f) out) in omega (arith, m))

    pub over_gain : distance_now j s u < q → q ≤ distance_now j s v → suc (miss j d s.next q (act s.resident (replace u v))) ≤ miss j d s.next q s.resident
    over_gain a c =
        miss_less j d s.next q u s.resident (act s.resident (replace u v)) n.block.known n.block.on_disk a n.block.mark over_u
        (λ b k on due out. over_was b (λ y. (let same = ap (distance_now j s) y in absurd (omega (arith, due, c, same)))) out)

    pub over_tight : distance_now j s u ≤ distance_now j s v → distance_now j s v < q → slots_of j d + miss j d s.next q (act s.resident (replace u v)) ≤ want j d s.next q
    unfolding Legal
    over_tight p c =
        let f = pigeonhole_full j d s.next q (act s.resident (replace u v)) (λ b k on held.
        by_test (eqb b u)
        (λ y. let same = ap (distance_now j s) (eqb-true b u y) in omega (arith, same))
        (λ g. by_test (eqb b v)
        (λ y. clash held (ap (is_resident (act s.resident (replace u v))) (eqb-true b v y) ∙ over_v))
        (λ h. let m = (l.most b k on (sym (replace_kept s.resident u v b (eqb-false b u g) (eqb-false b v h)) ∙ held)).0 in omega (arith, m)))) in
        let eq = load_own j s.resident long d (replace u v) (n.block, l.block) in
        omega (arith, f, eq)
