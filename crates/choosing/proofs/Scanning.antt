-- The loops over a disk's residents: one more resident, the greatest of all, and one beyond a bound. Assumes nothing.
use mathlib.Core.Path.{◌≡◌, refl, sym, ap, ap₂, ◌∙◌}
use mathlib.Core.Bool.{Bool, true, false, cond, ◌||◌}
use mathlib.Core.List.{List}
use Prim.Native.Nat.{ℕ, zero, suc, ◌+◌, ◌-◌, ◌≤◌, ◌<◌}
use native.Mathlib.Omega.{arith}
use lib.Dec.{leb, ltb}
use lib.ListN.{length, get_or, take, drop, length-take, length-drop}
use lib.Seq.{get_or-take, get_or-drop}
use borrow.Author.Tests.{le-leb, lt-leb, leb-true, leb-false, lt-ltb}
use Rattle.std.specs.List.{list_any}
use Rattle.std.proofs.lemmas.Bool.Decides.{nat_tests}
use Rattle.std.proofs.lemmas.List.{get_or_default}
use Rattle.std.proofs.lemmas.List.Folds.{list_any_more}
use Rattle.bits.specs.Bits.{Below}
use Rattle.bits.proofs.Logic.{by_test, clash, or_false_left, or_false_right}
use Rattle.choosing.specs.Choosing.{key_at, last_place, some_beyond}

module _ (residents next : List ℕ) (base : ℕ) where
  last_first : last_place residents next base 0 ≡ base
  unfolding last_place
  last_first = refl

  -- the place after i residents past the base, for a loop whose i counts places
  abbrev pub last_before : ℕ → ℕ
  last_before i = last_place residents next base (i - base - 1)

  pub last_start : base ≡ last_before (base + 1)
  last_start = let e : base + 1 - base - 1 ≡ 0 = omega arith in sym (ap (last_place residents next base) e ∙ last_first)

  next_place : (i : ℕ) → base + 1 ≤ i
      → last_before (i + 1) ≡ cond (leb (key_at residents next (last_before i)) (key_at residents next i)) i (last_before i)
  unfolding last_place
  next_place i l =
      let e : i + 1 - base - 1 ≡ suc (i - base - 1) = omega arith in
      let f : base + suc (i - base - 1) ≡ i = omega arith in
      ap (last_place residents next base) e
      ∙ ap (λ (x : ℕ). cond (leb (key_at residents next (last_before i)) (key_at residents next x)) x (last_before i)) f

  pub last_here : (i best most : ℕ) → base + 1 ≤ i → best ≡ last_before i → most ≡ key_at residents next best → most ≤ key_at residents next i
      → i ≡ last_before (i + 1)
  last_here i best most l p q r =
      let t : leb (key_at residents next (last_before i)) (key_at residents next i) ≡ true =
      ap (λ (x : ℕ). leb (key_at residents next x) (key_at residents next i)) (sym p)
      ∙ le-leb (key_at residents next best) (key_at residents next i) (omega (arith, q)) in
      sym (next_place i l ∙ ap (λ (x : Bool). cond x i (last_before i)) t)

  pub last_kept : (i best most : ℕ) → base + 1 ≤ i → best ≡ last_before i → most ≡ key_at residents next best → key_at residents next i < most
      → best ≡ last_before (i + 1)
  last_kept i best most l p q r =
      let t : leb (key_at residents next (last_before i)) (key_at residents next i) ≡ false =
      ap (λ (x : ℕ). leb (key_at residents next x) (key_at residents next i)) (sym p)
      ∙ lt-leb (key_at residents next best) (key_at residents next i) (omega (arith, q)) in
      p ∙ sym (next_place i l ∙ ap (λ (x : Bool). cond x i (last_before i)) t)

  -- where the greatest stands, and that it is greatest
  pub last_within : (k : ℕ) → (base ≤ last_place residents next base k) × (last_place residents next base k ≤ base + k)
  unfolding last_place
  last_within zero = (omega arith, omega arith)
  last_within (suc k) =
      let ih = last_within k in
      by_test (leb (key_at residents next (last_place residents next base k)) (key_at residents next (base + suc k)))
      (λ e. rw e (omega arith, omega arith))
      (λ e. rw e (omega (arith, ih), omega (arith, ih)))

  pub last_most : (k m : ℕ) → m ≤ k → key_at residents next (base + m) ≤ key_at residents next (last_place residents next base k)
  unfolding last_place
  last_most zero m l = let e : base + m ≡ base = omega arith in let q = ap (key_at residents next) e in omega (arith, q)
  last_most (suc k) m l =
      by_test (leb (key_at residents next (last_place residents next base k)) (key_at residents next (base + suc k)))
      (λ e. rw e (let p = leb-true (key_at residents next (last_place residents next base k)) (key_at residents next (base + suc k)) e in
      by_test (leb m k)
      (λ f. let ih = last_most k m (leb-true m k f) in omega (arith, ih, p))
      (λ f. let same : base + m ≡ base + suc k = (let g = leb-false m k f in omega (arith, g)) in let q = ap (key_at residents next) same in
      omega (arith, q))))
      (λ e. rw e (let p = leb-false (key_at residents next (last_place residents next base k)) (key_at residents next (base + suc k)) e in
      by_test (leb m k)
      (λ f. last_most k m (leb-true m k f))
      (λ f. let same : base + m ≡ base + suc k = (let g = leb-false m k f in omega (arith, g)) in let q = ap (key_at residents next) same in
      omega (arith, p, q))))

-- what `last` and `rule_choice` use
pub ruleset turns = (last_start, last_here, last_kept)

pub ruleset cases = (nat_tests, last_within)

-- a place of the part of a list from `base` on is below what the list is below
pub part_below : (n : ℕ) (l : List ℕ) (base k i v : ℕ) → Below n l → base + k ≤ length l → i < length (take k (drop base l))
    → v ≡ get_or (take k (drop base l)) i v → v < n
part_below n l base k i v below within inside e =
    let long = length-take k (drop base l) in
    let rest = length-drop base l in
    let same = e ∙ get_or-take k (drop base l) i v (omega (arith, long, inside)) ∙ get_or-drop base l i v
    ∙ get_or_default l (base + i) v 0 (omega (arith, long, rest, inside)) in
    let small = below (base + i) (omega (arith, long, rest, inside)) in
    omega (arith, same, small)

module _ (residents later : List ℕ) (bound base : ℕ) where
  -- the residents from `base` on, as a list
  pub beyond_list : (k : ℕ) → base + k ≤ length residents
      → list_any (λ b. ltb bound (get_or later b 0)) (take k (drop base residents)) ≡ some_beyond residents later bound base k
  unfolding some_beyond
  beyond_list zero l = refl
  beyond_list (suc k) l =
      let far : ℕ → Bool = λ b. ltb bound (get_or later b 0) in
      let from = drop base residents in
      let long = length-drop base residents in
      ap (λ (n : ℕ). list_any far (take n from)) (let e : suc k ≡ k + 1 = omega arith in e)
      ∙ list_any_more far from k 0 (omega (arith, long))
      ∙ ap₂ (λ (x : Bool) (b : ℕ). x || far b) (beyond_list k (omega arith)) (get_or-drop base residents k 0)

  -- one of k stands beyond the bound exactly if the test says so
  pub beyond_none : (k : ℕ) → some_beyond residents later bound base k ≡ false → (m : ℕ) → m < k → get_or later (get_or residents (base + m) 0) 0 ≤ bound
  unfolding some_beyond
  beyond_none zero e m l = absurd (omega arith)
  beyond_none (suc k) e m l =
      by_test (lib.Dec.eqb m k)
      (λ y. let same = ap (λ (x : ℕ). get_or later (get_or residents (base + x) 0) 0) (borrow.Author.Tests.eqb-true m k y) in
      let h = borrow.Author.Tests.ltb-false bound (get_or later (get_or residents (base + k) 0) 0)
      (or_false_right (some_beyond residents later bound base k) _ e) in
      omega (arith, same, h))
      (λ n. beyond_none k (or_false_left (some_beyond residents later bound base k) _ e) m
      (lib.Arith.lt_of_le-ne (omega arith) (borrow.Author.Tests.eqb-false m k n)))

  pub beyond_some : (k : ℕ) → some_beyond residents later bound base k ≡ true
      → (m : ℕ) × (m < k) × (bound < get_or later (get_or residents (base + m) 0) 0)
  unfolding some_beyond
  beyond_some zero e = clash e refl
  beyond_some (suc k) e =
      let ih = beyond_some k in
      by_test (ltb bound (get_or later (get_or residents (base + k) 0) 0))
      (λ y. (k, omega arith, borrow.Author.Tests.ltb-true _ _ y))
      (λ n. by_test (some_beyond residents later bound base k)
      (λ y. let w = ih y in (w.0, (let l = w.1 in omega (arith, l)), w.2))
      (λ f. clash e (rw (f, n))))
