-- Counting the numbers below n that pass a test, and the pigeonhole. Assumes nothing.
use mathlib.Core.Path.{◌≡◌, refl, sym, ap, ◌∙◌}
use mathlib.Core.Bool.{Bool, true, false, not, ◌&&◌}
use Prim.Native.Nat.{ℕ, zero, suc, ◌+◌, ◌≤◌, ◌<◌}
use native.Mathlib.Omega.{arith}
use Rattle.bits.proofs.Logic.{by_test, clash}
use Rattle.model.specs.Playing.{count}

-- where the test passes at n, and where it does not
count_yes : (t : ℕ → Bool) (n : ℕ) → t n ≡ true → count t (suc n) ≡ suc (count t n)
unfolding count
count_yes t n e = rw e

count_no : (t : ℕ → Bool) (n : ℕ) → t n ≡ false → count t (suc n) ≡ count t n
unfolding count
count_no t n e = rw e

-- no more than there are
pub count_most : (t : ℕ → Bool) (n : ℕ) → count t n ≤ n
unfolding count
count_most t zero = omega arith
count_most t (suc n) =
    let ih = count_most t n in
    by_test (t n) (λ e. let a = count_yes t n e in omega (arith, a, ih)) (λ e. let a = count_no t n e in omega (arith, a, ih))

-- fewer pass a stronger test
pub count_mono : (s t : ℕ → Bool) (n : ℕ) → ((b : ℕ) → b < n → s b ≡ true → t b ≡ true) → count s n ≤ count t n
unfolding count
count_mono s t zero h = omega arith
count_mono s t (suc n) h =
    let ih = count_mono s t n (λ b p. h b (omega arith)) in
    by_test (s n)
    (λ e. let a = count_yes s n e in let b = count_yes t n (h n (omega arith) e) in omega (arith, a, b, ih))
    (λ e. let a = count_no s n e in
    by_test (t n)
    (λ f. let b = count_yes t n f in omega (arith, a, b, ih))
    (λ f. let b = count_no t n f in omega (arith, a, b, ih)))

pub count_same : (s t : ℕ → Bool) (n : ℕ) → ((b : ℕ) → b < n → s b ≡ t b) → count s n ≡ count t n
count_same s t n h =
    let p = count_mono s t n (λ b l e. sym (h b l) ∙ e) in
    let q = count_mono t s n (λ b l e. h b l ∙ e) in
    omega arith

-- one number more can pass at most once
pub count_but_one : (s t : ℕ → Bool) (x n : ℕ) → ((b : ℕ) → b < n → (b ≡ x → ⊥) → s b ≡ true → t b ≡ true) → count s n ≤ suc (count t n)
unfolding count
count_but_one s t x zero h = omega arith
count_but_one s t x (suc n) h =
    let ih = count_but_one s t x n (λ b p. h b (omega arith)) in
    let at : (count s (suc n) ≤ suc (count s n)) × (count t n ≤ count t (suc n)) = (at_most s n, at_least t n) in
    by_test (lib.Dec.eqb n x)
    (λ e. let same = borrow.Author.Tests.eqb-true n x e in
    let rest = count_mono s t n (λ b p. h b (omega arith) (λ q. absurd (omega arith))) in
    omega (arith, at, rest))
    (λ e. let other = borrow.Author.Tests.eqb-false n x e in
    by_test (s n)
    (λ f. let a = count_yes s n f in let b = count_yes t n (h n (omega arith) other f) in omega (arith, a, b, ih))
    (λ f. let a = count_no s n f in omega (arith, a, at, ih)))
  where
    at_most : (u : ℕ → Bool) (m : ℕ) → count u (suc m) ≤ suc (count u m)
    at_most u m = by_test (u m) (λ e. let a = count_yes u m e in omega (arith, a)) (λ e. let a = count_no u m e in omega (arith, a))

    at_least : (u : ℕ → Bool) (m : ℕ) → count u m ≤ count u (suc m)
    at_least u m = by_test (u m) (λ e. let a = count_yes u m e in omega (arith, a)) (λ e. let a = count_no u m e in omega (arith, a))

-- a test that loses a number counts at least one fewer
pub count-drop : (s t : ℕ → Bool) (x n : ℕ) → x < n → t x ≡ true → s x ≡ false → ((b : ℕ) → b < n → s b ≡ true → t b ≡ true) → suc (count s n) ≤ count t n
unfolding count
count-drop s t x zero p tx sx h = absurd (omega arith)
count-drop s t x (suc n) p tx sx h =
    by_test (lib.Dec.eqb n x)
    (λ e. let same = borrow.Author.Tests.eqb-true n x e in
    let a = count_no s n (ap s same ∙ sx) in
    let b = count_yes t n (ap t same ∙ tx) in
    let rest = count_mono s t n (λ b p. h b (omega arith)) in
    omega (arith, a, b, rest))
    (λ e. let other = borrow.Author.Tests.eqb-false n x e in
    let ih = count-drop s t x n (lib.Arith.lt_of_le-ne (omega arith) (λ q. other (sym q))) tx sx (λ b p. h b (omega arith)) in
    by_test (s n)
    (λ f. let a = count_yes s n f in let b = count_yes t n (h n (omega arith) f) in omega (arith, a, b, ih))
    (λ f. let a = count_no s n f in
    by_test (t n)
    (λ g. let b = count_yes t n g in omega (arith, a, b, ih))
    (λ g. let b = count_no t n g in omega (arith, a, b, ih))))

-- a test and one number more
pub count_insert : (s t : ℕ → Bool) (x n : ℕ) → x < n → s x ≡ false → t x ≡ true → ((b : ℕ) → b < n → (b ≡ x → ⊥) → s b ≡ t b) → count t n ≡ suc (count s n)
count_insert s t x n p sx tx h =
    let up = count-drop s t x n p tx sx (λ b l e. other b l e) in
    let down = count_but_one t s x n (λ b l q e. h b l q ∙ e) in
    omega (arith, up, down)
  where
    other : (b : ℕ) → b < n → s b ≡ true → t b ≡ true
    other b l e = sym (h b l (λ q. clash e (ap s q ∙ sx))) ∙ e

-- those that pass are those that pass a second test too, and those that do not
pub count_split : (s t : ℕ → Bool) (n : ℕ) → count s n ≡ count (λ b. s b && t b) n + count (λ b. s b && not (t b)) n
unfolding count
count_split s t zero = refl
count_split s t (suc n) =
    let ih = count_split s t n in
    by_test (s n)
    (λ e. by_test (t n) (λ f. rw (e, f) (omega (arith, ih))) (λ f. rw (e, f) (omega (arith, ih))))
    (λ e. rw e (omega (arith, ih)))

-- nothing passes
pub count-zero : (t : ℕ → Bool) (n : ℕ) → ((b : ℕ) → b < n → t b ≡ false) → count t n ≡ 0
unfolding count
count-zero t zero h = refl
count-zero t (suc n) h = count_no t n (h n (omega arith)) ∙ count-zero t n (λ b p. h b (omega arith))

pub count_none : (t : ℕ → Bool) (n : ℕ) → count t n ≡ 0 → (b : ℕ) → b < n → t b ≡ false
unfolding count
count_none t n e b p =
    by_test (t b)
    (λ y. let d = count-drop (λ _. false) t b n p y refl (λ c l q. clash q refl) in absurd (omega (arith, d)))
    (λ f. f)

-- something passes
pub count-some : (t : ℕ → Bool) (n : ℕ) → 0 < count t n → (b : ℕ) × (b < n) × (t b ≡ true)
unfolding count
count-some t zero p = absurd (omega arith)
count-some t (suc n) p = step (count-some t n)
  where
    step : (0 < count t n → (b : ℕ) × (b < n) × (t b ≡ true)) → (b : ℕ) × (b < suc n) × (t b ≡ true)
    step ih =
        by_test (t n)
        (λ e. (n, omega arith, e))
        (λ e. let a = count_no t n e in let w = ih (omega (arith, a)) in (w.0, (let l = w.1 in omega (arith, l)), w.2))
