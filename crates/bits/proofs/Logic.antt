-- Tests, and facts about every value of a list. Assumes nothing.
use mathlib.Core.Path.{◌≡◌, refl, sym, ◌∙◌}
use mathlib.Core.List.{List, [], ◌∷◌}
use Prim.Native.Nat.{ℕ, zero, suc, ◌-◌, ◌≤◌, ◌<◌}
use native.Mathlib.Omega.{arith}
use native.Mathlib.Nat.{sub-zero, suc-sub-suc, le_of_suc-le-suc, not-suc-le-zero}
use lib.Dec.{ltb, leb}
use lib.ListN.{length, get_or, drop, replicate}
use borrow.Author.Tests.{lt-ltb, le-ltb, leb-true, leb-false}
use mathlib.Core.Bool.{Bool, true, false, not, ◌&&◌, ◌||◌, true≢false}

-- by the value of a test
pub by_test : {P : Type 0} (t : Bool) → (t ≡ true → P) → (t ≡ false → P) → P
by_test true f g = f refl
by_test false f g = g refl

-- a number that is not 0
pub some_number : (n : ℕ) → (n ≡ 0 → ⊥) → 1 ≤ n
some_number zero g = absurd (g refl)
some_number (suc n) g = omega arith

-- a test has one value
pub clash : {P : Type 0} {t : Bool} → t ≡ true → t ≡ false → P
clash p q = absurd (true≢false (sym p ∙ q))

-- what a conjunction, a disjunction and a negation say
pub and_left : (a b : Bool) → a && b ≡ true → a ≡ true
and_left true b e = refl
and_left false b e = e

pub and_right : (a b : Bool) → a && b ≡ true → b ≡ true
and_right true b e = e
and_right false b e = absurd (true≢false (sym e))

pub and_true : {a b : Bool} → a ≡ true → b ≡ true → a && b ≡ true
and_true {a} {b} p q = rw (p, q)

pub and_false_left : {a : Bool} (b : Bool) → a ≡ false → a && b ≡ false
and_false_left b p = rw p

pub and_false_right : (a : Bool) {b : Bool} → b ≡ false → a && b ≡ false
and_false_right true q = q
and_false_right false q = refl

pub or_false_left : (a b : Bool) → a || b ≡ false → a ≡ false
or_false_left true b e = e
or_false_left false b e = refl

pub or_false_right : (a b : Bool) → a || b ≡ false → b ≡ false
or_false_right true b e = absurd (true≢false e)
or_false_right false b e = e

-- two tests that imply each other are the same
pub same_test : (a b : Bool) → (a ≡ true → b ≡ true) → (b ≡ true → a ≡ true) → a ≡ b
same_test true b f g = sym (f refl)
same_test false true f g = g refl
same_test false false f g = refl

-- less is not at least
pub ltb-not : (a b : ℕ) → ltb a b ≡ not (leb b a)
ltb-not a b = by_test (leb b a) (λ t. rw t (le-ltb a b (leb-true b a t))) (λ t. rw t (lt-ltb a b (leb-false b a t)))

-- A fact about every value of a list.
unfoldable pub Each : {A : Type 0} → (A → Type 0) → List A → Type 0
Each Q [] = Unit {0}
Each Q (a ∷ l) = Q a × Each Q l

pub each_at : {A : Type 0} (Q : A → Type 0) (l : List A) → Each Q l → (i : ℕ) (d : A) → i < length l → Q (get_or l i d)
unfolding Each
each_at Q [] h i d p = absurd (not-suc-le-zero p)
each_at Q (a ∷ l) h zero d p = h.0
each_at Q (a ∷ l) h (suc i) d p = each_at Q l h.1 i d (le_of_suc-le-suc p)

pub at_each : {A : Type 0} (Q : A → Type 0) (l : List A) (d : A) → ((i : ℕ) → i < length l → Q (get_or l i d)) → Each Q l
unfolding Each
at_each Q [] d h = tt
at_each Q (a ∷ l) d h = (h 0 (omega arith), at_each Q l d (λ i p. h (suc i) (omega (arith, p))))

-- a list of one value has it at every place, and by default past its end
pub get_d_same : {A : Type 0} (n i : ℕ) (x : A) → get_or (replicate n x) i x ≡ x
get_d_same zero i x = refl
get_d_same (suc n) zero x = refl
get_d_same (suc n) (suc i) x = get_d_same n i x

-- and what is left of it is one as well
pub drop_same : {A : Type 0} (k n : ℕ) (x : A) → k ≤ n → drop k (replicate n x) ≡ replicate (n - k) x
drop_same zero n x h = rw (sub-zero n)
drop_same (suc k) zero x h = absurd (not-suc-le-zero h)
drop_same (suc k) (suc n) x h = rw (suc-sub-suc n k) (drop_same k n x (omega arith))
