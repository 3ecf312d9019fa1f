-- Tests on the characters of a text. Assumes nothing.
use Rattle.std.proofs.Common.{Option, Some, None, Result, Ok, Err}
use mathlib.Core.Path.{◌≡◌, refl, sym, ◌∙◌}
use mathlib.Core.Bool.{Bool, true, false, true≢false}
use mathlib.Core.List.{List, [], ◌∷◌}
use Prim.Native.Nat.{ℕ, zero, suc, ◌+◌, ◌-◌, ◌*◌, ◌≤◌, ◌<◌}
use native.Mathlib.Omega.{arith}
use lib.Dec.{ltb, leb}
use lib.ListN.{length, drop, get_or}
use lib.Seq.{drop-cons}
use borrow.Author.Tests.{le-leb, lt-leb, lt-ltb, le-ltb, leb-true, ltb-true, ltb-false}
use Rattle.bits.proofs.Logic.{by_test, and_left, and_right}
use Rattle.grammar.specs.Reading.{is_digit, digit, goes_on}
use Rattle.pieces.specs.declared.Met.{Met}
use Rattle.pieces.specs.declared.Counted.{Counted}
use Rattle.pieces.specs.declared.Joint.TheVariants.{Item, Side, End}
use Rattle.pieces.specs.Pieces.{begins_with, first_digit, with_digit, digits_from, malformed, count_of, count_at, joint_at}

-- nothing is left past the end, and before it a character is
pub drop_past : (t : List ℕ) (at : ℕ) → length t ≤ at → drop at t ≡ []
drop_past [] zero h = refl
drop_past [] (suc at) h = refl
drop_past (c ∷ t) zero h = absurd (omega arith)
drop_past (c ∷ t) (suc at) h = drop_past t at (omega arith)

-- a text that begins with a character, or with a digit, is not at its end
pub begins_within : (x : ℕ) (t : List ℕ) (at : ℕ) {r : Bool} → r ≡ begins_with x (drop at t) → r ≡ true → at < length t
unfolding begins_with
begins_within x [] zero e h = absurd (true≢false (sym h ∙ e))
begins_within x [] (suc at) e h = absurd (true≢false (sym h ∙ e))
begins_within x (c ∷ t) zero e h = omega arith
begins_within x (c ∷ t) (suc at) e h = let k = begins_within x t at e h in omega arith

pub digit_is_within : (t : List ℕ) (at : ℕ) {d : ℕ} → first_digit (drop at t) ≡ Some d → at < length t
unfolding first_digit
digit_is_within [] zero e = cc
digit_is_within [] (suc at) e = cc
digit_is_within (c ∷ t) zero e = omega arith
digit_is_within (c ∷ t) (suc at) e = let k = digit_is_within t at e in omega arith

-- a digit is at most 9
pub digit-few : (l : List ℕ) {d : ℕ} → first_digit l ≡ Some d → d ≤ 9
unfolding first_digit
digit-few [] e = cc
digit-few (c ∷ l) {d} e =
    by_test (is_digit c)
    (λ g. let most = leb-true c 57 (and_right (leb 48 c) _ g) in let same : digit c ≡ d = some_same (rw g at e) in omega arith)
    (λ g. absurd (some_none (rw g at e)))
  where
    some_same : {x y : ℕ} → Some x ≡ Some y → x ≡ y
    some_same f = cc

    some_none : {y : ℕ} → None ≡ Some y → ⊥
    some_none f = cc

pub char_at : (t : List ℕ) (at : ℕ) → at < length t → drop at t ≡ get_or t at 0 ∷ drop (suc at) t
char_at t at h = drop-cons t at 0 h

-- what it means that a number goes on
pub record Goes (most v c : ℕ) : Type 0 where
  pub low : 48 ≤ c
  pub high : c ≤ 57
  pub some : 0 < v
  pub within : v * 10 + (c - 48) ≤ most

pub goes : (most v c : ℕ) → goes_on most v c ≡ true → Goes most v c
goes most v c e =
    let d = and_left (is_digit c) _ e in
    let r = and_right (is_digit c) _ e in
    record {
      low = leb-true 48 c (and_left (leb 48 c) _ d);
      high = leb-true c 57 (and_right (leb 48 c) _ d);
      some = ltb-true 0 v (and_left (ltb 0 v) _ r);
      within = leb-true _ most (and_right (ltb 0 v) _ r);
    }

pub goes_so : (most v c : ℕ) {w : ℕ} → with_digit most v c ≡ Some w → (goes_on most v c ≡ true) × (w ≡ v * 10 + digit c)
goes_so most v c e = by_test (goes_on most v c) (λ g. let f = rw g at e in (g, cc)) (λ g. let f = rw g at e in absurd (cc))

pub goes_not : (most v c : ℕ) → with_digit most v c ≡ None → goes_on most v c ≡ false
goes_not most v c e = by_test (goes_on most v c) (λ g. let f = rw g at e in absurd (cc)) (λ g. g)

-- a number with a digit more, one that stops at a character, and one that stops at the end
pub digits_more : (most v at c : ℕ) (l : List ℕ) → goes_on most v c ≡ true → digits_from most v at (c ∷ l) ≡ digits_from most (v * 10 + digit c) (suc at) l
unfolding digits_from
digits_more most v at c l e = rw (e, digits_from)

pub digits-stop : (most v at c : ℕ) (l : List ℕ) → goes_on most v c ≡ false → digits_from most v at (c ∷ l) ≡ record { value = v; at = at }
unfolding digits_from
digits-stop most v at c l e = rw (e, digits_from)

pub digits_end : (most v at : ℕ) → digits_from most v at [] ≡ record { value = v; at = at }
unfolding digits_from
digits_end most v at = refl

-- the cases of `joint_at` and of `count_at`, by the tests that the code makes
module _ (t : List ℕ) (at : ℕ) where
  pub joint_side : begins_with 32 (drop at t) ≡ true → begins_with 124 (drop (at + 1) t) ≡ true → begins_with 32 (drop (at + 2) t) ≡ true → joint_at t at ≡ Ok (Side (at + 3))
  unfolding joint_at
  joint_side p q r = rw (p, q, r)

  pub joint_bar : begins_with 32 (drop at t) ≡ true → begins_with 124 (drop (at + 1) t) ≡ true → begins_with 32 (drop (at + 2) t) ≡ false → joint_at t at ≡ Err (malformed (at + 2))
  unfolding joint_at
  joint_bar p q r = rw (p, q, r)

  pub joint_item : begins_with 32 (drop at t) ≡ true → begins_with 124 (drop (at + 1) t) ≡ false → joint_at t at ≡ Ok (Item (at + 1))
  unfolding joint_at
  joint_item p q = rw (p, q)

  pub joint_close : begins_with 32 (drop at t) ≡ false → begins_with 41 (drop at t) ≡ true → joint_at t at ≡ Ok End
  unfolding joint_at
  joint_close p q = rw (p, q)

  pub joint_end : length t ≤ at → joint_at t at ≡ Ok End
  unfolding joint_at begins_with
  joint_end h = rw (drop_past t at h, le-leb (length t) at h)

  pub joint_wrong : begins_with 32 (drop at t) ≡ false → begins_with 41 (drop at t) ≡ false → at < length t → joint_at t at ≡ Err (malformed at)
  unfolding joint_at
  joint_wrong p q h = rw (p, q, lt-leb (length t) at h)

  pub count_none : begins_with 42 (drop at t) ≡ false → count_at t at ≡ Ok (record { times = 1; at = at })
  unfolding count_at
  count_none p = rw p

  pub count-number : begins_with 42 (drop at t) ≡ true → (d : ℕ) → first_digit (drop (at + 1) t) ≡ Some d → 0 < d
      → count_at t at ≡ Ok (count_of (digits_from 2048 d (at + 2) (drop (at + 2) t)))
  unfolding count_at
  count-number p d e h = rw (p, e, lt-ltb 0 d h)

  pub count_zero : begins_with 42 (drop at t) ≡ true → (d : ℕ) → first_digit (drop (at + 1) t) ≡ Some d → d ≤ 0 → count_at t at ≡ Err (malformed (at + 1))
  unfolding count_at
  count_zero p d e h = rw (p, e, le-ltb 0 d h)

  pub count_off : begins_with 42 (drop at t) ≡ true → first_digit (drop (at + 1) t) ≡ None → count_at t at ≡ Err (malformed (at + 1))
  unfolding count_at
  count_off p e = rw (p, e)

-- a number stays within its bound, is not 0 if its first digit is not, and ends within the text
pub digits-within : (most v at : ℕ) (l : List ℕ) → v ≤ most → (digits_from most v at l).value ≤ most
digits-within most v at [] h = rw (digits_end most v at) h
digits-within most v at (c ∷ l) h =
    by_test (goes_on most v c)
    (λ e. rw (digits_more most v at c l e) (digits-within most (v * 10 + digit c) (suc at) l (goes most v c e).within))
    (λ e. rw (digits-stop most v at c l e) h)

pub digits-some : (most v at : ℕ) (l : List ℕ) → 1 ≤ v → 1 ≤ (digits_from most v at l).value
digits-some most v at [] h = rw (digits_end most v at) h
digits-some most v at (c ∷ l) h =
    by_test (goes_on most v c)
    (λ e. rw (digits_more most v at c l e) (digits-some most (v * 10 + digit c) (suc at) l (omega arith)))
    (λ e. rw (digits-stop most v at c l e) h)

pub digits-place : (most v at : ℕ) (l : List ℕ) → (at ≤ (digits_from most v at l).at) × ((digits_from most v at l).at ≤ at + length l)
digits-place most v at [] = rw (digits_end most v at) (omega arith)
digits-place most v at (c ∷ l) =
    by_test (goes_on most v c)
    (λ e. rw (digits_more most v at c l e) (let h = digits-place most (v * 10 + digit c) (suc at) l in omega arith))
    (λ e. rw (digits-stop most v at c l e) (omega arith))

-- a count that is not refused is 1 to 2048
pub count-within : (t : List ℕ) (at : ℕ) {n : Counted} → count_at t at ≡ Ok n → (1 ≤ n.times) × (n.times ≤ 2048)
count-within t at {n} z =
    by_test (begins_with 42 (drop at t))
    (λ p. go p (first_digit (drop (at + 1) t)) refl)
    (λ p. let e : n ≡ record { times = 1; at = at } = ok_same (sym z ∙ count_none t at p) in rw e (omega arith, omega arith))
  where
    ok_same : {x y : Counted} → ◌≡◌ {A = Result Counted Met} (Ok x) (Ok y) → x ≡ y
    ok_same f = cc

    begun : begins_with 42 (drop at t) ≡ true → (d : ℕ) → first_digit (drop (at + 1) t) ≡ Some d → 0 < d → (1 ≤ n.times) × (n.times ≤ 2048)
    begun p d e h =
        let few = digit-few (drop (at + 1) t) e in
        let s : n ≡ count_of (digits_from 2048 d (at + 2) (drop (at + 2) t)) = ok_same (sym z ∙ count-number t at p d e h) in
        rw s (digits-some 2048 d (at + 2) _ h, digits-within 2048 d (at + 2) _ (omega arith))

    go : begins_with 42 (drop at t) ≡ true → (x : Option ℕ) → first_digit (drop (at + 1) t) ≡ x → (1 ≤ n.times) × (n.times ≤ 2048)
    go p None e = let f = count_off t at p e in absurd (cc)
    go p (Some d) e =
        by_test (ltb 0 d)
        (λ b. begun p d e (ltb-true 0 d b))
        (λ b. let f = count_zero t at p d e (ltb-false 0 d b) in absurd (cc))
