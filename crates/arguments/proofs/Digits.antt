-- Digits one after the other: what has been read of a number, and what is left of it. Assumes nothing.
use mathlib.Core.Path.{◌≡◌, refl, sym, ap, ◌∙◌}
use mathlib.Core.List.{List, [], ◌∷◌}
use Rattle.std.proofs.Common.{Some, None}
use Prim.Native.Nat.{ℕ, suc, ◌+◌, ◌*◌, ◌≤◌, ◌<◌}
use native.Mathlib.Omega.{arith}
use lib.Dec.{leb}
use lib.ListN.{length, get_or, drop, drop_of_length-le}
use lib.Seq.{drop-cons}
use borrow.Author.Tests.{leb-true}
use Rattle.bits.proofs.Logic.{by_test, and_right}
use Rattle.grammar.specs.Reading.{is_digit, digit}
use Rattle.pieces.specs.Pieces.{digit_of}
use Rattle.arguments.specs.Arguments.{digits_in, number_in, capped, with_digit, argument_as}

-- a number that is capped, with a digit more, is capped as if it had not been
capped-digit : (v d : ℕ) → d ≤ 9 → with_digit (capped v) d ≡ capped (v * 10 + d)
capped-digit v d l = omega arith

capped-few : (n : ℕ) → capped n ≤ 65535
capped-few n = omega arith

-- The value stands for the number read so far, and the rest of the text for what is left of it.
pub record ReadTo (t : List ℕ) (i value : ℕ) : Type 0 where
  pub number : ℕ
  pub value_is : value ≡ capped number
  pub left : number_in t ≡ digits_in number (drop i t)
  pub small : value ≤ 65535

pub read-start : (t : List ℕ) → (length t ≡ 0 → ⊥) → ReadTo t 0 0
unfolding number_in
read-start [] full = absurd (full refl)
read-start (c ∷ more) full = record { number = 0; value_is = refl; left = refl; small = omega arith }

module _ (t : List ℕ) (i value : ℕ) (h : ReadTo t i value) where
  module _ (l : i < length t) where
    abbrev c : ℕ
    c = get_or t i 0

    here : drop i t ≡ c ∷ drop (suc i) t
    here = drop-cons t i 0 l

    -- one digit more
    pub read_on : {d : ℕ} → digit_of c ≡ Some d → ReadTo t (i + 1) (with_digit value d)
    unfolding digits_in
    read_on {d} e =
        by_test (is_digit c)
        (λ y. let same : d ≡ digit c = (let f = rw y at e in cc) in
        let at : suc i ≡ i + 1 = omega arith in
        let few = leb-true c 57 (and_right (leb 48 c) (leb c 57) y) in
        record {
          number = h.number * 10 + d;
          value_is = ap (λ (v : ℕ). with_digit v d) h.value_is ∙ capped-digit h.number d (omega (arith, same, few));
          left = h.left ∙ ap (digits_in h.number) here ∙ rw (y, digits_in) (λ k. digits_in (h.number * 10 + sym same k) (drop (at k) t));
          small = capped-few (value * 10 + d);
        })
        (λ y. let f = rw y at e in absurd (cc))

    -- something else
    pub read_other : digit_of c ≡ None → number_in t ≡ None
    unfolding digits_in
    read_other e =
        by_test (is_digit c)
        (λ y. let f = rw y at e in absurd (cc))
        (λ y. h.left ∙ ap (digits_in h.number) here ∙ rw (y, digits_in) refl)

  -- the end
  pub read_end : length t ≤ i → Some value ≡ argument_as (number_in t)
  unfolding digits_in
  read_end l = ap Some h.value_is ∙ ap argument_as (sym (h.left ∙ ap (digits_in h.number) (drop_of_length-le t l)))

pub read_empty : (t : List ℕ) → length t ≡ 0 → None ≡ argument_as (number_in t)
unfolding number_in
read_empty [] e = refl
read_empty (c ∷ more) e = absurd (omega (arith, e))
