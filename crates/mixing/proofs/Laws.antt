-- What the loops of this crate have done after so many turns, and what one turn more does. Assumes nothing.
use mathlib.Core.Path.{◌≡◌, refl, sym, ap, ◌∙◌}
use mathlib.Core.List.{List, [], ◌∷◌, ◌++◌, append_assoc, append-nil}
use Prim.Native.Nat.{ℕ, zero, suc, ◌+◌, ◌-◌, ◌*◌, ◌≤◌, ◌<◌, min}
use native.Mathlib.Nat.{suc-mul}
use native.Mathlib.Numerals.{add-one}
use native.Mathlib.Omega.{arith}
use lib.Dec.{leb}
use lib.ListN.{length, take, drop, get_or, set, length-set, take-append-drop, drop_of_length-le}
use lib.Seq.{length-take-le, take_all, take-suc, drop-cons, append_snoc, take-suc-set, drop-set-lt, get_or-take, take_at}
use borrow.Author.Tests.{leb-true, leb-false}
use Rattle.bits.proofs.Logic.{by_test}
use Rattle.grammar.specs.Note.{repeated, in_turn}
use Rattle.grammar.proofs.Lists.{repeated-length, repeated_before, in_turn_none}

-- Writing from the front on: the first i of a list are those of the whole.
pub record Begins (whole : List ℕ) (i : ℕ) (l : List ℕ) : Type 0 where
  pub within : i ≤ length whole
  pub long : length l ≡ length whole
  pub same : take i l ≡ take i whole

pub begins_more : (whole l : List ℕ) (i x : ℕ) → Begins whole i l → i < length whole → x ≡ get_or whole i 0 → Begins whole (i + 1) (set l i x)
begins_more whole l i x b h e = record {
  within = omega arith;
  long = length-set l i x ∙ b.long;
  same =
      let room : i < length l = omega arith in
      rw (add-one, take-suc-set l i x room, take-suc whole i 0 h, b.same, e);
}

pub begins_all : (whole l : List ℕ) (i : ℕ) → Begins whole i l → length whole ≤ i → l ≡ whole
begins_all whole l i b h = sym (take_all i l (omega arith)) ∙ b.same ∙ take_all i whole h

-- Repeating: the first references are there,
pub repeat_start : (one times : ℕ) (part : List ℕ) → length part ≡ times * one → 1 ≤ times → Begins (repeated times (take one part)) one part
unfolding repeated
repeat_start one zero part e h = absurd (omega arith)
repeat_start one (suc k) part e h =
    let more = suc-mul k one in
    let first = length-take-le one part (omega arith) in
    let all : length (repeated (suc k) (take one part)) ≡ suc k * one =
    repeated-length (suc k) (take one part) ∙ ap (λ (n : ℕ). suc k * n) first in
    record {
      within = omega arith;
      long = e ∙ sym all;
      same = sym (take_at (take one part) (repeated k (take one part)) one first);
    }

-- where there is a reference, one is repeated,
some_one : (times one i : ℕ) → i < times * one → 0 < one
some_one times zero i h = absurd (omega arith)
some_one times (suc n) i h = omega arith

-- and each other is the one so many places before it.
pub repeat_more : (one times i : ℕ) (first part : List ℕ) → length first ≡ one → one ≤ i → i < length part
    → Begins (repeated times first) i part → Begins (repeated times first) (i + 1) (set part i (get_or part (i - one) 0))
repeat_more one times i first part e p h b =
    let whole = repeated times first in
    let all : length whole ≡ times * one = repeated-length times first ∙ ap (λ (n : ℕ). times * n) e in
    let some = some_one times one i (omega arith) in
    let near : i - one < i = omega arith in
    let back = repeated_before times i (i - one) first (omega arith) (omega arith) in
    begins_more whole part i _ b (omega arith)
    (sym (get_or-take i part (i - one) 0 near) ∙ ap (λ (l : List ℕ). get_or l (i - one) 0) b.same ∙ get_or-take i whole (i - one) 0 near ∙ sym back)

-- Mixing, where the left side has m references: what stands mixed after i turns, and after it what is left of both sides mixed, are both sides mixed.
pub record Mixed (right before : List ℕ) (m i : ℕ) (left : List ℕ) : Type 0 where
  pub within : i ≤ length right
  pub sides : length before ≡ length right + m
  pub long : length left ≡ length before
  pub rest : take (min i m + i) left ++ in_turn (drop (length right + i) left) (drop i right) ≡ in_turn (drop (length right) before) right

pub mixed-none : (right before : List ℕ) (m : ℕ) → length before ≡ length right + m → Mixed right before m 0 before
mixed-none right before m e =
    let none : min 0 m + 0 ≡ 0 = omega arith in
    let start : length right + 0 ≡ length right = omega arith in
    record { within = omega arith; sides = e; long = refl; rest = rw (none, start) }

two_more : (l : List ℕ) (n x y : ℕ) → suc n < length l → take (suc (suc n)) (set (set l n x) (suc n) y) ≡ take n l ++ x ∷ y ∷ []
two_more l n x y h =
    let e = length-set l n x in
    let room : suc n < length (set l n x) = omega arith in
    let first : n < length l = omega arith in
    rw (take-suc-set (set l n x) (suc n) y room, take-suc-set l n x first, append_snoc)

module _ (right before : List ℕ) (m i : ℕ) (left : List ℕ) (was : Mixed right before m i left) (h : i < length right) where
  -- A turn that takes from both sides. What it reads was not written before.
  pub mixed_both : i < m → Mixed right before m (i + 1) (set (set left (2 * i) (get_or left (length right + i) 0)) (2 * i + 1) (get_or right i 0))
  unfolding in_turn
  mixed_both p =
      let r = length right in
      let x = get_or left (r + i) 0 in
      let y = get_or right i 0 in
      let n = 2 * i in
      let at : min i m + i ≡ n = omega arith in
      let then_at : min (i + 1) m + (i + 1) ≡ suc (suc n) = omega arith in
      let then-from : r + (i + 1) ≡ suc (r + i) = omega arith in
      let there : r + i < length left = omega arith in
      let kept : drop (suc (r + i)) (set (set left n x) (suc n) y) ≡ drop (suc (r + i)) left =
      drop-set-lt (suc (r + i)) (set left n x) (suc n) y (omega arith) ∙ drop-set-lt (suc (r + i)) left n x (omega arith) in
      let both = rw (at, drop-cons left (r + i) 0 there, drop-cons right i 0 h) at was.rest in
      record {
        within = omega arith;
        sides = was.sides;
        long = simp length-set was.long;
        rest = rw (then_at, then-from, add-one n, add-one i, two_more left n x y (omega arith), kept) (append_assoc (take n left) (x ∷ y ∷ []) _ ∙ both);
      }

  -- A turn that takes from the right side, where the left one is used up.
  pub mixed_right : m ≤ i → Mixed right before m (i + 1) (set left (m + i) (get_or right i 0))
  unfolding in_turn
  mixed_right p =
      let r = length right in
      let y = get_or right i 0 in
      let kept = length-set left (m + i) y in
      let at : min i m + i ≡ m + i = omega arith in
      let then_at : min (i + 1) m + (i + 1) ≡ suc (m + i) = omega arith in
      let none = drop_of_length-le left {i = r + i} (omega arith) in
      let then-none = drop_of_length-le (set left (m + i) y) {i = r + (i + 1)} (omega arith) in
      let one = rw (at, none, drop-cons right i 0 h) at was.rest in
      record {
        within = omega arith;
        sides = was.sides;
        long = simp length-set was.long;
        rest = rw (then_at, then-none, add-one i, take-suc-set left (m + i) y (omega arith)) (append_snoc (take (m + i) left) y _ ∙ one);
      }

-- When the right side is used up, all is mixed.
pub mixed_all : (right before : List ℕ) (m i : ℕ) (left : List ℕ) → Mixed right before m i left → length right ≤ i
    → left ≡ in_turn (drop (length right) before) right
mixed_all right before m i left done h = sym all ∙ (rw (used, in_turn_none) at done.rest)
  where
    used : drop i right ≡ []
    used = drop_of_length-le right h

    all : take (min i m + i) left ++ drop (length right + i) left ≡ left
    all =
        by_test (leb i m)
        (λ t. let short = leb-true i m t in
        let at : min i m + i ≡ length right + i = omega arith in
        rw at (take-append-drop (length right + i) left))
        (λ t. let long = leb-false i m t in
        rw (take_all (min i m + i) left (omega arith), drop_of_length-le left {i = length right + i} (omega arith), append-nil))
