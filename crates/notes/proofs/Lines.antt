-- The line, which ends in the references of a piece, and the left, which begins with those of the sides before it. Assumes nothing.
use mathlib.Core.Path.{◌≡◌, refl, sym, ap, ◌∙◌}
use mathlib.Core.List.{List, ◌++◌, append_assoc}
use Prim.Native.Nat.{ℕ, ◌+◌, ◌*◌, ◌-◌, ◌≤◌}
use native.Mathlib.Nat.{mul_comm, min-eq_left, min-eq_right, le-mul_of_pos_right}
use native.Mathlib.Omega.{arith}
use lib.ListN.{length, take, drop, length-append}
use lib.Dec.{leb}
use borrow.Author.Tests.{leb-true, leb-false}
use Rattle.bits.proofs.Logic.{by_test}
use lib.Seq.{take_at, drop_at, take-add, length-take-le, drop-drop}
use Rattle.mixing.specs.Room.{capped}

-- A line of which the first a entries are those of l₀, and then come the references.
abbrev pub Ends : ℕ → List ℕ → List ℕ → List ℕ → Type 0
Ends a l₀ refs l = take (a + length refs) l ≡ take a l₀ ++ refs

module _ (a : ℕ) (l₀ refs l : List ℕ) (long : a + length refs ≤ length l) (e : Ends a l₀ refs l) where
  parts : take a l ++ take (length refs) (drop a l) ≡ take a l₀ ++ refs
  parts = sym (take-add a (length refs) l) ∙ e

  front_length : length (take a l) ≡ a
  front_length = length-take-le a l (omega arith)

  first-length : length (take a l₀) ≡ a
  first-length =
      let both = ap length e in
      let whole : length (take (a + length refs) l) ≡ a + length refs = length-take-le (a + length refs) l long in
      let sum = length-append (take a l₀) refs in
      omega arith

  pub ends_front : take a l ≡ take a l₀
  ends_front =
      sym (take_at (take a l) (take (length refs) (drop a l)) a front_length) ∙ ap (take a) parts ∙ take_at (take a l₀) refs a first-length

  pub ends-refs : take (length refs) (drop a l) ≡ refs
  ends-refs =
      sym (drop_at (take a l) (take (length refs) (drop a l)) a front_length) ∙ ap (drop a) parts ∙ drop_at (take a l₀) refs a first-length

-- more references after those
pub ends_more : (a : ℕ) (l₀ xs ys l l' : List ℕ) → Ends a l₀ xs l → take (a + length xs + length ys) l' ≡ take (a + length xs) l ++ ys → Ends a l₀ (xs ++ ys) l'
ends_more a l₀ xs ys l l' p q =
    let both = length-append xs ys in
    let n : a + length (xs ++ ys) ≡ a + length xs + length ys = omega arith in
    rw n (q ∙ ap (λ (k : List ℕ). k ++ ys) p ∙ append_assoc (take a l₀) xs ys)

-- other references in their place
pub ends-laid : (a : ℕ) (l₀ refs l rest : List ℕ) → a ≤ length l → take a l ≡ take a l₀ → Ends a l₀ refs (take a l ++ (refs ++ rest))
ends-laid a l₀ refs l rest h e =
    let both = length-append (take a l) refs in
    let front = length-take-le a l h in
    let long : length (take a l ++ refs) ≡ a + length refs = omega arith in
    ap (take (a + length refs)) (sym (append_assoc (take a l) refs rest)) ∙ take_at (take a l ++ refs) rest (a + length refs) long ∙ ap (λ (k : List ℕ). k ++ refs) e

-- The left, of which the last h entries are those of l₀, and before them stand the references.
abbrev pub Holds : ℕ → List ℕ → List ℕ → List ℕ → Type 0
Holds h l₀ refs l = drop (2048 - (h + length refs)) l ≡ refs ++ drop (2048 - h) l₀

module _ (h : ℕ) (l₀ refs l : List ℕ) (few : h + length refs ≤ 2048) (e : Holds h l₀ refs l) where
  top : 2048 - h - length refs ≡ 2048 - (h + length refs)
  top = omega arith

  pub holds-refs : take (length refs) (drop (2048 - h - length refs) l) ≡ refs
  holds-refs = rw top (ap (take (length refs)) e ∙ take_at refs (drop (2048 - h) l₀) (length refs) refl)

  pub holds_rest : drop (2048 - h) l ≡ drop (2048 - h) l₀
  holds_rest =
      let n : 2048 - (h + length refs) + length refs ≡ 2048 - h = omega arith in
      ap (λ (k : ℕ). drop k l) (sym n) ∙ sym (drop-drop (length refs) (2048 - (h + length refs)) l) ∙ ap (drop (length refs)) e
      ∙ drop_at refs (drop (2048 - h) l₀) (length refs) refl

-- other references in their place
pub holds-laid : (h : ℕ) (l₀ refs l : List ℕ) → h + length refs ≤ 2048 → length l ≡ 2048 → drop (2048 - h) l ≡ drop (2048 - h) l₀
    → Holds h l₀ refs (take (2048 - h - length refs) l ++ (refs ++ drop (2048 - h) l))
holds-laid h l₀ refs l few long e =
    let n : 2048 - (h + length refs) ≡ 2048 - h - length refs = omega arith in
    rw n (drop_at (take (2048 - h - length refs) l) (refs ++ drop (2048 - h) l) (2048 - h - length refs) (length-take-le (2048 - h - length refs) l (omega arith))
    ∙ ap (λ (k : List ℕ). refs ++ k) e)

-- Counts, of which the code holds no more than 2049.
pub cap_times : (n k : ℕ) → 1 ≤ k → capped (capped n * k) ≡ capped (k * n)
cap_times n k h =
    by_test (leb n 2049)
    (λ t. let few = leb-true n 2049 t in rw (min-eq_left few, mul_comm n k))
    (λ t. let many : 2049 ≤ n = (let l = leb-false n 2049 t in omega (arith, l)) in
    let a : 2049 ≤ 2049 * k = le-mul_of_pos_right 2049 h in
    let b : n ≤ n * k = le-mul_of_pos_right n h in
    let c = mul_comm n k in
    rw (min-eq_right many) (omega arith))

pub cap_few : (n : ℕ) → n ≤ 2048 → capped n ≡ n
cap_few n h = min-eq_left (omega arith)
