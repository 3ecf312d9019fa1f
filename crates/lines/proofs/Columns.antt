-- Numbers and lines, column by column, are the texts of the model. Assumes nothing.
use mathlib.Core.Path.{◌≡◌, refl, sym, ap, ap₂, ◌∙◌}
use mathlib.Core.List.{List, [], ◌∷◌, ◌++◌, append_assoc}
use mathlib.Core.Option.{Option, none, some}
use Prim.Native.Nat.{ℕ, suc, ◌+◌, ◌-◌, ◌/◌, ◌%◌, ◌≤◌, ◌<◌}
use native.Mathlib.Omega.{arith}
use lib.Dec.{ltb}
use Rattle.std.specs.Prelude.{Some, None}
use Rattle.std.specs.Prelude.{Option as Shown}
use lib.ListN.{length, replicate, length-append}
use borrow.Author.Tests.{ltb-true, ltb-false}
use Rattle.bits.proofs.Logic.{by_test}
use Rattle.model.specs.Rules.{Choice, into_empty, over_min_block, min_block_sooner, waits, none_missing}
use Rattle.model.specs.Plans.{each}
use Rattle.model.specs.Text.{text, decimal, right_in}
use Rattle.model.specs.Page.{block_text, fetched_block, discarded_block, line_of, reason}
use Rattle.model.proofs.Text.{decimal_one, decimal_more}
use Rattle.model.proofs.Page.{SmallChoice, reason-letter}
use Rattle.lines.specs.Lines.{column_of, block_column, line_bytes}
use Rattle.lines.proofs.Laws.{column-space, column_ones, column-digit}

-- a number of one digit, and of more
right_one : (w n : ℕ) → n < 10 → right_in (suc w) (decimal n) ≡ replicate w 32 ++ (48 + n) ∷ []
unfolding right_in
right_one w n l = rw (decimal_one n l) (let e : suc w - 1 ≡ w = omega arith in rw e refl)

right_more : (w n : ℕ) → 10 ≤ n → right_in (suc w) (decimal n) ≡ right_in w (decimal (n / 10)) ++ (48 + n % 10) ∷ []
unfolding right_in
right_more w n l =
    let front = decimal (n / 10) in
    let long = length-append front ((48 + n % 10) ∷ []) in
    let e : suc w - length (front ++ (48 + n % 10) ∷ []) ≡ w - length front = omega (arith, long) in
    rw (decimal_more n l, e) (sym (append_assoc (replicate (w - length front) 32) front ((48 + n % 10) ∷ [])))

-- the columns of a tenth are those of the number, one to the left
module _ (n : ℕ) (l : 10 ≤ n) where
  ones_tens : column_of (n / 10) 1 ≡ column_of n 10
  ones_tens = column_ones (n / 10) 1 (omega arith) ∙ (let e : 48 + n / 10 / 1 % 10 ≡ 48 + n / 10 % 10 = omega arith in e) ∙ sym (column-digit n 10 l)

  tens_hundreds : column_of (n / 10) 10 ≡ column_of n 100
  tens_hundreds =
      by_test (ltb n 100)
      (λ y. let few = ltb-true n 100 y in column-space (n / 10) 10 (omega arith) (omega arith) ∙ sym (column-space n 100 (omega arith) few))
      (λ f. let many = ltb-false n 100 f in
      column-digit (n / 10) 10 (omega arith) ∙ (let e : 48 + n / 10 / 10 % 10 ≡ 48 + n / 100 % 10 = omega arith in e) ∙ sym (column-digit n 100 many))

  hundreds_thousands : column_of (n / 10) 100 ≡ column_of n 1000
  hundreds_thousands =
      by_test (ltb n 1000)
      (λ y. let few = ltb-true n 1000 y in column-space (n / 10) 100 (omega arith) (omega arith) ∙ sym (column-space n 1000 (omega arith) few))
      (λ f. let many = ltb-false n 1000 f in
      column-digit (n / 10) 100 (omega arith) ∙ (let e : 48 + n / 10 / 100 % 10 ≡ 48 + n / 1000 % 10 = omega arith in e) ∙ sym (column-digit n 1000 many))

ones : (n : ℕ) → column_of n 1 ≡ 48 + n % 10
ones n = column_ones n 1 (omega arith) ∙ (let e : 48 + n / 1 % 10 ≡ 48 + n % 10 = omega arith in e)

-- one column more, where there is a digit for it and where not
few_columns : (w n : ℕ) → n < 10 → right_in (suc w) (decimal n) ≡ replicate w 32 ++ column_of n 1 ∷ []
few_columns w n l = right_one w n l ∙ ap (λ (b : ℕ). replicate w 32 ++ b ∷ []) (let e = ones n in omega (arith, e))

more_columns : (w n : ℕ) → 10 ≤ n → {front : List ℕ} → right_in w (decimal (n / 10)) ≡ front → right_in (suc w) (decimal n) ≡ front ++ column_of n 1 ∷ []
more_columns w n l e = right_more w n l ∙ ap₂ (λ (x : List ℕ) (b : ℕ). x ++ b ∷ []) e (sym (ones n))

-- one column of a digit; two, three and four of a number
pub digit-column : (n : ℕ) → n < 10 → decimal n ≡ column_of n 1 ∷ []
digit-column n l = decimal_one n l ∙ ap (λ (b : ℕ). b ∷ []) (let e = ones n in omega (arith, e))

two_columns : (n : ℕ) → n < 100 → right_in 2 (decimal n) ≡ column_of n 10 ∷ column_of n 1 ∷ []
two_columns n l =
    by_test (ltb n 10)
    (λ y. let few = ltb-true n 10 y in few_columns 1 n few ∙ ap (λ (a : ℕ). a ∷ column_of n 1 ∷ []) (sym (column-space n 10 (omega arith) few)))
    (λ f. let many = ltb-false n 10 f in
    more_columns 1 n many (few_columns 0 (n / 10) (omega arith)) ∙ ap (λ (a : ℕ). a ∷ column_of n 1 ∷ []) (ones_tens n many))

pub three_columns : (n : ℕ) → n < 1000 → right_in 3 (decimal n) ≡ column_of n 100 ∷ column_of n 10 ∷ column_of n 1 ∷ []
three_columns n l =
    by_test (ltb n 10)
    (λ y. let few = ltb-true n 10 y in
    few_columns 2 n few
    ∙ ap₂ (λ (a b : ℕ). a ∷ b ∷ column_of n 1 ∷ []) (sym (column-space n 100 (omega arith) (omega arith))) (sym (column-space n 10 (omega arith) few)))
    (λ f. let many = ltb-false n 10 f in
    more_columns 2 n many (two_columns (n / 10) (omega arith))
    ∙ ap₂ (λ (a b : ℕ). a ∷ b ∷ column_of n 1 ∷ []) (tens_hundreds n many) (ones_tens n many))

pub four_columns : (n : ℕ) → n < 10000 → right_in 4 (decimal n) ≡ column_of n 1000 ∷ column_of n 100 ∷ column_of n 10 ∷ column_of n 1 ∷ []
four_columns n l =
    by_test (ltb n 10)
    (λ y. let few = ltb-true n 10 y in
    few_columns 3 n few
    ∙ (λ i. sym (column-space n 1000 (omega arith) (omega arith)) i ∷ sym (column-space n 100 (omega arith) (omega arith)) i
    ∷ sym (column-space n 10 (omega arith) few) i ∷ column_of n 1 ∷ []))
    (λ f. let many = ltb-false n 10 f in
    more_columns 3 n many (three_columns (n / 10) (omega arith))
    ∙ (λ i. hundreds_thousands n many i ∷ tens_hundreds n many i ∷ ones_tens n many i ∷ column_of n 1 ∷ []))

-- A block, or none, as a line's text takes it.
abbrev pub block_as : Option ℕ → Shown ℕ
block_as none = None
block_as (some b) = Some b

abbrev SmallBlock : Option ℕ → Type 0
SmallBlock none = Unit {0}
SmallBlock (some b) = b < 512

block_columns : (b : Option ℕ) → SmallBlock b
    → block_text b ≡ block_column (block_as b) 100 ∷ block_column (block_as b) 10 ∷ block_column (block_as b) 1 ∷ []
unfolding block_text block_column text each
block_columns none l = refl
block_columns (some b) l = three_columns b (omega arith)

fetched-small : (c : Choice) → SmallChoice c → SmallBlock (fetched_block c)
fetched-small (into_empty u) l = l
fetched-small (over_min_block u v) l = l.0
fetched-small min_block_sooner l = tt
fetched-small waits l = tt
fetched-small none_missing l = tt

discarded-small : (c : Choice) → SmallChoice c → SmallBlock (discarded_block c)
discarded-small (into_empty u) l = tt
discarded-small (over_min_block u v) l = l.1
discarded-small min_block_sooner l = tt
discarded-small waits l = tt
discarded-small none_missing l = tt

-- A line of the page, column by column.
pub line_columns : (round disk : ℕ) (c : Choice) → round < 10000 → disk < 10 → SmallChoice c
    → line_bytes round disk (block_as (fetched_block c)) (block_as (discarded_block c)) (reason c) ≡ line_of round disk c
unfolding line_bytes line_of
line_columns round disk c p q small =
    rw (
      four_columns round p,
      digit-column disk q,
      block_columns (fetched_block c) (fetched-small c small),
      block_columns (discarded_block c) (discarded-small c small),
      reason-letter c,
    ) refl
