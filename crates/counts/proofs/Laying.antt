-- Numbers written one after the other into a lent slice. Assumes nothing.
use mathlib.Core.Path.{◌≡◌, refl, sym, ap, ◌∙◌}
use mathlib.Core.List.{List, [], ◌∷◌, ◌++◌}
use Prim.Native.Nat.{ℕ, suc, ◌+◌, ◌*◌}
use native.Mathlib.Omega.{arith}
use lib.ListN.{length}
use Rattle.bits.specs.Bits.{be16, laid}
use Rattle.bits.specs.Fields.{laid_at}
use Rattle.bits.proofs.Fields.{laid_then}
use Rattle.playing.specs.declared.Counts.{Counts}
use Rattle.model.specs.Plans.{each}
use Rattle.model.specs.Calls.{halves}
use Rattle.model.proofs.Plans.{length-each, each_more}
use Rattle.counts.specs.Counts.{checked_numbers}

length-halves : (l : List ℕ) → length (halves l) ≡ length l * 2
unfolding halves
length-halves [] = refl
length-halves (x ∷ l) = let e = length-halves l in omega (arith, e)

halves_append : (l m : List ℕ) → halves (l ++ m) ≡ halves l ++ halves m
unfolding halves
halves_append [] m = refl
halves_append (x ∷ l) m = ap (λ (s : List ℕ). be16 x ++ s) (halves_append l m)

-- one more of the numbers f 0, f 1, .., of which the first is the k-th of the slice
pub laid_next : (f : ℕ → ℕ) (k n i : ℕ) (lent s : List ℕ) → n ≡ k + i → s ≡ laid_at (k * 2) (halves (each f 0 i)) lent
    → laid_at (n * 2) (be16 (f i)) s ≡ laid_at (k * 2) (halves (each f 0 (i + 1))) lent
unfolding halves
laid_next f k n i lent s e q =
    let h = length-halves (each f 0 i) in
    let l = length-each f 0 i in
    let more : each f 0 (i + 1) ≡ each f 0 i ++ f i ∷ [] = ap (each f 0) (let x : i + 1 ≡ suc i = omega arith in x) ∙ each_more f 0 i ∙ ap (λ (m : ℕ). each f 0 i ++ f m ∷ []) (let x : 0 + i ≡ i = omega arith in x) in
    ap (laid_at (n * 2) (be16 (f i))) q
    ∙ laid_then (k * 2) (n * 2) (halves (each f 0 i)) (be16 (f i)) lent (omega (arith, e, h, l))
    ∙ ap (λ (x : List ℕ). laid_at (k * 2) x lent) (sym (ap halves more ∙ halves_append (each f 0 i) (f i ∷ [])))

-- the rounds, and after them the fetches
pub laid-counts : (rounds : ℕ) (fetches : List ℕ) (k n : ℕ) (lent : List ℕ) → n ≡ k + 1
    → laid_at (n * 2) (halves fetches) (laid_at (k * 2) (be16 rounds) lent) ≡ laid_at (k * 2) (halves (rounds ∷ fetches)) lent
unfolding halves
laid-counts rounds fetches k n lent e = laid_then (k * 2) (n * 2) (be16 rounds) (halves fetches) lent (omega (arith, e))

-- what is laid from the first byte on: rounds and fetches,
pub laid_first : (l lent : List ℕ) → laid_at 0 l lent ≡ laid l lent
unfolding laid_at
laid_first l lent = refl

-- two numbers,
pub laid_two : (m n : ℕ) (lent : List ℕ) → laid_at 2 (be16 n) (laid_at 0 (be16 m) lent) ≡ laid (halves (m ∷ n ∷ [])) lent
unfolding halves
laid_two m n lent = laid_then 0 2 (be16 m) (be16 n) lent refl ∙ laid_first _ lent

-- and two, and the rounds and fetches of two plans
pub laid_twenty : (m n : ℕ) (a b : Counts) (lent : List ℕ)
    → laid_at 22 (halves (checked_numbers b)) (laid_at 4 (halves (checked_numbers a)) (laid_at 2 (be16 n) (laid_at 0 (be16 m) lent)))
    ≡ laid (halves (m ∷ n ∷ (checked_numbers a ++ checked_numbers b))) lent
unfolding halves each
laid_twenty m n a b lent =
    let x = checked_numbers a in
    let y = checked_numbers b in
    let l = length-halves x in
    ap (λ (s : List ℕ). laid_at 22 (halves y) (laid_at 4 (halves x) s)) (laid_then 0 2 (be16 m) (be16 n) lent refl)
    ∙ ap (laid_at 22 (halves y)) (laid_then 0 4 (be16 m ++ be16 n) (halves x) lent refl)
    ∙ laid_then 0 22 (be16 m ++ be16 n ++ halves x) (halves y) lent (omega (arith, l))
    ∙ ap (λ (s : List ℕ). laid_at 0 (be16 m ++ (be16 n ++ s)) lent) (sym (halves_append x y)) ∙ laid_first _ lent
