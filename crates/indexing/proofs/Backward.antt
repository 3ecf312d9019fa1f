-- The backward pass over a list of keys, the references of `open` or their disks: what the tables hold while the places from p on are done. Assumes
-- nothing.
use mathlib.Core.Path.{◌≡◌, refl, sym, ap, ap₂, ◌∙◌}
use mathlib.Core.List.{List, [], ◌∷◌, ◌++◌}
use Prim.Native.Nat.{ℕ, zero, suc, ◌-◌, ◌≤◌, ◌<◌}
use native.Mathlib.Omega.{arith}
use lib.ListN.{length, get_or, set, take, drop, replicate, take-append-drop}
use Rattle.bits.specs.Bits.{laid}
use Rattle.model.specs.Plans.{each}
use Rattle.model.specs.Rules.{distance}
use Rattle.model.proofs.Distances.{distance_here, distance_on, distance_end}
use Rattle.indexing.specs.Indexing.{firsts, next_of, agains}
use Rattle.indexing.proofs.Laws.{set-each, firsts_at}

-- the table with the places from p on done
pub done_from : List ℕ → ℕ → List ℕ → List ℕ
done_from l p table = take p table ++ laid (each (next_of l) p (length l - p)) (drop p table)

done_none : (l table : List ℕ) → done_from l (length l) table ≡ table
unfolding done_from each laid
done_none l table = let e : length l - length l ≡ 0 = omega arith in rw e (take-append-drop (length l) table)

done_all : (l table : List ℕ) → done_from l 0 table ≡ agains l table
unfolding done_from agains
done_all l table = let e : length l - 0 ≡ length l = omega arith in rw e

laid_none : (s : List ℕ) → laid s [] ≡ []
unfolding laid
laid_none [] = refl
laid_none (x ∷ s) = refl

-- one value more in front of a string that is laid
laid_back : (s table : List ℕ) (p v : ℕ) → set (take (suc p) table ++ laid s (drop (suc p) table)) p v ≡ take p table ++ laid (v ∷ s) (drop p table)
unfolding laid
laid_back s [] zero v = rw (laid_none s)
laid_back s [] (suc p) v = rw (laid_none s)
laid_back s (y ∷ table) zero v = refl
laid_back s (y ∷ table) (suc p) v = ap (λ (t : List ℕ). y ∷ t) (laid_back s table p v)

done_step : (l table : List ℕ) (p : ℕ) → p < length l → set (done_from l (suc p) table) p (next_of l p) ≡ done_from l p table
unfolding done_from each
done_step l table p h =
    let k : length l - p ≡ suc (length l - suc p) = omega arith in
    rw k (laid_back (each (next_of l) (suc p) (length l - suc p)) table p (next_of l p))

each_same : {A : Type 0} (f : ℕ → A) (v : A) → ((i : ℕ) → f i ≡ v) → (i n : ℕ) → each f i n ≡ replicate n v
unfolding each
each_same f v h i zero = refl
each_same f v h i (suc n) = ap₂ (λ x xs. x ∷ xs) (h i) (each_same f v h (suc i) n)

-- The tables of the first place of each number below n, and of the next place of each value, over what the second one held before.
pub record Done (l : List ℕ) (n p : ℕ) (first again table : List ℕ) : Type 0 where
  pub within : p ≤ length l
  pub first_is : first ≡ firsts l n p
  pub again_is : again ≡ done_from l p table

pub done_start : (l : List ℕ) (n m k : ℕ) (table : List ℕ) → m ≡ length l → k ≡ length l → Done l n m (replicate n k) table table
unfolding firsts
done_start l n m k table e f =
    rw (e, f) record {
      within = omega arith;
      first_is = sym (each_same (distance l (length l)) (length l) (distance_end l) 0 n);
      again_is = sym (done_none l table);
    }

-- one place more: its value b was last seen at the place that the table has
pub done_back : {l : List ℕ} {n p q b : ℕ} {first again table first' again' : List ℕ} → Done l n q first again table → q ≡ suc p → get_or l p 0 ≡ b → b < n
    → first' ≡ set first b p → again' ≡ set again p (get_or first b 0) → Done l n p first' again' table
unfolding firsts
done_back {l} {n} {p} {q} {b} {first} {again} {table} h e key small first_after again_after =
    let most = h.within in
    let here : p < length l = omega arith in
    let f : first ≡ firsts l n (suc p) = h.first_is ∙ ap (firsts l n) e in
    let a : again ≡ done_from l (suc p) table = h.again_is ∙ ap (λ (k : ℕ). done_from l k table) e in
    let v : get_or first b 0 ≡ next_of l p = ap (λ (t : List ℕ). get_or t b 0) f ∙ firsts_at l n (suc p) b small ∙ ap (distance l (suc p)) (sym key) in
    record {
      within = omega arith;
      first_is =
          first_after ∙ ap (λ (t : List ℕ). set t b p) f
          ∙ set-each (distance l (suc p)) (distance l p) n b p small (distance_here l p b key here)
          (λ i apart. distance_on l p i (λ r. apart (sym r ∙ key)) here);
      again_is = again_after ∙ ap₂ (λ (t : List ℕ) (k : ℕ). set t p k) a v ∙ done_step l table p here;
    }

pub done_first : {l : List ℕ} {n p : ℕ} {first again table : List ℕ} → Done l n p first again table → p ≡ 0 → first ≡ firsts l n 0
done_first {l} {n} h none = h.first_is ∙ ap (firsts l n) none

pub done_again : {l : List ℕ} {n p : ℕ} {first again table : List ℕ} → Done l n p first again table → p ≡ 0 → again ≡ agains l table
done_again {l} {n} {p} {first} {again} {table} h none = h.again_is ∙ ap (λ (k : ℕ). done_from l k table) none ∙ done_all l table
