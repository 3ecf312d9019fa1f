-- Four facts determine a distance: where it begins, where it ends, that the block is referenced there, and nowhere before. Nothing else
-- about `distance` is used. Assumes nothing.
use mathlib.Core.Path.{◌≡◌, sym, ap, ◌∙◌}
use mathlib.Core.Logic.{◌≢◌}
use mathlib.Core.List.{List, [], ◌∷◌}
use Prim.Native.Nat.{ℕ, zero, suc, ◌+◌, ◌-◌, ◌≤◌, ◌<◌}
use native.Mathlib.Nat.{le_antisymm}
use native.Mathlib.Omega.{arith}
use lib.Dec.{eqb, leb}
use lib.ListN.{length, get_or, drop, length-drop}
use lib.Seq.{get_or-drop}
use borrow.Author.Tests.{eqb-true, eqb-false, leb-true, leb-false}
use Rattle.bits.proofs.Logic.{by_test}
use Rattle.model.specs.Rules.{place, distance}

place_most : (l : List ℕ) (b : ℕ) → place l b ≤ length l
unfolding place
place_most [] b = omega arith
place_most (r ∷ l) b = let ih = place_most l b in by_test (eqb r b) (λ e. rw e (omega arith)) (λ e. rw e (omega (arith, ih)))

place_hit : (l : List ℕ) (b : ℕ) → place l b < length l → get_or l (place l b) 0 ≡ b
unfolding place
place_hit [] b p = absurd (omega arith)
place_hit (r ∷ l) b p =
    by_test (eqb r b)
    (λ e. rw e (eqb-true r b e))
    (λ e. rw e (place_hit l b (let q = rw e at p in omega (arith, q))))

place-least : (l : List ℕ) (b i : ℕ) → i < place l b → get_or l i 0 ≢ b
unfolding place
place-least [] b i p q = absurd (omega arith)
place-least (r ∷ l) b zero p q = by_test (eqb r b) (λ e. absurd (let f = rw e at p in omega (arith, f))) (λ e. eqb-false r b e q)
place-least (r ∷ l) b (suc i) p q =
    by_test (eqb r b)
    (λ e. absurd (let f = rw e at p in omega (arith, f)))
    (λ e. place-least l b i (let f = rw e at p in omega (arith, f)) q)

module _ (refs : List ℕ) where
  pub distance_from : (p b : ℕ) → p ≤ distance refs p b
  unfolding distance
  distance_from p b = omega arith

  pub distance_to : (p b : ℕ) → p ≤ length refs → distance refs p b ≤ length refs
  unfolding distance
  distance_to p b h = let m = place_most (drop p refs) b in let l = length-drop p refs in omega (arith, m, l)

  pub distance_hit : (p b : ℕ) → distance refs p b < length refs → get_or refs (distance refs p b) 0 ≡ b
  unfolding distance
  distance_hit p b h =
      let l = length-drop p refs in
      sym (get_or-drop p refs (place (drop p refs) b) 0) ∙ place_hit (drop p refs) b (omega (arith, l))

  pub distance_least : (p b i : ℕ) → p ≤ i → i < distance refs p b → get_or refs i 0 ≢ b
  unfolding distance
  distance_least p b i h l q =
      let e : p + (i - p) ≡ i = omega arith in
      place-least (drop p refs) b (i - p) (omega arith) (get_or-drop p refs (i - p) 0 ∙ ap (λ (k : ℕ). get_or refs k 0) e ∙ q)

  -- a reference to b at or after p is not before its distance
  pub distance_before : (p b i : ℕ) → p ≤ i → get_or refs i 0 ≡ b → distance refs p b ≤ i
  distance_before p b i h q =
      by_test (leb (distance refs p b) i)
      (λ e. leb-true _ _ e)
      (λ e. absurd (distance_least p b i h (leb-false _ _ e) q))

  -- a position with these facts is the distance
  pub distance_is : (p b q : ℕ) → p ≤ q → q ≤ length refs → (q < length refs → get_or refs q 0 ≡ b) → ((i : ℕ) → p ≤ i → i < q → get_or refs i 0 ≢ b) → q ≡ distance refs p b
  distance_is p b q h l hit least =
      by_test (leb (distance refs p b) q)
      (λ e. let up = leb-true _ _ e in
      by_test (leb q (distance refs p b))
      (λ f. le_antisymm (leb-true _ _ f) up)
      (λ f. let down = leb-false _ _ f in
      absurd (least (distance refs p b) (distance_from p b) down (distance_hit p b (omega (arith, down))))))
      (λ e. let up = leb-false _ _ e in
      let most = distance_to p b (omega arith) in
      absurd (distance_least p b q h up (hit (omega (arith, up, most)))))

  -- distances grow with the position from which they are counted
  pub distance_mono : (p q b : ℕ) → p ≤ q → q ≤ length refs → distance refs p b ≤ distance refs q b
  distance_mono p q b h l =
      by_test (leb (distance refs p b) (distance refs q b))
      (λ e. leb-true _ _ e)
      (λ e. let less = leb-false _ _ e in
      let f = distance_from q b in
      let most = distance_to p b (omega arith) in
      absurd (distance_least p b (distance refs q b) (omega (arith, f)) less (distance_hit q b (omega (arith, less, most)))))

  -- and stay the same up to the block's next reference
  pub distance_same : (p q b : ℕ) → p ≤ q → q ≤ distance refs p b → q ≤ length refs → distance refs q b ≡ distance refs p b
  distance_same p q b h k l =
      sym (distance_is q b (distance refs p b) k (distance_to p b (omega arith)) (distance_hit p b) (λ i r s. distance_least p b i (omega arith) s))

  -- equal finite distances belong to one block
  pub distance_one : (p b c : ℕ) → distance refs p b ≡ distance refs p c → distance refs p b < length refs → b ≡ c
  distance_one p b c e h = sym (distance_hit p b h) ∙ ap (λ (k : ℕ). get_or refs k 0) e ∙ distance_hit p c (omega arith)

  -- a position passes on its distance over references to other blocks
  pub distance_skip : (p q b : ℕ) → p ≤ q → q ≤ length refs → ((i : ℕ) → p ≤ i → i < q → get_or refs i 0 ≢ b) → distance refs q b ≡ distance refs p b
  distance_skip p q b h l none =
      let from = distance_from q b in
      distance_is p b (distance refs q b) (omega (arith, from)) (distance_to q b l) (distance_hit q b)
      (λ i r s. by_test (leb q i) (λ e. distance_least q b i (leb-true q i e) s) (λ e. none i r (leb-false q i e)))

  -- the block of a reference has its distance there
  pub distance_here : (p b : ℕ) → get_or refs p 0 ≡ b → p < length refs → distance refs p b ≡ p
  distance_here p b e h = sym (distance_is p b p (omega arith) (omega arith) (λ _. e) (λ i r s. absurd (omega arith)))

  -- and any other block keeps its own past it
  pub distance_on : (p b : ℕ) → get_or refs p 0 ≢ b → p < length refs → distance refs (suc p) b ≡ distance refs p b
  distance_on p b n h =
      distance_skip p (suc p) b (omega arith) (omega arith)
      (λ i r s q. let e : i ≡ p = omega arith in n (ap (λ (k : ℕ). get_or refs k 0) (sym e) ∙ q))

  -- at the end every distance is never
  pub distance_end : (b : ℕ) → distance refs (length refs) b ≡ length refs
  distance_end b = le_antisymm (distance_to (length refs) b (omega arith)) (distance_from (length refs) b)
