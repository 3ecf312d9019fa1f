-- Reading on: how many references a round consumes, and that a round by the axioms leads to the state that playing it gives. Assumes nothing.
use mathlib.Core.Path.{◌≡◌, sym, ap, ◌∙◌}
use mathlib.Core.Bool.{Bool, true, false}
use mathlib.Core.List.{List, [], ◌∷◌}
use Prim.Native.Nat.{ℕ, zero, suc, ◌+◌, ◌-◌, ◌≤◌, ◌<◌}
use native.Mathlib.Omega.{arith}
use lib.ListN.{length, get_or, drop, length-drop}
use lib.Seq.{get_or-drop}
use Rattle.bits.proofs.Logic.{by_test}
use Rattle.model.specs.Job.{Job, ref_count, ref_at}
use Rattle.model.specs.Playing.{Action, Schedule, State, is_resident, act_all, consumed, play_round, play}
use Rattle.model.specs.Valid.{Round}

module _ (marks : List Bool) where
  pub consumed_most : (l : List ℕ) → consumed marks l ≤ length l
  unfolding consumed
  consumed_most [] = omega arith
  consumed_most (r ∷ l) =
      let ih = consumed_most l in
      by_test (is_resident marks r) (λ e. rw e (omega (arith, ih))) (λ e. rw e (omega arith))

  pub consumed-held : (l : List ℕ) (i : ℕ) → i < consumed marks l → is_resident marks (get_or l i 0) ≡ true
  unfolding consumed
  consumed-held [] i p = absurd (omega arith)
  consumed-held (r ∷ l) zero p = by_test (is_resident marks r) (λ e. e) (λ e. absurd (omega (arith, rw e at p)))
  consumed-held (r ∷ l) (suc i) p =
      by_test (is_resident marks r)
      (λ e. consumed-held l i (let q = rw e at p in omega (arith, q)))
      (λ e. absurd (let q = rw e at p in omega (arith, q)))

  pub consumed-stops : (l : List ℕ) → consumed marks l < length l → is_resident marks (get_or l (consumed marks l) 0) ≡ false
  unfolding consumed
  consumed-stops [] p = absurd (omega arith)
  consumed-stops (r ∷ l) p =
      by_test (is_resident marks r)
      (λ e. rw e (consumed-stops l (let q = rw e at p in omega (arith, q))))
      (λ e. rw e e)

  -- these three determine the number
  pub consumed_is : (l : List ℕ) (k : ℕ) → k ≤ length l → ((i : ℕ) → i < k → is_resident marks (get_or l i 0) ≡ true)
      → (k < length l → is_resident marks (get_or l k 0) ≡ false) → k ≡ consumed marks l
  unfolding consumed
  consumed_is [] k p h s = omega arith
  consumed_is (r ∷ l) zero p h s = rw (s (omega arith))
  consumed_is (r ∷ l) (suc k) p h s =
      rw (h 0 (omega arith)) (ap suc (consumed_is l k (omega arith) (λ i q. h (suc i) (omega arith)) (λ q. s (omega arith))))

-- the next read after a round
abbrev pub read_on : Job → List Bool → ℕ → ℕ
read_on j marks p = p + consumed marks (drop p j.refs)

pub read_on_within : (j : Job) (marks : List Bool) (p : ℕ) → p ≤ ref_count j → read_on j marks p ≤ ref_count j
read_on_within j marks p h = let a = consumed_most marks (drop p j.refs) in let b = length-drop p j.refs in omega (arith, a, b)

-- so no schedule consumes a reference that is not there
pub play-within : (j : Job) (s : State) (schedule : Schedule) → s.next ≤ ref_count j → (play j s schedule).next ≤ ref_count j
unfolding play play_round
play-within j s [] h = h
play-within j s (actions ∷ more) h = play-within j (play_round j s actions) more (read_on_within j (act_all s.resident actions) s.next h)

pub read_on_held : (j : Job) (marks : List Bool) (p i : ℕ) → p ≤ i → i < read_on j marks p → is_resident marks (ref_at j i) ≡ true
read_on_held j marks p i h l =
    let e : p + (i - p) ≡ i = omega arith in
    let held = consumed-held marks (drop p j.refs) (i - p) (omega arith) in
    ap (λ (k : ℕ). is_resident marks (ref_at j k)) (sym e) ∙ ap (is_resident marks) (sym (get_or-drop p j.refs (i - p) 0)) ∙ held

pub read_on_stops : (j : Job) (marks : List Bool) (p : ℕ) → read_on j marks p < ref_count j → is_resident marks (ref_at j (read_on j marks p)) ≡ false
read_on_stops j marks p l =
    let b = length-drop p j.refs in
    ap (is_resident marks) (sym (get_or-drop p j.refs (consumed marks (drop p j.refs)) 0))
    ∙ consumed-stops marks (drop p j.refs) (omega (arith, b))

-- a position that is reached by reading and at which reading stops is the next read
pub read_on_is : (j : Job) (marks : List Bool) (p q : ℕ) → p ≤ q → q ≤ ref_count j
    → ((i : ℕ) → p ≤ i → i < q → is_resident marks (ref_at j i) ≡ true) → (q < ref_count j → is_resident marks (ref_at j q) ≡ false) → q ≡ read_on j marks p
read_on_is j marks p q h l held stops =
    let b = length-drop p j.refs in
    let e : p + (q - p) ≡ q = omega arith in
    let k = consumed_is marks (drop p j.refs) (q - p) (omega (arith, b))
    (λ i r. ap (is_resident marks) (get_or-drop p j.refs i 0) ∙ held (p + i) (omega arith) (omega arith))
    (λ r. ap (is_resident marks) (get_or-drop p j.refs (q - p) 0 ∙ ap (ref_at j) e) ∙ stops (omega (arith, b))) in
    omega (arith, k)

-- A round by the axioms leads to the state that playing it gives.
pub round_plays : (j : Job) (s : State) (actions : List Action) (t : State) → Round j s actions t → t ≡ play_round j s actions
unfolding play_round
round_plays j s actions t h =
    let marks = act_all s.resident actions in
    let next : t.next ≡ read_on j marks s.next =
    read_on_is j marks s.next t.next h.onward h.within
    (λ i p q. ap (λ (m : List Bool). is_resident m (ref_at j i)) (sym h.played) ∙ h.a1 i p q)
    (λ p. ap (λ (m : List Bool). is_resident m (ref_at j t.next)) (sym h.played) ∙ h.stops p) in
    λ i. record { resident = h.played i; next = next i; round = h.counted i }
