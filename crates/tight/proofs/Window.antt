-- A plan looks only so far: the rounds of a plan that reads well within the first part of the references are those for this part alone, and a plan
-- goes on as one for the references still due. Assumes nothing.
use mathlib.Core.Path.{◌≡◌, refl, sym, ap, ◌∙◌}
use mathlib.Core.Bool.{Bool, true, ◌&&◌}
use mathlib.Core.List.{List, [], ◌∷◌, ◌++◌, map}
use Prim.Native.Nat.{ℕ, zero, suc, ◌+◌, ◌≤◌, ◌<◌}
use native.Mathlib.Omega.{arith}
use lib.Dec.{ltb, eqb}
use lib.ListN.{length, drop, length-append, length-drop}
use lib.Seq.{drop-append-le, drop-append-add}
use borrow.Author.Tests.{lt-ltb}
use Rattle.bits.proofs.Logic.{by_test, and_left, and_right, and_true}
use Rattle.model.specs.Job.{Job, ref_count}
use Rattle.model.specs.Playing.{State, is_resident, act_all, consumed, play_round}
use Rattle.model.specs.Rules.{place, distance, action, Rule}
use Rattle.model.specs.Plans.{choices, plan_from}
use Rattle.model.proofs.Plans.{each_cong}
use Rattle.model.proofs.Distances.{distance_mono}
use Rattle.tight.proofs.Alike.{ltb_shifted, job_on, at, Alike, Local}

-- A plan's round, and so many of them.
unfoldable pub after_round : Rule → Job → State → State
unfolding play_round choices
after_round rule j s = play_round j s (map action (choices rule j s))

unfoldable pub after_rounds : Rule → Job → ℕ → State → State
unfolding after_round
after_rounds rule j zero s = s
after_rounds rule j (suc k) s = after_rounds rule j k (after_round rule j s)

-- whether a reference is left at the start of each of them
unfoldable pub started : Rule → Job → ℕ → State → Bool
unfolding after_round
started rule j zero s = true
started rule j (suc k) s = ltb s.next (ref_count j) && started rule j k (after_round rule j s)

-- the plan then starts these rounds
plan_starts_one : (rule : Rule) (j : Job) (most : ℕ) (s : State) → ltb s.next (ref_count j) ≡ true → length (plan_from rule j (suc most) s) ≡ suc (length (plan_from rule j most (after_round rule j s)))
unfolding plan_from after_round
plan_starts_one rule j most s e = rw (e, plan_from)

pub plan_starts : (rule : Rule) (j : Job) (k most : ℕ) (s : State) → started rule j k s ≡ true
    → length (plan_from rule j (k + most) s) ≡ k + length (plan_from rule j most (after_rounds rule j k s))
unfolding started after_rounds
plan_starts rule j zero most s h = let e : 0 + most ≡ most = omega arith in rw e (omega arith)
plan_starts rule j (suc k) most s h =
    let due = and_left (ltb s.next (ref_count j)) (started rule j k (after_round rule j s)) h in
    let ih = plan_starts rule j k most (after_round rule j s) (and_right (ltb s.next (ref_count j)) (started rule j k (after_round rule j s)) h) in
    let one = plan_starts_one rule j (k + most) s due in
    let e : suc k + most ≡ suc (k + most) = omega arith in
    rw e (omega (arith, one, ih))

-- a rule that goes by distances makes the same choices in both states
choices_alike : (rule : Rule) → Local rule → (slots disks refs refs' : List ℕ) (marks : List Bool) (p p' r r' o : ℕ) → Alike (length disks) refs refs' p p' o
    → choices rule (job_on slots disks refs) (at marks p r) ≡ choices rule (job_on slots disks refs') (at marks p' r')
unfolding choices
choices_alike rule local slots disks refs refs' marks p p' r r' o alike =
    each_cong _ _ 0 (length slots) (λ d l m. local slots disks refs refs' marks p p' r r' o alike d)

-- What is before a position does not change what comes after it: the plan goes on as one for the references still due.

module _ (before refs : List ℕ) where
  distance-after : (p b : ℕ) → distance (before ++ refs) (length before + p) b ≡ length before + distance refs p b
  unfolding distance
  distance-after p b = let e = ap (λ (l : List ℕ). place l b) (drop-append-add before refs p) in omega (arith, e)

  alike_after : (blocks p : ℕ) → Alike blocks (before ++ refs) refs (length before + p) p (length before)
  alike_after blocks p = record {
    distances = λ b l. distance-after p b;
    due = λ b l. ltb_shifted (length before) (distance refs p b) (length refs) (distance-after p b) (length-append before refs);
    later = λ u b l m. rw (distance-after p u) (distance-after (distance refs p u) b);
  }

  module _ (rule : Rule) (local : Local rule) (slots disks : List ℕ) where
    pub plan_after : (most : ℕ) (marks : List Bool) (p r r' : ℕ)
        → length (plan_from rule (job_on slots disks (before ++ refs)) most (at marks (length before + p) r)) ≡ length (plan_from rule (job_on slots disks refs) most (at marks p r'))
    unfolding plan_from play_round
    plan_after zero marks p r r' = refl
    plan_after (suc most) marks p r r' =
        let same = choices_alike rule local slots disks (before ++ refs) refs marks (length before + p) p r r' (length before) (alike_after (length disks) p) in
        let left : ltb (length before + p) (length (before ++ refs)) ≡ ltb p (length refs) = ltb_shifted (length before) p (length refs) refl (length-append before refs) in
        let acted = act_all marks (map action (choices rule (job_on slots disks refs) (at marks p r'))) in
        let ih = plan_after most acted (p + consumed acted (drop p refs)) (suc r) (suc r') in
        let due = drop-append-add before refs p in
        let next : length before + p + consumed acted (drop p refs) ≡ length before + (p + consumed acted (drop p refs)) = omega arith in
        by_test (ltb p (length refs))
        (λ e. rw (left, e, plan_from, same, due, next) (ap suc ih))
        (λ e. rw (left, e, plan_from) refl)

-- What comes after the references of the window does not change the rounds that read well within it.

-- From every position up to `reach` all blocks are referenced again, and once more from each of these references on.
pub record Covers (blocks : ℕ) (refs : List ℕ) (reach middle : ℕ) : Type 0 where
  pub onward : reach ≤ middle
  pub within : middle < length refs
  pub again : (b : ℕ) → b < blocks → distance refs reach b ≤ middle
  pub once_more : (b : ℕ) → b < blocks → distance refs middle b < length refs

place_append : (refs more : List ℕ) (b : ℕ) → place refs b < length refs → place (refs ++ more) b ≡ place refs b
unfolding place
place_append [] more b l = absurd (omega arith)
place_append (r ∷ refs) more b l =
    by_test (eqb r b)
    (λ e. rw e refl)
    (λ e. rw e (ap suc (place_append refs more b (let k = rw e at l in omega (arith, k)))))

consumed_append : (marks : List Bool) (refs more : List ℕ) → consumed marks refs < length refs → consumed marks (refs ++ more) ≡ consumed marks refs
unfolding consumed
consumed_append marks [] more l = absurd (omega arith)
consumed_append marks (r ∷ refs) more l =
    by_test (is_resident marks r)
    (λ e. rw e (ap suc (consumed_append marks refs more (let k = rw e at l in omega (arith, k)))))
    (λ e. rw e refl)

module _ (refs more : List ℕ) where
  distance_append : (p b : ℕ) → distance refs p b < length refs → distance (refs ++ more) p b ≡ distance refs p b
  unfolding distance
  distance_append p b l =
      let n = length-drop p refs in
      let e = place_append (drop p refs) more b (omega (arith, l, n)) in
      let f = ap (λ (x : List ℕ). place x b) (drop-append-le p refs more (omega (arith, l))) in
      omega (arith, e, f)

  module _ (blocks reach middle : ℕ) (covers : Covers blocks refs reach middle) where
    near : (p b : ℕ) → p ≤ reach → b < blocks → distance refs p b ≤ middle
    near p b l m =
        let x = distance_mono refs p reach b l (let w = covers.within in let o = covers.onward in omega (arith, w, o)) in
        let y = covers.again b m in
        omega (arith, x, y)

    far : (p b : ℕ) → p ≤ middle → b < blocks → distance refs p b < length refs
    far p b l m =
        let x = distance_mono refs p middle b l (let w = covers.within in omega (arith, w)) in
        let y = covers.once_more b m in
        omega (arith, x, y)

    alike_within : (p : ℕ) → p ≤ reach → Alike blocks (refs ++ more) refs p p 0
    alike_within p l =
        let o = covers.onward in
        let same : (q b : ℕ) → q ≤ middle → b < blocks → distance (refs ++ more) q b ≡ 0 + distance refs q b =
        λ q b k m. (let e = distance_append q b (far q b k m) in omega (arith, e)) in
        record {
          distances = λ b m. same p b (omega (arith, l, o)) m;
          due = λ b m. (let f = far p b (omega (arith, l, o)) m in
              let e = distance_append p b f in
              let n = length-append refs more in
              lt-ltb (distance (refs ++ more) p b) (length (refs ++ more)) (omega (arith, e, f, n)) ∙ sym (lt-ltb (distance refs p b) (length refs) f));
          later = λ u b k m. rw (distance_append p u (far p u (omega (arith, l, o)) k)) (same (distance refs p u) b (near p u l k) m);
        }

-- reading goes onward
after-onward : (rule : Rule) (j : Job) (k : ℕ) (s : State) → s.next ≤ (after_rounds rule j k s).next
unfolding after_rounds after_round play_round
after-onward rule j zero s = omega arith
after-onward rule j (suc k) s = let ih = after-onward rule j k (after_round rule j s) in omega (arith, ih)

module _ (rule : Rule) (local : Local rule) (slots disks refs more : List ℕ) (reach middle : ℕ) (covers : Covers (length disks) refs reach middle) where
  abbrev window : Job
  window = job_on slots disks refs

  abbrev whole : Job
  whole = job_on slots disks (refs ++ more)

  round-within : (s : State) → (after_round rule window s).next ≤ reach → after_round rule whole s ≡ after_round rule window s
  unfolding after_round play_round
  round-within s l =
      let p = s.next in
      let marks = act_all s.resident (map action (choices rule window s)) in
      let same = choices_alike rule local slots disks (refs ++ more) refs s.resident p p s.round s.round 0
      (alike_within refs more (length disks) reach middle covers p (omega (arith, l))) in
      let w = covers.within in
      let o = covers.onward in
      let n = length-drop p refs in
      let read : consumed marks (drop p (refs ++ more)) ≡ consumed marks (drop p refs) =
      ap (consumed marks) (drop-append-le p refs more (omega (arith, l, w, o))) ∙ consumed_append marks (drop p refs) more (omega (arith, l, w, o, n)) in
      rw (same, read)

  pub rounds-within : (k : ℕ) (s : State) → (after_rounds rule window k s).next ≤ reach → after_rounds rule whole k s ≡ after_rounds rule window k s
  unfolding after_rounds
  rounds-within zero s l = refl
  rounds-within (suc k) s l =
      let o = after-onward rule window k (after_round rule window s) in
      rw (round-within s (omega (arith, l, o))) (rounds-within k (after_round rule window s) l)

  pub started_within : (k : ℕ) (s : State) → (after_rounds rule window k s).next ≤ reach → started rule whole k s ≡ true
  unfolding after_rounds started
  started_within zero s l = refl
  started_within (suc k) s l =
      let o = after-onward rule window (suc k) s in
      let o₂ = after-onward rule window k (after_round rule window s) in
      let w = covers.within in
      let m = covers.onward in
      let n = length-append refs more in
      and_true (lt-ltb s.next (length (refs ++ more)) (omega (arith, o, l, w, m, n)))
      (rw (round-within s (omega (arith, l, o₂))) (started_within k (after_round rule window s) l))
