-- A rule goes by the marks and by how distances compare: it chooses the same in two states with the same marks, where the distances of all blocks in
-- one state, and again from each of these on, are those in the other and an offset more. Assumes nothing.
use mathlib.Core.Path.{◌≡◌, refl, ap, ◌∙◌}
use mathlib.Core.Bool.{Bool, cond, not, ◌&&◌}
use mathlib.Core.List.{List, []}
use mathlib.Core.Option.{Option, none, some}
use Prim.Native.Nat.{ℕ, zero, suc, ◌+◌, ◌<◌}
use native.Mathlib.Omega.{arith}
use lib.Dec.{ltb, leb, eqb}
use lib.ListN.{length, replicate}
use borrow.Author.Tests.{leb-true, le-leb}
use Rattle.bits.proofs.Logic.{by_test, same_test}
use Rattle.model.specs.Job.{Job, disk_of}
use Rattle.model.specs.Playing.{State, is_resident, load}
use Rattle.model.specs.Rules.{distance, prefer, best, nearest_missing, min_block, slot_empty, Choice, into_empty, over_min_block, min_block_sooner, waits, none_missing, short_full, Rule, short_of, short, some_later, unless_later, sparing}
use Rattle.model.proofs.Counting.{count_same}

-- an offset does not change a comparison
leb_offset : (o a b : ℕ) → leb (o + a) (o + b) ≡ leb a b
leb_offset o a b =
    same_test _ _
    (λ e. let l = leb-true (o + a) (o + b) e in le-leb a b (omega (arith, l)))
    (λ e. let l = leb-true a b e in le-leb (o + a) (o + b) (omega (arith, l)))

leb_shifted : (o a b : ℕ) {x y : ℕ} → x ≡ o + a → y ≡ o + b → leb x y ≡ leb a b
leb_shifted o a b p q = rw (p, q) (leb_offset o a b)

pub ltb_shifted : (o a b : ℕ) {x y : ℕ} → x ≡ o + a → y ≡ o + b → ltb x y ≡ ltb a b
ltb_shifted o a b {x} p q = leb_shifted o (suc a) b (let e : suc x ≡ o + suc a = omega (arith, p) in e) q

-- a choice among the numbers below n is one of them, and goes by the tests of these
unfoldable Below : ℕ → Option ℕ → Type 0
Below n none = Unit {0}
Below n (some b) = b < n

best_below : (test : ℕ → Bool) (before : ℕ → ℕ → Bool) (n : ℕ) → Below n (best test before n)
unfolding best prefer Below
best_below test before zero = tt
best_below test before (suc n) = go (best test before n) (best_below test before n)
  where
    wider : (x : Option ℕ) → Below n x → Below (suc n) x
    wider none h = tt
    wider (some b) h = omega arith

    taken : (x : Option ℕ) → Below n x → Below (suc n) (prefer before n x)
    taken none h = omega arith
    taken (some c) h = by_test (before n c) (λ e. rw (e, Below) (omega arith)) (λ e. rw (e, Below) (omega arith))

    go : (x : Option ℕ) → Below n x → Below (suc n) (cond (test n) (prefer before n x) x)
    go x h = by_test (test n) (λ e. rw e (taken x h)) (λ e. rw e (wider x h))

best_same : (test test' : ℕ → Bool) (before before' : ℕ → ℕ → Bool) (n : ℕ) → ((b : ℕ) → b < n → test b ≡ test' b)
    → ((b c : ℕ) → b < n → c < n → before b c ≡ before' b c) → best test before n ≡ best test' before' n
unfolding best prefer Below
best_same test test' before before' zero h k = refl
best_same test test' before before' (suc n) h k =
    let ih = best_same test test' before before' n (λ b l. h b (omega arith)) (λ b c l m. k b c (omega arith) (omega arith)) in
    rw (h n (omega arith), ih) (ap (λ (x : Option ℕ). cond (test' n) x (best test' before' n)) (taken (best test' before' n) (best_below test' before' n)))
  where
    taken : (x : Option ℕ) → Below n x → prefer before n x ≡ prefer before' n x
    taken none l = refl
    taken (some c) l = rw (k n c (omega arith) (omega arith))

-- a job by its slots, the disks of its blocks and its references, with nothing carried in, and a state by its marks, its next read and its round
abbrev pub job_on : List ℕ → List ℕ → List ℕ → Job
job_on slots disks refs = record { slots = slots; block_disks = disks; refs = refs; carried = replicate (length slots) [] }

abbrev pub at : List Bool → ℕ → ℕ → State
at marks p r = record { resident = marks; next = p; round = r }

-- The distances of all blocks from two positions, whether they are referenced again, and the distances from each of these on.
pub record Alike (blocks : ℕ) (refs refs' : List ℕ) (p p' o : ℕ) : Type 0 where
  pub distances : (b : ℕ) → b < blocks → distance refs p b ≡ o + distance refs' p' b
  pub due : (b : ℕ) → b < blocks → ltb (distance refs p b) (length refs) ≡ ltb (distance refs' p' b) (length refs')
  pub later : (u b : ℕ) → u < blocks → b < blocks → distance refs (distance refs p u) b ≡ o + distance refs' (distance refs' p' u) b

-- A rule that goes by them.
abbrev pub Local : Rule → Type 0
Local rule = (slots disks refs refs' : List ℕ) (marks : List Bool) (p p' r r' o : ℕ) → Alike (length disks) refs refs' p p' o
    → (d : ℕ) → rule (job_on slots disks refs) (at marks p r) d ≡ rule (job_on slots disks refs') (at marks p' r') d

-- Blocks that a choice puts out are below n.
unfoldable BothBelow : ℕ → Choice → Type 0
BothBelow n (into_empty u) = Unit {0}
BothBelow n (over_min_block u v) = (u < n) × (v < n)
BothBelow n min_block_sooner = Unit {0}
BothBelow n waits = Unit {0}
BothBelow n none_missing = Unit {0}

module _ (slots disks refs refs' : List ℕ) (marks : List Bool) (p p' r r' o : ℕ) (alike : Alike (length disks) refs refs' p p' o) (d : ℕ) where
  abbrev here : Job
  here = job_on slots disks refs

  abbrev there : Job
  there = job_on slots disks refs'

  abbrev now : State
  now = at marks p r

  abbrev then : State
  then = at marks p' r'

  sooner_same : (b c : ℕ) → b < length disks → c < length disks → ltb (distance refs p b) (distance refs p c) ≡ ltb (distance refs' p' b) (distance refs' p' c)
  sooner_same b c l m = ltb_shifted o (distance refs' p' b) (distance refs' p' c) (alike.distances b l) (alike.distances c m)

  nearest_same : nearest_missing here now d ≡ nearest_missing there then d
  unfolding nearest_missing
  nearest_same =
      best_same _ _ _ _ (length disks) (λ b l. ap (λ (x : Bool). (eqb (disk_of here b) d && not (is_resident marks b)) && x) (alike.due b l)) sooner_same

  min_below : Below (length disks) (min_block here now d)
  unfolding min_block
  min_below = best_below _ _ (length disks)

  min_same : min_block here now d ≡ min_block there then d
  unfolding min_block
  min_same =
      best_same _ _ _ _ (length disks) (λ b l. refl)
      (λ b c l m. leb_shifted o (distance refs' p' c) (distance refs' p' b) (alike.distances c m) (alike.distances b l))

  full_same : (u : ℕ) → u < length disks → (x : Option ℕ) → Below (length disks) x → short_full here now u x ≡ short_full there then u x
  unfolding short_full Below
  full_same u l none m = refl
  full_same u l (some v) m = rw (sooner_same v u m l)

  of_same : (x : Option ℕ) → Below (length disks) x → short_of here now d x ≡ short_of there then d x
  unfolding short_of Below load
  of_same none l = refl
  of_same (some u) l = ap (cond (slot_empty here now d) (into_empty u)) (full_same u l (min_block here now d) min_below ∙ ap (short_full there then u) min_same)

  pub short_alike : short here now d ≡ short there then d
  unfolding short nearest_missing
  short_alike = of_same (nearest_missing here now d) (best_below _ _ (length disks)) ∙ ap (short_of there then d) nearest_same

  full_below : (u : ℕ) → u < length disks → (x : Option ℕ) → Below (length disks) x → BothBelow (length disks) (short_full here now u x)
  unfolding short_full Below BothBelow
  full_below u l none m = tt
  full_below u l (some v) m = by_test (ltb (distance refs p v) (distance refs p u)) (λ e. rw (e, BothBelow) tt) (λ e. rw (e, BothBelow) (l, m))

  of_below : (x : Option ℕ) → Below (length disks) x → BothBelow (length disks) (short_of here now d x)
  unfolding short_of Below BothBelow
  of_below none l = tt
  of_below (some u) l = by_test (slot_empty here now d) (λ e. rw (e, BothBelow) tt) (λ e. rw e (full_below u l (min_block here now d) min_below))

  later_same : (u v : ℕ) → u < length disks → v < length disks → some_later here now d u v ≡ some_later there then d u v
  unfolding some_later
  later_same u v l m =
      ap (ltb 0) (count_same _ _ (length disks) (λ b k. ap (λ (x : Bool). (eqb (disk_of here b) d && is_resident marks b) && x)
      (ltb_shifted o (distance refs' (distance refs' p' u) v) (distance refs' (distance refs' p' u) b) (alike.later u v l m) (alike.later u b l k))))

  waits_same : (c : Choice) → BothBelow (length disks) c → unless_later here now d c ≡ unless_later there then d c
  unfolding unless_later BothBelow
  waits_same (into_empty u) l = refl
  waits_same (over_min_block u v) l = rw (later_same u v l.0 l.1)
  waits_same min_block_sooner l = refl
  waits_same waits l = refl
  waits_same none_missing l = refl

  pub sparing_alike : sparing here now d ≡ sparing there then d
  unfolding sparing short nearest_missing
  sparing_alike = waits_same (short here now d) (of_below (nearest_missing here now d) (best_below _ _ (length disks))) ∙ ap (unless_later there then d) short_alike
