-- Request L9, the blocks carried in: those of a disk in rising order, each once; how many of them are in each buffer before round 1, and which; and
-- what is read before round 1. Assumes nothing.
use mathlib.Core.Path.{◌≡◌, refl, sym, ap, ◌∙◌}
use mathlib.Core.Logic.{◌≢◌, ◌⊎◌, inl, inr, ⊎_elim, ◌↔◌}
use mathlib.Core.Bool.{Bool, true, false}
use mathlib.Core.List.{List, [], ◌∷◌, ◌++◌}
use Prim.Native.Nat.{ℕ, zero, suc, ◌+◌, ◌≤◌, ◌<◌}
use native.Mathlib.Omega.{arith}
use lib.Dec.{eqb, ltb}
use lib.ListN.{length, get_or, set, take, length-set, length-replicate}
use borrow.Author.Tests.{eqb-true, eqb-false, ltb-true, ltb-false}
use Rattle.bits.proofs.Logic.{by_test, clash}
use Rattle.model.specs.Job.{Job, Sound, disk_count, block_count, ref_count, slots_of, disk_of, ref_at, carried_on, carried_at}
use Rattle.model.specs.Playing.{fetch, Schedule, none_resident, start, is_resident, load, act, consumed, marked, marked_all, play, fetched, discarded, total}
use Rattle.model.specs.Valid.{Block, Legal, Ready, ValidFrom}
use Rattle.model.proofs.Buffers.{mark_set, mark_kept, load_own, load_same, none-resident, load-none, so_far, moment_load, rounds-load}
use Rattle.model.proofs.Playing.{consumed_most, consumed-held, consumed-stops, consumed_is}

-- Blocks of disk d "in strictly rising order", none below `least`; `disks` has the disk of each block.
unfoldable pub RisingFrom : List ℕ → ℕ → ℕ → List ℕ → Type 0
RisingFrom disks d least [] = Unit {0}
RisingFrom disks d least (b ∷ more) = (least ≤ b) × (b < length disks) × (get_or disks b 0 ≡ d) × RisingFrom disks d (suc b) more

-- That is so by places, both ways.
pub rising_from : (disks : List ℕ) (d least : ℕ) (l : List ℕ) → (0 < length l → least ≤ get_or l 0 0)
    → ((i : ℕ) → suc i < length l → get_or l i 0 < get_or l (suc i) 0)
    → ((i : ℕ) → i < length l → get_or l i 0 < length disks)
    → ((i : ℕ) → i < length l → get_or disks (get_or l i 0) 0 ≡ d) → RisingFrom disks d least l
unfolding RisingFrom
rising_from disks d least [] first up known on = tt
rising_from disks d least (b ∷ more) first up known on = (
  first (omega arith),
  known 0 (omega arith),
  on 0 (omega arith),
  rising_from disks d (suc b) more (λ p. let u = up 0 (omega arith) in omega (arith, u)) (λ i p. up (suc i) (omega arith)) (λ i p. known (suc i) (omega arith))
      (λ i p. on (suc i) (omega arith)),
)

pub rising-least : (disks : List ℕ) (d least : ℕ) (l : List ℕ) → RisingFrom disks d least l → (i : ℕ) → i < length l → least ≤ get_or l i 0
unfolding RisingFrom
rising-least disks d least [] h i p = absurd (omega arith)
rising-least disks d least (b ∷ more) h zero p = h.0
rising-least disks d least (b ∷ more) h (suc i) p =
    let first = h.0 in
    let rest = rising-least disks d (suc b) more h.3 i (omega arith) in
    omega (arith, first, rest)

-- also of two places that do not follow each other
pub rising_up : (disks : List ℕ) (d least : ℕ) (l : List ℕ) → RisingFrom disks d least l → (i k : ℕ) → i < k → k < length l → get_or l i 0 < get_or l k 0
unfolding RisingFrom
rising_up disks d least [] h i k q p = absurd (omega arith)
rising_up disks d least (b ∷ more) h i zero q p = absurd (omega arith)
rising_up disks d least (b ∷ more) h zero (suc k) q p = let rest = rising-least disks d (suc b) more h.3 k (omega arith) in omega (arith, rest)
rising_up disks d least (b ∷ more) h (suc i) (suc k) q p = rising_up disks d (suc b) more h.3 i k (omega arith) (omega arith)

pub rising-known : (disks : List ℕ) (d least : ℕ) (l : List ℕ) → RisingFrom disks d least l → (i : ℕ) → i < length l
    → (get_or l i 0 < length disks) × (get_or disks (get_or l i 0) 0 ≡ d)
unfolding RisingFrom
rising-known disks d least [] h i p = absurd (omega arith)
rising-known disks d least (b ∷ more) h zero p = (h.1, h.2)
rising-known disks d least (b ∷ more) h (suc i) p = rising-known disks d (suc b) more h.3 i (omega arith)

-- The lists of the disks from d on.
unfoldable pub CarriedFrom : List ℕ → ℕ → List (List ℕ) → Type 0
unfolding RisingFrom
CarriedFrom disks d [] = Unit {0}
CarriedFrom disks d (blocks ∷ more) = RisingFrom disks d 0 blocks × CarriedFrom disks (suc d) more

pub carried_from : (disks : List ℕ) (d : ℕ) (lists : List (List ℕ)) → ((e k : ℕ) → e ≡ d + k → k < length lists → RisingFrom disks e 0 (get_or lists k []))
    → CarriedFrom disks d lists
unfolding CarriedFrom
carried_from disks d [] h = tt
carried_from disks d (blocks ∷ more) h = (h d 0 (omega arith) (omega arith), carried_from disks (suc d) more (λ e k q p. h e (suc k) (omega arith) (omega arith)))

pub carried-at : (disks : List ℕ) (d : ℕ) (lists : List (List ℕ)) → CarriedFrom disks d lists → (e k : ℕ) → e ≡ d + k → k < length lists
    → RisingFrom disks e 0 (get_or lists k [])
unfolding CarriedFrom
carried-at disks d [] h e k q p = absurd (omega arith)
carried-at disks d (blocks ∷ more) h e zero q p = let same : e ≡ d = omega arith in rw same h.0
carried-at disks d (blocks ∷ more) h e (suc k) q p = carried-at disks (suc d) more h.1 e k (omega arith) (omega arith)

pub sound-rising : (j : Job) → Sound j → (d : ℕ) → d < disk_count j → RisingFrom j.block_disks d 0 (carried_on j d)
sound-rising j sound d p =
    rising_from j.block_disks d 0 (carried_on j d) (λ _. omega arith) (λ i. sound.rising d i p) (λ i. sound.of_blocks d i p) (λ i. sound.on_own_disk d i p)

pub sound-carried : (j : Job) → Sound j → CarriedFrom j.block_disks 0 j.carried
sound-carried j sound =
    carried_from j.block_disks 0 j.carried λ e k q p.
    let same : e ≡ k = omega arith in
    let one = sound.one_list in
    rw same (sound-rising j sound k (omega (arith, one)))

-- The marks that are set.

pub length_marked : (marks : List Bool) (l : List ℕ) → length (marked marks l) ≡ length marks
unfolding marked
length_marked marks [] = refl
length_marked marks (b ∷ more) = length_marked (set marks b true) more ∙ length-set marks b true

pub length-marked_all : (marks : List Bool) (lists : List (List ℕ)) → length (marked_all marks lists) ≡ length marks
unfolding marked_all
length-marked_all marks [] = refl
length-marked_all marks (blocks ∷ more) = length-marked_all (marked marks blocks) more ∙ length_marked marks blocks

-- one block more, and one list more
pub marked_more : (marks : List Bool) (l : List ℕ) (b : ℕ) → marked marks (l ++ (b ∷ [])) ≡ set (marked marks l) b true
unfolding marked
marked_more marks [] b = refl
marked_more marks (x ∷ more) b = marked_more (set marks x true) more b

pub marked_all_more : (marks : List Bool) (lists : List (List ℕ)) (blocks : List ℕ) → marked_all marks (lists ++ (blocks ∷ [])) ≡ marked (marked_all marks lists) blocks
unfolding marked_all
marked_all_more marks [] blocks = refl
marked_all_more marks (l ∷ more) blocks = marked_all_more (marked marks l) more blocks

-- none but those of the list are set: not one below its first,
marked_below : (disks : List ℕ) (marks : List Bool) (d least : ℕ) (l : List ℕ) → RisingFrom disks d least l → (b : ℕ) → b < least
    → is_resident (marked marks l) b ≡ is_resident marks b
unfolding RisingFrom marked
marked_below disks marks d least [] h b p = refl
marked_below disks marks d least (x ∷ more) h b p =
    let first = h.0 in
    marked_below disks (set marks x true) d (suc x) more h.3 b (omega (arith, first)) ∙ mark_kept marks x b true (λ e. omega (arith, e, first))

-- not one of another disk,
pub marked_elsewhere : (disks : List ℕ) (marks : List Bool) (d least : ℕ) (l : List ℕ) → RisingFrom disks d least l → (b : ℕ) → get_or disks b 0 ≢ d
    → is_resident (marked marks l) b ≡ is_resident marks b
unfolding RisingFrom marked
marked_elsewhere disks marks d least [] h b n = refl
marked_elsewhere disks marks d least (x ∷ more) h b n =
    marked_elsewhere disks (set marks x true) d (suc x) more h.3 b n
    ∙ mark_kept marks x b true (λ e. n (ap (λ (y : ℕ). get_or disks y 0) e ∙ h.2))

-- and a block that is found now and was not before is one of the list;
marked_found : (marks : List Bool) (l : List ℕ) (b : ℕ) → is_resident marks b ≡ false → is_resident (marked marks l) b ≡ true
    → (i : ℕ) × (i < length l) × (get_or l i 0 ≡ b)
unfolding marked
marked_found marks [] b out here = clash here out
marked_found marks (x ∷ more) b out here =
    by_test (eqb b x)
    (λ y. (0, omega arith, sym (eqb-true b x y)))
    (λ n. let w = marked_found (set marks x true) more b (mark_kept marks x b true (eqb-false b x n) ∙ out) here in
    (suc w.0, (let p = w.1 in omega (arith, p)), w.2))

-- those are.
marked-holds : (disks : List ℕ) (marks : List Bool) → length disks ≤ length marks → (d least : ℕ) (l : List ℕ) → RisingFrom disks d least l
    → (i : ℕ) → i < length l → is_resident (marked marks l) (get_or l i 0) ≡ true
unfolding RisingFrom marked
marked-holds disks marks long d least [] h i p = absurd (omega arith)
marked-holds disks marks long d least (x ∷ more) h zero p =
    let known = h.1 in
    marked_below disks (set marks x true) d (suc x) more h.3 x (omega arith) ∙ mark_set marks x true (omega (arith, known, long))
marked-holds disks marks long d least (x ∷ more) h (suc i) p =
    marked-holds disks (set marks x true) (let e = length-set marks x true in omega (arith, e, long)) d (suc x) more h.3 i (omega arith)

-- The same of the lists of the disks from d on.
marked_all_below : (disks : List ℕ) (marks : List Bool) (d : ℕ) (lists : List (List ℕ)) → CarriedFrom disks d lists → (b : ℕ) → get_or disks b 0 < d
    → is_resident (marked_all marks lists) b ≡ is_resident marks b
unfolding CarriedFrom marked_all
marked_all_below disks marks d [] h b p = refl
marked_all_below disks marks d (blocks ∷ more) h b p =
    marked_all_below disks (marked marks blocks) (suc d) more h.1 b (omega arith)
    ∙ marked_elsewhere disks marks d 0 blocks h.0 b (λ e. omega (arith, e, p))

marked_all_found : (disks : List ℕ) (marks : List Bool) (d : ℕ) (lists : List (List ℕ)) → CarriedFrom disks d lists → (b k : ℕ) → get_or disks b 0 ≡ d + k
    → k < length lists → is_resident marks b ≡ false → is_resident (marked_all marks lists) b ≡ true
    → (i : ℕ) × (i < length (get_or lists k [])) × (get_or (get_or lists k []) i 0 ≡ b)
unfolding CarriedFrom marked_all
marked_all_found disks marks d [] h b k on p out here = absurd (omega arith)
marked_all_found disks marks d (blocks ∷ more) h b zero on p out here =
    marked_found marks blocks b out (sym (marked_all_below disks (marked marks blocks) (suc d) more h.1 b (omega (arith, on))) ∙ here)
marked_all_found disks marks d (blocks ∷ more) h b (suc k) on p out here =
    marked_all_found disks (marked marks blocks) (suc d) more h.1 b k (omega (arith, on)) (omega arith)
    (marked_elsewhere disks marks d 0 blocks h.0 b (λ e. omega (arith, e, on)) ∙ out) here

marked_all-holds : (disks : List ℕ) (marks : List Bool) → length disks ≤ length marks → (d : ℕ) (lists : List (List ℕ)) → CarriedFrom disks d lists
    → (k i : ℕ) → k < length lists → i < length (get_or lists k []) → is_resident (marked_all marks lists) (get_or (get_or lists k []) i 0) ≡ true
unfolding CarriedFrom marked_all
marked_all-holds disks marks long d [] h k i p q = absurd (omega arith)
marked_all-holds disks marks long d (blocks ∷ more) h zero i p q =
    let on = (rising-known disks d 0 blocks h.0 i q).1 in
    marked_all_below disks (marked marks blocks) (suc d) more h.1 (get_or blocks i 0) (omega (arith, on))
    ∙ marked-holds disks marks long d 0 blocks h.0 i q
marked_all-holds disks marks long d (blocks ∷ more) h (suc k) i p q =
    marked_all-holds disks (marked marks blocks) (let e = length_marked marks blocks in omega (arith, e, long)) (suc d) more h.1 k i (omega arith) q

-- How many blocks a disk then holds.
marked-load : (j : Job) (marks : List Bool) → block_count j ≤ length marks → (d least : ℕ) (l : List ℕ) → RisingFrom j.block_disks d least l
    → ((b : ℕ) → least ≤ b → disk_of j b ≡ d → is_resident marks b ≡ false) → load j (marked marks l) d ≡ load j marks d + length l
unfolding RisingFrom marked Legal act
marked-load j marks long d least [] h out = omega arith
marked-load j marks long d least (x ∷ more) h out =
    let first = h.0 in
    let own = load_own j marks long d (fetch x) (record { known = h.1; on_disk = h.2; mark = out x first h.2 }) in
    let rest = marked-load j (set marks x true) (let e = length-set marks x true in omega (arith, e, long)) d (suc x) more h.3
    (λ b p on. mark_kept marks x b true (λ e. omega (arith, e, p)) ∙ out b (omega (arith, first, p)) on) in
    omega (arith, own, rest)

marked_all-load : (j : Job) (marks : List Bool) → block_count j ≤ length marks → (d : ℕ) (lists : List (List ℕ)) → CarriedFrom j.block_disks d lists
    → ((b : ℕ) → d ≤ disk_of j b → is_resident marks b ≡ false) → (e k : ℕ) → e ≡ d + k → k < length lists
    → load j (marked_all marks lists) e ≡ load j marks e + length (get_or lists k [])
unfolding CarriedFrom marked_all
marked_all-load j marks long d [] h out e k q p = absurd (omega arith)
marked_all-load j marks long d (blocks ∷ more) h out e zero q p =
    let same : e ≡ d = omega arith in
    let here = marked-load j marks long d 0 blocks h.0 (λ b _ on. out b (omega (arith, on))) in
    rw same (load_same j (marked_all (marked marks blocks) more) (marked marks blocks) d
    (λ b l on. marked_all_below j.block_disks (marked marks blocks) (suc d) more h.1 b (omega (arith, on))) ∙ here)
marked_all-load j marks long d (blocks ∷ more) h out e (suc k) q p =
    let rest = marked_all-load j (marked marks blocks) (let n = length_marked marks blocks in omega (arith, n, long)) (suc d) more h.1
    (λ b l. marked_elsewhere j.block_disks marks d 0 blocks h.0 b (λ on. omega (arith, on, l)) ∙ out b (omega (arith, l))) e k (omega arith) (omega arith) in
    let other = load_same j (marked marks blocks) marks e (λ b l on. marked_elsewhere j.block_disks marks d 0 blocks h.0 b (λ r. omega (arith, r, on, q))) in
    omega (arith, rest, other)

-- The state before round 1. "Before round 1 the suite reads as far as these allow": every reference before the next read is to such a block, and the
-- next read is not.
module _ (j : Job) where
  pub start-within : (start j).next ≤ ref_count j
  unfolding start
  start-within = consumed_most (marked_all none_resident j.carried) j.refs

  pub start-read : (i : ℕ) → i < (start j).next → is_resident (start j).resident (ref_at j i) ≡ true
  unfolding start
  start-read i p = consumed-held (marked_all none_resident j.carried) j.refs i p

  pub start-stops : (start j).next < ref_count j → is_resident (start j).resident (ref_at j (start j).next) ≡ false
  unfolding start
  start-stops p = consumed-stops (marked_all none_resident j.carried) j.refs p

  pub start-round : (start j).round ≡ 0
  unfolding start
  start-round = refl

module _ (j : Job) (sound : Sound j) where
  abbrev marks : List Bool
  marks = (start j).resident

  none-long : block_count j ≤ length none_resident
  unfolding none_resident
  none-long = let few = sound.few_blocks in let e = length-replicate {A = Bool} 512 false in omega (arith, few, e)

  pub start-long : length marks ≡ 512
  unfolding start none_resident
  start-long = length-marked_all none_resident j.carried ∙ length-replicate 512 false

  -- A buffer holds as many blocks as were carried in on its disk,
  pub start-load : (d : ℕ) → d < disk_count j → load j marks d ≡ length (carried_on j d)
  unfolding start
  start-load d p =
      let one = sound.one_list in
      let all = marked_all-load j none_resident none-long 0 j.carried (sound-carried j sound) (λ b _. none-resident b) d d (omega arith) (omega (arith, one)) in
      let none = load-none j d in
      omega (arith, all, none)

  -- those of them, and no others;
  pub start-holds : (d i : ℕ) → d < disk_count j → i < length (carried_on j d) → Block j marks d (carried_at j d i) true
  unfolding start
  start-holds d i p q = record {
    known = sound.of_blocks d i p q;
    on_disk = sound.on_own_disk d i p q;
    mark = marked_all-holds j.block_disks none_resident none-long 0 j.carried (sound-carried j sound) d i (let one = sound.one_list in omega (arith, one)) q;
  }

  pub start_found : (d b : ℕ) → d < disk_count j → Block j marks d b true → (i : ℕ) × (i < length (carried_on j d)) × (carried_at j d i ≡ b)
  unfolding start
  start_found d b p held =
      marked_all_found j.block_disks none_resident 0 j.carried (sound-carried j sound) b d (let on = held.on_disk in omega (arith, on))
      (let one = sound.one_list in omega (arith, one)) (none-resident b) held.mark

  pub start_exactly : (d b : ℕ) → d < disk_count j → b < block_count j → disk_of j b ≡ d
      → (is_resident marks b ≡ true) ↔ ((i : ℕ) × (i < length (carried_on j d)) × (carried_at j d i ≡ b))
  start_exactly d b p known on = (
    λ h. start_found d b p (record { known = known; on_disk = on; mark = h }),
    λ w. ap (is_resident marks) (sym w.2) ∙ (start-holds d w.0 p w.1).mark,
  )

  -- So a job can be played from there.
  pub ready_start : Ready j (start j)
  ready_start = record {
    long = (let e = start-long in let few = sound.few_blocks in omega (arith, e, few));
    within = start-within j;
    loads = λ d l. (let e = start-load d l in let few = sound.few_carried d l in omega (arith, e, few));
  }

-- All is read exactly if every reference is to a block that was carried in.
pub start_all : (j : Job) → ((start j).next ≡ ref_count j) ↔ ((i : ℕ) → i < ref_count j → is_resident (start j).resident (ref_at j i) ≡ true)
start_all j = (
  λ e i l. start-read j i (omega (arith, e)),
  λ h. by_test (ltb (start j).next (ref_count j))
      (λ y. let l = ltb-true (start j).next (ref_count j) y in clash (h (start j).next l) (start-stops j l))
      (λ n. let l = ltb-false (start j).next (ref_count j) n in let w = start-within j in omega (arith, l, w)),
)

-- With every count 0, "buffers are empty at the start" as in document 01, and nothing is read.

marked_all-none : (marks : List Bool) (lists : List (List ℕ)) → ((d : ℕ) → length (get_or lists d []) ≡ 0) → marked_all marks lists ≡ marks
unfolding marked_all marked
marked_all-none marks [] none = refl
marked_all-none marks ([] ∷ more) none = marked_all-none marks more (λ d. none (suc d))
marked_all-none marks ((b ∷ blocks) ∷ more) none = absurd (let n = none 0 in omega (arith, n))

pub start_empty : (j : Job) → ((d : ℕ) → length (carried_on j d) ≡ 0) → start j ≡ record { resident = none_resident; next = 0; round = 0 }
unfolding start
start_empty j none = λ i. record { resident = marks i; next = next i; round = 0 }
  where
    marks : marked_all none_resident j.carried ≡ none_resident
    marks = marked_all-none none_resident j.carried none

    next : consumed (marked_all none_resident j.carried) j.refs ≡ 0
    next = ap (λ (m : List Bool). consumed m j.refs) marks ∙ sym (consumed_is none_resident j.refs 0 (omega arith) (λ i l. absurd (omega arith)) (λ _. none-resident (ref_at j 0)))

-- L9: "A buffer's content is now what was carried in, plus fetches, less discards", at each moment, and at most its slots.
pub buffers : (j : Job) → Sound j → (schedule : Schedule) → ValidFrom j (start j) schedule → (d : ℕ) → d < disk_count j → (k i : ℕ)
    → (load j (play j (start j) (so_far k i schedule)).resident d + total discarded d (so_far k i schedule)
    ≡ length (carried_on j d) + total fetched d (so_far k i schedule))
    × (load j (play j (start j) (so_far k i schedule)).resident d ≤ slots_of j d)
buffers j sound schedule v d p k i =
    let ready = ready_start j sound in
    let carried = start-load j sound d p in
    let r = moment_load j (start j) schedule ready.long v d p (ready.loads d p) k i in
    (omega (arith, r.0, carried), r.1)

-- So it is after k whole rounds.
pub buffers-after : (j : Job) → Sound j → (schedule : Schedule) → ValidFrom j (start j) schedule → (d : ℕ) → d < disk_count j → (k : ℕ)
    → (load j (play j (start j) (take k schedule)).resident d + total discarded d (take k schedule) ≡ length (carried_on j d) + total fetched d (take k schedule))
    × (load j (play j (start j) (take k schedule)).resident d ≤ slots_of j d)
buffers-after j sound schedule v d p k =
    let ready = ready_start j sound in
    let carried = start-load j sound d p in
    let r = rounds-load j (start j) schedule ready.long v d p (ready.loads d p) k in
    (omega (arith, r.0, carried), r.1)
