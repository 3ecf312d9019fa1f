-- The blocks of a disk that are referenced in [p, q), and those of them that are missing: the pigeonhole between them and the slots, and what
-- reading on and one action do to them. Assumes nothing.
use mathlib.Core.Path.{◌≡◌, sym, ap, ◌∙◌}
use mathlib.Core.Bool.{Bool, true, false, not, ◌&&◌}
use mathlib.Core.List.{List}
use Prim.Native.Nat.{ℕ, suc, ◌+◌, ◌≤◌, ◌<◌}
use native.Mathlib.Omega.{arith}
use lib.Dec.{eqb, ltb, leb}
use borrow.Author.Tests.{eqb-true, eq-eqb, leb-true, leb-false, ltb-true, lt-ltb, not-true}
use Rattle.bits.proofs.Logic.{by_test, clash, and_left, and_right, and_true, and_false_right}
use Rattle.model.specs.Job.{Job, block_count, ref_count, disk_of}
use Rattle.model.specs.Playing.{count, Action, idle, fetch, replace, is_resident, load, act, fetched}
use Rattle.model.specs.Rules.{distance}
use Rattle.model.proofs.Counting.{count_mono, count_same, count_but_one, count-drop, count_split, count-zero, count_none}
use Rattle.model.proofs.Distances.{distance_mono, distance_same}
use Rattle.model.proofs.Buffers.{fetch_kept, still_out}

-- block b of disk d is referenced in [p, q)
abbrev wanted : Job → ℕ → ℕ → ℕ → ℕ → Bool
wanted j d p q b = eqb (disk_of j b) d && ltb (distance j.refs p b) q

pub want : Job → ℕ → ℕ → ℕ → ℕ
want j d p q = count (wanted j d p q) (block_count j)

-- and is not in the buffer
pub miss : Job → ℕ → ℕ → ℕ → List Bool → ℕ
miss j d p q marks = count (λ b. wanted j d p q b && not (is_resident marks b)) (block_count j)

module _ (j : Job) (d p q : ℕ) where
  -- what makes a block count, and what it says
  wanted_in : (b : ℕ) → disk_of j b ≡ d → distance j.refs p b < q → wanted j d p q b ≡ true
  wanted_in b on l = and_true (eq-eqb _ _ on) (lt-ltb _ _ l)

  wanted_disk : (b : ℕ) → wanted j d p q b ≡ true → disk_of j b ≡ d
  wanted_disk b e = eqb-true _ _ (and_left (eqb (disk_of j b) d) (ltb (distance j.refs p b) q) e)

  wanted_due : (b : ℕ) → wanted j d p q b ≡ true → distance j.refs p b < q
  wanted_due b e = ltb-true _ _ (and_right (eqb (disk_of j b) d) (ltb (distance j.refs p b) q) e)

  module _ (marks : List Bool) where
    abbrev missed : ℕ → Bool
    missed b = wanted j d p q b && not (is_resident marks b)

    missed_in : (b : ℕ) → disk_of j b ≡ d → distance j.refs p b < q → is_resident marks b ≡ false → missed b ≡ true
    missed_in b on l out = and_true (wanted_in b on l) (ap not out)

    missed_disk : (b : ℕ) → missed b ≡ true → disk_of j b ≡ d
    missed_disk b e = wanted_disk b (and_left (wanted j d p q b) (not (is_resident marks b)) e)

    missed_due : (b : ℕ) → missed b ≡ true → distance j.refs p b < q
    missed_due b e = wanted_due b (and_left (wanted j d p q b) (not (is_resident marks b)) e)

    missed_out : (b : ℕ) → missed b ≡ true → is_resident marks b ≡ false
    missed_out b e = not-true _ (and_right (wanted j d p q b) (not (is_resident marks b)) e)

    -- nothing is missed where every missing block of the disk is referenced only from q on; and the other way round
    pub miss_zero : ((b : ℕ) → b < block_count j → disk_of j b ≡ d → is_resident marks b ≡ false → q ≤ distance j.refs p b) → miss j d p q marks ≡ 0
    unfolding miss
    miss_zero h = count-zero missed (block_count j) λ b l.
        by_test (missed b)
        (λ e. (let k = h b l (missed_disk b e) (missed_out b e) in let m = missed_due b e in absurd (omega (arith, k, m))))
        (λ f. f)

    pub miss_none : miss j d p q marks ≡ 0 → (b : ℕ) → b < block_count j → disk_of j b ≡ d → distance j.refs p b < q → is_resident marks b ≡ true
    unfolding miss
    miss_none e b l on k =
        by_test (is_resident marks b)
        (λ y. y)
        (λ f. clash (missed_in b on k f) (count_none missed (block_count j) e b l))

    -- The pigeonhole: what is wanted is in the buffer or missed,
    pub pigeonhole : want j d p q ≤ load j marks d + miss j d p q marks
    unfolding want miss load
    pigeonhole =
        let split = count_split (wanted j d p q) (is_resident marks) (block_count j) in
        let held = count_mono (λ b. wanted j d p q b && is_resident marks b) (λ b. eqb (disk_of j b) d && is_resident marks b) (block_count j)
        (λ b l e. and_true (eq-eqb _ _ (wanted_disk b (and_left (wanted j d p q b) (is_resident marks b) e))) (and_right (wanted j d p q b) (is_resident marks b) e)) in
        omega (arith, split, held)

    -- and where every buffered block of the disk is wanted, both sides are equal.
    pub pigeonhole_full : ((b : ℕ) → b < block_count j → disk_of j b ≡ d → is_resident marks b ≡ true → distance j.refs p b < q) → load j marks d + miss j d p q marks ≤ want j d p q
    unfolding want miss load
    pigeonhole_full h =
        let split = count_split (wanted j d p q) (is_resident marks) (block_count j) in
        let held = count_mono (λ b. eqb (disk_of j b) d && is_resident marks b) (λ b. wanted j d p q b && is_resident marks b) (block_count j)
        (λ b l e. (let on = eqb-true _ _ (and_left (eqb (disk_of j b) d) (is_resident marks b) e) in
        let r = and_right (eqb (disk_of j b) d) (is_resident marks b) e in
        and_true (wanted_in b on (h b l on r)) r)) in
        omega (arith, split, held)

-- More is wanted from an earlier position.
pub want_mono : (j : Job) (d p r q : ℕ) → p ≤ r → r ≤ ref_count j → want j d r q ≤ want j d p q
unfolding want
want_mono j d p r q h l = count_mono _ _ (block_count j) λ b k e.
    wanted_in j d p q b (wanted_disk j d r q b e)
    (let m = distance_mono j.refs p r b h l in let n = wanted_due j d r q b e in omega (arith, m, n))

-- Shift: from p to r nothing changes where every missing block of the disk is referenced only from r on.
pub miss_shift : (j : Job) (d p r q : ℕ) (marks : List Bool) → p ≤ r → r ≤ ref_count j
    → ((b : ℕ) → b < block_count j → disk_of j b ≡ d → is_resident marks b ≡ false → r ≤ distance j.refs p b) → miss j d r q marks ≡ miss j d p q marks
unfolding miss
miss_shift j d p r q marks h l far = count_same _ _ (block_count j) λ b k.
    by_test (eqb (disk_of j b) d)
    (λ on. by_test (is_resident marks b)
    (λ y. and_false_right (wanted j d r q b) (ap not y) ∙ sym (and_false_right (wanted j d p q b) (ap not y)))
    (λ f. let same = distance_same j.refs p r b h (far b k (eqb-true _ _ on) f) l in rw same))
    (λ off. rw off)

-- One action lowers what is missed by at most what it fetches.
pub miss_act : (j : Job) (d p q : ℕ) (marks : List Bool) (a : Action) → miss j d p q marks ≤ fetched a + miss j d p q (act marks a)
unfolding miss act
miss_act j d p q marks idle = omega arith
miss_act j d p q marks (fetch x) =
    let m = count_but_one (missed j d p q marks) (missed j d p q (act marks (fetch x))) x (block_count j)
    (λ b l n e. missed_in j d p q (act marks (fetch x)) b (missed_disk j d p q marks b e) (missed_due j d p q marks b e) (fetch_kept marks x b n ∙ missed_out j d p q marks b e)) in
    omega (arith, m)
miss_act j d p q marks (replace x z) =
    let m = count_but_one (missed j d p q marks) (missed j d p q (act marks (replace x z))) x (block_count j)
    (λ b l n e. missed_in j d p q (act marks (replace x z)) b (missed_disk j d p q marks b e) (missed_due j d p q marks b e) (still_out marks x z b n (missed_out j d p q marks b e))) in
    omega (arith, m)

-- Nothing more is missed where no block leaves, and fewer where a missed one enters.
pub miss_less : (j : Job) (d p q u : ℕ) (marks after : List Bool) → u < block_count j → disk_of j u ≡ d → distance j.refs p u < q
    → is_resident marks u ≡ false → is_resident after u ≡ true
    → ((b : ℕ) → b < block_count j → disk_of j b ≡ d → distance j.refs p b < q → is_resident after b ≡ false → is_resident marks b ≡ false)
    → suc (miss j d p q after) ≤ miss j d p q marks
unfolding miss
miss_less j d p q u marks after known on due out now stay =
    count-drop (missed j d p q after) (missed j d p q marks) u (block_count j) known
    (missed_in j d p q marks u on due out)
    (and_false_right (wanted j d p q u) (ap not now))
    (λ b l e. missed_in j d p q marks b (missed_disk j d p q after b e) (missed_due j d p q after b e)
    (stay b l (missed_disk j d p q after b e) (missed_due j d p q after b e) (missed_out j d p q after b e)))

-- a missing block that is wanted is missed
pub miss_some : (j : Job) (d p q : ℕ) (marks : List Bool) (u : ℕ) → u < block_count j → disk_of j u ≡ d → distance j.refs p u < q → is_resident marks u ≡ false → 1 ≤ miss j d p q marks
unfolding miss
miss_some j d p q marks u known on due out =
    by_test (leb 1 (miss j d p q marks))
    (λ e. leb-true _ _ e)
    (λ e. let few = leb-false 1 (miss j d p q marks) e in
    clash (miss_none j d p q marks (omega (arith, few)) u known on due) out)

-- The blocks of the disk decide what is missed.
pub miss_same : (j : Job) (d p q : ℕ) (m n : List Bool) → ((b : ℕ) → b < block_count j → disk_of j b ≡ d → is_resident m b ≡ is_resident n b) → miss j d p q m ≡ miss j d p q n
unfolding miss
miss_same j d p q m n h = count_same _ _ (block_count j) λ b l.
    by_test (eqb (disk_of j b) d)
    (λ on. rw (h b l (eqb-true _ _ on)))
    (λ off. rw off)
