-- What the two rules choose, as facts: U is nearest among the missing blocks, the min-block is last among the buffered ones, and each choice
-- says what led to it. Proofs about plans use these views and not the rules' text. Assumes nothing.
use mathlib.Core.Path.{◌≡◌, sym, subst}
use mathlib.Core.Bool.{Bool, true, false, cond, not, ◌&&◌}
use mathlib.Core.Option.{Option, none, some}
use Prim.Native.Nat.{ℕ, zero, suc, ◌≤◌, ◌<◌}
use native.Mathlib.Omega.{arith}
use lib.Dec.{eqb, leb, ltb}
use borrow.Author.Tests.{eqb-true, eqb-false, eq-eqb, leb-true, leb-false, ltb-true, ltb-false, not-true}
use Rattle.bits.proofs.Logic.{by_test, clash, and_left, and_right, and_true}
use Rattle.model.specs.Job.{Job, block_count, ref_count, slots_of, disk_of}
use Rattle.model.specs.Playing.{count, State, is_resident, load}
use Rattle.model.specs.Rules.{distance, prefer, best, distance_now, in_buffer, missing, nearest_missing, min_block, slot_empty, Choice, into_empty, over_min_block, min_block_sooner, waits, none_missing, Rule, short_full, short_of, short, some_later, unless_later, sparing}
use Rattle.model.specs.Valid.{Block}
use Rattle.model.proofs.Counting.{count-zero, count_none, count-some}

-- The best number below n: nobody passes the test, or the winner is related to all that pass.
pub data Best (test : ℕ → Bool) (R : ℕ → ℕ → Type 0) (n : ℕ) : Option ℕ → Type 0 where
  nobody : ((b : ℕ) → b < n → test b ≡ false) → Best test R n none
  winner : (w : ℕ) → w < n → test w ≡ true → ((b : ℕ) → b < n → test b ≡ true → R w b) → Best test R n (some w)

-- an order that `before` decides between a number and one below it
record Decides (before : ℕ → ℕ → Bool) (R : ℕ → ℕ → Type 0) : Type 0 where
  self : (n : ℕ) → R n n
  chain : (a b c : ℕ) → R a b → R b c → R a c
  yea : (n c : ℕ) → c < n → before n c ≡ true → R n c
  nay : (n c : ℕ) → c < n → before n c ≡ false → R c n

-- how a fact about each number below n becomes one about each below n + 1
below_suc : (P : ℕ → Type 0) (n : ℕ) → ((b : ℕ) → b < n → P b) → P n → (b : ℕ) → b < suc n → P b
below_suc P n h p b l =
    by_test (eqb b n)
    (λ e. subst P (sym (eqb-true b n e)) p)
    (λ e. h b (lib.Arith.lt_of_le-ne (omega arith) (eqb-false b n e)))

best_view : (test : ℕ → Bool) (before : ℕ → ℕ → Bool) (R : ℕ → ℕ → Type 0) → Decides before R → (n : ℕ) → Best test R n (best test before n)
unfolding best
best_view test before R o zero = nobody (λ b l. absurd (omega arith))
best_view test before R o (suc n) = step (best test before n) (best_view test before R o n)
  where
    keep : (w : ℕ) → w < n → test w ≡ true → ((b : ℕ) → b < n → test b ≡ true → R w b) → test n ≡ true → Best test R (suc n) (cond (before n w) (some n) (some w))
    keep w l tw all tn =
        by_test (before n w)
        (λ e. rw e (winner n (omega arith) tn (below_suc (λ b. test b ≡ true → R n b) n (λ b p t. o.chain n w b (o.yea n w l e) (all b p t)) (λ _. o.self n))))
        (λ e. rw e (winner w (omega arith) tw (below_suc (λ b. test b ≡ true → R w b) n all (λ _. o.nay n w l e))))

    step : (x : Option ℕ) → Best test R n x → Best test R (suc n) (cond (test n) (prefer before n x) x)
    step x (nobody h) =
        by_test (test n)
        (λ e. rw e (winner n (omega arith) e (below_suc (λ b. test b ≡ true → R n b) n (λ b l t. clash t (h b l)) (λ _. o.self n))))
        (λ e. rw e (nobody (below_suc (λ b. test b ≡ false) n h e)))
    step x (winner w l t h) =
        by_test (test n)
        (λ e. rw e (keep w l t h e))
        (λ e. rw e (winner w (omega arith) t (below_suc (λ b. test b ≡ true → R w b) n h (λ y. clash y e))))

-- U of disk d: a missing block that is referenced again, before every other missing block.
pub record Nearest (j : Job) (s : State) (d u : ℕ) : Type 0 where
  pub block : Block j s.resident d u false
  pub due : distance_now j s u < ref_count j
  pub least : (b : ℕ) → b < block_count j → disk_of j b ≡ d → is_resident s.resident b ≡ false → distance_now j s u ≤ distance_now j s b

-- no missing block of disk d is referenced again
abbrev pub NoneDue : Job → State → ℕ → Type 0
NoneDue j s d = (b : ℕ) → b < block_count j → disk_of j b ≡ d → is_resident s.resident b ≡ false → ref_count j ≤ distance_now j s b

-- The min-block v of disk d: no buffered block has a greater distance, and of those with the same it has the highest number.
pub record Last (j : Job) (s : State) (d v : ℕ) : Type 0 where
  pub block : Block j s.resident d v true
  pub most : (b : ℕ) → b < block_count j → disk_of j b ≡ d → is_resident s.resident b ≡ true
      → (distance_now j s b ≤ distance_now j s v) × (distance_now j s b ≡ distance_now j s v → b ≤ v)

pub data NearestView (j : Job) (s : State) (d : ℕ) : Option ℕ → Type 0 where
  none_due : NoneDue j s d → NearestView j s d none
  nearest : (u : ℕ) → Nearest j s d u → NearestView j s d (some u)

pub nearest_view : (j : Job) (s : State) (d : ℕ) → NearestView j s d (nearest_missing j s d)
unfolding nearest_missing
nearest_view j s d = step _ (best_view test (λ b c. ltb (distance_now j s b) (distance_now j s c)) (λ a b. distance_now j s a ≤ distance_now j s b) order (block_count j))
  where
    test : ℕ → Bool
    test b = missing j s d b && ltb (distance_now j s b) (ref_count j)

    order : Decides (λ b c. ltb (distance_now j s b) (distance_now j s c)) (λ a b. distance_now j s a ≤ distance_now j s b)
    order = record {
      self = λ n. omega arith;
      chain = λ a b c p q. omega arith;
      yea = λ n c l e. (let p = ltb-true (distance_now j s n) (distance_now j s c) e in omega (arith, p));
      nay = λ n c l e. ltb-false _ _ e;
    }

    out : (b : ℕ) → disk_of j b ≡ d → is_resident s.resident b ≡ false → missing j s d b ≡ true
    out b on e = rw (eq-eqb (disk_of j b) d on, e)

    step : (x : Option ℕ) → Best test (λ a b. distance_now j s a ≤ distance_now j s b) (block_count j) x → NearestView j s d x
    step x (nobody h) = none_due λ b l on e.
        by_test (ltb (distance_now j s b) (ref_count j))
        (λ t. clash (and_true (out b on e) t) (h b l))
        (λ f. ltb-false _ _ f)
    step x (winner u l t h) =
        let m = and_left (missing j s d u) (ltb (distance_now j s u) (ref_count j)) t in
        let due : distance_now j s u < ref_count j = ltb-true _ _ (and_right (missing j s d u) (ltb (distance_now j s u) (ref_count j)) t) in
        nearest u (record {
          block = record {
            known = l;
            on_disk = eqb-true _ _ (and_left (eqb (disk_of j u) d) (not (is_resident s.resident u)) m);
            mark = not-true _ (and_right (eqb (disk_of j u) d) (not (is_resident s.resident u)) m);
          };
          due = due;
          least = λ b k on e.
              by_test (ltb (distance_now j s b) (ref_count j))
              (λ f. h b k (and_true (out b on e) f))
              (λ f. (let p = ltb-false (distance_now j s b) (ref_count j) f in omega (arith, p, due)));
        })

pub data LastView (j : Job) (s : State) (d : ℕ) : Option ℕ → Type 0 where
  empty : load j s.resident d ≡ 0 → LastView j s d none
  last : (v : ℕ) → Last j s d v → LastView j s d (some v)

pub last_view : (j : Job) (s : State) (d : ℕ) → LastView j s d (min_block j s d)
unfolding min_block load
last_view j s d = step _ (best_view (in_buffer j s d) (λ b c. leb (distance_now j s c) (distance_now j s b)) order_of order (block_count j))
  where
    order_of : ℕ → ℕ → Type 0
    order_of a b = (distance_now j s b ≤ distance_now j s a) × (distance_now j s b ≡ distance_now j s a → b ≤ a)

    order : Decides (λ b c. leb (distance_now j s c) (distance_now j s b)) order_of
    order = record {
      self = λ n. (omega arith, λ e. omega arith);
      chain = λ a b c p q. (
        (let x = p.0 in let y = q.0 in omega (arith, x, y)),
        λ e. (let x = p.0 in let y = q.0 in
            let m = p.1 (omega (arith, x, y)) in
            let n = q.1 (omega (arith, x, y)) in
            omega (arith, m, n)),
      );
      yea = λ n c l e. (leb-true _ _ e, λ _. omega arith);
      nay = λ n c l e. (let p = leb-false (distance_now j s c) (distance_now j s n) e in (omega (arith, p), λ q. absurd (omega (arith, p, q))));
    }

    step : (x : Option ℕ) → Best (in_buffer j s d) order_of (block_count j) x → LastView j s d x
    step x (nobody h) = empty (count-zero _ (block_count j) h)
    step x (winner v l t h) = last v (record {
      block = record {
        known = l;
        on_disk = eqb-true _ _ (and_left (eqb (disk_of j v) d) (is_resident s.resident v) t);
        mark = and_right (eqb (disk_of j v) d) (is_resident s.resident v) t;
      };
      most = λ b k on e. h b k (rw (eq-eqb (disk_of j b) d on, e));
    })

-- What a rule chooses, and why: `Waits` is what the rule may wait for, and `Fit` what it asks beyond the short rule before it replaces.
pub data View (j : Job) (s : State) (d : ℕ) (Waits : Type 0) (Fit : ℕ → ℕ → Type 0) : Choice → Type 0 where
  nothing : NoneDue j s d → View j s d Waits Fit none_missing
  into : (u : ℕ) → Nearest j s d u → load j s.resident d < slots_of j d → View j s d Waits Fit (into_empty u)
  sooner : (u v : ℕ) → Nearest j s d u → slots_of j d ≤ load j s.resident d → Last j s d v → distance_now j s v < distance_now j s u
      → View j s d Waits Fit min_block_sooner
  waiting : Waits → View j s d Waits Fit waits
  over : (u v : ℕ) → Nearest j s d u → slots_of j d ≤ load j s.resident d → Last j s d v → distance_now j s u ≤ distance_now j s v → Fit u v
      → View j s d Waits Fit (over_min_block u v)

-- The short rule never waits, and asks nothing more.
abbrev pub ShortView : Job → State → ℕ → Choice → Type 0
ShortView j s d = View j s d ⊥ (λ u v. Unit {0})

pub short_view : (j : Job) (s : State) (d : ℕ) → 1 ≤ slots_of j d → ShortView j s d (short j s d)
unfolding short
short_view j s d some-slot = step _ (nearest_view j s d)
  where
    full : (u : ℕ) → Nearest j s d u → slots_of j d ≤ load j s.resident d → (x : Option ℕ) → LastView j s d x → ShortView j s d (short_full j s u x)
    full u n f x (empty e) = absurd (omega (arith, e))
    full u n f x (last v l) =
        by_test (ltb (distance_now j s v) (distance_now j s u))
        (λ e. rw e (sooner u v n f l (ltb-true _ _ e)))
        (λ e. rw e (over u v n f l (ltb-false _ _ e) tt))

    step : (x : Option ℕ) → NearestView j s d x → ShortView j s d (short_of j s d x)
    step x (none_due h) = nothing h
    step x (nearest u n) =
        by_test (slot_empty j s d)
        (λ e. rw e (into u n (ltb-true _ _ e)))
        (λ e. rw e (full u n (ltb-false _ _ e) (min_block j s d) (last_view j s d)))

-- The sparing rule replaces the min-block v only where no buffered block has a later distance than v, counted from U's reference on.
abbrev pub NoLater : Job → State → ℕ → ℕ → ℕ → Type 0
NoLater j s d u v = (b : ℕ) → b < block_count j → disk_of j b ≡ d → is_resident s.resident b ≡ true
    → distance j.refs (distance_now j s u) b ≤ distance j.refs (distance_now j s u) v

-- It waits where some buffered block has.
pub record Later (j : Job) (s : State) (d : ℕ) : Type 0 where
  pub u : ℕ
  pub v : ℕ
  pub b : ℕ
  pub nearest : Nearest j s d u
  pub last : Last j s d v
  pub block : Block j s.resident d b true
  pub later : distance j.refs (distance_now j s u) v < distance j.refs (distance_now j s u) b

abbrev pub SparingView : Job → State → ℕ → Choice → Type 0
SparingView j s d = View j s d (Later j s d) (NoLater j s d)

module _ (j : Job) (s : State) (d u v : ℕ) where
  abbrev later_test : ℕ → Bool
  later_test b = in_buffer j s d b && ltb (distance j.refs (distance_now j s u) v) (distance j.refs (distance_now j s u) b)

  pub no_later : some_later j s d u v ≡ false → NoLater j s d u v
  unfolding some_later
  no_later e b l on r =
      let none-counted : count later_test (block_count j) ≡ 0 = (let p = ltb-false 0 (count later_test (block_count j)) e in omega (arith, p)) in
      by_test (ltb (distance j.refs (distance_now j s u) v) (distance j.refs (distance_now j s u) b))
      (λ y. clash (and_true {a = in_buffer j s d b} (rw (eq-eqb (disk_of j b) d on, r)) y) (count_none later_test (block_count j) none-counted b l))
      (λ f. ltb-false _ _ f)

  pub one_later : some_later j s d u v ≡ true → (b : ℕ) × Block j s.resident d b true × (distance j.refs (distance_now j s u) v < distance j.refs (distance_now j s u) b)
  unfolding some_later
  one_later e =
      let w = count-some later_test (block_count j) (ltb-true 0 (count later_test (block_count j)) e) in
      let b = w.0 in
      let held = and_left (in_buffer j s d b) (ltb (distance j.refs (distance_now j s u) v) (distance j.refs (distance_now j s u) b)) w.2 in (
        b,
        record {
          known = w.1;
          on_disk = eqb-true _ _ (and_left (eqb (disk_of j b) d) (is_resident s.resident b) held);
          mark = and_right (eqb (disk_of j b) d) (is_resident s.resident b) held;
        },
        ltb-true _ _ (and_right (in_buffer j s d b) (ltb (distance j.refs (distance_now j s u) v) (distance j.refs (distance_now j s u) b)) w.2),
      )

pub sparing_view : (j : Job) (s : State) (d : ℕ) → 1 ≤ slots_of j d → SparingView j s d (sparing j s d)
unfolding sparing unless_later
sparing_view j s d some-slot = step _ (short_view j s d some-slot)
  where
    step : (c : Choice) → ShortView j s d c → SparingView j s d (unless_later j s d c)
    step c (nothing h) = nothing h
    step c (into u n l) = into u n l
    step c (sooner u v n f l p) = sooner u v n f l p
    step c (waiting w) = absurd w
    step c (over u v n f l p _) =
        by_test (some_later j s d u v)
        (λ e. let w = one_later j s d u v e in rw e (waiting (record { u = u; v = v; b = w.0; nearest = n; last = l; block = w.1; later = w.2 })))
        (λ e. rw e (over u v n f l p (no_later j s d u v e)))

-- What both rules have in common.
abbrev pub RuleView : Job → State → ℕ → Choice → Type 0
RuleView j s d = View j s d (Later j s d) (λ u v. Unit {0})

abbrev pub Lawful : Rule → Type 0
Lawful rule = (j : Job) (s : State) (d : ℕ) → 1 ≤ slots_of j d → RuleView j s d (rule j s d)

common : {j : Job} {s : State} {d : ℕ} {W : Type 0} {F : ℕ → ℕ → Type 0} {c : Choice} → (W → Later j s d) → View j s d W F c → RuleView j s d c
common f (nothing h) = nothing h
common f (into u n l) = into u n l
common f (sooner u v n k l p) = sooner u v n k l p
common f (waiting w) = waiting (f w)
common f (over u v n k l p _) = over u v n k l p tt

pub short_lawful : Lawful short
short_lawful j s d h = common (λ w. absurd w) (short_view j s d h)

pub sparing_lawful : Lawful sparing
sparing_lawful j s d h = common (λ w. w) (sparing_view j s d h)
