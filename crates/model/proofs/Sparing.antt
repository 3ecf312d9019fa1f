-- The sparing plan is unbeaten in fetches on every disk. The plan is compared with any schedule that can be played, by position and not by round:
-- `charge q` is the number of fetches that the schedule has made on the disk when it first reads up to q. The plan's fetches so far, with what it
-- misses up to q, never exceed that. Assumes nothing.
use mathlib.Core.Path.{◌≡◌, refl, sym, ap, subst}
use mathlib.Core.Bool.{Bool, true, false, cond}
use mathlib.Core.List.{List, [], ◌∷◌, map}
use Prim.Native.Nat.{ℕ, zero, suc, ◌+◌, ◌≤◌, ◌<◌}
use native.Mathlib.Omega.{arith}
use lib.Dec.{ltb, leb}
use lib.ListN.{get_or}
use borrow.Author.Tests.{leb-true, leb-false, le-leb, lt-leb}
use Rattle.bits.proofs.Logic.{by_test}
use Rattle.model.specs.Job.{Sound, Job, disk_count, block_count, ref_count, slots_of, disk_of}
use Rattle.model.specs.Playing.{Action, idle, fetch, replace, Schedule, State, is_resident, load, act, play_round, fetched, total, fetches}
use Rattle.model.specs.Rules.{distance, distance_now, Choice, action, sparing}
use Rattle.model.specs.Plans.{plan_from}
use Rattle.model.specs.Valid.{Round, ValidFrom}
use Rattle.model.proofs.Distances.{distance_from, distance_same}
use Rattle.model.proofs.Choosing.{Nearest, Last, nothing, into, sooner, waiting, over, SparingView, sparing_view, sparing_lawful}
use Rattle.model.proofs.Missing.{want, miss, miss_zero, miss_some, pigeonhole, pigeonhole_full, want_mono, miss_shift}
use Rattle.model.proofs.Effects.{into_clear, into_gain, over_clear, over_gain, over_tight}
use Rattle.model.proofs.Rounds.{ready_after, miss_round, miss_entered, miss_read}
use Rattle.model.specs.Valid.{Ready}
use Rattle.model.proofs.Plans.{actions_of, actions_at, plan_round}

module _ (j : Job) (d : ℕ) where
  -- The fetches on disk d up to and with the first round whose reading ends at q or later; none where the schedule starts there.
  charge : (s : State) (schedule : Schedule) → ValidFrom j s schedule → ℕ → ℕ
  unfolding ValidFrom
  charge s [] v q = 0
  charge s (actions ∷ more) v q = cond (leb q s.next) 0 (fetched (get_or actions d idle) + charge v.0 more v.2 q)

  charge_most : (s : State) (schedule : Schedule) (v : ValidFrom j s schedule) (q : ℕ) → charge s schedule v q ≤ total fetched d schedule
  unfolding charge total
  charge_most s [] v q = omega arith
  charge_most s (actions ∷ more) v q =
      let ih = charge_most v.0 more v.2 q in
      by_test (leb q s.next) (λ e. rw e (omega arith)) (λ e. rw e (omega (arith, ih)))

  -- nothing is missed up to a position that has been read
  none_behind : (p q : ℕ) (marks : List Bool) → q ≤ p → miss j d p q marks ≡ 0
  none_behind p q marks l = miss_zero j d p q marks λ b k on out. (let f = distance_from j.refs p b in omega (arith, f))

  -- what a schedule misses up to q it has yet to fetch
  charge_reach : (s : State) (schedule : Schedule) (v : ValidFrom j s schedule) (q : ℕ) → q ≤ ref_count j → miss j d s.next q s.resident ≤ charge s schedule v q
  unfolding charge ValidFrom
  charge_reach s [] v q l = let z = none_behind s.next q s.resident (omega (arith, v)) in omega (arith, z)
  charge_reach s (actions ∷ more) v q l =
      let ih = charge_reach v.0 more v.2 q l in
      let one = miss_entered j s actions v.0 v.1 d s.next q in
      let same = miss_read j s actions v.0 v.1 d q in
      by_test (leb q s.next)
      (λ e. let z = none_behind s.next q s.resident (leb-true _ _ e) in omega (arith, z))
      (λ e. rw e (omega (arith, ih, one, same)))

  -- between two positions it fetches what is wanted there beyond the slots
  charge_between : d < disk_count j → (s : State) (schedule : Schedule) (v : ValidFrom j s schedule) (u q : ℕ) → s.next ≤ u → u < q → q ≤ ref_count j
      → charge s schedule v (suc u) + want j d u q ≤ charge s schedule v q + slots_of j d
  unfolding charge ValidFrom
  charge_between known s [] v u q a l w = absurd (omega (arith, v))
  charge_between known s (actions ∷ more) v u q a l w =
      let t = v.0 in
      let r = v.1 in
      let e₁ : leb (suc u) s.next ≡ false = lt-leb (suc u) s.next (omega arith) in
      let e₂ : leb q s.next ≡ false = lt-leb q s.next (omega arith) in
      by_test (leb t.next u)
      (λ e. let ih = charge_between known t more v.2 u q (leb-true _ _ e) l w in rw (e₁, e₂) (omega (arith, ih)))
      (λ e. let past = leb-false t.next u e in
      let none = charge_past t more v.2 (suc u) (omega (arith, past)) in
      let reach = charge_reach t more v.2 q w in
      let same = miss_read j s actions t r d q in
      let hole = pigeonhole j d s.next q t.resident in
      let slots = r.a2 d known in
      let mono = want_mono j d s.next u q a (omega arith) in
      rw (e₁, e₂) (omega (arith, none, reach, same, hole, slots, mono)))
    where
      charge_past : (t : State) (schedule : Schedule) (v : ValidFrom j t schedule) (q : ℕ) → q ≤ t.next → charge t schedule v q ≡ 0
      charge_past t [] v q l = refl
      charge_past t (actions ∷ more) v q l = rw (le-leb q t.next l)

-- The plan's fetches f so far, at position p with these marks.
record Spares (j : Job) (d : ℕ) (F : ℕ → ℕ) (f p : ℕ) (marks : List Bool) : Type 0 where
  all : f ≤ F (ref_count j)
  up_to : (q : ℕ) → q ≤ ref_count j → 1 ≤ miss j d p q marks → f + miss j d p q marks ≤ F q

-- One action of the plan.
module _ (j : Job) (s : State) (d : ℕ) (ready : Ready j s) (F : ℕ → ℕ) (between : (u q : ℕ) → s.next ≤ u → u < q → q ≤ ref_count j → F (suc u) + want j d u q ≤ F q + slots_of j d)
    (f : ℕ) (spares : Spares j d F f s.next s.resident) where
  -- U is missed, so the schedule still has to fetch it
  u_missed : (u q : ℕ) → Nearest j s d u → distance_now j s u < q → q ≤ ref_count j → suc f ≤ F q
  u_missed u q n l w =
      let one = miss_some j d s.next q s.resident u n.block.known n.block.on_disk l n.block.mark in
      let k = spares.up_to q w one in
      omega (arith, one, k)

  spares_into : (u : ℕ) → Nearest j s d u → Spares j d F (suc f) s.next (act s.resident (fetch u))
  spares_into u n = record {
    all = u_missed u (ref_count j) n n.due (omega arith);
    up_to = λ q w some.
        by_test (leb q (distance_now j s u))
        (λ e. let c = into_clear j s d q u ready.long n (leb-true _ _ e) in absurd (omega (arith, c)))
        (λ e. let g = into_gain j s d q u ready.long n (leb-false _ _ e) in
        let k = spares.up_to q w (omega (arith, g)) in
        omega (arith, g, k));
  }

  -- the case for which the sparing rule waits: beyond the min-block's reference every buffered block is wanted, counted from U on
  over_beyond : (u v : ℕ) → Nearest j s d u → slots_of j d ≤ load j s.resident d → Last j s d v → distance_now j s u ≤ distance_now j s v
      → ((b : ℕ) → b < block_count j → disk_of j b ≡ d → is_resident s.resident b ≡ true → distance j.refs (distance_now j s u) b ≤ distance j.refs (distance_now j s u) v)
      → d < disk_count j → (q : ℕ) → q ≤ ref_count j → distance_now j s v < q → suc f + miss j d s.next q (act s.resident (replace u v)) ≤ F q
  over_beyond u v n full l p fit known q w c =
      let at = distance_now j s u in
      let from = distance_from j.refs s.next u in
      let due = n.due in
      let v_same = distance_same j.refs s.next at v from p (omega (arith, due)) in
      let wanted = pigeonhole_full j d at q s.resident (λ b k on held. (let m = fit b k on held in omega (arith, m, v_same, c))) in
      let shift = miss_shift j d s.next at q s.resident from (omega (arith, due)) (λ b k on out. n.least b k on out) in
      let bound = between at q from (omega (arith, p, c)) w in
      let first = u_missed u (suc at) n (omega arith) due in
      let tight = over_tight j s d q u ready.long n v full l p c in
      let hole = pigeonhole j d s.next q s.resident in
      let loads = ready.loads d known in
      omega (arith, wanted, shift, bound, first, tight, hole, loads, full)

  spares_act : d < disk_count j → (c : Choice) → SparingView j s d c → Spares j d F (f + fetched (action c)) s.next (act s.resident (action c))
  unfolding act
  spares_act known c (nothing h) = let e : f + 0 ≡ f = omega arith in rw e spares
  spares_act known c (into u n l) = let e : f + 1 ≡ suc f = omega arith in rw e (spares_into u n)
  spares_act known c (sooner u v n k l p) = let e : f + 0 ≡ f = omega arith in rw e spares
  spares_act known c (waiting w) = let e : f + 0 ≡ f = omega arith in rw e spares
  spares_act known c (over u v n k l p fit) = let e : f + 1 ≡ suc f = omega arith in rw e (record {
    all = u_missed u (ref_count j) n n.due (omega arith);
    up_to = λ q w some.
        by_test (leb q (distance_now j s u))
        (λ e. let x = over_clear j s d q u ready.long n v k l (leb-true _ _ e) p in absurd (omega (arith, x)))
        (λ e. by_test (leb q (distance_now j s v))
        (λ e₂. let g = over_gain j s d q u ready.long n v k l (leb-false _ _ e) (leb-true _ _ e₂) in
        let m = spares.up_to q w (omega (arith, g)) in
        omega (arith, g, m))
        (λ e₂. over_beyond u v n k l p fit known q w (leb-false _ _ e₂)));
  })

-- A round of the plan, and the plan.

spares_round : (j : Job) (d : ℕ) (F : ℕ → ℕ) (f : ℕ) (s : State) (actions : List Action) (t : State) → Round j s actions t
    → Spares j d F f s.next (act s.resident (get_or actions d idle)) → Spares j d F f t.next t.resident
spares_round j d F f s actions t r h = record {
  all = h.all;
  up_to = λ q w some.
      (let a = miss_round j s actions t r d s.next q in
      let b = miss_read j s actions t r d q in
      let k = h.up_to q w (omega (arith, a, b)) in
      omega (arith, a, b, k));
}

plan_spares : (j : Job) → Sound j → (d : ℕ) → d < disk_count j → (F : ℕ → ℕ) (most : ℕ) (s : State) → Ready j s
    → ((u q : ℕ) → s.next ≤ u → u < q → q ≤ ref_count j → F (suc u) + want j d u q ≤ F q + slots_of j d)
    → (f : ℕ) → Spares j d F f s.next s.resident → f + total fetched d (map (map action) (plan_from sparing j most s)) ≤ F (ref_count j)
unfolding plan_from total actions_of
plan_spares j sound d known F zero s ready between f h = let a = h.all in omega (arith, a)
plan_spares j sound d known F (suc most) s ready between f h =
    let actions = actions_of sparing j s in
    let t = play_round j s actions in
    let r = plan_round sparing sparing_lawful j sound s ready in
    let a = actions_at sparing j s d known in
    let acted = spares_act j s d ready F between f h known (sparing j s d) (sparing_view j s d (sound.some_slot d known)) in
    let g = f + fetched (action (sparing j s d)) in
    let after = spares_round j d F g s actions t r (subst (λ (x : Action). Spares j d F g s.next (act s.resident x)) (sym a) acted) in
    let onward = r.onward in
    let ih = plan_spares j sound d known F most t (ready_after j s actions t ready r) (λ u q p l w. between u q (omega (arith, onward, p)) l w) g after in
    let b = ap fetched a in
    let all = h.all in
    by_test (ltb s.next (ref_count j))
    (λ e. rw (e, plan_from) (omega (arith, ih, b)))
    (λ e. rw (e, plan_from) (omega (arith, all)))

-- Every schedule that can be played from the same state makes at least the plan's fetches on each disk.
pub sparing_unbeaten : (j : Job) → Sound j → (most : ℕ) (s : State) (schedule : Schedule) → Ready j s → ValidFrom j s schedule → (d : ℕ) → d < disk_count j
    → fetches (map (map action) (plan_from sparing j most s)) d ≤ fetches schedule d
unfolding fetches
sparing_unbeaten j sound most s schedule ready v d known =
    let F = charge j d s schedule v in
    let p = plan_spares j sound d known F most s ready (charge_between j d known s schedule v) 0
    (record { all = omega arith; up_to = λ q w some. (let k = charge_reach j d s schedule v q w in omega (arith, k)) }) in
    let m = charge_most j d s schedule v (ref_count j) in
    omega (arith, p, m)
