-- The short plan is unbeaten in rounds. It is compared round by round with any schedule that can be played, from states of which the plan's is
-- ahead: it has read as far, and of no disk does it miss more blocks up to any later position. Each round keeps it ahead. Assumes nothing.
use mathlib.Core.Path.{◌≡◌, refl, ap}
use mathlib.Core.Bool.{Bool}
use mathlib.Core.List.{List, [], ◌∷◌}
use Prim.Native.Nat.{ℕ, zero, suc, ◌+◌, ◌≤◌, ◌<◌}
use native.Mathlib.Omega.{arith}
use lib.Dec.{ltb, leb}
use lib.ListN.{length, get_or}
use borrow.Author.Tests.{ltb-true, lt-ltb, leb-true, leb-false}
use Rattle.bits.proofs.Logic.{by_test, clash}
use Rattle.model.specs.Job.{Sound, Job, disk_count, ref_count, slots_of, disk_of, ref_at}
use Rattle.model.specs.Playing.{Action, idle, fetch, replace, Schedule, State, act, play_round, charged_from, fetched}
use Rattle.model.specs.Rules.{distance_now, Choice, action, short}
use Rattle.model.specs.Plans.{plan_from}
use Rattle.model.specs.Valid.{Round, ValidFrom}
use Rattle.model.proofs.Playing.{round_plays}
use Rattle.model.proofs.Distances.{distance_before}
use Rattle.model.proofs.Choosing.{nothing, into, sooner, waiting, over, ShortView, short_view, short_lawful}
use Rattle.model.proofs.Missing.{want, miss, miss_zero, miss_none, pigeonhole, pigeonhole_full, want_mono}
use Rattle.model.proofs.Effects.{none_before, into_clear, into_gain, over_clear, over_gain, over_tight}
use Rattle.model.proofs.Rounds.{ready_after, read_ahead, miss_round, miss_entered, miss_read}
use Rattle.model.specs.Valid.{Ready}
use Rattle.model.proofs.Plans.{actions_of, actions_at, plan_round}

-- What the plan's action does to what is missed up to q.
data Effect (j : Job) (d p q : ℕ) (marks after : List Bool) : Type 0 where
  clear : miss j d p q after ≡ 0 → Effect j d p q marks after
  gain : suc (miss j d p q after) ≤ miss j d p q marks → Effect j d p q marks after
  tight : slots_of j d + miss j d p q after ≤ want j d p q → Effect j d p q marks after

effect : (j : Job) (s : State) (d q : ℕ) → Ready j s → q ≤ ref_count j → (c : Choice) → ShortView j s d c → Effect j d s.next q s.resident (act s.resident (action c))
unfolding act
effect j s d q ready within c (nothing h) = clear (miss_zero j d s.next q s.resident (λ b k on out. (let m = h b k on out in omega (arith, m))))
effect j s d q ready within c (into u n l) =
    by_test (leb q (distance_now j s u))
    (λ e. clear (into_clear j s d q u ready.long n (leb-true _ _ e)))
    (λ e. gain (into_gain j s d q u ready.long n (leb-false _ _ e)))
effect j s d q ready within c (sooner u v n f l p) =
    by_test (leb q (distance_now j s u))
    (λ e. clear (none_before j s d q u ready.long n (leb-true _ _ e)))
    (λ e. let k = leb-false q (distance_now j s u) e in
    let full = pigeonhole_full j d s.next q s.resident (λ b m on held. (let o = (l.most b m on held).0 in omega (arith, o, k, p))) in
    tight (omega (arith, full, f)))
effect j s d q ready within c (waiting w) = absurd w
effect j s d q ready within c (over u v n f l p _) =
    by_test (leb q (distance_now j s u))
    (λ e. clear (over_clear j s d q u ready.long n v f l (leb-true _ _ e) p))
    (λ e. by_test (leb q (distance_now j s v))
    (λ e₂. gain (over_gain j s d q u ready.long n v f l (leb-false _ _ e) (leb-true _ _ e₂)))
    (λ e₂. tight (over_tight j s d q u ready.long n v f l p (leb-false _ _ e₂))))

-- State s is ahead of state t.
pub record Ahead (j : Job) (s t : State) : Type 0 where
  pub read : t.next ≤ s.next
  pub fewer : (d q : ℕ) → d < disk_count j → s.next ≤ q → q ≤ ref_count j → miss j d s.next q s.resident ≤ miss j d t.next q t.resident

pub ahead_self : (j : Job) (s : State) → Ahead j s s
ahead_self j s = record { read = omega arith; fewer = λ d q l a b. omega arith }

-- An effect of the plan's action that the other schedule's action cannot make up for.
made_up : {j : Job} {d p q : ℕ} {marks after : List Bool} → Effect j d p q marks after → (n n' : ℕ) → miss j d p q marks ≤ n → n ≤ suc n' → want j d p q ≤ slots_of j d + n'
    → miss j d p q after ≤ n'
made_up (clear e) n n' a b c = omega (arith, e)
made_up (gain e) n n' a b c = omega (arith, e)
made_up (tight e) n n' a b c = omega (arith, e)

fetched_most : (a : Action) → fetched a ≤ 1
fetched_most idle = omega arith
fetched_most (fetch x) = omega arith
fetched_most (replace x z) = omega arith

module _ (j : Job) (sound : Sound j) (s t : State) (ready : Ready j s) (ahead : Ahead j s t) (actions : List Action) (t' : State) (r : Round j t actions t') where
  abbrev s' : State
  s' = play_round j s (actions_of short j s)

  own : Round j s (actions_of short j s) s'
  own = plan_round short short_lawful j sound s ready

  -- after the actions, before the reading
  acted : (d q : ℕ) → d < disk_count j → s.next ≤ q → q ≤ ref_count j → miss j d s.next q s'.resident ≤ miss j d t.next q t'.resident
  acted d q l a b =
      let marks-eq = miss_round j s (actions_of short j s) s' own d s.next q in
      let act-eq = ap (λ (x : Action). miss j d s.next q (act s.resident x)) (actions_at short j s d l) in
      let one = miss_entered j t actions t' r d t.next q in
      let few = fetched_most (get_or actions d idle) in
      let hole = pigeonhole j d t.next q t'.resident in
      let slots = r.a2 d l in
      let more = want_mono j d t.next s.next q ahead.read ready.within in
      let m = made_up (effect j s d q ready b (short j s d) (short_view j s d (sound.some_slot d l)))
      (miss j d t.next q t.resident) (miss j d t.next q t'.resident) (ahead.fewer d q l a b) (omega (arith, one, few)) (omega (arith, hole, slots, more)) in
      omega (arith, m, marks-eq, act-eq)

  -- the plan reads at least as far
  read_far : t'.next ≤ s'.next
  read_far =
      by_test (leb t'.next s'.next)
      (λ e. leb-true _ _ e)
      (λ e. let l = leb-false t'.next s'.next e in
      let o = own.onward in
      let w = r.within in
      let i = s'.next in
      let b = ref_at j i in
      let known = sound.to_blocks i (omega (arith, l, w)) in
      let d = disk_of j b in
      let dl = sound.on_disks b known in
      let other : miss j d t.next t'.next t'.resident ≡ 0 =
      miss_zero j d t.next t'.next t'.resident (λ c k on out. read_ahead j t actions t' r c out) in
      let mine = acted d t'.next dl (omega (arith, o, l)) w in
      let near = distance_before j.refs s.next b i o refl in
      clash (miss_none j d s.next t'.next s'.resident (omega (arith, mine, other)) b known refl (omega (arith, near, l)))
      (own.stops (omega (arith, l, w))))

  pub ahead_round : Ahead j s' t'
  ahead_round = record {
    read = read_far;
    fewer = λ d q l a b.
        (let x = miss_read j s (actions_of short j s) s' own d q in
        let y = miss_read j t actions t' r d q in
        let o = own.onward in
        let m = acted d q l (omega (arith, o, a)) b in
        omega (arith, x, y, m));
  }

-- Every schedule that can be played from a state that the plan's is ahead of is charged at least the plan's rounds, however many rounds the plan may
-- start and whatever the schedule does after its last reference.
pub short_unbeaten : (j : Job) → Sound j → (most : ℕ) (s t : State) (schedule : Schedule) → Ready j s → Ahead j s t → ValidFrom j t schedule
    → length (plan_from short j most s) ≤ charged_from j t schedule
unfolding plan_from ValidFrom charged_from actions_of
short_unbeaten j sound zero s t schedule ready ahead v = omega arith
short_unbeaten j sound (suc most) s t [] ready ahead v =
    let a = ahead.read in
    by_test (ltb s.next (ref_count j))
    (λ e. let l = ltb-true s.next (ref_count j) e in absurd (omega (arith, l, a, v)))
    (λ e. rw (e, plan_from) (omega arith))
short_unbeaten j sound (suc most) s t (actions ∷ more) ready ahead v =
    let s' = play_round j s (actions_of short j s) in
    let ih = short_unbeaten j sound most s' v.0 more (ready_after j s (actions_of short j s) s' ready (plan_round short short_lawful j sound s ready))
    (ahead_round j sound s t ready ahead actions v.0 v.1) v.2 in
    let same = ap (λ (x : State). charged_from j x more) (round_plays j t actions v.0 v.1) in
    let a = ahead.read in
    by_test (ltb s.next (ref_count j))
    (λ e. let l = ltb-true s.next (ref_count j) e in
    let due = lt-ltb t.next (ref_count j) (omega (arith, l, a)) in
    rw (e, plan_from, due, charged_from) (omega (arith, ih, same)))
    (λ e. rw (e, plan_from) (omega arith))
