-- What a round of any schedule does that can be played, as the two theorems need it: a block of a disk sees only that disk's action, at most one
-- block enters, and the reading leaves every missing block ahead. Assumes nothing.
use mathlib.Core.Path.{◌≡◌, refl, sym, ap, ◌∙◌}
use mathlib.Core.Bool.{Bool, true, false}
use mathlib.Core.List.{List, [], ◌∷◌}
use Prim.Native.Nat.{ℕ, zero, suc, ◌+◌, ◌≤◌, ◌<◌}
use native.Mathlib.Omega.{arith}
use lib.Dec.{eqb, ltb, leb}
use lib.ListN.{length, get_or, set, length-set}
use borrow.Author.Tests.{eqb-true, eqb-false, ltb-true, ltb-false, leb-true, leb-false}
use Rattle.bits.proofs.Logic.{by_test, clash}
use Rattle.model.specs.Job.{Job, disk_count, block_count, slots_of, disk_of}
use Rattle.model.specs.Playing.{Action, idle, fetch, replace, State, is_resident, load, act, act_all, play_round, fetched}
use Rattle.model.specs.Rules.{distance}
use Rattle.model.specs.Valid.{LegalAll, Round, Ready}
use Rattle.model.proofs.Buffers.{length-act, length-act_all, mark_set, mark_kept, act_elsewhere}
use Rattle.model.proofs.Playing.{read_on_within, read_on_held, read_on_stops}
use Rattle.model.proofs.Distances.{distance_from, distance_hit}
use Rattle.model.proofs.Missing.{miss, miss_act, miss_same, miss_shift}

pub ready_after : (j : Job) (s : State) (actions : List Action) (t : State) → Ready j s → Round j s actions t → Ready j t
ready_after j s actions t h r =
    let l : length t.resident ≡ length s.resident = ap length r.played ∙ length-act_all s.resident actions in
    record { long = (let k = h.long in omega (arith, l, k)); within = r.within; loads = r.a2 }

-- a mark after a write goes by the mark before it
set_same : (m n : List Bool) (x b : ℕ) (v : Bool) → length m ≡ length n → is_resident m b ≡ is_resident n b → is_resident (set m x v) b ≡ is_resident (set n x v) b
set_same m n x b v l e =
    by_test (eqb b x)
    (λ y. let q = eqb-true b x y in
    by_test (ltb x (length m))
    (λ p. let k = ltb-true x (length m) p in
    ap (is_resident (set m x v)) q ∙ mark_set m x v k ∙ sym (ap (is_resident (set n x v)) q ∙ mark_set n x v (omega (arith, k, l))))
    (λ p. let k = ltb-false x (length m) p in
    ap (λ (z : List Bool). is_resident z b) (lib.Seq.set_out m x v k) ∙ e ∙ sym (ap (λ (z : List Bool). is_resident z b) (lib.Seq.set_out n x v (omega (arith, k, l))))))
    (λ f. mark_kept m x b v (eqb-false b x f) ∙ e ∙ sym (mark_kept n x b v (eqb-false b x f)))

act_same : (m n : List Bool) (a : Action) (b : ℕ) → length m ≡ length n → is_resident m b ≡ is_resident n b → is_resident (act m a) b ≡ is_resident (act n a) b
unfolding act
act_same m n idle b l e = e
act_same m n (fetch x) b l e = set_same m n x b true l e
act_same m n (replace x z) b l e =
    set_same (set m z false) (set n z false) x b true (length-set m z false ∙ l ∙ sym (length-set n z false)) (set_same m n z b false l e)

elsewhere : (j : Job) (marks : List Bool) (d : ℕ) (actions : List Action) → LegalAll j marks d actions → (b : ℕ) → disk_of j b < d → is_resident (act_all marks actions) b ≡ is_resident marks b
unfolding LegalAll act_all
elsewhere j marks d [] h b l = refl
elsewhere j marks d (a ∷ more) h b l =
    elsewhere j (act marks a) (suc d) more h.1 b (omega arith) ∙ act_elsewhere j marks d a h.0 b (λ e. absurd (omega arith))

-- a block of disk e = d + k sees only that disk's action
pub own_action : (j : Job) (marks : List Bool) (d : ℕ) (actions : List Action) → LegalAll j marks d actions → (b k : ℕ) → disk_of j b ≡ d + k
    → is_resident (act_all marks actions) b ≡ is_resident (act marks (get_or actions k idle)) b
unfolding LegalAll act_all act
own_action j marks d [] h b k e = refl
own_action j marks d (a ∷ more) h b zero e = elsewhere j (act marks a) (suc d) more h.1 b (omega arith)
own_action j marks d (a ∷ more) h b (suc k) e =
    own_action j (act marks a) (suc d) more h.1 b k (omega arith)
    ∙ act_same (act marks a) marks (get_or more k idle) b (length-act marks a) (act_elsewhere j marks d a h.0 b (λ q. absurd (omega arith)))

-- what is missed after the actions of a round
pub miss_round : (j : Job) (s : State) (actions : List Action) (t : State) → Round j s actions t → (d p q : ℕ)
    → miss j d p q t.resident ≡ miss j d p q (act s.resident (get_or actions d idle))
miss_round j s actions t r d p q =
    miss_same j d p q t.resident (act s.resident (get_or actions d idle)) λ b l on.
    ap (λ (m : List Bool). is_resident m b) r.played ∙ own_action j s.resident 0 actions r.legal b d (omega arith)

-- at most one block enters
pub miss_entered : (j : Job) (s : State) (actions : List Action) (t : State) → Round j s actions t → (d p q : ℕ)
    → miss j d p q s.resident ≤ fetched (get_or actions d idle) + miss j d p q t.resident
miss_entered j s actions t r d p q =
    let a = miss_act j d p q s.resident (get_or actions d idle) in
    let e = miss_round j s actions t r d p q in
    omega (arith, a, e)

-- the reading leaves every missing block ahead
pub read_ahead : (j : Job) (s : State) (actions : List Action) (t : State) → Round j s actions t → (b : ℕ) → is_resident t.resident b ≡ false
    → t.next ≤ distance j.refs s.next b
read_ahead j s actions t r b out =
    by_test (leb t.next (distance j.refs s.next b))
    (λ e. leb-true _ _ e)
    (λ e. let l = leb-false t.next (distance j.refs s.next b) e in
    let w = r.within in
    clash (ap (is_resident t.resident) (sym (distance_hit j.refs s.next b (omega (arith, l, w)))) ∙ r.a1 _ (distance_from j.refs s.next b) l) out)

pub miss_read : (j : Job) (s : State) (actions : List Action) (t : State) → Round j s actions t → (d q : ℕ)
    → miss j d t.next q t.resident ≡ miss j d s.next q t.resident
miss_read j s actions t r d q =
    miss_shift j d s.next t.next q t.resident r.onward r.within (λ b l on out. read_ahead j s actions t r b out)

-- Playing legal actions within the slots is a round.
pub round_of : (j : Job) (s : State) (actions : List Action) → Ready j s → length actions ≡ disk_count j → LegalAll j s.resident 0 actions
    → ((d : ℕ) → d < disk_count j → load j (act_all s.resident actions) d ≤ slots_of j d) → Round j s actions (play_round j s actions)
unfolding play_round
round_of j s actions h each legal fits = record {
  one_each = each;
  legal = legal;
  played = refl;
  a2 = fits;
  onward = omega arith;
  within = read_on_within j (act_all s.resident actions) s.next h.within;
  a1 = λ i p l. read_on_held j (act_all s.resident actions) s.next i p l;
  stops = λ l. read_on_stops j (act_all s.resident actions) s.next l;
  counted = refl;
}
