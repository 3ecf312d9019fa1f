-- Plans by a rule that chooses as both rules do: each round can be played, discards nothing beside an empty slot and consumes at least one
-- reference, so a plan is a valid schedule of at most as many rounds as references are left. Assumes nothing.
use mathlib.Core.Path.{◌≡◌, refl, sym, ap, ap₂, ◌∙◌, subst}
use mathlib.Core.Logic.{◌≢◌}
use mathlib.Core.Bool.{Bool, true, false}
use mathlib.Core.List.{List, [], ◌∷◌, ◌++◌, map}
use Prim.Native.Nat.{ℕ, zero, suc, ◌+◌, ◌≤◌, ◌<◌}
use native.Mathlib.Omega.{arith}
use lib.Dec.{ltb}
use lib.ListN.{length, get_or, take}
use borrow.Author.Tests.{ltb-true, ltb-false, le-leb}
use Rattle.bits.proofs.Logic.{by_test, clash, and_true}
use Rattle.model.specs.Job.{Sound, Job, disk_count, block_count, ref_count, slots_of, disk_of, ref_at}
use Rattle.model.specs.Playing.{Action, idle, fetch, replace, State, is_resident, load, act, play_round, fetched, discarded}
use Rattle.model.specs.Rules.{distance, distance_now, Choice, action, Rule}
use Rattle.model.specs.Plans.{each, choices, plan_from}
use Rattle.model.specs.Valid.{Legal, LegalAll, Round, Ready, ValidFrom, discards_full, discards_full_all, discards_full_from}
use Rattle.model.proofs.Buffers.{entered, replaced_in, fetch_kept, replace_kept, act_elsewhere, load_elsewhere, load-round}
use Rattle.model.proofs.Distances.{distance_from, distance_one, distance_here}
use Rattle.model.proofs.Choosing.{nothing, into, sooner, waiting, over, RuleView, Lawful}
use Rattle.model.proofs.Rounds.{own_action, round_of, ready_after}

-- the list f i, f (i + 1), ..

pub length-each : {A : Type 0} (f : ℕ → A) (i k : ℕ) → length (each f i k) ≡ k
unfolding each
length-each f i zero = refl
length-each f i (suc k) = ap suc (length-each f (suc i) k)

pub get_d_each : {A : Type 0} (f : ℕ → A) (i n k : ℕ) (x : A) → k < n → get_or (each f i n) k x ≡ f (i + k)
unfolding each
get_d_each f i zero k x l = absurd (omega arith)
get_d_each f i (suc n) zero x l = ap f (let e : i ≡ i + 0 = omega arith in e)
get_d_each f i (suc n) (suc k) x l = get_d_each f (suc i) n k x (omega arith) ∙ ap f (let e : suc i + k ≡ i + suc k = omega arith in e)

-- one more
pub each_more : {A : Type 0} (f : ℕ → A) (i k : ℕ) → each f i (suc k) ≡ each f i k ++ (f (i + k) ∷ [])
unfolding each
each_more f i zero = ap (λ (n : ℕ). f n ∷ []) (let e : i ≡ i + 0 = omega arith in e)
each_more f i (suc k) =
    let e : suc i + k ≡ i + suc k = omega arith in
    ap (λ (l : List _). f i ∷ l) (each_more f (suc i) k ∙ ap (λ (n : ℕ). each f (suc i) k ++ (f n ∷ [])) e)

-- two lists that agree at each number
pub each_cong : {A : Type 0} (f g : ℕ → A) (i n : ℕ) → ((e : ℕ) → i ≤ e → e < i + n → f e ≡ g e) → each f i n ≡ each g i n
unfolding each
each_cong f g i zero h = refl
each_cong f g i (suc n) h =
    ap₂ (λ (a : _) (l : List _). a ∷ l) (h i (omega arith) (omega arith)) (each_cong f g (suc i) n (λ e p q. h e (omega arith) (omega arith)))

length_actions : (f : ℕ → Choice) (i k : ℕ) → length (map action (each f i k)) ≡ k
unfolding each
length_actions f i zero = refl
length_actions f i (suc k) = ap suc (length_actions f (suc i) k)

action-at : (f : ℕ → Choice) (i n k : ℕ) → k < n → get_or (map action (each f i n)) k idle ≡ action (f (i + k))
unfolding each
action-at f i zero k l = absurd (omega arith)
action-at f i (suc n) zero l = let e : i + 0 ≡ i = omega arith in rw e
action-at f i (suc n) (suc k) l = action-at f (suc i) n k (omega arith) ∙ ap (λ (m : ℕ). action (f m)) (let e : suc i + k ≡ i + suc k = omega arith in e)

-- legality goes by the blocks of the disk
legal_kept : (j : Job) (m n : List Bool) (d : ℕ) (a : Action) → ((b : ℕ) → disk_of j b ≡ d → is_resident n b ≡ is_resident m b) → Legal j m d a → Legal j n d a
unfolding Legal
legal_kept j m n d idle k h = tt
legal_kept j m n d (fetch x) k h = record { known = h.known; on_disk = h.on_disk; mark = k x h.on_disk ∙ h.mark }
legal_kept j m n d (replace x z) k h = (
  record { known = h.0.known; on_disk = h.0.on_disk; mark = k x h.0.on_disk ∙ h.0.mark },
  record { known = h.1.known; on_disk = h.1.on_disk; mark = k z h.1.on_disk ∙ h.1.mark },
)

legal-each : (j : Job) (marks : List Bool) (f : ℕ → Choice) (d n : ℕ) → ((e : ℕ) → d ≤ e → e < d + n → Legal j marks e (action (f e))) → LegalAll j marks d (map action (each f d n))
unfolding each LegalAll
legal-each j marks f d zero h = tt
legal-each j marks f d (suc n) h =
    let one = h d (omega arith) (omega arith) in (
      one,
      legal-each j (act marks (action (f d))) f (suc d) n λ e p q.
          legal_kept j marks (act marks (action (f d))) e (action (f e)) (λ b on. act_elsewhere j marks d (action (f d)) one b (λ r. absurd (omega arith)))
          (h e (omega arith) (omega arith)),
    )

-- whether the slots are full goes by the load of the disk
full_kept : (j : Job) (m n : List Bool) (d : ℕ) (a : Action) → load j n d ≡ load j m d → discards_full j m d a ≡ true → discards_full j n d a ≡ true
unfolding discards_full
full_kept j m n d idle k h = refl
full_kept j m n d (fetch x) k h = refl
full_kept j m n d (replace x z) k h = rw k h

full-each : (j : Job) (marks : List Bool) (f : ℕ → Choice) (d n : ℕ) → LegalAll j marks d (map action (each f d n))
    → ((e : ℕ) → d ≤ e → e < d + n → discards_full j marks e (action (f e)) ≡ true) → discards_full_all j marks d (map action (each f d n)) ≡ true
unfolding each LegalAll discards_full_all
full-each j marks f d zero legal h = refl
full-each j marks f d (suc n) legal h =
    and_true (h d (omega arith) (omega arith)) (full-each j (act marks (action (f d))) f (suc d) n legal.1 λ e p q.
    full_kept j marks (act marks (action (f d))) e (action (f e)) (load_elsewhere j marks d (action (f d)) legal.0 e (λ r. absurd (omega arith)))
    (h e (omega arith) (omega arith)))

-- a rule's choice is legal, discards only where the slots are full, and stays within the slots

choice_legal : (j : Job) (s : State) (d : ℕ) (c : Choice) → RuleView j s d c → Legal j s.resident d (action c)
unfolding Legal
choice_legal j s d c (nothing h) = tt
choice_legal j s d c (into u n l) = n.block
choice_legal j s d c (sooner u v n f l p) = tt
choice_legal j s d c (waiting w) = tt
choice_legal j s d c (over u v n f l p x) = (n.block, l.block)

choice-full : (j : Job) (s : State) (d : ℕ) (c : Choice) → RuleView j s d c → discards_full j s.resident d (action c) ≡ true
unfolding discards_full
choice-full j s d c (nothing h) = refl
choice-full j s d c (into u n l) = refl
choice-full j s d c (sooner u v n f l p) = refl
choice-full j s d c (waiting w) = refl
choice-full j s d c (over u v n f l p x) = le-leb (slots_of j d) (load j s.resident d) f

choice_fits : (j : Job) (s : State) (d : ℕ) (c : Choice) → RuleView j s d c → load j s.resident d ≤ slots_of j d
    → load j s.resident d + fetched (action c) ≤ slots_of j d + discarded (action c)
choice_fits j s d c (nothing h) k = omega arith
choice_fits j s d c (into u n l) k = omega arith
choice_fits j s d c (sooner u v n f l p) k = omega arith
choice_fits j s d c (waiting w) k = omega arith
choice_fits j s d c (over u v n f l p x) k = omega arith

-- After the rule's action the block of the next read is in its buffer.
module _ (j : Job) (s : State) (d : ℕ) (ready : Ready j s) (due : s.next < ref_count j) (on : disk_of j (ref_at j s.next) ≡ d) (known : ref_at j s.next < block_count j) where
  -- it comes before all other blocks
  here : distance_now j s (ref_at j s.next) ≡ s.next
  here = distance_here j.refs s.next (ref_at j s.next) refl due

  demanded : (u : ℕ) → distance_now j s u ≤ s.next → u ≡ ref_at j s.next
  demanded u l =
      let f = distance_from j.refs s.next u in
      distance_one j.refs s.next u (ref_at j s.next) (let h = here in omega (arith, f, h)) (omega (arith, f))

  -- where it is missing it is U, and U is fetched
  fetch_demanded : (c : Choice) → RuleView j s d c → is_resident s.resident (ref_at j s.next) ≡ false → is_resident (act s.resident (action c)) (ref_at j s.next) ≡ true
  fetch_demanded c (nothing h) out = let k = h (ref_at j s.next) known on out in let e = here in absurd (omega (arith, k, e))
  fetch_demanded c (into u n l) out =
      let same = demanded u (let k = n.least (ref_at j s.next) known on out in let e = here in omega (arith, k, e)) in
      subst (λ (x : ℕ). is_resident (act s.resident (fetch u)) x ≡ true) same (entered s.resident u (let k = n.block.known in let m = ready.long in omega (arith, k, m)))
  fetch_demanded c (sooner u v n f l p) out =
      let k = n.least (ref_at j s.next) known on out in
      let m = distance_from j.refs s.next v in
      let e = here in
      absurd (omega (arith, k, m, e, p))
  fetch_demanded c (waiting w) out =
      let k = w.nearest.least (ref_at j s.next) known on out in
      let m = distance_from j.refs s.next w.u in
      let from : distance_now j s w.u ≡ s.next = (let e = here in omega (arith, k, m, e)) in
      let most = (w.last.most w.b w.block.known w.block.on_disk w.block.mark).0 in
      let later = subst (λ (x : ℕ). distance j.refs x w.v < distance j.refs x w.b) from w.later in
      absurd (omega (arith, most, later))
  fetch_demanded c (over u v n f l p x) out =
      let same = demanded u (let k = n.least (ref_at j s.next) known on out in let e = here in omega (arith, k, e)) in
      subst (λ (x : ℕ). is_resident (act s.resident (replace u v)) x ≡ true) same (replaced_in s.resident u v (let k = n.block.known in let m = ready.long in omega (arith, k, m)))

  -- where it is in the buffer it is not the block that is discarded
  keep_demanded : (c : Choice) → RuleView j s d c → is_resident s.resident (ref_at j s.next) ≡ true → is_resident (act s.resident (action c)) (ref_at j s.next) ≡ true
  unfolding act
  keep_demanded c (nothing h) held = held
  keep_demanded c (into u n l) held = fetch_kept s.resident u _ (λ e. clash held (ap (is_resident s.resident) e ∙ n.block.mark)) ∙ held
  keep_demanded c (sooner u v n f l p) held = held
  keep_demanded c (waiting w) held = held
  keep_demanded c (over u v n f l p x) held =
      let other : ref_at j s.next ≢ u = λ e. clash held (ap (is_resident s.resident) e ∙ n.block.mark) in
      replace_kept s.resident u v _ other
      (λ e. other (sym (demanded u (let h = here in let q = ap (distance_now j s) e in omega (arith, p, h, q)))))
      ∙ held

  pub demanded_held : (c : Choice) → RuleView j s d c → is_resident (act s.resident (action c)) (ref_at j s.next) ≡ true
  demanded_held c v = by_test (is_resident s.resident (ref_at j s.next)) (keep_demanded c v) (fetch_demanded c v)

-- A plan's round.

unfoldable pub actions_of : Rule → Job → State → List Action
actions_of rule j s = map action (choices rule j s)

pub actions_at : (rule : Rule) (j : Job) (s : State) (d : ℕ) → d < disk_count j → get_or (actions_of rule j s) d idle ≡ action (rule j s d)
unfolding actions_of choices
actions_at rule j s d l = action-at (rule j s) 0 (disk_count j) d l ∙ ap (λ (m : ℕ). action (rule j s m)) (let e : 0 + d ≡ d = omega arith in e)

module _ (rule : Rule) (lawful : Lawful rule) (j : Job) (sound : Sound j) where
  view : (s : State) (d : ℕ) → d < disk_count j → RuleView j s d (rule j s d)
  view s d l = lawful j s d (sound.some_slot d l)

  pub plan_round : (s : State) → Ready j s → Round j s (actions_of rule j s) (play_round j s (actions_of rule j s))
  unfolding actions_of choices
  plan_round s ready =
      let legal = legal-each j s.resident (rule j s) 0 (disk_count j) (λ e p q. choice_legal j s e (rule j s e) (view s e (omega arith))) in
      round_of j s (actions_of rule j s) ready (length_actions (rule j s) 0 (disk_count j)) legal λ d l.
      let eq = load-round j s.resident ready.long 0 (actions_of rule j s) legal d d (omega arith) in
      let a = actions_at rule j s d l in
      let f = ap fetched a in
      let g = ap discarded a in
      let fits = choice_fits j s d (rule j s d) (view s d l) (ready.loads d l) in
      omega (arith, eq, f, g, fits)

  -- "In either plan every round consumes at least one reference"
  pub plan_consumes : (s : State) → Ready j s → s.next < ref_count j → s.next < (play_round j s (actions_of rule j s)).next
  plan_consumes s ready due =
      let r = plan_round s ready in
      let t = play_round j s (actions_of rule j s) in
      let b = ref_at j s.next in
      let known = sound.to_blocks s.next due in
      let d = disk_of j b in
      let l = sound.on_disks b known in
      let held : is_resident t.resident b ≡ true =
      ap (λ (m : List Bool). is_resident m b) r.played ∙ own_action j s.resident 0 (actions_of rule j s) r.legal b d (omega arith)
      ∙ ap (λ (a : Action). is_resident (act s.resident a) b) (actions_at rule j s d l)
      ∙ demanded_held j s d ready due refl known (rule j s d) (view s d l) in
      by_test (ltb s.next t.next)
      (λ e. ltb-true _ _ e)
      (λ e. let k = ltb-false s.next t.next e in
      let o = r.onward in
      let same : t.next ≡ s.next = omega (arith, k, o) in
      clash held (ap (λ (i : ℕ). is_resident t.resident (ref_at j i)) (sym same) ∙ r.stops (omega (arith, same))))

  -- A plan is a valid schedule from any state that is ready, if it may start a round for each reference left.
  pub plan_valid : (most : ℕ) (s : State) → Ready j s → ref_count j ≤ s.next + most → ValidFrom j s (map (map action) (plan_from rule j most s))
  unfolding plan_from ValidFrom actions_of
  plan_valid zero s ready enough = let w = ready.within in omega (arith, w)
  plan_valid (suc most) s ready enough =
      let t = play_round j s (actions_of rule j s) in
      let r = plan_round s ready in
      let ih : s.next < ref_count j → ValidFrom j t (map (map action) (plan_from rule j most t)) =
      λ due. (let c = plan_consumes s ready due in plan_valid most t (ready_after j s (actions_of rule j s) t ready r) (omega (arith, c))) in
      by_test (ltb s.next (ref_count j))
      (λ e. rw (e, plan_from) (t, r, ih (ltb-true _ _ e)))
      (λ e. let w = ready.within in let k = ltb-false s.next (ref_count j) e in rw (e, plan_from) (omega (arith, w, k)))

  -- It discards nothing beside an empty slot.
  round-full : (s : State) → Ready j s → discards_full_all j s.resident 0 (actions_of rule j s) ≡ true
  unfolding actions_of choices
  round-full s ready =
      full-each j s.resident (rule j s) 0 (disk_count j) (plan_round s ready).legal (λ e p q. choice-full j s e (rule j s e) (view s e (omega arith)))

  pub plan_full : (most : ℕ) (s : State) → Ready j s → discards_full_from j s (map (map action) (plan_from rule j most s)) ≡ true
  unfolding plan_from discards_full_from actions_of
  plan_full zero s ready = refl
  plan_full (suc most) s ready =
      let ih = plan_full most (play_round j s (actions_of rule j s)) (ready_after j s (actions_of rule j s) _ ready (plan_round s ready)) in
      by_test (ltb s.next (ref_count j))
      (λ e. rw (e, plan_from) (and_true (round-full s ready) ih))
      (λ e. rw (e, plan_from) refl)

  -- "neither takes more than N rounds": at most one for each reference left
  pub plan_few : (most : ℕ) (s : State) → Ready j s → length (plan_from rule j most s) + s.next ≤ ref_count j
  unfolding plan_from actions_of
  plan_few zero s ready = let w = ready.within in omega (arith, w)
  plan_few (suc most) s ready =
      let t = play_round j s (actions_of rule j s) in
      let r = plan_round s ready in
      let ih = plan_few most t (ready_after j s (actions_of rule j s) t ready r) in
      by_test (ltb s.next (ref_count j))
      (λ e. let c = plan_consumes s ready (ltb-true _ _ e) in rw (e, plan_from) (omega (arith, c, ih)))
      (λ e. let w = ready.within in rw (e, plan_from) (omega (arith, w)))

-- A plan of fewer rounds is the beginning of a longer one.
pub plan_take : (rule : Rule) (j : Job) (m n : ℕ) (s : State) → m ≤ n → plan_from rule j m s ≡ take m (plan_from rule j n s)
unfolding plan_from
plan_take rule j zero n s l = refl
plan_take rule j (suc m) zero s l = absurd (omega (arith, l))
plan_take rule j (suc m) (suc n) s l =
    let ih = plan_take rule j m n (play_round j s (map action (choices rule j s))) (omega (arith, l)) in
    by_test (ltb s.next (ref_count j))
    (λ e. rw (e, plan_from) (ap (choices rule j s ∷◌) ih))
    (λ e. rw (e, plan_from) refl)
