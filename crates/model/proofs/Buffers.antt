-- Marks and loads after actions, and at each moment of a schedule. Document 01, "Playing a round": "At each moment the blocks in a disk's buffer
-- number its fetches so far less its discards so far", and "No disk ever holds more blocks than its slots": here from any state, in `Carried` from
-- the blocks carried in. Assumes nothing.
use mathlib.Core.Path.{◌≡◌, refl, sym, ap, ◌∙◌}
use mathlib.Core.Logic.{◌≢◌, ◌⊎◌, inl, inr, ⊎_elim}
use mathlib.Core.Bool.{Bool, true, false, ◌&&◌}
use mathlib.Core.List.{List, [], ◌∷◌}
use Prim.Native.Nat.{ℕ, zero, suc, ◌+◌, ◌≤◌, ◌<◌}
use native.Mathlib.Omega.{arith}
use lib.Dec.{eqb, ltb}
use lib.ListN.{length, get_or, set, take, length-set, get_or-eq_default}
use lib.Seq.{get_or-set_same, get_or-set_other}
use borrow.Author.Tests.{eq-eqb, eqb-true, eqb-false, ltb-true, ltb-false}
use Rattle.bits.proofs.Logic.{by_test, clash, and_false_left, and_false_right, get_d_same}
use Rattle.model.specs.Job.{Job, disk_count, block_count, slots_of, disk_of}
use Rattle.model.specs.Playing.{Action, idle, fetch, replace, Schedule, State, none_resident, is_resident, load, act, act_all, play_round, play, fetched, discarded, total}
use Rattle.model.specs.Valid.{Legal, LegalAll, Round, ValidFrom}
use Rattle.model.proofs.Counting.{count_same, count_insert, count-zero}
use Rattle.model.proofs.Playing.{round_plays}

-- the marks after an action, one by one

pub length-act : (marks : List Bool) (a : Action) → length (act marks a) ≡ length marks
unfolding act
length-act marks idle = refl
length-act marks (fetch x) = length-set marks x true
length-act marks (replace x z) = length-set (set marks z false) x true ∙ length-set marks z false

pub length-act_all : (marks : List Bool) (actions : List Action) → length (act_all marks actions) ≡ length marks
unfolding act_all
length-act_all marks [] = refl
length-act_all marks (a ∷ more) = length-act_all (act marks a) more ∙ length-act marks a

pub mark_set : (marks : List Bool) (x : ℕ) (v : Bool) → x < length marks → is_resident (set marks x v) x ≡ v
mark_set marks x v p = get_or-set_same marks x v false p

pub mark_kept : (marks : List Bool) (x b : ℕ) (v : Bool) → b ≢ x → is_resident (set marks x v) b ≡ is_resident marks b
mark_kept marks x b v n = get_or-set_other marks x b v false n

-- a mark that is cleared is false, also past the end
pub mark_cleared : (marks : List Bool) (z : ℕ) → is_resident (set marks z false) z ≡ false
mark_cleared marks z =
    by_test (ltb z (length marks))
    (λ e. mark_set marks z false (ltb-true z (length marks) e))
    (λ e. get_or-eq_default (set marks z false) false {n = z} (let l = length-set marks z false in let p = ltb-false z (length marks) e in omega (arith, l, p)))

-- a fetched block is in the buffer, a discarded one is not, and every other mark is kept
pub entered : (marks : List Bool) (x : ℕ) → x < length marks → is_resident (act marks (fetch x)) x ≡ true
unfolding act
entered marks x p = mark_set marks x true p

pub replaced_in : (marks : List Bool) (x z : ℕ) → x < length marks → is_resident (act marks (replace x z)) x ≡ true
unfolding act
replaced_in marks x z p = mark_set (set marks z false) x true (let e = length-set marks z false in omega (arith, e))

pub replaced_out : (marks : List Bool) (x z : ℕ) → z < length marks → z ≢ x → is_resident (act marks (replace x z)) z ≡ false
unfolding act
replaced_out marks x z p n = mark_kept (set marks z false) x z true n ∙ mark_set marks z false p

pub fetch_kept : (marks : List Bool) (x b : ℕ) → b ≢ x → is_resident (act marks (fetch x)) b ≡ is_resident marks b
unfolding act
fetch_kept marks x b n = mark_kept marks x b true n

pub replace_kept : (marks : List Bool) (x z b : ℕ) → b ≢ x → b ≢ z → is_resident (act marks (replace x z)) b ≡ is_resident marks b
unfolding act
replace_kept marks x z b n m = mark_kept (set marks z false) x b true n ∙ mark_kept marks z b false m

-- no block enters but the fetched one
pub still_out : (marks : List Bool) (x z b : ℕ) → b ≢ x → is_resident marks b ≡ false → is_resident (act marks (replace x z)) b ≡ false
unfolding act
still_out marks x z b n e =
    mark_kept (set marks z false) x b true n
    ∙ by_test (eqb b z)
    (λ y. let q = eqb-true b z y in ap (is_resident (set marks z false)) q ∙ mark_cleared marks z)
    (λ f. mark_kept marks z b false (eqb-false b z f) ∙ e)

-- a legal action changes no mark of another disk's block
pub act_elsewhere : (j : Job) (marks : List Bool) (d : ℕ) (a : Action) → Legal j marks d a → (b : ℕ) → disk_of j b ≢ d → is_resident (act marks a) b ≡ is_resident marks b
unfolding Legal act
act_elsewhere j marks d idle h b n = refl
act_elsewhere j marks d (fetch x) h b n = fetch_kept marks x b (λ e. n (ap (disk_of j) e ∙ h.on_disk))
act_elsewhere j marks d (replace x z) h b n =
    replace_kept marks x z b (λ e. n (ap (disk_of j) e ∙ h.0.on_disk)) (λ e. n (ap (disk_of j) e ∙ h.1.on_disk))

-- two marks that differ are of two blocks
pub apart : (marks : List Bool) (x z : ℕ) → is_resident marks x ≡ false → is_resident marks z ≡ true → z ≢ x
apart marks x z e f q = clash f (ap (is_resident marks) q ∙ e)

-- the load goes by the marks of the disk's own blocks

-- every block of disk d has the same mark in both
abbrev pub SameOn : Job → ℕ → List Bool → List Bool → Type 0
SameOn j d m n = (b : ℕ) → b < block_count j → disk_of j b ≡ d → is_resident m b ≡ is_resident n b

pub load_same : (j : Job) (m n : List Bool) (d : ℕ) → SameOn j d m n → load j m d ≡ load j n d
unfolding load
load_same j m n d same =
    count_same _ _ (block_count j) λ b l.
    by_test (eqb (disk_of j b) d)
    (λ y. rw (same b l (eqb-true (disk_of j b) d y)))
    (λ f. and_false_left _ f ∙ sym (and_false_left _ f))

-- the load after an action

pub load_elsewhere : (j : Job) (marks : List Bool) (d : ℕ) (a : Action) → Legal j marks d a → (e : ℕ) → e ≢ d → load j (act marks a) e ≡ load j marks e
unfolding load
load_elsewhere j marks d a h e n =
    count_same _ _ (block_count j) λ b l.
    by_test (eqb (disk_of j b) e)
    (λ y. let on = eqb-true (disk_of j b) e y in
    rw (act_elsewhere j marks d a h b (λ q. n (sym on ∙ q))))
    (λ f. and_false_left _ f ∙ sym (and_false_left _ f))

pub load_own : (j : Job) (marks : List Bool) → block_count j ≤ length marks → (d : ℕ) (a : Action) → Legal j marks d a
    → load j (act marks a) d + discarded a ≡ load j marks d + fetched a
unfolding load Legal act
load_own j marks long d idle h = refl
load_own j marks long d (fetch x) h =
    let on : eqb (disk_of j x) d ≡ true = eq-eqb _ _ h.on_disk in
    let known = h.known in
    let more = count_insert (λ b. eqb (disk_of j b) d && is_resident marks b) (λ b. eqb (disk_of j b) d && is_resident (act marks (fetch x)) b) x (block_count j)
    known (rw (on, h.mark)) (rw (on, entered marks x (omega arith)))
    (λ b l n. rw (fetch_kept marks x b n)) in
    omega (arith, more)
load_own j marks long d (replace x z) h =
    let onx : eqb (disk_of j x) d ≡ true = eq-eqb _ _ h.0.on_disk in
    let onz : eqb (disk_of j z) d ≡ true = eq-eqb _ _ h.1.on_disk in
    let knownx = h.0.known in
    let knownz = h.1.known in
    let other = apart marks x z h.0.mark h.1.mark in
    let without : ℕ → Bool = λ b. eqb (disk_of j b) d && is_resident (set marks z false) b in
    let out = count_insert without (λ b. eqb (disk_of j b) d && is_resident marks b) z (block_count j)
    knownz (rw (onz, mark_set marks z false (omega arith))) (rw (onz, h.1.mark))
    (λ b l n. rw (mark_kept marks z b false n)) in
    let more = count_insert without (λ b. eqb (disk_of j b) d && is_resident (act marks (replace x z)) b) x (block_count j)
    knownx (rw (onx, mark_kept marks z x false (λ q. other (sym q)), h.0.mark)) (rw (onx, replaced_in marks x z (omega arith)))
    (λ b l n. rw (sym (after b n))) in
    omega (arith, out, more)
  where
    after : (b : ℕ) → b ≢ x → is_resident (act marks (replace x z)) b ≡ is_resident (set marks z false) b
    after b n = mark_kept (set marks z false) x b true n

-- empty buffers hold nothing
pub none-resident : (b : ℕ) → is_resident none_resident b ≡ false
unfolding none_resident
none-resident b = get_d_same 512 b false

pub load-none : (j : Job) (d : ℕ) → load j none_resident d ≡ 0
unfolding load
load-none j d = count-zero _ (block_count j) (λ b l. and_false_right (eqb (disk_of j b) d) (none-resident b))

-- over a round

pub load_before : (j : Job) (marks : List Bool) (d : ℕ) (actions : List Action) → LegalAll j marks d actions → (e : ℕ) → e < d
    → load j (act_all marks actions) e ≡ load j marks e
unfolding LegalAll act_all
load_before j marks d [] h e p = refl
load_before j marks d (a ∷ more) h e p =
    load_before j (act marks a) (suc d) more h.1 e (omega arith) ∙ load_elsewhere j marks d a h.0 e (λ q. absurd (omega arith))

pub load-round : (j : Job) (marks : List Bool) → block_count j ≤ length marks → (d : ℕ) (actions : List Action) → LegalAll j marks d actions
    → (e k : ℕ) → e ≡ d + k → load j (act_all marks actions) e + discarded (get_or actions k idle) ≡ load j marks e + fetched (get_or actions k idle)
unfolding LegalAll act_all
load-round j marks long d [] h e k q = refl
load-round j marks long d (a ∷ more) h e zero q =
    let same : e ≡ d = omega arith in
    let own = load_own j marks long d a h.0 in
    let rest = load_before j (act marks a) (suc d) more h.1 d (omega arith) in
    rw same (omega (arith, own, rest))
load-round j marks long d (a ∷ more) h e (suc k) q =
    let rest = load-round j (act marks a) (let l = length-act marks a in omega (arith, l)) (suc d) more h.1 e k (omega arith) in
    let own = load_elsewhere j marks d a h.0 e (λ r. absurd (omega arith)) in
    omega (arith, rest, own)

step_load : (j : Job) (s : State) (actions : List Action) (t : State) → Round j s actions t → block_count j ≤ length s.resident → (d : ℕ)
    → load j t.resident d + discarded (get_or actions d idle) ≡ load j s.resident d + fetched (get_or actions d idle)
step_load j s actions t r long d =
    let whole = load-round j s.resident long 0 actions r.legal d d (omega arith) in
    let after = ap (λ (m : List Bool). load j m d) r.played in
    omega (arith, whole, after)

pub legal-take : (j : Job) (marks : List Bool) (d i : ℕ) (actions : List Action) → LegalAll j marks d actions → LegalAll j marks d (take i actions)
unfolding LegalAll
legal-take j marks d zero actions h = tt
legal-take j marks d (suc i) [] h = tt
legal-take j marks d (suc i) (a ∷ more) h = (h.0, legal-take j (act marks a) (suc d) i more h.1)

-- an action among the first i of a round, or none
pub taken : (i k : ℕ) (actions : List Action) → (get_or (take i actions) k idle ≡ get_or actions k idle) ⊎ (get_or (take i actions) k idle ≡ idle)
taken zero k actions = inr refl
taken (suc i) k [] = inr refl
taken (suc i) zero (a ∷ more) = inl refl
taken (suc i) (suc k) (a ∷ more) = taken i k more

-- A moment of a played schedule: all of k rounds, and the first i actions of the round after them.
unfoldable pub so_far : ℕ → ℕ → Schedule → Schedule
so_far k i [] = []
so_far zero i (actions ∷ more) = take i actions ∷ []
so_far (suc k) i (actions ∷ more) = actions ∷ so_far k i more

-- From a state within the slots: at each moment the blocks in a disk's buffer are those at the start, with the fetches so far, less the
-- discards so far, and they never exceed its slots.
pub moment_load : (j : Job) (s : State) (schedule : Schedule) → block_count j ≤ length s.resident → ValidFrom j s schedule
    → (d : ℕ) → d < disk_count j → load j s.resident d ≤ slots_of j d → (k i : ℕ)
    → (load j (play j s (so_far k i schedule)).resident d + total discarded d (so_far k i schedule) ≡ load j s.resident d + total fetched d (so_far k i schedule))
    × (load j (play j s (so_far k i schedule)).resident d ≤ slots_of j d)
unfolding so_far play total ValidFrom play_round
moment_load j s [] long v d p fits k i = (refl, fits)
moment_load j s (actions ∷ more) long v d p fits zero i =
    let r = v.1 in
    let part = load-round j s.resident long 0 (take i actions) (legal-take j s.resident 0 i actions r.legal) d d (omega arith) in
    let whole = load-round j s.resident long 0 actions r.legal d d (omega arith) in
    let a2 = r.a2 d p in
    let after = ap (λ (m : List Bool). load j m d) r.played in (
      omega (arith, part),
      ⊎_elim
          (λ e. let f = ap fetched e in let g = ap discarded e in omega (arith, part, whole, a2, after, f, g))
          (λ e. let f = ap fetched e in let g = ap discarded e in omega (arith, part, f, g))
          (taken i d actions),
    )
moment_load j s (actions ∷ more) long v d p fits (suc k) i =
    let t = v.0 in
    let r = v.1 in
    let same = round_plays j s actions t r in
    let step = step_load j s actions t r long d in
    let l : length t.resident ≡ length s.resident = ap length r.played ∙ length-act_all s.resident actions in
    let ih = moment_load j t more (omega arith) v.2 d p (r.a2 d p) k i in
    let a : load j (play j t (so_far k i more)).resident d ≡ load j (play j (play_round j s actions) (so_far k i more)).resident d =
    ap (λ (x : State). load j (play j x (so_far k i more)).resident d) same in
    (omega (arith, ih.0, a, step), omega (arith, ih.1, a))

-- So it is after k whole rounds.
pub rounds-load : (j : Job) (s : State) (schedule : Schedule) → block_count j ≤ length s.resident → ValidFrom j s schedule
    → (d : ℕ) → d < disk_count j → load j s.resident d ≤ slots_of j d → (k : ℕ)
    → (load j (play j s (take k schedule)).resident d + total discarded d (take k schedule) ≡ load j s.resident d + total fetched d (take k schedule))
    × (load j (play j s (take k schedule)).resident d ≤ slots_of j d)
unfolding play total ValidFrom play_round
rounds-load j s schedule long v d p fits zero = (refl, fits)
rounds-load j s [] long v d p fits (suc k) = (refl, fits)
rounds-load j s (actions ∷ more) long v d p fits (suc k) =
    let t = v.0 in
    let r = v.1 in
    let same = round_plays j s actions t r in
    let step = step_load j s actions t r long d in
    let l : length t.resident ≡ length s.resident = ap length r.played ∙ length-act_all s.resident actions in
    let ih = rounds-load j t more (omega arith) v.2 d p (r.a2 d p) k in
    let a : load j (play j t (take k more)).resident d ≡ load j (play j (play_round j s actions) (take k more)).resident d =
    ap (λ (x : State). load j (play j x (take k more)).resident d) same in
    (omega (arith, ih.0, a, step), omega (arith, ih.1, a))
