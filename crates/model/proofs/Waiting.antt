-- Request L8, "How much waiting can the sparing plan cost?": at most D times the rounds of the short plan (Theorem 7 of document 000). Each round of
-- a plan fetches at least the block of the next read, so its rounds are at most its fetches on all disks; those of the sparing plan are on each disk
-- at most the short plan's, and these at most its rounds. From any state in which the next read is missing. Assumes nothing.
use mathlib.Core.Path.{◌≡◌, refl, ap}
use mathlib.Core.Bool.{Bool, true, false}
use mathlib.Core.List.{List, map}
use Prim.Native.Nat.{ℕ, zero, suc, ◌+◌, ◌*◌, ◌≤◌, ◌<◌}
use native.Mathlib.Omega.{arith}
use native.Mathlib.Nat.{suc-mul, mul-le-mul_left}
use lib.Dec.{ltb}
use lib.ListN.{length, get_or, length-map}
use borrow.Author.Tests.{ltb-true, ltb-false}
use Rattle.bits.specs.Reading.{given}
use Rattle.bits.proofs.Logic.{by_test, clash}
use Rattle.model.specs.Job.{Sound, Job, disk_count, ref_count, disk_of, ref_at}
use Rattle.model.specs.Playing.{Action, idle, fetch, replace, State, start, is_resident, act, play_round, charged, fetched, total, fetches}
use Rattle.model.specs.Rules.{action, Rule, short, sparing}
use Rattle.model.specs.Plans.{plan_from, plan_of, schedule_of}
use Rattle.model.specs.Valid.{Ready}
use Rattle.model.specs.Sheet.{sheet_of}
use Rattle.model.specs.Calls.{job_up_to, Counts, counts_of, short_counts, sparing_counts, SparingWithin, check_answer}
use Rattle.model.proofs.Choosing.{Lawful, short_lawful, sparing_lawful}
use Rattle.model.proofs.Carried.{start-stops, ready_start}
use Rattle.model.proofs.Rounds.{ready_after}
use Rattle.model.proofs.Plans.{demanded_held, actions_of, actions_at, plan_round, plan_valid}
use Rattle.model.proofs.Charged.{plan_charged, total_most}
use Rattle.model.proofs.Sparing.{sparing_unbeaten}
use Rattle.model.proofs.Stop.{job_sound}
use Rattle.model.proofs.Bytes.{unbeaten, schedule_passes}

-- a number of each disk below n, summed over these disks

unfoldable sum : (ℕ → ℕ) → ℕ → ℕ
sum f zero = 0
sum f (suc n) = f n + sum f n

sum_plus : (f g : ℕ → ℕ) (n : ℕ) → sum (λ d. f d + g d) n ≡ sum f n + sum g n
unfolding sum
sum_plus f g zero = omega arith
sum_plus f g (suc n) = let ih = sum_plus f g n in omega (arith, ih)

sum_one : (f : ℕ → ℕ) (d n : ℕ) → d < n → f d ≤ sum f n
unfolding sum
sum_one f d zero l = absurd (omega arith)
sum_one f d (suc n) l =
    by_test (ltb d n)
    (λ e. let ih = sum_one f d n (ltb-true d n e) in omega (arith, ih))
    (λ e. let k = ltb-false d n e in let same : d ≡ n = omega (arith, k) in let m = ap f same in omega (arith, m))

sum_most : (f : ℕ → ℕ) (k n : ℕ) → ((d : ℕ) → d < n → f d ≤ k) → sum f n ≤ n * k
unfolding sum
sum_most f k zero h = omega arith
sum_most f k (suc n) h =
    let ih = sum_most f k n (λ d l. h d (omega arith)) in
    let m = h n (omega arith) in
    let e = suc-mul n k in
    omega (arith, ih, m, e)

-- an action by which a missing block is there fetches it
enters_fetched : (marks : List Bool) (b : ℕ) (a : Action) → is_resident marks b ≡ false → is_resident (act marks a) b ≡ true → fetched a ≡ 1
unfolding act
enters_fetched marks b idle out held = clash held out
enters_fetched marks b (fetch x) out held = refl
enters_fetched marks b (replace x z) out held = refl

-- The reading stopped at a missing block, or at the end.
abbrev pub NextMissing : Job → State → Type 0
NextMissing j s = s.next < ref_count j → is_resident s.resident (ref_at j s.next) ≡ false

module _ (rule : Rule) (lawful : Lawful rule) (j : Job) (sound : Sound j) where
  -- Each round of a plan fetches at least the block of the next read,
  round-fetches : (s : State) → Ready j s → NextMissing j s → s.next < ref_count j → 1 ≤ sum (λ d. fetched (get_or (actions_of rule j s) d idle)) (disk_count j)
  round-fetches s ready out due =
      let b = ref_at j s.next in
      let known = sound.to_blocks s.next due in
      let d = disk_of j b in
      let l = sound.on_disks b known in
      let held = demanded_held j s d ready due refl known (rule j s d) (lawful j s d (sound.some_slot d l)) in
      let one = enters_fetched s.resident b (action (rule j s d)) (out due) held in
      let same = ap fetched (actions_at rule j s d l) in
      let some = sum_one (λ e. fetched (get_or (actions_of rule j s) e idle)) d (disk_count j) l in
      omega (arith, one, same, some)

  -- so its rounds are at most its fetches on all disks.
  plan_fetches : (most : ℕ) (s : State) → Ready j s → NextMissing j s
      → length (plan_from rule j most s) ≤ sum (λ d. total fetched d (map (map action) (plan_from rule j most s))) (disk_count j)
  unfolding plan_from total actions_of
  plan_fetches zero s ready out = omega arith
  plan_fetches (suc most) s ready out =
      let actions = actions_of rule j s in
      let t = play_round j s actions in
      let r = plan_round rule lawful j sound s ready in
      let ih = plan_fetches most t (ready_after j s actions t ready r) r.stops in
      let rest : ℕ → ℕ = λ d. total fetched d (map (map action) (plan_from rule j most t)) in
      let both = sum_plus (λ d. fetched (get_or actions d idle)) rest (disk_count j) in
      by_test (ltb s.next (ref_count j))
      (λ e. let one = round-fetches s ready out (ltb-true _ _ e) in rw (e, plan_from) (omega (arith, one, ih, both)))
      (λ e. rw (e, plan_from) (omega arith))

-- Theorem 7, from any state in which the next read is missing, and where the short plan may start a round for each reference left.
pub sparing_bounded : (j : Job) → Sound j → (most enough : ℕ) (s : State) → Ready j s → NextMissing j s → ref_count j ≤ s.next + enough
    → length (plan_from sparing j most s) ≤ disk_count j * length (plan_from short j enough s)
unfolding fetches
sparing_bounded j sound most enough s ready out l =
    let schedule = map (map action) (plan_from short j enough s) in
    let valid = plan_valid short short_lawful j sound enough s ready l in
    let all = plan_fetches sparing sparing_lawful j sound most s ready out in
    let long = length-map (plan_from short j enough s) (map action) in
    let few = sum_most (λ d. total fetched d (map (map action) (plan_from sparing j most s))) (length (plan_from short j enough s)) (disk_count j)
    (λ d k. let u = sparing_unbeaten j sound most s schedule ready valid d k in let m = total_most d schedule in omega (arith, u, m, long)) in
    omega (arith, all, few)

pub sparing-within : (j : Job) → Sound j → SparingWithin j (short_counts j) (sparing_counts j)
unfolding SparingWithin short_counts sparing_counts counts_of charged schedule_of plan_of start
sparing-within j sound =
    let a = plan_charged short j (ref_count j) (start j) in
    let b = plan_charged sparing j (ref_count j) (start j) in
    let c = sparing_bounded j sound (ref_count j) (ref_count j) (start j) (ready_start j sound) (start-stops j) (omega arith) in
    rw (a, b) (omega (arith, c))

-- Over bytes: of the two plans,
pub sparing_bound : (t : List ℕ) (stop : ℕ) (j : Job) → job_up_to t stop ≡ given j → SparingWithin j (short_counts j) (sparing_counts j)
sparing_bound t stop j e = sparing-within j (job_sound t stop j e)

-- of the sparing plan and any sheet that passes,
pub bound_of_any : (t : List ℕ) (stop : ℕ) (s : List ℕ) (j : Job) (c : Counts) → job_up_to t stop ≡ given j → check_answer t stop s ≡ given c → SparingWithin j c (sparing_counts j)
unfolding SparingWithin
bound_of_any t stop s j c e pass =
    let b = sparing_bound t stop j e in
    let u = mul-le-mul_left (disk_count j) (unbeaten t stop s j c e pass).0 in
    omega (arith, b, u)

-- and on one disk.
pub one_disk : (t : List ℕ) (stop : ℕ) (j : Job) → job_up_to t stop ≡ given j → disk_count j ≡ 1 → (sparing_counts j).rounds ≡ (short_counts j).rounds
unfolding SparingWithin sparing_counts
one_disk t stop j e one =
    let b = sparing_bound t stop j e in
    let c = ap (λ (d : ℕ). d * (short_counts j).rounds) one in
    let u = (unbeaten t stop (sheet_of (schedule_of sparing j)) j (sparing_counts j) e (schedule_passes sparing sparing_lawful t stop j e)).0 in
    omega (arith, b, c, u)
