-- Request L10: the least slot count for a disk. That the short plan decides which counts are enough, so that the first whose short plan is within the
-- wanted rounds is the least of all with which some sheet is. Assumes nothing.
use mathlib.Core.Path.{◌≡◌, refl, sym, ap, ◌∙◌, subst}
use mathlib.Core.Logic.{◌↔◌}
use mathlib.Core.Bool.{Bool, true, false}
use mathlib.Core.List.{List}
use mathlib.Core.Option.{Option, none, some}
use Prim.Native.Nat.{ℕ, zero, suc, ◌+◌, ◌≤◌, ◌<◌}
use native.Mathlib.Omega.{arith}
use lib.Dec.{leb, eqb}
use lib.ListN.{length, length-set}
use lib.Seq.{set-get_or, get_or-set_same, get_or-set_other}
use borrow.Author.Tests.{leb-true, leb-false, le-leb, eqb-true, eqb-false}
use Rattle.bits.specs.Reading.{given}
use Rattle.bits.proofs.Logic.{by_test, and_left, and_right, and_true, clash}
use Rattle.model.specs.Job.{Job, Sound, disk_count, ref_count, slots_of, carried_on, up_to}
use Rattle.model.specs.Ticket.{ticket_of}
use Rattle.model.specs.Rules.{short}
use Rattle.model.specs.Calls.{job_up_to, Counts, counts_of, short_counts, check_answer}
use Rattle.slot_counts.specs.Slots.{with_slots, ticket_with, Allowed, Enough, Least, NoneEnough, first_of, within, least_slots, found_with}
use Rattle.model.proofs.Choosing.{short_lawful}
use Rattle.model.proofs.Ticket.{sound_accepted}
use Rattle.model.proofs.Stop.{stops_exactly}
use Rattle.model.proofs.Bytes.{unbeaten, schedule_passes, schedule_fits, rounds-few}

-- The job with an allowed count on a disk is sound, so that its ticket is accepted.

module _ (j : Job) (d s : ℕ) where
  with_disks : disk_count (with_slots d s j) ≡ disk_count j
  unfolding with_slots
  with_disks = length-set j.slots d s

  -- what holds of that count on disk d, and of the job's own slots elsewhere, holds of each disk's slots
  with-slots : (P : ℕ → Type 0) (e : ℕ) → e < disk_count j → (e ≡ d → P s) → P (slots_of j e) → P (slots_of (with_slots d s j) e)
  unfolding with_slots
  with-slots P e l own other =
      by_test (eqb e d)
      (λ y. let same = eqb-true e d y in
      subst P (sym (ap (λ (x : ℕ). slots_of (with_slots d s j) x) same ∙ get_or-set_same j.slots d s 0 (omega (arith, l, same)))) (own same))
      (λ y. subst P (sym (get_or-set_other j.slots d e s 0 (eqb-false e d y))) other)

  pub with_sound : Sound j → Allowed j d s → Sound (with_slots d s j)
  unfolding with_slots
  with_sound sound allowed =
      let disks = with_disks in
      record {
        some_disk = rw disks sound.some_disk;
        few_disks = rw disks sound.few_disks;
        some_slot = λ e l. with-slots (λ n. 1 ≤ n) e (rw disks at l) (λ _. allowed.some_slot) (sound.some_slot e (rw disks at l));
        few_slots = λ e l. with-slots (λ n. n ≤ 64) e (rw disks at l) (λ _. allowed.few_slots) (sound.few_slots e (rw disks at l));
        some_block = sound.some_block;
        few_blocks = sound.few_blocks;
        on_disks = λ b l. rw disks (sound.on_disks b l);
        few_refs = sound.few_refs;
        to_blocks = sound.to_blocks;
        one_list = sound.one_list ∙ sym disks;
        few_carried = λ e l. with-slots (λ n. length (carried_on j e) ≤ n) e (rw disks at l)
            (λ same. subst (λ (x : ℕ). length (carried_on j x) ≤ s) (sym same) allowed.few_carried) (sound.few_carried e (rw disks at l));
        rising = λ e i l. sound.rising e i (rw disks at l);
        of_blocks = λ e i l. sound.of_blocks e i (rw disks at l);
        on_own_disk = λ e i l. sound.on_own_disk e i (rw disks at l);
      }

-- That ticket says the job, with s slots on disk d and the job's own on every other.
pub with_ticket : (j : Job) → Sound j → (d s : ℕ) → d < disk_count j → Allowed j d s
    → (ticket_of (ticket_with d s j) ≡ given (with_slots d s j))
    × (slots_of (with_slots d s j) d ≡ s)
    × ((e : ℕ) → (e ≡ d → ⊥) → slots_of (with_slots d s j) e ≡ slots_of j e)
unfolding ticket_with with_slots
with_ticket j sound d s l allowed = (
  sound_accepted (with_slots d s j) (with_sound j d s sound allowed),
  get_or-set_same j.slots d s 0 l,
  λ e other. get_or-set_other j.slots d e s 0 other,
)

module _ (j : Job) (sound : Sound j) (stop : ℕ) (few : stop ≤ ref_count j) (d s : ℕ) (allowed : Allowed j d s) where
  -- the job with that count, up to the stop
  abbrev counted : Job
  counted = with_slots d s (up_to stop j)

  pub with_job : job_up_to (ticket_with d s j) stop ≡ given counted
  unfolding ticket_with with_slots up_to
  with_job = (stops_exactly (ticket_with d s j) stop counted).1 (with_slots d s j, sound_accepted (with_slots d s j) (with_sound j d s sound allowed), few, refl)

  pub found_passes : check_answer (ticket_with d s j) stop (found_with d (up_to stop j) s).sheet ≡ given (found_with d (up_to stop j) s).counts
  unfolding found_with short_counts
  found_passes = schedule_passes short short_lawful (ticket_with d s j) stop counted with_job

  pub found_fewest : (sheet : List ℕ) (c : Counts) → check_answer (ticket_with d s j) stop sheet ≡ given c → (found_with d (up_to stop j) s).counts.rounds ≤ c.rounds
  unfolding found_with
  found_fewest sheet c e = (unbeaten (ticket_with d s j) stop sheet counted c with_job e).0

  pub found_short : length (found_with d (up_to stop j) s).sheet ≤ 40962
  unfolding found_with
  found_short = schedule_fits short short_lawful (ticket_with d s j) stop counted with_job

  -- The short plan decides: some sheet is within the wanted rounds exactly if its own is (demand 3).
  pub enough_exactly : (wanted : ℕ) → Enough j stop d wanted s ↔ ((short_counts counted).rounds ≤ wanted)
  unfolding Enough found_with
  enough_exactly wanted = (
    λ w. (let fewest = found_fewest w.0 w.1 w.2 in let l = w.3 in omega (arith, fewest, l)),
    λ l. ((found_with d (up_to stop j) s).sheet, (found_with d (up_to stop j) s).counts, found_passes, l),
  )

  pub rounds_most : (short_counts counted).rounds ≤ 2048
  unfolding short_counts counts_of
  rounds_most = (rounds-few short short_lawful (ticket_with d s j) stop counted with_job).2

-- The ticket's own slots are one of the counts.

module _ (j : Job) (d : ℕ) where
  pub with_own : with_slots d (slots_of j d) j ≡ j
  unfolding with_slots
  with_own = λ i. record { slots = set-get_or j.slots d 0 i; block_disks = j.block_disks; refs = j.refs; carried = j.carried }

  pub own_allowed : Sound j → d < disk_count j → Allowed j d (slots_of j d)
  own_allowed sound l = record { some_slot = sound.some_slot d l; few_slots = sound.few_slots d l; few_carried = sound.few_carried d l }

  pub own_enough : Sound j → (stop : ℕ) → stop ≤ ref_count j → d < disk_count j → (wanted : ℕ) → (short_counts (up_to stop j)).rounds ≤ wanted → Enough j stop d wanted (slots_of j d)
  unfolding up_to with_slots
  own_enough sound stop few l wanted rounds =
      (enough_exactly j sound stop few d (slots_of j d) (own_allowed sound l) wanted).1
      (subst (λ (x : Job). (short_counts (up_to stop x)).rounds ≤ wanted) (sym with_own) rounds)

-- The first number that passes a test.

pub first_yes : (test : ℕ → Bool) (s k : ℕ) → test s ≡ true → first_of test s (suc k) ≡ some s
unfolding first_of
first_yes test s k e = rw (e, first_of)

pub first_no : (test : ℕ → Bool) (s k : ℕ) → test s ≡ false → first_of test s (suc k) ≡ first_of test (suc s) k
unfolding first_of
first_no test s k e = rw (e, first_of)

-- numbers that fail before the others are passed over
pub first_skip : (test : ℕ → Bool) (s n k : ℕ) → ((i : ℕ) → s ≤ i → i < s + n → test i ≡ false) → first_of test s (n + k) ≡ first_of test (s + n) k
first_skip test s zero k fails = let e : s ≡ s + 0 = omega arith in let f : 0 + k ≡ k = omega arith in λ i. first_of test (e i) (f i)
first_skip test s (suc n) k fails =
    let e : s + suc n ≡ suc s + n = omega arith in
    let f : suc n + k ≡ suc (n + k) = omega arith in
    ap (first_of test s) f ∙ first_no test s (n + k) (fails s (omega arith) (omega arith)) ∙ first_skip test (suc s) n k (λ i l m. fails i (omega (arith, l)) (omega (arith, m))) ∙ ap (λ (x : ℕ). first_of test x k) (sym e)

data First (test : ℕ → Bool) (s k : ℕ) : Option ℕ → Type 0 where
  found : (r : ℕ) → s ≤ r → r < s + k → test r ≡ true → ((i : ℕ) → s ≤ i → i < r → test i ≡ false) → First test s k (some r)
  nothing : ((i : ℕ) → s ≤ i → i < s + k → test i ≡ false) → First test s k none

-- a number that fails before them changes nothing
first-after : {test : ℕ → Bool} (s k : ℕ) {o : Option ℕ} → test s ≡ false → First test (suc s) k o → First test s (suc k) o
first-after {test} s k fails (found r from to passes before) =
    found r (omega (arith, from)) (omega (arith, to)) passes (λ i l m. by_test (eqb i s) (λ y. rw (eqb-true i s y) fails) (λ y. before i (let other = eqb-false i s y in omega (arith, l, other)) m))
first-after {test} s k fails (nothing all) =
    nothing (λ i l m. by_test (eqb i s) (λ y. rw (eqb-true i s y) fails) (λ y. all i (let other = eqb-false i s y in omega (arith, l, other)) (omega (arith, m))))

first_view : (test : ℕ → Bool) (s k : ℕ) → First test s k (first_of test s k)
unfolding first_of
first_view test s zero = nothing (λ i l m. absurd (omega (arith, l, m)))
first_view test s (suc k) =
    by_test (test s)
    (λ y. subst (First test s (suc k)) (sym (first_yes test s k y)) (found s (omega arith) (omega arith) y (λ i l m. absurd (omega (arith, l, m)))))
    (λ y. subst (First test s (suc k)) (sym (first_no test s k y)) (first-after s k y (first_view test (suc s) k)))

-- and tests that agree have the same first
pub first_same : (test other : ℕ → Bool) (s k : ℕ) → ((i : ℕ) → s ≤ i → i < s + k → test i ≡ other i) → first_of test s k ≡ first_of other s k
unfolding first_of
first_same test other s zero same = refl
first_same test other s (suc k) same =
    by_test (test s)
    (λ y. first_yes test s k y ∙ sym (first_yes other s k (sym (same s (omega arith) (omega arith)) ∙ y)))
    (λ y. first_no test s k y ∙ first_same test other (suc s) k (λ i l m. same i (omega (arith, l)) (omega (arith, m)))
    ∙ sym (first_no other s k (sym (same s (omega arith) (omega arith)) ∙ y)))

-- The first count whose short plan is within the wanted rounds is the least count that is enough.

module _ (j : Job) (sound : Sound j) (stop : ℕ) (few : stop ≤ ref_count j) (d wanted : ℕ) where
  within-enough : (s : ℕ) → 1 ≤ s → s < 65 → within (up_to stop j) d wanted s ≡ true → Allowed j d s × Enough j stop d wanted s
  unfolding within up_to
  within-enough s from to e =
      let fits = leb (length (carried_on j d)) s in
      let quick = leb (short_counts (with_slots d s (up_to stop j))).rounds wanted in
      let carried = leb-true (length (carried_on j d)) s (and_left fits quick e) in
      let rounds = leb-true (short_counts (with_slots d s (up_to stop j))).rounds wanted (and_right fits quick e) in
      let allowed : Allowed j d s = record { some_slot = from; few_slots = omega (arith, to); few_carried = carried } in
      (allowed, (enough_exactly j sound stop few d s allowed wanted).1 rounds)

  enough-within : (s : ℕ) → Allowed j d s → Enough j stop d wanted s → within (up_to stop j) d wanted s ≡ false → ⊥
  unfolding within up_to
  enough-within s allowed enough e =
      clash
      (and_true
      (le-leb (length (carried_on j d)) s allowed.few_carried)
      (le-leb (short_counts (with_slots d s (up_to stop j))).rounds wanted ((enough_exactly j sound stop few d s allowed wanted).0 enough)))
      e

  -- From 2,048 on the wanted rounds do not matter: no plan takes more.
  pub within_most : (rounds : ℕ) → 2048 ≤ wanted → 2048 ≤ rounds → least_slots (up_to stop j) d wanted ≡ least_slots (up_to stop j) d rounds
  unfolding least_slots within up_to
  within_most rounds a b =
      first_same (within (up_to stop j) d wanted) (within (up_to stop j) d rounds) 1 64
      (λ s from to. by_test (leb (length (carried_on j d)) s)
      (λ y. let most = rounds_most j sound stop few d s (record { some_slot = from; few_slots = omega (arith, to); few_carried = leb-true (length (carried_on j d)) s y }) in
      rw (y, le-leb (short_counts (with_slots d s (up_to stop j))).rounds wanted (omega (arith, most, a)), le-leb (short_counts (with_slots d s (up_to stop j))).rounds rounds (omega (arith, most, b))))
      (λ y. rw y))

  pub data LeastView : Option ℕ → Type 0 where
    count : (s : ℕ) → Least j stop d wanted s → LeastView (some s)
    no_count : NoneEnough j stop d wanted → LeastView none

  pub least_view : LeastView (least_slots (up_to stop j) d wanted)
  unfolding least_slots NoneEnough
  least_view = go _ (first_view (within (up_to stop j) d wanted) 1 64)
    where
      go : (o : Option ℕ) → First (within (up_to stop j) d wanted) 1 64 o → LeastView o
      go o (found s from to passes before) =
          let w = within-enough s from to passes in
          count s (record {
            allowed = w.0;
            enough = w.1;
            least = λ other allowed enough. by_test (leb s other) (leb-true s other) (λ y. let less = leb-false s other y in
                absurd (enough-within other allowed enough (before other allowed.some_slot (omega (arith, less)))));
          })
      go o (nothing all) = no_count (λ s allowed enough. enough-within s allowed enough (all s allowed.some_slot (let most = allowed.few_slots in omega (arith, most))))
