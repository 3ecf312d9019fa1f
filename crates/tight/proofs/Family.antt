-- The jobs of Theorem 8 on two disks with two slots each, and on three with three: their rounds for every number of repetitions. Four repetitions are
-- planned by computation; their plans come back to the same buffers one repetition later. Assumes nothing.
use mathlib.Core.Path.{◌≡◌, refl, ap, ◌∙◌, subst}
use mathlib.Core.Bool.{Bool, true}
use mathlib.Core.List.{List, [], ◌∷◌, map}
use Prim.Native.Nat.{ℕ, zero, suc, ◌+◌, ◌-◌, ◌*◌, ◌≤◌, ◌<◌}
use native.Mathlib.Omega.{arith}
use native.Mathlib.Nat.{suc-mul, mul_comm, mul_assoc, mul-add, mul-le-mul_right}
use lib.Dec.{ltb, leb}
use lib.ListN.{length, get_or, set, length-map, length-replicate}
use borrow.Author.Tests.{ltb-false, leb-false}
use Rattle.bits.specs.Bits.{pack}
use Rattle.bits.specs.Reading.{given}
use Rattle.bits.proofs.Logic.{each_at, at_each, get_d_same}
use Rattle.grammar.specs.Note.{repeated}
use Rattle.grammar.proofs.Lists.{repeated-length, each-repeated}
use Rattle.model.specs.Job.{Job, Sound, ref_count, carried_on}
use Rattle.model.specs.Ticket.{ticket_bits}
use Rattle.model.specs.Playing.{State, none_resident, start, load, count}
use Rattle.model.specs.Rules.{distance, action, Rule, short, sparing}
use Rattle.model.specs.Plans.{plan_from, plan_of, schedule_of}
use Rattle.model.specs.Calls.{job_up_to, short_counts, sparing_counts}
use Rattle.model.proofs.Counting.{count_none}
use Rattle.model.proofs.Carried.{start_empty}
use Rattle.model.proofs.Stop.{sound_job}
use Rattle.model.proofs.Promises.{plans_charged}
use Rattle.tight.specs.Family.{sequence, family}
use Rattle.tight.proofs.Alike.{job_on, at, Local, short_alike, sparing_alike}
use Rattle.tight.proofs.Window.{Covers, after_rounds, started}
use Rattle.tight.proofs.Repeated.{Returns, rounds-repeated}

-- What is true of all numbers below n, where it is tested by computation: no number passes the opposite test.

covered : (blocks : ℕ) (refs : List ℕ) (reach middle : ℕ) → reach ≤ middle → middle < length refs → count (λ b. ltb middle (distance refs reach b)) blocks ≡ 0
    → count (λ b. leb (length refs) (distance refs middle b)) blocks ≡ 0 → Covers blocks refs reach middle
covered blocks refs reach middle l m x y = record {
  onward = l;
  within = m;
  again = λ b k. ltb-false middle (distance refs reach b) (count_none _ blocks x b k);
  once_more = λ b k. (let f = leb-false (length refs) (distance refs middle b) (count_none _ blocks y b k) in omega (arith, f));
}

repeated-sound : (slots disks period : List ℕ) (n : ℕ) → 1 ≤ length slots → length slots ≤ 8 → count (λ d. leb (get_or slots d 0) 0) (length slots) ≡ 0
    → count (λ d. ltb 64 (get_or slots d 0)) (length slots) ≡ 0 → 1 ≤ length disks → length disks ≤ 512 → count (λ b. leb (length slots) (get_or disks b 0)) (length disks) ≡ 0
    → count (λ i. leb (length disks) (get_or period i 0)) (length period) ≡ 0 → n * length period ≤ 2048 → Sound (job_on slots disks (repeated n period))
repeated-sound slots disks period n some few slot slots-few block blocks-few on to n-few = record {
  some_disk = some;
  few_disks = few;
  some_slot = λ d l. leb-false (get_or slots d 0) 0 (count_none _ (length slots) slot d l);
  few_slots = λ d l. ltb-false 64 (get_or slots d 0) (count_none _ (length slots) slots-few d l);
  some_block = block;
  few_blocks = blocks-few;
  on_disks = λ b l. leb-false (length slots) (get_or disks b 0) (count_none _ (length disks) on b l);
  few_refs = (let e = repeated-length n period in omega (arith, e, n-few));
  to_blocks = λ i l. each_at (λ b. b < length disks) (repeated n period)
      (each-repeated (λ b. b < length disks) n period (at_each (λ b. b < length disks) period 0 (λ k m. leb-false (length disks) (get_or period k 0) (count_none _ (length period) to k m)))) i 0 l;
  one_list = length-replicate {A = List ℕ} (length slots) [];
  few_carried = λ d l. (let z = none d in omega (arith, z));
  rising = λ d i l p. absurd (let z = none d in omega (arith, z, p));
  of_blocks = λ d i l p. absurd (let z = none d in omega (arith, z, p));
  on_own_disk = λ d i l p. absurd (let z = none d in omega (arith, z, p));
}
  where
    none : (d : ℕ) → length (carried_on (job_on slots disks (repeated n period)) d) ≡ 0
    none d = ap length (get_d_same {A = List ℕ} (length slots) d [])

-- no block is resident, and nothing is read
abbrev nothing : State
nothing = at none_resident 0 0

-- the rounds of the plan of a job that repeats itself
many : (rule : Rule) (local : Local rule) (slots disks period : List ℕ) (each rounds : ℕ) → Returns rule local slots disks period 4 nothing each rounds → (m : ℕ)
    → rounds + m * each ≤ (4 + m) * length period → length (schedule_of rule (job_on slots disks (repeated (4 + m) period))) ≡ rounds + m * each
unfolding schedule_of plan_of
many rule local slots disks period each rounds returns m few =
    let refs = repeated (4 + m) period in
    let j = job_on slots disks refs in
    let n = repeated-length (4 + m) period in
    let e : length refs ≡ rounds + m * each + (length refs - (rounds + m * each)) = omega (arith, few, n) in
    let empty : start j ≡ nothing = start_empty j (λ d. ap length (get_d_same {A = List ℕ} (length slots) d [])) in
    length-map (plan_from rule j (length refs) (start j)) (map action)
    ∙ ap (λ (s : State). length (plan_from rule j (length refs) s)) empty ∙ ap (λ (most : ℕ). length (plan_from rule j most nothing)) e
    ∙ rounds-repeated rule local slots disks period 4 nothing each rounds returns m (length refs - (rounds + m * each))

-- Two disks with two slots each: sixteen references to eight blocks, repeated.

abbrev disks_2 : List ℕ
disks_2 = 0 ∷ 0 ∷ 0 ∷ 0 ∷ 1 ∷ 1 ∷ 1 ∷ 1 ∷ []

covers_2 : Covers 8 (repeated 4 (sequence 2 2)) 25 40
unfolding sequence repeated count distance
covers_2 = covered 8 (repeated 4 (sequence 2 2)) 25 40 (omega arith) (omega arith) refl refl

-- these blocks are resident
abbrev holding : List ℕ → List Bool
holding [] = none_resident
holding (b ∷ more) = set (holding more) b true

short_2 : Returns short short_alike (2 ∷ 2 ∷ []) disks_2 (sequence 2 2) 4 nothing 4 18
unfolding started after_rounds repeated sequence short none_resident load
short_2 = record { first = 3; next = 6; marks = holding (0 ∷ 1 ∷ 4 ∷ 7 ∷ []); reach = 25; middle = 40; covers = covers_2; within = omega arith; once = refl; again = refl; few = omega arith; starts = refl; ends = refl }

sparing_2 : Returns sparing sparing_alike (2 ∷ 2 ∷ []) disks_2 (sequence 2 2) 4 nothing 8 30
unfolding started after_rounds repeated sequence sparing none_resident load
sparing_2 = record { first = 4; next = 9; marks = holding (0 ∷ 1 ∷ 4 ∷ 5 ∷ []); reach = 25; middle = 40; covers = covers_2; within = omega arith; once = refl; again = refl; few = omega arith; starts = refl; ends = refl }

-- Three disks with three slots each: thirty-six references to eighteen blocks, repeated.

abbrev disks_3 : List ℕ
disks_3 = 0 ∷ 0 ∷ 0 ∷ 0 ∷ 0 ∷ 0 ∷ 1 ∷ 1 ∷ 1 ∷ 1 ∷ 1 ∷ 1 ∷ 2 ∷ 2 ∷ 2 ∷ 2 ∷ 2 ∷ 2 ∷ []

covers_3 : Covers 18 (repeated 4 (sequence 3 3)) 55 86
unfolding sequence repeated count distance
covers_3 = covered 18 (repeated 4 (sequence 3 3)) 55 86 (omega arith) (omega arith) refl refl

short_3 : Returns short short_alike (3 ∷ 3 ∷ 3 ∷ []) disks_3 (sequence 3 3) 4 nothing 6 27
unfolding started after_rounds repeated sequence short none_resident load
short_3 = record { first = 5; next = 15; marks = holding (0 ∷ 2 ∷ 3 ∷ 6 ∷ 7 ∷ 8 ∷ 12 ∷ 13 ∷ 17 ∷ []); reach = 55; middle = 86; covers = covers_3; within = omega arith; once = refl; again = refl; few = omega arith; starts = refl; ends = refl }

sparing_3 : Returns sparing sparing_alike (3 ∷ 3 ∷ 3 ∷ []) disks_3 (sequence 3 3) 4 nothing 18 63
unfolding started after_rounds repeated sequence sparing none_resident load
sparing_3 = record { first = 6; next = 19; marks = holding (0 ∷ 1 ∷ 2 ∷ 6 ∷ 7 ∷ 8 ∷ 12 ∷ 13 ∷ 14 ∷ []); reach = 55; middle = 86; covers = covers_3; within = omega arith; once = refl; again = refl; few = omega arith; starts = refl; ends = refl }

-- So for every number of repetitions; the first three by computation.

many_2 : (m : ℕ) → ((short_counts (family 2 2 (4 + m))).rounds ≡ 18 + m * 4) × ((sparing_counts (family 2 2 (4 + m))).rounds ≡ 30 + m * 8)
unfolding family sequence
many_2 m =
    let c = plans_charged (family 2 2 (4 + m)) in (
      c.0 ∙ many short short_alike (2 ∷ 2 ∷ []) disks_2 (sequence 2 2) 4 18 short_2 m (omega arith),
      c.1 ∙ many sparing sparing_alike (2 ∷ 2 ∷ []) disks_2 (sequence 2 2) 8 30 sparing_2 m (omega arith),
    )

abbrev Two : ℕ → Type 0
Two n = ((short_counts (family 2 2 n)).rounds ≡ 4 * n + 2) × ((sparing_counts (family 2 2 n)).rounds + 2 ≡ 8 * n)

pub two_disks : (n : ℕ) → 1 ≤ n → Two n
unfolding short_counts sparing_counts family none_resident start load
two_disks zero l = absurd (omega arith)
two_disks (suc zero) l = (refl, refl)
two_disks (suc (suc zero)) l = (refl, refl)
two_disks (suc (suc (suc zero))) l = (refl, refl)
two_disks (suc (suc (suc (suc m)))) l =
    let e : 4 + m ≡ suc (suc (suc (suc m))) = omega arith in
    let h = many_2 m in
    let a = h.0 in
    let b = h.1 in
    subst Two e (omega (arith, a), omega (arith, b))

many_3 : (m : ℕ) → ((short_counts (family 3 3 (4 + m))).rounds ≡ 27 + m * 6) × ((sparing_counts (family 3 3 (4 + m))).rounds ≡ 63 + m * 18)
unfolding family sequence
many_3 m =
    let c = plans_charged (family 3 3 (4 + m)) in (
      c.0 ∙ many short short_alike (3 ∷ 3 ∷ 3 ∷ []) disks_3 (sequence 3 3) 6 27 short_3 m (omega arith),
      c.1 ∙ many sparing sparing_alike (3 ∷ 3 ∷ 3 ∷ []) disks_3 (sequence 3 3) 18 63 sparing_3 m (omega arith),
    )

abbrev Three : ℕ → Type 0
Three n = ((short_counts (family 3 3 n)).rounds ≡ 6 * n + 3) × ((sparing_counts (family 3 3 n)).rounds + 9 ≡ 18 * n)

pub three_disks : (n : ℕ) → 1 ≤ n → Three n
unfolding short_counts sparing_counts family none_resident start load
three_disks zero l = absurd (omega arith)
three_disks (suc zero) l = (refl, refl)
three_disks (suc (suc zero)) l = (refl, refl)
three_disks (suc (suc (suc zero))) l = (refl, refl)
three_disks (suc (suc (suc (suc m)))) l =
    let e : 4 + m ≡ suc (suc (suc (suc m))) = omega arith in
    let h = many_3 m in
    let a = h.0 in
    let b = h.1 in
    subst Three e (omega (arith, a), omega (arith, b))

-- So no smaller factor than D will do for every n: where D times the short plan's rounds are the sparing plan's and c more, any factor a / b below D
-- fails once the rounds are more than b times c.
below_fails : (d a b short sparing c : ℕ) → d * short ≡ sparing + c → b * c < short → a < d * b → a * short < b * sparing
below_fails d a b short sparing c same many less =
    let most = mul-le-mul_right short less in
    let one_more = suc-mul a short in
    let turned : d * b * short ≡ b * (d * short) = ap (λ (x : ℕ). x * short) (mul_comm d b) ∙ mul_assoc b d short in
    let parts = ap (λ (x : ℕ). b * x) same ∙ mul-add b sparing c in
    omega (arith, most, one_more, turned, parts, many)

abbrev Fails : ℕ → ℕ → ℕ → Type 0
Fails d a b = (n : ℕ) × (1 ≤ n) × (a * (short_counts (family d d n)).rounds < b * (sparing_counts (family d d n)).rounds)

pub no_less_2 : (a b : ℕ) → a < 2 * b → Fails 2 a b
no_less_2 a b l =
    let n = 2 * b + 1 in
    let h = two_disks n (omega arith) in
    let x = h.0 in
    let y = h.1 in
    (n, omega arith, below_fails 2 a b _ _ 6 (omega (arith, x, y)) (omega (arith, x)) l)

pub no_less_3 : (a b : ℕ) → a < 3 * b → Fails 3 a b
no_less_3 a b l =
    let n = 3 * b + 1 in
    let h = three_disks n (omega arith) in
    let x = h.0 in
    let y = h.1 in
    (n, omega arith, below_fails 3 a b _ _ 18 (omega (arith, x, y)) (omega (arith, x)) l)

-- The jobs within the limits of a ticket.

sound_2 : (n : ℕ) → n ≤ 128 → Sound (family 2 2 n)
unfolding family sequence count
sound_2 n few = repeated-sound (2 ∷ 2 ∷ []) disks_2 (sequence 2 2) n (omega arith) (omega arith) refl refl (omega arith) (omega arith) refl refl (omega (arith, few))

sound_3 : (n : ℕ) → n ≤ 56 → Sound (family 3 3 n)
unfolding family sequence count
sound_3 n few = repeated-sound (3 ∷ 3 ∷ 3 ∷ []) disks_3 (sequence 3 3) n (omega arith) (omega arith) refl refl (omega arith) (omega arith) refl refl (omega (arith, few))

-- So each is the job of a ticket and a stop.

abbrev OfTicket : Job → Type 0
OfTicket j = (t : List ℕ) × (stop : ℕ) × (job_up_to t stop ≡ given j)

pub ticket_2 : (n : ℕ) → n ≤ 128 → OfTicket (family 2 2 n)
ticket_2 n few = (pack (ticket_bits (family 2 2 n)), ref_count (family 2 2 n), sound_job (family 2 2 n) (sound_2 n few))

pub ticket_3 : (n : ℕ) → n ≤ 56 → OfTicket (family 3 3 n)
ticket_3 n few = (pack (ticket_bits (family 3 3 n)), ref_count (family 3 3 n), sound_job (family 3 3 n) (sound_3 n few))
