-- Document 01, "Ticket and sheet": "The longest ticket has 2,507 bytes, the longest sheet 40,962." With the blocks carried in (L9) a ticket has up to
-- 3,090 bytes. Assumes nothing.
use mathlib.Core.Path.{◌≡◌, refl, sym, ap, ◌∙◌}
use mathlib.Core.List.{List, [], ◌∷◌, ◌++◌}
use Prim.Native.Nat.{ℕ, zero, suc, ◌+◌, ◌*◌, ◌/◌, ◌≤◌, ◌<◌, ◌^◌}
use native.Mathlib.Nat.{add_comm, zero-mul, suc-mul}
use native.Mathlib.Omega.{arith}
use lib.ListN.{length, get_or, replicate, length-append, length-replicate, get_or-replicate}
use Rattle.bits.specs.Bits.{digits, bytes_for, pack}
use Rattle.bits.specs.Reading.{given}
use Rattle.bits.proofs.Logic.{Each, get_d_same}
use Rattle.bits.proofs.Bits.{length_digits, length-bits, length-pack}
use Rattle.model.specs.Job.{Sound, Job, disk_count, disk_of, carried_on, carried_at}
use Rattle.model.specs.Ticket.{ticket_bits, ticket_of}
use Rattle.model.specs.Playing.{Action, idle, fetch, replace, Schedule, State, start, play_round}
use Rattle.model.specs.Plans.{each}
use Rattle.model.specs.Sheet.{action_bits, round_bits, rounds_bits, sheet_bits, sheet_of}
use Rattle.model.specs.Calls.{Counts, check_answer}
use Rattle.model.proofs.Plans.{length-each, get_d_each}
use Rattle.model.proofs.CarriedFields.{carried_total, total-within}
use Rattle.model.proofs.Ticket.{accepted_valid, sound_accepted, length_ticket}
use Rattle.model.proofs.Sheets.{Allowed}
use Rattle.model.proofs.Check.{passed}

-- every accepted ticket is that short
pub ticket_length : (t : List ℕ) (j : Job) → ticket_of t ≡ given j → length t ≤ 3090
ticket_length t j e =
    let v = accepted_valid t j e in
    let l = length-bits t in
    let w = ap length v.written ∙ length-append (ticket_bits j) (replicate v.closing_bits 0) in
    let b = length_ticket j in
    let z = length-replicate {A = ℕ} v.closing_bits 0 in
    let few = v.few_closing in
    let d = v.sound.few_disks in
    let k = v.sound.few_blocks in
    let n = v.sound.few_refs in
    let lists = v.sound.one_list in
    let carried = total-within 64 j.carried
    (λ e p. let fit = v.sound.few_carried e (omega (arith, lists, p)) in let most = v.sound.few_slots e (omega (arith, lists, p)) in omega (arith, fit, most)) in
    omega (arith, l, w, b, z, few, d, k, n, lists, carried)

-- eight disks with 64 slots each, 64 blocks on each, all of them carried in, and 2,048 references to block 0
abbrev long_job : Job
long_job = record { slots = replicate 8 64; block_disks = each (λ b. b / 64) 0 512; refs = replicate 2048 0; carried = each (λ d. each (λ i. i) (d * 64) 64) 0 8 }

long-carried : (d : ℕ) → d < 8 → carried_on long_job d ≡ each (λ i. i) (d * 64) 64
long-carried d l = get_d_each (λ (x : ℕ). each (λ i. i) (x * 64) 64) 0 8 d [] l ∙ ap (λ (x : ℕ). each (λ i. i) (x * 64) 64) (let e : 0 + d ≡ d = omega arith in e)

long-length : (d : ℕ) → d < 8 → length (carried_on long_job d) ≡ 64
long-length d l = ap length (long-carried d l) ∙ length-each (λ i. i) (d * 64) 64

long_at : (d i : ℕ) → d < 8 → i < 64 → carried_at long_job d i ≡ d * 64 + i
long_at d i l p = ap (λ (x : List ℕ). get_or x i 0) (long-carried d l) ∙ get_d_each (λ (x : ℕ). x) (d * 64) 64 i 0 p

long-disk : (b : ℕ) → b < 512 → disk_of long_job b ≡ b / 64
long-disk b l = get_d_each (λ (x : ℕ). x / 64) 0 512 b 0 l ∙ ap (λ (x : ℕ). x / 64) (let e : 0 + b ≡ b = omega arith in e)

long-sound : Sound long_job
long-sound =
    let slots = length-replicate {A = ℕ} 8 64 in
    let blocks = length-each (λ b. b / 64) 0 512 in
    let refs = length-replicate {A = ℕ} 2048 0 in
    let lists = length-each (λ d. each (λ i. i) (d * 64) 64) 0 8 in
    record {
      some_disk = omega (arith, slots);
      few_disks = omega (arith, slots);
      some_slot = λ d l. (let e = get_or-replicate {A = ℕ} 8 d 64 0 (omega (arith, slots)) in omega (arith, e));
      few_slots = λ d l. (let e = get_or-replicate {A = ℕ} 8 d 64 0 (omega (arith, slots)) in omega (arith, e));
      some_block = omega (arith, blocks);
      few_blocks = omega (arith, blocks);
      on_disks = λ b l. (let e = long-disk b (omega (arith, blocks)) in omega (arith, e, slots, l, blocks));
      few_refs = omega (arith, refs);
      to_blocks = λ i l. (let e = get_d_same {A = ℕ} 2048 i 0 in omega (arith, e, blocks));
      one_list = lists ∙ sym slots;
      few_carried = λ d l. (let e = get_or-replicate {A = ℕ} 8 d 64 0 (omega (arith, slots)) in let n = long-length d (omega (arith, slots)) in omega (arith, e, n));
      rising = λ d i l p. (let n = long-length d (omega (arith, slots)) in let a = long_at d i (omega (arith, slots)) (omega (arith, n)) in
          let b = long_at d (suc i) (omega (arith, slots)) (omega (arith, n)) in omega (arith, a, b));
      of_blocks = λ d i l p. (let n = long-length d (omega (arith, slots)) in let a = long_at d i (omega (arith, slots)) (omega (arith, n)) in
          omega (arith, a, n, blocks, slots, l, p));
      on_own_disk = λ d i l p. (let n = long-length d (omega (arith, slots)) in let a = long_at d i (omega (arith, slots)) (omega (arith, n)) in
          let e = long-disk (carried_at long_job d i) (omega (arith, a, n, slots, l, p)) in omega (arith, a, e, n, p));
    }

-- and its ticket is that long
pub ticket_longest : (t : List ℕ) × (j : Job) × (ticket_of t ≡ given j) × (length t ≡ 3090)
unfolding carried_total each
ticket_longest =
    let slots = length-replicate {A = ℕ} 8 64 in
    let blocks = length-each (λ b. b / 64) 0 512 in
    let refs = length-replicate {A = ℕ} 2048 0 in
    let lists = length-each (λ d. each (λ i. i) (d * 64) 64) 0 8 in
    let all : carried_total long_job.carried ≡ 512 = refl in
    let bits = length_ticket long_job in
    let same : length (ticket_bits long_job) ≡ 24714 = omega (arith, bits, slots, blocks, refs, lists, all) in
    (pack (ticket_bits long_job), long_job, sound_accepted long_job long-sound, length-pack (ticket_bits long_job) ∙ ap bytes_for same)

-- an action takes at most 20 bits

pub length-action : (a : Action) → length (action_bits a) ≤ 20
unfolding action_bits
length-action idle = omega arith
length-action (fetch x) = let e = length-append (digits 9 x) (0 ∷ []) in let d = length_digits 9 x in omega (arith, e, d)
length-action (replace x z) =
    let e = length-append (digits 9 x) (1 ∷ digits 9 z) in let d = length_digits 9 x in let f = length_digits 9 z in omega (arith, e, d, f)

pub length-round : (actions : List Action) → length (round_bits actions) ≤ length actions * 20
unfolding round_bits
length-round [] = omega arith
length-round (a ∷ more) =
    let e = length-append (action_bits a) (round_bits more) in
    let one = length-action a in
    let ih = length-round more in
    let s = suc-mul (length more) 20 in
    omega (arith, e, one, ih, s)

pub length-rounds : (schedule : Schedule) → Each (λ (actions : List Action). length actions ≤ 8) schedule → length (rounds_bits schedule) ≤ length schedule * 160
unfolding rounds_bits Each
length-rounds [] h = omega arith
length-rounds (actions ∷ more) h =
    let e = length-append (round_bits actions) (rounds_bits more) in
    let one = length-round actions in
    let ih = length-rounds more h.1 in
    let few = h.0 in
    let s = suc-mul (length more) 160 in
    omega (arith, e, one, ih, few, s)

-- no sheet of 2,048 rounds of eight actions is longer
pub sheet-length : (schedule : Schedule) → length schedule ≤ 2048 → Each (λ (actions : List Action). length actions ≤ 8) schedule → length (sheet_of schedule) ≤ 40962
unfolding sheet_of sheet_bits
sheet-length schedule few eights =
    let e = length-append (digits 12 (length schedule)) (rounds_bits schedule) in
    let d = length_digits 12 (length schedule) in
    let r = length-rounds schedule eights in
    let p = length-pack (digits 12 (length schedule) ++ rounds_bits schedule) in
    omega (arith, e, d, r, p)

-- and one whose every action discards a block is that long

round_same : (k : ℕ) (a : Action) → length (round_bits (replicate k a)) ≡ k * length (action_bits a)
unfolding round_bits
round_same zero a = sym (zero-mul (length (action_bits a)))
round_same (suc k) a = length-append (action_bits a) (round_bits (replicate k a)) ∙ ap (λ (n : ℕ). length (action_bits a) + n) (round_same k a) ∙ add_comm _ _ ∙ sym (suc-mul k (length (action_bits a)))

rounds_same : (k : ℕ) (actions : List Action) → length (rounds_bits (replicate k actions)) ≡ k * length (round_bits actions)
unfolding rounds_bits
rounds_same zero actions = sym (zero-mul (length (round_bits actions)))
rounds_same (suc k) actions = length-append (round_bits actions) (rounds_bits (replicate k actions)) ∙ ap (λ (n : ℕ). length (round_bits actions) + n) (rounds_same k actions) ∙ add_comm _ _ ∙ sym (suc-mul k (length (round_bits actions)))

pub sheet_longest : length (sheet_of (replicate 2048 (replicate 8 (replace 1 0)))) ≡ 40962
unfolding sheet_of sheet_bits action_bits digits
sheet_longest =
    let rounds = replicate 2048 (replicate 8 (replace 1 0)) in
    length-pack (digits 12 (length rounds) ++ rounds_bits rounds)
    ∙ ap bytes_for (length-append (digits 12 (length rounds)) (rounds_bits rounds)
    ∙ ap (λ (n : ℕ). 12 + n) (rounds_same 2048 (replicate 8 (replace 1 0)) ∙ ap (λ (n : ℕ). 2048 * n) (round_same 8 (replace 1 0))))

-- a sheet that the check passes is no longer either

allowed-each : (j : Job) → disk_count j ≤ 8 → (s : State) (schedule : Schedule) → Allowed j s schedule → Each (λ (actions : List Action). length actions ≤ 8) schedule
unfolding Allowed Each
allowed-each j few s [] h = tt
allowed-each j few s (actions ∷ more) h = ((let e = h.0 in omega (arith, e)), allowed-each j few (play_round j s actions) more h.3)

pub passed_length : (t : List ℕ) (stop : ℕ) (s : List ℕ) (c : Counts) → check_answer t stop s ≡ given c → length s ≤ 40962
unfolding sheet_bits
passed_length t stop s c e =
    let p = passed t stop s c e in
    let r = p.read in
    let schedule = p.schedule in
    let w = ap length r.wrote ∙ length-append (sheet_bits schedule) r.tail in
    let a = length-append (digits 12 (length schedule)) (rounds_bits schedule) in
    let d = length_digits 12 (length schedule) in
    let n = length-rounds schedule (allowed-each p.job p.sound.few_disks (start p.job) schedule r.allowed) in
    let l = length-bits s in
    omega (arith, w, a, d, n, l, r.few, r.short)

pub passed_16_bits : (t : List ℕ) (stop : ℕ) (s : List ℕ) (c : Counts) → check_answer t stop s ≡ given c → length s < 2 ^ 16
passed_16_bits t stop s c e = let few = passed_length t stop s c e in omega (arith, few)
