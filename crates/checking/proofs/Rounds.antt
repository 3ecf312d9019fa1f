-- What is known while the rounds of a sheet are played: the answer is what the rest of the sheet gives from here. Each step of the player keeps
-- it. Assumes nothing.
use mathlib.Core.Path.{◌≡◌, refl, sym, ap, ◌∙◌, subst, subst₃}
use mathlib.Core.Bool.{Bool, true, false, cond, ◌&&◌}
use mathlib.Core.List.{List}
use Prim.Native.Nat.{ℕ, suc, ◌+◌, ◌-◌, ◌*◌, ◌≤◌, ◌<◌}
use native.Mathlib.Numerals.{add-one}
use native.Mathlib.Omega.{arith}
use lib.Dec.{ltb, leb, eqb}
use lib.ListN.{length, get_or, set, drop, replicate, take, length-set, drop_of_length-le}
use lib.Seq.{get_or-set_same, get_or-set_other, drop-cons}
use borrow.Author.Tests.{eqb-true, eqb-false, lt-ltb, le-ltb}
use Rattle.bits.specs.Bits.{bits}
use Rattle.bits.specs.Reading.{Answer, got}
use Rattle.bits.proofs.Logic.{by_test, get_d_same}
use Rattle.bits.proofs.Bits.{bits_are, drop_bits}
use Rattle.job.specs.Meaning.{job_of, Fits}
use Rattle.job.specs.declared.Job.{Job as Stored}
use Rattle.job.proofs.Laws.{disks_are, blocks_are, refs_are, slots_at, ref-at}
use Rattle.model.specs.Job.{Job, disk_count, block_count, ref_count, slots_of, disk_of}
use Rattle.model.specs.Playing.{Action, fetch, replace, State, start, is_resident, load, act, consumed}
use Rattle.model.specs.Sheet.{action_reader}
use Rattle.model.specs.Valid.{Block, Legal}
use Rattle.model.specs.Calls.{Counts}
use Rattle.model.proofs.Counting.{count_most}
use Rattle.model.proofs.Sheets.{Room, ActionRead, action-read}
use Rattle.playing.specs.declared.Buffers.{Buffers}
use Rattle.playing.specs.Playing.{start_buffers, fetch_into, replace_in, consume_one, Holds}
use Rattle.playing.proofs.Started.{holds-start}
use Rattle.playing.proofs.Laws.{holds_same, holds-some, holds-fetch, holds-replace, holds_consume}
use Rattle.actions.specs.Actions.{action_at, act_read}
use Rattle.std.specs.Prelude.{Result, Ok, Err}
use Rattle.refusal.specs.declared.Refusal.{Refusal}
use Rattle.refusal.proofs.Numbers.{refusal_of-number}
use Rattle.playing.specs.declared.Counts.{Counts as Taken}
use Rattle.actions.specs.declared.Act.{Act}
use Rattle.actions.specs.declared.Act.TheVariants.{Idle, Fetch, Replace}
use Rattle.actions.proofs.Laws.{action_reads}
use Rattle.checking.specs.Checking.{checked_of, counted, go_on, end_of, disks_from, after_reading, charged_after, rounds_from, played}

-- The state of the model that the buffers hold in round k.
abbrev pub state_of : Buffers → ℕ → State
state_of b k = record { resident = b.resident; next = b.next; round = k }

-- The action of disk d at the bit `at`.
abbrev pub action_here : Stored → List ℕ → Buffers → ℕ → ℕ → Result Act Refusal
action_here c s b at d = action_at s at (take c.blocks c.disk) b.resident d (leb (get_or c.slots d 0) (get_or b.held d 0))

-- What follows a round.
abbrev pub after_round : Job → ℕ → ℕ → ℕ → ℕ → List Bool → List ℕ → List ℕ → Answer Counts
after_round j left next round charged = λ marks. rounds_from j left (after_reading j marks next round) (charged_after j next round charged)

-- After at most n actions: the buffers hold a state of the job, and the position and the counts are within bounds.
pub record Bounded (c : Stored) (b : Buffers) (f : List ℕ) (at n : ℕ) : Type 0 where
  pub holds : Holds (job_of c) b (state_of b 0)
  pub near : at ≤ 12 + 20 * n
  pub long : length f ≡ 8
  pub few : (e : ℕ) → get_or f e 0 ≤ n

-- Before round k; within it, before disk d; and at its end, while references are read. `s` is the sheet, `rounds` its round count, `charged` the
-- rounds charged so far.
pub record BeforeRound (c : Stored) (s : List ℕ) (rounds : ℕ) (b : Buffers) (f : List ℕ) (at k charged : ℕ) : Type 0 where
  pub within : k ≤ rounds
  pub bounded : Bounded c b f at (8 * k)
  pub answer : rounds_from (job_of c) (rounds - k) (state_of b k) charged f (drop at (bits s)) ≡ played (job_of c) rounds s

pub record BeforeDisk (c : Stored) (s : List ℕ) (rounds k charged : ℕ) (b : Buffers) (f : List ℕ) (at d : ℕ) : Type 0 where
  pub within : d ≤ c.disks
  pub bounded : Bounded c b f at (8 * k + d)
  pub answer : disks_from (job_of c) (after_round (job_of c) (rounds - suc k) b.next (suc k) charged) (c.disks - d) b.resident f d (drop at (bits s))
      ≡ played (job_of c) rounds s

pub record AtReading (c : Stored) (s : List ℕ) (rounds : ℕ) (f : List ℕ) (at k : ℕ) (b : Buffers) (charged : ℕ) : Type 0 where
  pub within : k ≤ rounds
  pub bounded : Bounded c b f at (8 * k)
  pub answer : rounds_from (job_of c) (rounds - k) (after_reading (job_of c) b.resident b.next k) (charged_after (job_of c) b.next k charged) f
      (drop at (bits s))
      ≡ played (job_of c) rounds s

-- more actions than there were
bounded_more : {c : Stored} {b : Buffers} {f : List ℕ} {at m : ℕ} (n : ℕ) → m ≤ n → Bounded c b f at m → Bounded c b f at n
bounded_more n h p = record {
  holds = p.holds;
  near = omega arith;
  long = p.long;
  few = λ e. (let q = p.few e in omega (arith, q));
}

-- one more fetch of disk d
few_more : (f : List ℕ) (d n : ℕ) → d < length f → ((e : ℕ) → get_or f e 0 ≤ n) → (e : ℕ) → get_or (set f d (get_or f d 0 + 1)) e 0 ≤ suc n
few_more f d n p h e =
    by_test (eqb e d)
    (λ y. let same = eqb-true e d y in
    let q = h d in
    rw (same, get_or-set_same f d (get_or f d 0 + 1) 0 p) (omega (arith, q)))
    (λ y. let q = h e in rw (get_or-set_other f d e (get_or f d 0 + 1) 0 (eqb-false e d y)) (omega (arith, q)))

bounded_fetch : {c : Stored} {b b' : Buffers} {f : List ℕ} {at at' d n m : ℕ} → Bounded c b f at n → Holds (job_of c) b' (state_of b' 0)
    → d < 8 → at' ≤ at + 20 → m ≡ suc n → Bounded c b' (set f d (get_or f d 0 + 1)) at' m
bounded_fetch {f = f} {d = d} {n = n} p h l q e = record {
  holds = h;
  near = (let r = p.near in omega (arith, r));
  long = length-set f d _ ∙ p.long;
  few = λ i. (let r = few_more f d n (let k = p.long in omega (arith, k)) p.few i in omega (arith, r));
}

-- a reference is a block
pub ref_below : {c : Stored} → Fits c → {i : ℕ} → i < c.count → get_or c.refs i 0 < 512
ref_below {c} h {i} l =
    let n = refs_are c h in
    let b = blocks_are c h in
    let few = h.few_blocks in
    let known = h.sound.to_blocks i (omega (arith, n)) in
    let same = ref-at c h i l in
    omega (arith, b, few, known, same)

-- the next reference is consumed, or is the first that is not
module _ (marks : List Bool) (refs : List ℕ) (q : ℕ) where
  read_on : q < length refs → is_resident marks (get_or refs q 0) ≡ true → consumed marks (drop q refs) ≡ suc (consumed marks (drop (suc q) refs))
  unfolding consumed
  read_on l m = rw (drop-cons refs q 0 l, m)

  read-missing : q < length refs → is_resident marks (get_or refs q 0) ≡ false → consumed marks (drop q refs) ≡ 0
  unfolding consumed
  read-missing l m = rw (drop-cons refs q 0 l, m)

  read_none : length refs ≤ q → consumed marks (drop q refs) ≡ 0
  unfolding consumed
  read_none l = rw (drop_of_length-le refs {i = q} l)

-- what is charged is this round already
cond_same : (t : Bool) (k : ℕ) → cond t k k ≡ k
cond_same true k = refl
cond_same false k = refl

-- the state before round 1
started_state : {c : Stored} → Fits c → state_of (start_buffers c) 0 ≡ start (job_of c)
unfolding start
started_state {c} h = let held = holds-start c h in λ i. record { resident = held.marks i; next = held.read i; round = 0 }

module _ {c : Stored} (h : Fits c) {s : List ℕ} {rounds : ℕ} where
  -- at the start
  pub round-first : BeforeRound c s rounds (start_buffers c) (replicate 8 0) 12 0 0
  unfolding played
  round-first =
      let all : rounds - 0 ≡ rounds = omega arith in
      record {
        within = omega arith;
        bounded = record {
          holds = subst (Holds (job_of c) (start_buffers c)) (sym (started_state h)) (holds-start c h);
          near = omega arith;
          long = refl;
          few = λ e. (let z = get_d_same {A = ℕ} 8 e 0 in omega (arith, z));
        };
        answer = ap (λ (n : ℕ). rounds_from (job_of c) n (state_of (start_buffers c) 0) 0 (replicate 8 0) (drop 12 (bits s))) all
            ∙ ap (λ (t : State). rounds_from (job_of c) rounds t 0 (replicate 8 0) (drop 12 (bits s))) (started_state h);
      }

  -- a round begins
  pub disk_first : {b : Buffers} {f : List ℕ} {at k charged : ℕ} → BeforeRound c s rounds b f at k charged → k < rounds
      → BeforeDisk c s rounds k charged b f at 0
  unfolding rounds_from
  disk_first {k = k} p l =
      let left : rounds - k ≡ suc (rounds - suc k) = omega arith in
      let all : disk_count (job_of c) ≡ c.disks - 0 = disks_are c h ∙ (let e : c.disks ≡ c.disks - 0 = omega arith in e) in
      record {
        within = omega arith;
        bounded = bounded_more (8 * k + 0) (omega arith) p.bounded;
        answer = rw (← all) (rw left at p.answer);
      }

  -- disk d acts
  module _ {k charged : ℕ} {b : Buffers} {f : List ℕ} {at d : ℕ} (p : BeforeDisk c s rounds k charged b f at d) (l : d < c.disks) where
    held : Holds (job_of c) b (state_of b 0)
    held = p.bounded.holds

    few_disks : disk_count (job_of c) ≤ 8
    few_disks = let e = disks_are c h in let n = h.few_disks in omega (arith, e, n)

    few_blocks : block_count (job_of c) ≤ 512
    few_blocks = let e = blocks_are c h in let n = h.few_blocks in omega (arith, e, n)

    here : d < disk_count (job_of c)
    here = let e = disks_are c h in omega (arith, e)

    small : d < 8
    small = let a = here in let b = few_disks in omega (arith, a, b)

    pub held-few : get_or b.held d 0 ≤ 512
    unfolding load
    held-few =
        let loads = held.loads d here in
        let most = count_most (λ x. eqb (disk_of (job_of c) x) d && is_resident b.resident x) (block_count (job_of c)) in
        omega (arith, loads, most, few_blocks)

    -- the reader of the model reads the same action
    reads : (a : Result Act Refusal) → a ≡ action_here c s b at d → action_reader (job_of c) b.resident d (drop at (bits s)) ≡ act_read s at a
    unfolding job_of
    reads a e =
        action_reads (job_of c) b.resident d (leb (get_or c.slots d 0) (get_or b.held d 0)) (rw (slots_at c h d l, held.loads d here)) s at
        ∙ ap (act_read s at) (sym e)

    -- an action that was read is legal, and a fetch that discards nothing finds a slot empty
    allowed : (a : Action) (rest : List ℕ) → action_reader (job_of c) b.resident d (drop at (bits s)) ≡ got a rest
        → ActionRead (job_of c) b.resident d (drop at (bits s)) a rest
    allowed a rest e = action-read (job_of c) b.resident d (drop at (bits s)) a rest (drop_bits at (bits s) (bits_are s)) e

    -- what the rest gives after it
    goes : (a : Result Act Refusal) → a ≡ action_here c s b at d
        → go_on (act_read s at a) (λ x rest. disks_from (job_of c) (after_round (job_of c) (rounds - suc k) b.next (suc k) charged) (c.disks - suc d)
        (act b.resident x) (counted f d x) (suc d) rest)
        ≡ played (job_of c) rounds s
    unfolding disks_from
    goes a e =
        let left : c.disks - d ≡ suc (c.disks - suc d) = omega arith in
        rw (← reads a e) (rw left at p.answer)

    -- its action is refused
    pub disk_refused : {e : Refusal} → Err e ≡ action_here c s b at d → Err e ≡ checked_of (played (job_of c) rounds s)
    unfolding go_on act_read checked_of
    disk_refused {e} q = sym (ap Err (refusal_of-number e)) ∙ ap checked_of (goes (Err e) q)

    -- nothing is fetched
    pub disk_idle : Ok Idle ≡ action_here c s b at d → BeforeDisk c s rounds k charged b f (at + 1) (d + 1)
    unfolding go_on act_read act counted
    disk_idle e =
        rw (add-one d) (record {
          within = l;
          bounded = record {
            holds = held;
            near = (let q = p.bounded.near in omega (arith, q));
            long = p.bounded.long;
            few = λ e. (let q = p.bounded.few e in omega (arith, q));
          };
          answer = goes (Ok Idle) e;
        })

    -- a block is fetched
    module _ {x : ℕ} (e : Ok (Fetch x) ≡ action_here c s b at d) where
      into : Block (job_of c) b.resident d x false × (load (job_of c) b.resident d < slots_of (job_of c) d)
      unfolding act_read Legal Room
      into = let r = allowed (fetch x) (drop (at + 11) (bits s)) (reads (Ok (Fetch x)) e) in (r.legal, r.room)

      pub fetch_fits : (x < 512) × (d < 8) × (get_or b.held d 0 < 255)
      fetch_fits =
          let q = into.0.known in
          let r = into.1 in
          let loads = held.loads d here in
          let most = h.sound.few_slots d here in
          (omega (arith, q, few_blocks), small, omega (arith, r, loads, most))

      pub disk_fetch : BeforeDisk c s rounds k charged (fetch_into b x d) (set f d (get_or f d 0 + 1)) (at + 11) (d + 1)
      unfolding go_on act_read act counted fetch_into
      disk_fetch =
          let after = holds-fetch (job_of c) b (state_of b 0) held few_blocks few_disks d here x into.0 in
          rw (add-one d) (record {
            within = l;
            bounded = bounded_fetch p.bounded after small (omega arith) (omega arith);
            answer = goes (Ok (Fetch x)) e;
          })

    -- a block takes the place of another
    module _ {x z : ℕ} (e : Ok (Replace x z) ≡ action_here c s b at d) where
      both : Block (job_of c) b.resident d x false × Block (job_of c) b.resident d z true
      unfolding act_read Legal Room
      both = (allowed (replace x z) (drop (at + 20) (bits s)) (reads (Ok (Replace x z)) e)).legal

      pub replace_fits : (z < 512) × (x < 512) × (d < 8) × (1 ≤ get_or b.held d 0)
      replace_fits =
          let q = both.0.known in
          let r = both.1.known in
          let some = holds-some (job_of c) b (state_of b 0) held d here z both.1 in
          (omega (arith, r, few_blocks), omega (arith, q, few_blocks), small, some)

      pub disk_replace : BeforeDisk c s rounds k charged (replace_in b z x d) (set f d (get_or f d 0 + 1)) (at + 20) (d + 1)
      unfolding go_on act_read act counted replace_in
      disk_replace =
          let after = holds-replace (job_of c) b (state_of b 0) held few_blocks few_disks d here x z both.0 both.1 in
          rw (add-one d) (record {
            within = l;
            bounded = bounded_fetch p.bounded after small (omega arith) (omega arith);
            answer = goes (Ok (Replace x z)) e;
          })

  -- all disks have acted
  pub reading_first : {k charged : ℕ} {b : Buffers} {f : List ℕ} {at d : ℕ} → BeforeDisk c s rounds k charged b f at d → c.disks ≤ d → k < rounds
      → AtReading c s rounds f at (k + 1) b charged
  unfolding disks_from
  reading_first {k} {d = d} p l q =
      let none : c.disks - d ≡ 0 = omega arith in
      let few = h.few_disks in
      let most = p.within in
      rw (add-one k) (record {
        within = q;
        bounded = bounded_more (8 * suc k) (omega (arith, few, most)) p.bounded;
        answer = rw none at p.answer;
      })

  -- references are read
  module _ {f : List ℕ} {at k charged : ℕ} {b : Buffers} (p : AtReading c s rounds f at k b charged) where
    -- a reference that is left is due: this round is charged
    due : b.next < c.count → ltb b.next (ref_count (job_of c)) ≡ true
    due l = let n = refs_are c h in lt-ltb b.next (ref_count (job_of c)) (omega (arith, n))

    -- one reference more
    pub reading_more : b.next < c.count → is_resident b.resident (get_or c.refs b.next 0) ≡ true → AtReading c s rounds f at k (consume_one b) k
    unfolding consume_one
    reading_more l m =
        let n = refs_are c h in
        let refs = (job_of c).refs in
        let one = read_on b.resident refs b.next (omega (arith, n)) (rw (ref-at c h b.next l) m) in
        let same : b.next + consumed b.resident (drop b.next refs) ≡ b.next + 1 + consumed b.resident (drop (b.next + 1) refs) =
        rw (add-one b.next) (omega (arith, one)) in
        let held = holds_consume (job_of c) b (state_of b 0) p.bounded.holds in
        record {
          within = p.within;
          bounded = record {
            holds = holds_same (job_of c) (consume_one b) _ _ refl (sym (add-one b.next)) held;
            near = p.bounded.near;
            long = p.bounded.long;
            few = p.bounded.few;
          };
          answer = rw (← same, cond_same (ltb (b.next + 1) (ref_count (job_of c))) k) (rw (due l) at p.answer);
        }

    -- the reading stops
    stops : (t : Bool) → ltb b.next (ref_count (job_of c)) ≡ t → consumed b.resident (drop b.next (job_of c).refs) ≡ 0
        → BeforeRound c s rounds b f at k (cond t k charged)
    stops t q e =
        let same : b.next + consumed b.resident (drop b.next (job_of c).refs) ≡ b.next = omega (arith, e) in
        record { within = p.within; bounded = p.bounded; answer = rw (same, q) at p.answer }

    pub reading_missing : b.next < c.count → is_resident b.resident (get_or c.refs b.next 0) ≡ false → BeforeRound c s rounds b f at k k
    reading_missing l m =
        let n = refs_are c h in
        stops true (due l) (read-missing b.resident (job_of c).refs b.next (omega (arith, n)) (rw (ref-at c h b.next l) m))

    pub reading_over : c.count ≤ b.next → BeforeRound c s rounds b f at k charged
    reading_over l =
        let n = refs_are c h in
        stops false (le-ltb b.next (ref_count (job_of c)) (omega (arith, n))) (read_none b.resident (job_of c).refs b.next (omega (arith, n)))

  -- all rounds are played
  pub rounds-over : {b : Buffers} {f : List ℕ} {at k charged : ℕ} → BeforeRound c s rounds b f at k charged → rounds ≤ k
      → end_of (ltb b.next c.count) charged f (drop at (bits s)) ≡ played (job_of c) rounds s
  unfolding rounds_from
  rounds-over {b} {f} {at} {k} {charged} p l =
      let none : rounds - k ≡ 0 = omega arith in
      ap (λ (n : ℕ). end_of (ltb b.next n) charged f (drop at (bits s))) (sym (refs_are c h)) ∙ (rw none at p.answer)

-- the same, with values that are known by equations
pub round_same : {c : Stored} {s f : List ℕ} {rounds at k charged : ℕ} {b b' : Buffers} → b ≡ b' → BeforeRound c s rounds b' f at k charged
    → BeforeRound c s rounds b f at k charged
round_same {c} {s} {f} {rounds} {at} {k} {charged} p t = subst (λ (b : Buffers). BeforeRound c s rounds b f at k charged) (sym p) t

pub disk_same : {c : Stored} {s : List ℕ} {rounds k d : ℕ} {b b' : Buffers} {n n' : Taken} {at at' : ℕ} → b ≡ b' → n ≡ n' → at ≡ at'
    → BeforeDisk c s rounds k n'.rounds b' n'.fetches at' d → BeforeDisk c s rounds k n.rounds b n.fetches at d
disk_same {c} {s} {rounds} {k} {d} p q r t =
    subst₃ (λ (b : Buffers) (n : Taken) (at : ℕ). BeforeDisk c s rounds k n.rounds b n.fetches at d) (sym p) (sym q) (sym r) t

pub reading_same : {c : Stored} {s f : List ℕ} {rounds at k charged : ℕ} {b b' : Buffers} → b ≡ b' → AtReading c s rounds f at k b' charged
    → AtReading c s rounds f at k b charged
reading_same {c} {s} {f} {rounds} {at} {k} {charged} p t = subst (λ (b : Buffers). AtReading c s rounds f at k b charged) (sym p) t
