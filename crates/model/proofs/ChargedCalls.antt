-- Requests L7 and L9 over bytes: what the rounds given with a pass are, when they are 0, and a sheet with idle rounds more. Assumes nothing.
use mathlib.Core.Path.{◌≡◌, refl, sym, ap, ◌∙◌, subst}
use mathlib.Core.Logic.{◌↔◌}
use mathlib.Core.Bool.{Bool, true}
use mathlib.Core.List.{List, [], ◌∷◌, ◌++◌}
use Prim.Native.Nat.{ℕ, zero, suc, ◌+◌, ◌≤◌, ◌<◌}
use native.Mathlib.Omega.{arith}
use lib.Dec.{ltb}
use lib.ListN.{length, take, replicate, length-append, length-replicate}
use borrow.Author.Tests.{ltb-true, ltb-false}
use Rattle.bits.specs.Reading.{given}
use Rattle.bits.proofs.Logic.{by_test, and_true, get_d_same}
use Rattle.model.specs.Job.{Job, disk_count, ref_count, slots_of, ref_at, carried_on}
use Rattle.model.specs.Playing.{Action, idle, Schedule, State, start, is_resident, act, act_all, play_round, play, load, charged, fetched, discarded, total, fetches}
use Rattle.model.specs.Rules.{short, sparing}
use Rattle.model.specs.Plans.{each, schedule_of}
use Rattle.model.specs.Sheet.{sheet_of}
use Rattle.model.specs.Valid.{Legal, LegalAll, Round, Ready, ValidFrom, discards_full, discards_full_all, discards_full_from, ValidSheet}
use Rattle.model.specs.Calls.{job_up_to, Counts, counts_of, fetches_on, short_counts, sparing_counts, check_answer}
use Rattle.model.proofs.Carried.{start_all, ready_start, buffers-after}
use Rattle.model.proofs.Rounds.{ready_after, round_of}
use Rattle.model.proofs.Charged.{schedule_charged, charged_exactly, charged_most, charged-after, total-after}
use Rattle.model.proofs.Stop.{job_sound}
use Rattle.model.proofs.Bytes

-- The rounds given with a pass: no more than are written, and the least after which no reference is left. The fetches: of all rounds.
abbrev CountedBy : Job → Schedule → Counts → Type 0
CountedBy j schedule c = (c.rounds ≤ length schedule) × ((k : ℕ) → ((play j (start j) (take k schedule)).next ≡ ref_count j) ↔ (c.rounds ≤ k))
    × ((d : ℕ) → d < 8 → fetches_on c d ≡ fetches schedule d)

pub charged-given : (t : List ℕ) (stop : ℕ) (s : List ℕ) (j : Job) (schedule : Schedule) (c : Counts) → job_up_to t stop ≡ given j → ValidSheet j s schedule → check_answer t stop s ≡ given c
    → CountedBy j schedule c
unfolding counts_of charged
charged-given t stop s j schedule c e v pass =
    let same : counts_of j schedule ≡ c = (let given-too = Bytes.valid_passes t stop s j schedule e v in cc) in
    subst (CountedBy j schedule) same
    (charged_most j (start j) schedule, charged_exactly j (start j) schedule v.legal.valid, Bytes.fetches-on j schedule)

-- A round in which every disk of a job is idle.
abbrev idle_round : Job → List Action
idle_round j = replicate (disk_count j) idle

idle-acts : (marks : List Bool) (n : ℕ) → act_all marks (replicate n idle) ≡ marks
unfolding act_all act
idle-acts marks zero = refl
idle-acts marks (suc n) = idle-acts marks n

idle-legal : (j : Job) (marks : List Bool) (d n : ℕ) → LegalAll j marks d (replicate n idle)
unfolding LegalAll Legal act
idle-legal j marks d zero = tt
idle-legal j marks d (suc n) = (tt, idle-legal j marks (suc d) n)

idle-full : (j : Job) (marks : List Bool) (d n : ℕ) → discards_full_all j marks d (replicate n idle) ≡ true
unfolding discards_full_all discards_full act
idle-full j marks d zero = refl
idle-full j marks d (suc n) = idle-full j marks (suc d) n

module _ (j : Job) where
  idle-round : (s : State) → Ready j s → Round j s (idle_round j) (play_round j s (idle_round j))
  idle-round s ready =
      round_of j s (idle_round j) ready (length-replicate (disk_count j) idle) (idle-legal j s.resident 0 (disk_count j)) λ d l.
      (let l = ready.loads d l in let same = ap (λ (m : List Bool). load j m d) (idle-acts s.resident (disk_count j)) in omega (arith, l, same))

  -- they can be played after the last reference,
  idle-valid : (n : ℕ) (s : State) → Ready j s → s.next ≡ ref_count j → ValidFrom j s (replicate n (idle_round j))
  unfolding ValidFrom
  idle-valid zero s ready over = over
  idle-valid (suc n) s ready over =
      let t = play_round j s (idle_round j) in
      let r = idle-round s ready in
      let o = r.onward in
      let w = r.within in
      (t, r, idle-valid n t (ready_after j s (idle_round j) t ready r) (omega (arith, over, o, w)))

  valid-idle : (n : ℕ) (s : State) (schedule : Schedule) → Ready j s → ValidFrom j s schedule → ValidFrom j s (schedule ++ replicate n (idle_round j))
  unfolding ValidFrom
  valid-idle n s [] ready v = idle-valid n s ready v
  valid-idle n s (actions ∷ more) ready v =
      (v.0, v.1, valid-idle n v.0 more (ready_after j s actions v.0 ready v.1) v.2)

  -- throw nothing out,
  idles_full : (n : ℕ) (s : State) → discards_full_from j s (replicate n (idle_round j)) ≡ true
  unfolding discards_full_from
  idles_full zero s = refl
  idles_full (suc n) s = and_true (idle-full j s.resident 0 (disk_count j)) (idles_full n (play_round j s (idle_round j)))

  full-idle : (n : ℕ) (s : State) (schedule : Schedule) → discards_full_from j s (schedule ++ replicate n (idle_round j)) ≡ discards_full_from j s schedule
  unfolding discards_full_from
  full-idle n s [] = idles_full n s
  full-idle n s (actions ∷ more) = rw (full-idle n (play_round j s actions) more)

  -- and fetch nothing.
  idle-total : (n d : ℕ) → total fetched d (replicate n (idle_round j)) ≡ 0
  unfolding total
  idle-total zero d = refl
  idle-total (suc n) d =
      let here = ap fetched (get_d_same (disk_count j) d idle) in
      let ih = idle-total n d in
      omega (arith, here, ih)

  idle-counts : (n : ℕ) (schedule : Schedule) → ValidFrom j (start j) schedule → counts_of j (schedule ++ replicate n (idle_round j)) ≡ counts_of j schedule
  unfolding counts_of charged fetches
  idle-counts n schedule v =
      let same : (d : ℕ) → total fetched d (schedule ++ replicate n (idle_round j)) ≡ total fetched d schedule =
      (λ d. let e = total-after fetched d schedule (replicate n (idle_round j)) in let z = idle-total n d in omega (arith, e, z)) in
      λ i. record { rounds = charged-after j (start j) schedule (replicate n (idle_round j)) v i; fetches = each (λ d. same d i) 0 8 }

-- A sheet with idle rounds more passes as the sheet without them does, with the same counts.
pub idle_end : (t : List ℕ) (stop : ℕ) (s : List ℕ) (j : Job) (schedule : Schedule) (n : ℕ) → job_up_to t stop ≡ given j → ValidSheet j s schedule → length schedule + n ≤ 2048
    → check_answer t stop (sheet_of (schedule ++ replicate n (replicate (disk_count j) idle))) ≡ check_answer t stop s
idle_end t stop s j schedule n e v few =
    let longer = schedule ++ replicate n (idle_round j) in
    let long = length-append schedule (replicate n (idle_round j)) in
    let more = length-replicate n (idle_round j) in
    let ready = ready_start j (job_sound t stop j e) in
    let sheet : ValidSheet j (sheet_of longer) longer = record {
      legal = Bytes.legal-sheet j longer (omega (arith, long, more, few)) (valid-idle j n (start j) schedule ready v.legal.valid);
      full = full-idle j n (start j) schedule ∙ v.full;
    } in
    Bytes.valid_passes t stop (sheet_of longer) j longer e sheet ∙ ap given (idle-counts j n schedule v.legal.valid) ∙ sym (Bytes.valid_passes t stop s j schedule e v)

-- The rounds of either plan are those that it starts.
pub plans_charged : (j : Job) → ((short_counts j).rounds ≡ length (schedule_of short j)) × ((sparing_counts j).rounds ≡ length (schedule_of sparing j))
unfolding short_counts sparing_counts counts_of
plans_charged j = (schedule_charged short j, schedule_charged sparing j)

-- Whatever follows the last reference is not charged, while its fetches are counted.
fetches_added : (j : Job) (schedule more : Schedule) (d : ℕ) → fetches_on (counts_of j (schedule ++ more)) d ≡ fetches_on (counts_of j schedule) d + fetches_on (counts_of j more) d
unfolding fetches
fetches_added j schedule more d =
    by_test (ltb d 8)
    (λ e. let l = ltb-true d 8 e in
    let both = Bytes.fetches-on j (schedule ++ more) d l in
    let a = Bytes.fetches-on j schedule d l in
    let b = Bytes.fetches-on j more d l in
    let sum = total-after fetched d schedule more in
    omega (arith, both, a, b, sum))
    (λ e. let l = ltb-false d 8 e in
    let both = Bytes.fetches_beyond j (schedule ++ more) d l in
    let a = Bytes.fetches_beyond j schedule d l in
    let b = Bytes.fetches_beyond j more d l in
    omega (arith, both, a, b))

pub counts-after : (j : Job) (schedule more : Schedule) → ValidFrom j (start j) schedule
    → ((counts_of j (schedule ++ more)).rounds ≡ (counts_of j schedule).rounds)
    × ((d : ℕ) → fetches_on (counts_of j (schedule ++ more)) d ≡ fetches_on (counts_of j schedule) d + fetches_on (counts_of j more) d)
unfolding counts_of charged
counts-after j schedule more v = (charged-after j (start j) schedule more v, fetches_added j schedule more)

-- Request L9: "0 where nothing had to be fetched", which is so exactly if every reference is to a block that was carried in.
pub nothing-fetched : (t : List ℕ) (stop : ℕ) (s : List ℕ) (j : Job) (c : Counts) → job_up_to t stop ≡ given j → check_answer t stop s ≡ given c
    → (c.rounds ≡ 0) ↔ ((i : ℕ) → i < ref_count j → is_resident (start j).resident (ref_at j i) ≡ true)
unfolding play
nothing-fetched t stop s j c e pass =
    let p = (Bytes.passes_exactly t stop s c).0 pass in
    let is = p.2 in
    let same : p.0 ≡ j = cc in
    let valid = subst (λ (k : Job). ValidSheet k s p.1) same p.3 in
    let none = (charged-given t stop s j p.1 c e valid pass).1 0 in
    let all = start_all j in (
      λ z. all.0 (none.1 (omega (arith, z))),
      λ h. (let few = none.0 (all.1 h) in omega (arith, few)),
    )

-- "A buffer's content is now what was carried in, plus fetches, less discards."
pub buffers_hold : (t : List ℕ) (stop : ℕ) (s : List ℕ) (j : Job) (schedule : Schedule) → job_up_to t stop ≡ given j → ValidSheet j s schedule → (d : ℕ) → d < disk_count j → (k : ℕ)
    → (load j (play j (start j) (take k schedule)).resident d + total discarded d (take k schedule) ≡ length (carried_on j d) + total fetched d (take k schedule))
    × (load j (play j (start j) (take k schedule)).resident d ≤ slots_of j d)
buffers_hold t stop s j schedule e v = buffers-after j (job_sound t stop j e) schedule v.legal.valid
