-- The theorems about schedules, carried to the bytes of tickets and sheets. Assumes nothing.
use mathlib.Core.Path.{◌≡◌, refl, sym, ap, ◌∙◌, subst}
use mathlib.Core.Logic.{◌↔◌}
use mathlib.Core.Bool.{Bool, true, false, cond}
use mathlib.Core.List.{List, [], ◌∷◌, ◌++◌, map, append_assoc}
use mathlib.Core.Option.{some}
use Prim.Native.Nat.{ℕ, zero, suc, ◌+◌, ◌≤◌, ◌<◌}
use native.Mathlib.Omega.{arith}
use lib.Dec.{ltb, lit<}
use lib.ListN.{length, get_or, take, drop, get_or-eq_default, length-map}
use lib.Seq.{take-append_seam}
use borrow.Author.Tests.{leb-true, le-leb, ltb-true, ltb-false}
use Rattle.bits.specs.Bits.{digits, over}
use Rattle.bits.specs.Reading.{Answer, given, refused}
use Rattle.bits.proofs.Logic.{by_test, Each}
use Rattle.bits.proofs.Bits.{Bits, bits-pack, digits_are}
use Rattle.bits.proofs.Reading.{refused-given}
use Rattle.model.specs.Job.{Sound, Job, disk_count, ref_count}
use Rattle.model.specs.Playing.{Action, idle, fetch, replace, Schedule, State, start, play_round, play, charged, fetched, total, fetches}
use Rattle.model.specs.Rules.{action, Rule, short, sparing}
use Rattle.model.specs.Plans.{each, choices, plan_from, plan_of, schedule_of}
use Rattle.model.specs.Sheet.{action_bits, round_bits, rounds_bits, sheet_bits, sheet_of}
use Rattle.model.specs.Valid.{Ready, ValidFrom, discards_full_from, LegalSheet, ValidSheet}
use Rattle.model.specs.Calls.{job_up_to, Counts, counts_of, fetches_on, short_counts, sparing_counts, Which, is_first, is_second, of_two, which_for, Mark, is_short, is_sparing, Planned, mark_for, chosen, handed, handed_counts, planned_of, with_rooms, planned_for, plan_answer, returned, part_after, pass_of, check_for, check_answer}
use Rattle.model.proofs.Choosing.{Lawful, short_lawful, sparing_lawful}
use Rattle.model.proofs.Carried.{ready_start}
use Rattle.model.proofs.Rounds.{ready_after}
use Rattle.model.proofs.Plans.{length-each, get_d_each, actions_of, plan_round, plan_consumes, plan_valid, plan_full, plan_few}
use Rattle.model.proofs.Charged.{plan_charged, schedule_charged}
use Rattle.model.proofs.Short.{ahead_self, short_unbeaten}
use Rattle.model.proofs.Sparing.{sparing_unbeaten}
use Rattle.model.proofs.Stop.{job_sound}
use Rattle.model.proofs.Check.{passed}
use Rattle.model.proofs.Validity.{read-valid, legal-read}
use Rattle.model.proofs.Longest.{passed_length}

-- a pass, and the valid sheets

-- an accepted ticket says one job up to a stop
one_job : (t : List ℕ) (stop : ℕ) {i j : Job} → job_up_to t stop ≡ given i → job_up_to t stop ≡ given j → i ≡ j
one_job t stop p q = cc

pub passes_valid : (t : List ℕ) (stop : ℕ) (s : List ℕ) (c : Counts) → check_answer t stop s ≡ given c
    → (j : Job) × (schedule : Schedule) × (job_up_to t stop ≡ given j) × ValidSheet j s schedule × (counts_of j schedule ≡ c)
passes_valid t stop s c e =
    let p = passed t stop s c e in
    (p.job, p.schedule, p.ticket, read-valid p.job p.sound s p.schedule p.read, p.counts)

-- what the check gives for a sheet of document 01
pub legal-answer : (t : List ℕ) (stop : ℕ) (s : List ℕ) (j : Job) (schedule : Schedule) → job_up_to t stop ≡ given j → LegalSheet j s schedule
    → check_answer t stop s ≡ cond (discards_full_from j (start j) schedule) (given (counts_of j schedule)) (refused 20)
unfolding check_answer check_for pass_of
legal-answer t stop s j schedule e v = ap (check_for s) e ∙ ap (pass_of j) (legal-read j (job_sound t stop j e) s schedule v) ∙ pass_if (discards_full_from j (start j) schedule)
  where
    pass_if : (full : Bool) → pass_of j (cond full (given schedule) (refused 20)) ≡ cond full (given (counts_of j schedule)) (refused 20)
    pass_if true = refl
    pass_if false = refl

pub valid_passes : (t : List ℕ) (stop : ℕ) (s : List ℕ) (j : Job) (schedule : Schedule) → job_up_to t stop ≡ given j → ValidSheet j s schedule → check_answer t stop s ≡ given (counts_of j schedule)
valid_passes t stop s j schedule e v =
    legal-answer t stop s j schedule e v.legal ∙ ap (λ (full : Bool). cond full (given (counts_of j schedule)) (refused 20)) v.full

-- the eight counts

pub fetches-on : (j : Job) (schedule : Schedule) (d : ℕ) → d < 8 → fetches_on (counts_of j schedule) d ≡ fetches schedule d
unfolding counts_of
fetches-on j schedule d l = get_d_each (fetches schedule) 0 8 d 0 l ∙ ap (fetches schedule) (let e : 0 + d ≡ d = omega arith in e)

pub fetches_beyond : (j : Job) (schedule : Schedule) (d : ℕ) → 8 ≤ d → fetches_on (counts_of j schedule) d ≡ 0
unfolding counts_of
fetches_beyond j schedule d l = get_or-eq_default (each (fetches schedule) 0 8) 0 {n = d} (let e = length-each (fetches schedule) 0 8 in omega (arith, e))

fetches-none : (schedule : Schedule) (d : ℕ) → total fetched d schedule ≡ 0 → fetches schedule d ≡ 0
unfolding fetches
fetches-none schedule d e = e

-- a plan fetches nothing on a disk that the job has not
plan_elsewhere : (rule : Rule) (j : Job) (d most : ℕ) (s : State) → disk_count j ≤ d → total fetched d (map (map action) (plan_from rule j most s)) ≡ 0
unfolding plan_from total choices
plan_elsewhere rule j d zero s l = refl
plan_elsewhere rule j d (suc most) s l =
    let actions = map action (choices rule j s) in
    let ih = plan_elsewhere rule j d most (play_round j s actions) l in
    let long = length-map (choices rule j s) action ∙ length-each (rule j s) 0 (disk_count j) in
    let none = ap fetched (get_or-eq_default actions idle {n = d} (omega (arith, long))) in
    by_test (ltb s.next (ref_count j))
    (λ e. rw (e, plan_from) (omega (arith, ih, none)))
    (λ e. rw (e, plan_from) refl)

-- Demand 3.

module _ (j : Job) (sound : Sound j) (schedule : Schedule) (v : ValidFrom j (start j) schedule) where
  ready : Ready j (start j)
  ready = ready_start j sound

  in_rounds : charged j (schedule_of short j) ≤ charged j schedule
  unfolding charged schedule_of plan_of
  in_rounds =
      let c = plan_charged short j (ref_count j) (start j) in
      let u = short_unbeaten j sound (ref_count j) (start j) (start j) schedule ready (ahead_self j (start j)) v in
      omega (arith, c, u)

  in_fetches : (d : ℕ) → fetches (schedule_of sparing j) d ≤ fetches schedule d
  unfolding schedule_of plan_of
  in_fetches d =
      by_test (ltb d (disk_count j))
      (λ e. sparing_unbeaten j sound (ref_count j) (start j) schedule ready v d (ltb-true _ _ e))
      (λ e. let z = none (ltb-false d (disk_count j) e) in omega (arith, z))
    where
      none : disk_count j ≤ d → fetches (map (map action) (plan_from sparing j (ref_count j) (start j))) d ≡ 0
      none l = fetches-none (map (map action) (plan_from sparing j (ref_count j) (start j))) d (plan_elsewhere sparing j d (ref_count j) (start j) l)

  counts_unbeaten : ((short_counts j).rounds ≤ (counts_of j schedule).rounds) × ((d : ℕ) → fetches_on (sparing_counts j) d ≤ fetches_on (counts_of j schedule) d)
  unfolding short_counts sparing_counts counts_of
  counts_unbeaten = (
    in_rounds,
    λ d.
        by_test (ltb d 8)
        (λ e. let l = ltb-true d 8 e in
        let a = fetches-on j (schedule_of sparing j) d l in
        let b = fetches-on j schedule d l in
        let f = in_fetches d in
        omega (arith, a, b, f))
        (λ e. let z = fetches_beyond j (schedule_of sparing j) d (ltb-false d 8 e) in omega (arith, z)),
  )

-- Of any sheet that document 01 lets pass,
pub legal_unbeaten : (t : List ℕ) (stop : ℕ) (s : List ℕ) (j : Job) (schedule : Schedule) → job_up_to t stop ≡ given j → LegalSheet j s schedule
    → ((short_counts j).rounds ≤ (counts_of j schedule).rounds) × ((d : ℕ) → fetches_on (sparing_counts j) d ≤ fetches_on (counts_of j schedule) d)
legal_unbeaten t stop s j schedule e v = counts_unbeaten j (job_sound t stop j e) schedule v.valid

-- so of any that passes.
pub unbeaten : (t : List ℕ) (stop : ℕ) (s : List ℕ) (j : Job) (c : Counts) → job_up_to t stop ≡ given j → check_answer t stop s ≡ given c
    → ((short_counts j).rounds ≤ c.rounds) × ((d : ℕ) → fetches_on (sparing_counts j) d ≤ fetches_on c d)
unbeaten t stop s j c e pass =
    let v = passes_valid t stop s c pass in
    let i = v.0 in
    subst (λ (x : Job). ((short_counts x).rounds ≤ c.rounds) × ((d : ℕ) → fetches_on (sparing_counts x) d ≤ fetches_on c d)) (one_job t stop v.2 e)
    (subst (λ (x : Counts). ((short_counts i).rounds ≤ x.rounds) × ((d : ℕ) → fetches_on (sparing_counts i) d ≤ fetches_on x d)) v.4
    (legal_unbeaten t stop s i v.1 v.2 v.3.legal))

-- Demand 2. The bits of a sheet are bits, so its bytes hold them and the closing zeros.

pub action-bits : (a : Action) (l : List ℕ) → Bits l → Bits (action_bits a ++ l)
unfolding action_bits Bits Each
action-bits idle l h = (lit< tt, h)
action-bits (fetch x) l h = (lit< tt, subst Bits (sym (append_assoc (digits 9 x) (0 ∷ []) l)) (digits_are 9 x (0 ∷ l) (lit< tt, h)))
action-bits (replace x z) l h = (lit< tt, subst Bits (sym (append_assoc (digits 9 x) (1 ∷ digits 9 z) l)) (digits_are 9 x (1 ∷ (digits 9 z ++ l)) (lit< tt, digits_are 9 z l h)))

pub round-bits : (actions : List Action) (l : List ℕ) → Bits l → Bits (round_bits actions ++ l)
unfolding round_bits
round-bits [] l h = h
round-bits (a ∷ more) l h = rw (append_assoc (action_bits a) (round_bits more) l) (action-bits a (round_bits more ++ l) (round-bits more l h))

pub rounds-bits : (schedule : Schedule) → Bits (rounds_bits schedule)
unfolding rounds_bits Bits Each
rounds-bits [] = tt
rounds-bits (actions ∷ more) = round-bits actions (rounds_bits more) (rounds-bits more)

pub sheet-bits : (schedule : Schedule) → Bits (sheet_bits schedule)
unfolding sheet_bits
sheet-bits schedule = digits_are 12 (length schedule) (rounds_bits schedule) (rounds-bits schedule)

pub legal-sheet : (j : Job) (schedule : Schedule) → length schedule ≤ 2048 → ValidFrom j (start j) schedule → LegalSheet j (sheet_of schedule) schedule
unfolding sheet_of
legal-sheet j schedule few v =
    let p = bits-pack (sheet_bits schedule) (sheet-bits schedule) in
    record { few_rounds = few; valid = v; closing_bits = p.0; few_closing = p.1; written = p.2 }

module _ (rule : Rule) (lawful : Lawful rule) (t : List ℕ) (stop : ℕ) (j : Job) (e : job_up_to t stop ≡ given j) where
  sound : Sound j
  sound = job_sound t stop j e

  pub schedule_valid : ValidFrom j (start j) (schedule_of rule j)
  unfolding schedule_of plan_of start
  schedule_valid = plan_valid rule lawful j sound (ref_count j) (start j) (ready_start j sound) (omega arith)

  schedule_full : discards_full_from j (start j) (schedule_of rule j) ≡ true
  unfolding schedule_of plan_of
  schedule_full = plan_full rule lawful j sound (ref_count j) (start j) (ready_start j sound)

  -- "neither takes more than N rounds"
  pub schedule_few : length (schedule_of rule j) ≤ ref_count j
  unfolding schedule_of plan_of
  schedule_few =
      let l = length-map (plan_from rule j (ref_count j) (start j)) (map action) in
      let f = plan_few rule lawful j sound (ref_count j) (start j) (ready_start j sound) in
      omega (arith, l, f)

  pub schedule_most : length (schedule_of rule j) ≤ 2048
  schedule_most = let f = schedule_few in let n = sound.few_refs in omega (arith, f, n)

  pub schedule_passes : check_answer t stop (sheet_of (schedule_of rule j)) ≡ given (counts_of j (schedule_of rule j))
  schedule_passes =
      valid_passes t stop (sheet_of (schedule_of rule j)) j (schedule_of rule j) e
      (record { legal = legal-sheet j (schedule_of rule j) schedule_most schedule_valid; full = schedule_full })

  -- "every plan's sheet .. fits the longest sheet's room"
  pub schedule_fits : length (sheet_of (schedule_of rule j)) ≤ 40962
  schedule_fits = passed_length t stop (sheet_of (schedule_of rule j)) _ schedule_passes

-- "In either plan every round consumes at least one reference."

pub consumes_from : (rule : Rule) → Lawful rule → (j : Job) → Sound j → (most : ℕ) (s : State) → Ready j s → (k : ℕ)
    → k < length (map (map action) (plan_from rule j most s))
    → (play j s (take k (map (map action) (plan_from rule j most s)))).next < (play j s (take (suc k) (map (map action) (plan_from rule j most s)))).next
unfolding plan_from play actions_of
consumes_from rule lawful j sound zero s ready k l = absurd (omega arith)
consumes_from rule lawful j sound (suc most) s ready k l =
    let ih = consumes_from rule lawful j sound most t (ready_after j s (actions_of rule j s) t ready (plan_round rule lawful j sound s ready)) in
    by_test (ltb s.next (ref_count j))
    (λ e. rw (e, plan_from) (step ih k (rw (e, plan_from) at l) (ltb-true _ _ e)))
    (λ e. let m = rw (e, plan_from) at l in absurd (omega (arith, m)))
  where
    t : State
    t = play_round j s (actions_of rule j s)

    rest : Schedule
    rest = map (map action) (plan_from rule j most t)

    step : ((k : ℕ) → k < length rest → (play j t (take k rest)).next < (play j t (take (suc k) rest)).next) → (k : ℕ) → k < suc (length rest) → s.next < ref_count j
        → (play j s (take k (actions_of rule j s ∷ rest))).next < (play j s (take (suc k) (actions_of rule j s ∷ rest))).next
    step ih zero l due = plan_consumes rule lawful j sound s ready due
    step ih (suc k) l due = ih k (omega arith)

schedule_consumes : (rule : Rule) → Lawful rule → (t : List ℕ) (stop : ℕ) (j : Job) → job_up_to t stop ≡ given j → (k : ℕ) → k < length (schedule_of rule j)
    → (play j (start j) (take k (schedule_of rule j))).next < (play j (start j) (take (suc k) (schedule_of rule j))).next
unfolding schedule_of plan_of
schedule_consumes rule lawful t stop j e =
    let sound = job_sound t stop j e in
    consumes_from rule lawful j sound (ref_count j) (start j) (ready_start j sound)

-- The sheet that planning hands back.

-- what a planning call that is not refused gives
pub planned : (t : List ℕ) (stop a b : ℕ) (p : Planned) → plan_answer t stop a b ≡ given p → (j : Job) × (job_up_to t stop ≡ given j) × (planned_of j (schedule_of short j) (schedule_of sparing j) ≡ p)
unfolding plan_answer planned_for with_rooms
planned t stop a b p e = go (job_up_to t stop) refl e
  where
    fits : (q : Planned) → with_rooms a b q ≡ given p → q ≡ p
    fits q h =
        by_test (ltb a (length q.short_sheet))
        (λ y. refused-given (rw y at h))
        (λ n. let k = rw n at h in
        by_test (ltb b (length q.sparing_sheet))
        (λ y. refused-given (rw y at k))
        (λ m. let f : given q ≡ given p = rw m at k in cc))

    go : (x : Answer Job) → job_up_to t stop ≡ x → planned_for a b x ≡ given p → (j : Job) × (job_up_to t stop ≡ given j) × (planned_of j (schedule_of short j) (schedule_of sparing j) ≡ p)
    go (given j) q h = (j, q, fits _ h)
    go (refused n) q h = refused-given h

-- the second is handed back exactly if it takes no more rounds, and the mark is sparing exactly if the sparing plan takes no more
picked_second : (t : Bool) → cond t is_second is_first ≡ is_second → t ≡ true
picked_second true e = refl
picked_second false e = let z : ◌≡◌ {A = ℕ} 0 1 = cc in absurd (omega arith)

pub which_second : (a b : ℕ) → (which_for a b ≡ is_second) ↔ (b ≤ a)
unfolding which_for
which_second a b = (λ e. leb-true b a (picked_second _ e), λ l. ap (λ (t : Bool). cond t is_second is_first) (le-leb b a l))

marked_second : (w : Which) → (of_two w is_short is_sparing ≡ is_sparing) ↔ (w ≡ is_second)
marked_second is_first = (λ e. let z : ◌≡◌ {A = ℕ} 0 1 = cc in absurd (omega arith), λ e. let z : ◌≡◌ {A = ℕ} 0 1 = cc in absurd (omega arith))
marked_second is_second = (λ e. refl, λ e. refl)

pub mark_second : (a b : ℕ) → (mark_for a b ≡ is_sparing) ↔ (which_for a b ≡ is_second)
unfolding mark_for
mark_second a b = marked_second (which_for a b)

mark-sparing : (a b : ℕ) → (mark_for a b ≡ is_sparing) ↔ (b ≤ a)
mark-sparing a b = (λ e. (which_second a b).0 ((mark_second a b).0 e), λ l. (mark_second a b).1 ((which_second a b).1 l))

-- what belongs to the marked plan belongs to the sheet that is handed back
pub chosen_two : {A : Type 0} (w : Which) (a b : A) → chosen (of_two w is_short is_sparing) a b ≡ of_two w a b
chosen_two is_first a b = refl
chosen_two is_second a b = refl

-- what is said of the sheet handed back
abbrev HandedBack : List ℕ → ℕ → Planned → Type 0
HandedBack t stop p =
    ((p.mark ≡ is_sparing) ↔ (p.short.rounds ≡ p.sparing.rounds))
    × (length (handed p) ≡ p.part_length)
    × (check_answer t stop (handed p) ≡ given (handed_counts p))
    × ((s : List ℕ) (c : Counts) → check_answer t stop s ≡ given c → ((handed_counts p).rounds ≤ c.rounds) × ((d : ℕ) → fetches_on p.sparing d ≤ fetches_on c d))

-- either plan's sheet, where the mark says that it is as short as the short plan's
handed_of : (t : List ℕ) (stop : ℕ) (j : Job) → job_up_to t stop ≡ given j → (m : Mark) → mark_for (charged j (schedule_of short j)) (charged j (schedule_of sparing j)) ≡ m
    → (check_answer t stop (chosen m (sheet_of (schedule_of short j)) (sheet_of (schedule_of sparing j))) ≡ given (chosen m (short_counts j) (sparing_counts j)))
    × ((s : List ℕ) (c : Counts) → check_answer t stop s ≡ given c → (chosen m (short_counts j) (sparing_counts j)).rounds ≤ c.rounds)
unfolding short_counts sparing_counts
handed_of t stop j e is_short q = (schedule_passes short short_lawful t stop j e, λ s c h. (unbeaten t stop s j c e h).0)
handed_of t stop j e is_sparing q = (
  schedule_passes sparing sparing_lawful t stop j e,
  λ s c h. (let k = (unbeaten t stop s j c e h).0 in let few = (mark-sparing (charged j (schedule_of short j)) (charged j (schedule_of sparing j))).0 q in omega (arith, k, few)),
)

-- the sparing plan takes no fewer rounds than the short one, so no more means equally many
mark_equal : (t : List ℕ) (stop : ℕ) (j : Job) → job_up_to t stop ≡ given j
    → (mark_for (charged j (schedule_of short j)) (charged j (schedule_of sparing j)) ≡ is_sparing) ↔ (charged j (schedule_of short j) ≡ charged j (schedule_of sparing j))
unfolding short_counts counts_of
mark_equal t stop j e =
    let a = charged j (schedule_of short j) in
    let b = charged j (schedule_of sparing j) in
    let least : a ≤ b = (unbeaten t stop (sheet_of (schedule_of sparing j)) j (counts_of j (schedule_of sparing j)) e (schedule_passes sparing sparing_lawful t stop j e)).0 in
    (λ q. let few = (mark-sparing a b).0 q in omega (arith, least, few), λ q. (mark-sparing a b).1 (omega (arith, q)))

part_of : (a b : Schedule) (m : Mark) → length (chosen m (sheet_of a) (sheet_of b)) ≡ chosen m (length (sheet_of a)) (length (sheet_of b))
part_of a b is_short = refl
part_of a b is_sparing = refl

pub handed_back : (t : List ℕ) (stop a b : ℕ) (p : Planned) → plan_answer t stop a b ≡ given p → HandedBack t stop p
unfolding planned_of counts_of short_counts sparing_counts
handed_back t stop a b p e =
    let w = planned t stop a b p e in
    let j = w.0 in
    let h = handed_of t stop j w.1 (mark_for (charged j (schedule_of short j)) (charged j (schedule_of sparing j))) refl in
    subst (HandedBack t stop) w.2 (
      mark_equal t stop j w.1,
      part_of (schedule_of short j) (schedule_of sparing j) (mark_for (charged j (schedule_of short j)) (charged j (schedule_of sparing j))),
      h.0,
      λ s c pass. (h.1 s c pass, (unbeaten t stop s j c w.1 pass).1),
    )

-- the part of the two buffers is the sheet that is handed back

take-over : (s lent : List ℕ) → take (length s) (over s lent) ≡ s
unfolding over
take-over s lent = take-append_seam s (drop (length s) lent)

part-chosen : (m : Mark) (a b x y : List ℕ) → take (length (chosen m a b)) (chosen m (over a x) (over b y)) ≡ chosen m a b
part-chosen is_short a b x y = take-over a x
part-chosen is_sparing a b x y = take-over b y

pub plan-given : (t : List ℕ) (stop a b : ℕ) (p : Planned) → plan_answer t stop a b ≡ given p
    → (let r = returned (given p) in (r.number ≡ 0) × (r.mark ≡ some p.mark) × (r.part_length ≡ length (handed p)) × (r.short ≡ p.short) × (r.sparing ≡ p.sparing))
unfolding returned
plan-given t stop a b p e = (refl, refl, sym (handed_back t stop a b p e).1, refl, refl)

pub part-handed : (t : List ℕ) (stop : ℕ) (short' sparing' : List ℕ) (p : Planned) → plan_answer t stop (length short') (length sparing') ≡ given p → part_after (given p) short' sparing' ≡ handed p
unfolding part_after planned_of counts_of
part-handed t stop short' sparing' p e =
    let w = planned t stop (length short') (length sparing') p e in
    let j = w.0 in
    let a = schedule_of short j in
    let b = schedule_of sparing j in
    let m = mark_for (charged j a) (charged j b) in
    subst (λ (x : Planned). part_after (given x) short' sparing' ≡ handed x) w.2
    (ap (λ (n : ℕ). take n (chosen m (over (sheet_of a) short') (over (sheet_of b) sparing'))) (sym (part_of a b m)) ∙ part-chosen m (sheet_of a) (sheet_of b) short' sparing')

-- its numbers are the plans' own
pub planned-counts : (t : List ℕ) (stop : ℕ) (j : Job) (a b : ℕ) (p : Planned) → job_up_to t stop ≡ given j → plan_answer t stop a b ≡ given p
    → (p.short ≡ short_counts j) × (p.sparing ≡ sparing_counts j) × (p.short_sheet ≡ sheet_of (schedule_of short j)) × (p.sparing_sheet ≡ sheet_of (schedule_of sparing j))
unfolding planned_of short_counts sparing_counts
planned-counts t stop j a b p q e =
    let w = planned t stop a b p e in
    let same = one_job t stop w.1 q in
    subst (λ (x : Planned). (x.short ≡ short_counts j) × (x.sparing ≡ sparing_counts j) × (x.short_sheet ≡ sheet_of (schedule_of short j)) × (x.sparing_sheet ≡ sheet_of (schedule_of sparing j)))
    w.2 (
      ap short_counts same,
      ap sparing_counts same,
      ap (λ (i : Job). sheet_of (schedule_of short i)) same,
      ap (λ (i : Job). sheet_of (schedule_of sparing i)) same,
    )

-- the remaining promises, as they are stated

pub rounds-few : (rule : Rule) → Lawful rule → (t : List ℕ) (stop : ℕ) (j : Job) → job_up_to t stop ≡ given j
    → ((k : ℕ) → k < length (schedule_of rule j) → (play j (start j) (take k (schedule_of rule j))).next < (play j (start j) (take (suc k) (schedule_of rule j))).next)
    × (charged j (schedule_of rule j) ≤ ref_count j) × (charged j (schedule_of rule j) ≤ 2048) × (length (sheet_of (schedule_of rule j)) ≤ 40962)
rounds-few rule lawful t stop j e =
    let all = schedule_charged rule j in
    let few = schedule_few rule lawful t stop j e in
    let most = schedule_most rule lawful t stop j e in
    (schedule_consumes rule lawful t stop j e, omega (arith, all, few), omega (arith, all, most), schedule_fits rule lawful t stop j e)

pub passes_exactly : (t : List ℕ) (stop : ℕ) (s : List ℕ) (c : Counts) → (check_answer t stop s ≡ given c)
    ↔ ((j : Job) × (schedule : Schedule) × (job_up_to t stop ≡ given j) × ValidSheet j s schedule × (counts_of j schedule ≡ c))
passes_exactly t stop s c = (passes_valid t stop s c, λ w. valid_passes t stop s w.0 w.1 w.2 w.3 ∙ ap given w.4)
