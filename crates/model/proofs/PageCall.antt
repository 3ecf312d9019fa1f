-- Request L2: planning with a page. What the call gives, returns and writes, and what the page says. Assumes nothing.
use mathlib.Core.Path.{◌≡◌, refl, sym, ap, ◌∙◌, subst}
use mathlib.Core.Logic.{◌↔◌, ◌⊎◌, inl, inr, ⊎_elim}
use mathlib.Core.List.{List, map}
use Prim.Native.Nat.{ℕ, suc, ◌+◌, ◌*◌, ◌≤◌, ◌<◌}
use native.Mathlib.Omega.{arith}
use lib.Dec.{ltb}
use lib.ListN.{length, get_or, take, drop, length-append, length-drop, length-map}
use lib.Seq.{take-append_seam, drop-append_seam}
use borrow.Author.Tests.{le-ltb, ltb-true, ltb-false}
use Rattle.bits.specs.Reading.{Answer, given, refused}
use Rattle.bits.proofs.Logic.{by_test}
use Rattle.bits.proofs.Reading.{refused-given}
use Rattle.model.specs.Job.{Sound, Job, disk_count}
use Rattle.model.specs.Rules.{action, Rule, short, sparing}
use Rattle.model.specs.Plans.{plan_of, schedule_of, state_after}
use Rattle.model.specs.Page.{letter, line_of, legend, ended, page_of}
use Rattle.model.specs.Sheet.{sheet_of}
use Rattle.model.specs.Calls.{job_up_to, counts_of, short_counts, sparing_counts, Mark, is_short, is_sparing, chosen, Planned, handed_counts, planned_of, with_rooms, planned_for, plan_answer, written, PlannedPage, plan_handed, with_page, page_for, page_answer, plan_given, page_length, page_after}
use Rattle.model.proofs.Choosing.{Lawful, short_lawful, sparing_lawful}
use Rattle.model.proofs.Stop.{job_sound}
use Rattle.model.proofs.Charged.{schedule_charged}
use Rattle.model.proofs.Bytes.{schedule_fits, planned-counts}
use Rattle.model.proofs.Page.{page_line, page-letter, page_then, page-long, page_most}

-- What the call gives: it is refused as planning is, and otherwise the page decides.

module _ (t : List ℕ) (stop room₁ room₂ room₃ : ℕ) where
  data PageView : Answer PlannedPage → Type 0 where
    unplanned : (n : ℕ) → plan_answer t stop room₁ room₂ ≡ refused n → PageView (refused n)
    too_long : (j : Job) (p : Planned) → job_up_to t stop ≡ given j → plan_answer t stop room₁ room₂ ≡ given p → room₃ < length (page_of (plan_handed p.mark j)) → PageView (refused 19)
    fits : (j : Job) (p : Planned) → job_up_to t stop ≡ given j → plan_answer t stop room₁ room₂ ≡ given p → length (page_of (plan_handed p.mark j)) ≤ room₃
        → PageView (given (record { planned = p; page = page_of (plan_handed p.mark j) }))

  page_view : PageView (page_answer t stop room₁ room₂ room₃)
  unfolding page_answer page_for with_page plan_answer
  page_view = read (job_up_to t stop) refl
    where
      planned : (j : Job) → job_up_to t stop ≡ given j → (a : Answer Planned) → plan_answer t stop room₁ room₂ ≡ a → PageView (with_page room₃ j a)
      planned j e (refused n) q = unplanned n q
      planned j e (given p) q =
          by_test (ltb room₃ (length (page_of (plan_handed p.mark j))))
          (λ y. rw y (too_long j p e q (ltb-true _ _ y)))
          (λ y. rw y (fits j p e q (ltb-false _ _ y)))

      read : (x : Answer Job) → job_up_to t stop ≡ x → PageView (page_for room₁ room₂ room₃ x)
      read (refused n) e = unplanned n (ap (planned_for room₁ room₂) e)
      read (given j) e = planned j e (planned_for room₁ room₂ (given j)) (ap (planned_for room₁ room₂) e)

  -- so it gives something exactly if planning does and the page fits
  abbrev Paged : PlannedPage → Type 0
  Paged p = (j : Job) × (job_up_to t stop ≡ given j) × (plan_answer t stop room₁ room₂ ≡ given p.planned) × (p.page ≡ page_of (plan_handed p.planned.mark j)) × (length p.page ≤ room₃)

  pub page_exactly : (p : PlannedPage) → (page_answer t stop room₁ room₂ room₃ ≡ given p) ↔ Paged p
  page_exactly p = (there _ page_view, back _ page_view)
    where
      there : (x : Answer PlannedPage) → PageView x → x ≡ given p → Paged p
      there x (unplanned n q) h = refused-given h
      there x (too_long j r e q l) h = refused-given h
      there x (fits j r e q l) h = let same : record { planned = r; page = page_of (plan_handed r.mark j) } ≡ p = cc in subst Paged same (j, e, q, refl, l)

      back : (x : Answer PlannedPage) → PageView x → Paged p → x ≡ given p
      back x (unplanned n q) h = refused-given (sym q ∙ h.2)
      back x (too_long j r e q l) h = let same : page_of (plan_handed r.mark j) ≡ p.page = cc in absurd (omega (arith, l, h.4, ap length same))
      back x (fits j r e q l) h =
          let plan : r ≡ p.planned = cc in
          let page : page_of (plan_handed r.mark j) ≡ p.page = cc in
          λ i. given (record { planned = plan i; page = page i })

  -- and is refused with 19 after all numbers of planning
  abbrev Late : ℕ → Type 0
  Late n = (n ≡ 19) × (j : Job) × (p : Planned) × (job_up_to t stop ≡ given j) × (plan_answer t stop room₁ room₂ ≡ given p) × (room₃ < length (page_of (plan_handed p.mark j)))

  pub page-refusals : (n : ℕ) → (page_answer t stop room₁ room₂ room₃ ≡ refused n) ↔ ((plan_answer t stop room₁ room₂ ≡ refused n) ⊎ Late n)
  page-refusals n = (there _ page_view, ⊎_elim (first _ page_view) (second _ page_view))
    where
      there : (x : Answer PlannedPage) → PageView x → x ≡ refused n → (plan_answer t stop room₁ room₂ ≡ refused n) ⊎ Late n
      there x (unplanned m q) h = let same : m ≡ n = cc in inl (q ∙ ap refused same)
      there x (too_long j p e q l) h = inr ((cc), j, p, e, q, l)
      there x (fits j p e q l) h = refused-given (sym h)

      first : (x : Answer PlannedPage) → PageView x → plan_answer t stop room₁ room₂ ≡ refused n → x ≡ refused n
      first x (unplanned m q) h = let same : m ≡ n = cc in ap refused same
      first x (too_long j p e q l) h = refused-given (sym h ∙ q)
      first x (fits j p e q l) h = refused-given (sym h ∙ q)

      second : (x : Answer PlannedPage) → PageView x → Late n → x ≡ refused n
      second x (unplanned m q) h = refused-given (sym q ∙ h.4)
      second x (too_long j p e q l) h = ap refused (sym h.0)
      second x (fits j p e q l) h =
          let same : page_of (plan_handed p.mark j) ≡ page_of (plan_handed h.2.mark h.1) = cc in
          absurd (omega (arith, l, h.5, ap length same))

-- What the call returns and writes beside what planning does.
pub page-given : (t : List ℕ) (stop : ℕ) (lent : List ℕ) (room₁ room₂ : ℕ) (p : PlannedPage) → page_answer t stop room₁ room₂ (length lent) ≡ given p
    → (plan_given (given p) ≡ given p.planned)
    × (page_length (given p) ≡ length p.page)
    × (length (page_after (given p) lent) ≡ length lent)
    × (take (page_length (given p)) (page_after (given p) lent) ≡ p.page)
    × (drop (page_length (given p)) (page_after (given p) lent) ≡ drop (page_length (given p)) lent)
unfolding plan_given page_length written
page-given t stop lent room₁ room₂ p e =
    let rest = drop (length p.page) lent in
    let fits = ((page_exactly t stop room₁ room₂ (length lent) p).0 e).4 in
    let l = length-append p.page rest in
    let d = length-drop (length p.page) lent in
    (refl, refl, omega (arith, fits, l, d), take-append_seam p.page rest, drop-append_seam p.page rest)

-- The page given is that of the plan handed back, whose rounds are given too.

chosen_lawful : (m : Mark) → Lawful (chosen m short sparing)
chosen_lawful is_short = short_lawful
chosen_lawful is_sparing = sparing_lawful

handed-rounds : (m : Mark) (j : Job) → (chosen m (short_counts j) (sparing_counts j)).rounds ≡ length (plan_of (chosen m short sparing) j)
unfolding short_counts sparing_counts counts_of schedule_of
handed-rounds is_short j = schedule_charged short j ∙ length-map (plan_of short j) (map action)
handed-rounds is_sparing j = schedule_charged sparing j ∙ length-map (plan_of sparing j) (map action)

module _ (t : List ℕ) (stop : ℕ) (j : Job) (room₁ room₂ room₃ : ℕ) (p : PlannedPage) (e : job_up_to t stop ≡ given j) (h : page_answer t stop room₁ room₂ room₃ ≡ given p) where
  abbrev rule : Rule
  rule = chosen p.planned.mark short sparing

  lawful : Lawful rule
  lawful = chosen_lawful p.planned.mark

  sound : Sound j
  sound = job_sound t stop j e

  page-handed : p.page ≡ page_of (plan_of rule j)
  unfolding plan_handed
  page-handed =
      let x = (page_exactly t stop room₁ room₂ room₃ p).0 h in
      let same : x.0 ≡ j = cc in
      x.3 ∙ ap (λ (i : Job). page_of (plan_handed p.planned.mark i)) same

  rounds-handed : (handed_counts p.planned).rounds ≡ length (plan_of rule j)
  rounds-handed =
      let c = planned-counts t stop j room₁ room₂ p.planned e ((page_exactly t stop room₁ room₂ room₃ p).0 h).2 in
      (λ i. (chosen p.planned.mark (c.0 i) (c.1 i)).rounds) ∙ handed-rounds p.planned.mark j

  pub page-lines : (let n = (handed_counts p.planned).rounds in
      ((r d : ℕ) → r < n → d < disk_count j → take 17 (drop ((r * disk_count j + d) * 17) p.page) ≡ line_of (suc r) d (rule j (state_after rule j r) d))
      × (drop (n * disk_count j * 17) p.page ≡ ended legend))
  page-lines = rw (rounds-handed, page-handed) (page_line rule lawful j sound, page_then rule lawful j sound)

  pub page_letters : (r d : ℕ) → r < (handed_counts p.planned).rounds → d < disk_count j
      → get_or p.page ((r * disk_count j + d) * 17 + 15) 0 ≡ letter (rule j (state_after rule j r) d)
  page_letters = rw (rounds-handed, page-handed) (page-letter rule lawful j sound)

  pub page-length : (length p.page ≡ (handed_counts p.planned).rounds * disk_count j * 17 + 85) × (length p.page ≤ 278613)
  page-length = rw (rounds-handed, page-handed) (page-long rule lawful j sound, page_most rule lawful j sound)

-- An accepted ticket is not refused where each buffer has room for the longest sheet, and the longest page.

rooms_fit : (t : List ℕ) (stop : ℕ) (j : Job) (room₁ room₂ : ℕ) → job_up_to t stop ≡ given j → 40962 ≤ room₁ → 40962 ≤ room₂
    → plan_answer t stop room₁ room₂ ≡ given (planned_of j (schedule_of short j) (schedule_of sparing j))
unfolding plan_answer planned_for with_rooms planned_of
rooms_fit t stop j room₁ room₂ e p q =
    let a = schedule_fits short short_lawful t stop j e in
    let b = schedule_fits sparing sparing_lawful t stop j e in
    ap (planned_for room₁ room₂) e
    ∙ rw (le-ltb room₁ (length (sheet_of (schedule_of short j))) (omega (arith, a)), le-ltb room₂ (length (sheet_of (schedule_of sparing j))) (omega (arith, b)))

pub page_fits : (t : List ℕ) (stop : ℕ) (j : Job) (room₁ room₂ room₃ : ℕ) → job_up_to t stop ≡ given j → 40962 ≤ room₁ → 40962 ≤ room₂ → 278613 ≤ room₃
    → (p : PlannedPage) × (page_answer t stop room₁ room₂ room₃ ≡ given p)
unfolding plan_handed
page_fits t stop j room₁ room₂ room₃ e a b c =
    let planned = planned_of j (schedule_of short j) (schedule_of sparing j) in
    let few = page_most (chosen planned.mark short sparing) (chosen_lawful planned.mark) j (job_sound t stop j e) in
    let p : PlannedPage = record { planned = planned; page = page_of (plan_handed planned.mark j) } in
    (p, (page_exactly t stop room₁ room₂ room₃ p).1 (j, e, rooms_fit t stop j room₁ room₂ e a b, refl, omega (arith, few)))
