-- Request L10: the call for the least slot count of a disk. Assumes nothing.
use mathlib.Core.Path.{◌≡◌, refl, sym, ap, ◌∙◌, subst}
use mathlib.Core.Logic.{◌↔◌, ◌⊎◌, inl, inr, ⊎_elim}
use mathlib.Core.Bool.{true}
use mathlib.Core.List.{List, [], ◌∷◌}
use mathlib.Core.Option.{Option, none, some}
use Prim.Native.Nat.{ℕ, ◌≤◌, ◌<◌}
use native.Mathlib.Omega.{arith}
use lib.Dec.{ltb, leb}
use lib.ListN.{length, drop, length-append, length-drop}
use lib.Seq.{take-append_seam, drop-append_seam}
use borrow.Author.Tests.{ltb-true, ltb-false, leb-true, leb-false}
use Rattle.bits.specs.Bits.{over}
use Rattle.bits.specs.Reading.{Answer, given, refused}
use Rattle.bits.proofs.Logic.{by_test, clash}
use Rattle.bits.proofs.Reading.{refused-given}
use Rattle.model.specs.Job.{Job, disk_count, ref_count, slots_of, up_to}
use Rattle.model.specs.Ticket.{ticket_of}
use Rattle.model.specs.Plans.{each}
use Rattle.model.specs.Calls.{job_up_to, Counts, short_counts, Planned, plan_answer, written, check_answer, job_numbers, among}
use Rattle.slot_counts.specs.Slots.{with_slots, ticket_with, Least, NoneEnough, least_slots, SlotsFound, found_with, with_sheet, slots_for, slots_answer, slots_after, returned_slots, slots_part, slots_refusals}
use Rattle.model.proofs.Ticket.{ticket_sound}
use Rattle.model.proofs.Stop.{stops_exactly}
use Rattle.model.proofs.Numbers.{job_number, among_left, among-within, within_all}
use Rattle.model.proofs.Bytes.{planned-counts}
use Rattle.slot_counts.proofs.Slots

-- a stop changes no disk
disks-of : (stop : ℕ) (k j : Job) → up_to stop j ≡ k → disk_count k ≡ disk_count j
unfolding up_to
disks-of stop k j e = sym (ap disk_count e)

one_ticket : (t : List ℕ) {i j : Job} → ticket_of t ≡ given i → ticket_of t ≡ given j → i ≡ j
one_ticket t {i} {j} e f = let same : ◌≡◌ {A = Answer Job} (given i) (given j) = sym e ∙ f in cc

-- none is no count
none-some : {P : Type 0} {f : SlotsFound} → given none ≡ given (some f) → P
none-some e = let z : ◌≡◌ {A = ℕ} 0 1 = cc in absurd (omega arith)

module _ (t : List ℕ) (stop d wanted room : ℕ) where
  -- The ticket is accepted, and the stop and the disk are within it.
  abbrev Asked : Job → Type 0
  Asked j = (ticket_of t ≡ given j) × (stop ≤ ref_count j) × (d < disk_count j)

  data SlotsView : Answer (Option SlotsFound) → Type 0 where
    unread : (n : ℕ) → job_up_to t stop ≡ refused n → SlotsView (refused n)
    missing : (k : Job) → job_up_to t stop ≡ given k → disk_count k ≤ d → SlotsView (refused 27)
    no_count : (j : Job) → Asked j → NoneEnough j stop d wanted → SlotsView (given none)
    small : (j : Job) → Asked j → (s : ℕ) → Least j stop d wanted s → room < length (found_with d (up_to stop j) s).sheet → SlotsView (refused 17)
    fits : (j : Job) → Asked j → (s : ℕ) → Least j stop d wanted s → length (found_with d (up_to stop j) s).sheet ≤ room → SlotsView (given (some (found_with d (up_to stop j) s)))

  with_view : (j : Job) → Asked j → SlotsView (with_sheet room d (up_to stop j) (least_slots (up_to stop j) d wanted))
  unfolding with_sheet
  with_view j a = go _ (Slots.least_view j (ticket_sound t j a.0) stop a.1 d wanted)
    where
      go : (o : Option ℕ) → Slots.LeastView j (ticket_sound t j a.0) stop a.1 d wanted o → SlotsView (with_sheet room d (up_to stop j) o)
      go o (Slots.no_count h) = no_count j a h
      go o (Slots.count s h) =
          by_test (ltb room (length (found_with d (up_to stop j) s).sheet))
          (λ y. rw y (small j a s h (ltb-true room (length (found_with d (up_to stop j) s).sheet) y)))
          (λ y. rw y (fits j a s h (ltb-false room (length (found_with d (up_to stop j) s).sheet) y)))

  slots_view : SlotsView (slots_answer t stop d wanted room)
  unfolding slots_answer slots_for
  slots_view = go (job_up_to t stop) refl
    where
      go : (x : Answer Job) → job_up_to t stop ≡ x → SlotsView (slots_for d wanted room x)
      go (refused n) e = unread n e
      go (given k) e =
          let w = (stops_exactly t stop k).0 e in
          by_test (leb (disk_count k) d)
          (λ y. rw (y, slots_for) (missing k e (leb-true (disk_count k) d y)))
          (λ y. rw (y, slots_for)
          (subst (λ (x : Job). SlotsView (with_sheet room d x (least_slots x d wanted))) w.3 (with_view w.0 (w.1, w.2, (let less = leb-false (disk_count k) d y in let same = disks-of stop k w.0 w.3 in omega (arith, less, same))))))

  -- One ticket says one job, and there is one least count.
  one_job : {i j : Job} → Asked i → Asked j → i ≡ j
  one_job a b = one_ticket t a.0 b.0

  one_least : {i j : Job} → i ≡ j → {r s : ℕ} → Least i stop d wanted r → Least j stop d wanted s → r ≡ s
  one_least {i} e {r} {s} a b =
      let there = subst (λ (x : Job). Least x stop d wanted s) (sym e) b in
      let first = a.least s there.allowed there.enough in
      let second = there.least r a.allowed a.enough in
      omega (arith, first, second)

  one_found : {i j : Job} → Asked i → Asked j → {r s : ℕ} → Least i stop d wanted r → Least j stop d wanted s → found_with d (up_to stop i) r ≡ found_with d (up_to stop j) s
  one_found a b g h = λ x. found_with d (up_to stop (one_job a b x)) (one_least (one_job a b) g h x)

  -- Where a job is asked for, it is not refused by the ticket, the stop or the disk;
  read_asked : {P : Type 0} {n : ℕ} {j : Job} → job_up_to t stop ≡ refused n → Asked j → P
  read_asked {j = j} e a = refused-given (sym e ∙ (stops_exactly t stop (up_to stop j)).1 (j, a.0, a.1, refl))

  disk_asked : {P : Type 0} {k j : Job} → job_up_to t stop ≡ given k → disk_count k ≤ d → Asked j → P
  disk_asked {k = k} {j} e l a =
      let w = (stops_exactly t stop k).0 e in
      let one = ap disk_count (one_ticket t w.1 a.0) in
      let same = disks-of stop k w.0 w.3 in
      let less = a.2 in
      absurd (omega (arith, l, same, one, less))

  -- and a count is given or none.
  none-least : {P : Type 0} {i j : Job} {s : ℕ} → Asked i → Asked j → NoneEnough i stop d wanted → Least j stop d wanted s → P
  unfolding NoneEnough
  none-least {s = s} a b h g = let there = subst (λ (x : Job). Least x stop d wanted s) (one_job b a) g in absurd (h s there.allowed there.enough)

  -- So a count is given exactly if it is the least and its sheet fits,
  abbrev pub Found : SlotsFound → Type 0
  Found f = (j : Job) × Asked j × (s : ℕ) × Least j stop d wanted s × (found_with d (up_to stop j) s ≡ f) × (length f.sheet ≤ room)

  pub slots_found : (f : SlotsFound) → (slots_answer t stop d wanted room ≡ given (some f)) ↔ Found f
  slots_found f = (there _ slots_view, back _ slots_view)
    where
      there : (x : Answer (Option SlotsFound)) → SlotsView x → x ≡ given (some f) → Found f
      there x (unread n e) h = refused-given h
      there x (missing k e l) h = refused-given h
      there x (no_count j a g) h = none-some h
      there x (small j a s g l) h = refused-given h
      there x (fits j a s g l) h = let same : found_with d (up_to stop j) s ≡ f = cc in (j, a, s, g, same, subst (λ (y : SlotsFound). length y.sheet ≤ room) same l)

      back : (x : Answer (Option SlotsFound)) → SlotsView x → Found f → x ≡ given (some f)
      back x (unread n e) w = read_asked e w.1
      back x (missing k e l) w = disk_asked e l w.1
      back x (no_count j a g) w = none-least a w.1 g w.3
      back x (small j a s g l) w =
          let same = ap (λ (y : SlotsFound). length y.sheet) (one_found a w.1 g w.3 ∙ w.4) in
          let short = w.5 in
          absurd (omega (arith, same, short, l))
      back x (fits j a s g l) w = ap (λ (y : SlotsFound). given (some y)) (one_found a w.1 g w.3 ∙ w.4)

  -- none exactly if no allowed count is enough,
  abbrev pub NoCount : Type 0
  NoCount = (j : Job) × Asked j × NoneEnough j stop d wanted

  pub slots-none : (slots_answer t stop d wanted room ≡ given none) ↔ NoCount
  slots-none = (there _ slots_view, back _ slots_view)
    where
      there : (x : Answer (Option SlotsFound)) → SlotsView x → x ≡ given none → NoCount
      there x (unread n e) h = refused-given h
      there x (missing k e l) h = refused-given h
      there x (no_count j a g) h = (j, a, g)
      there x (small j a s g l) h = refused-given h
      there x (fits j a s g l) h = none-some (sym h)

      back : (x : Answer (Option SlotsFound)) → SlotsView x → NoCount → x ≡ given none
      back x (unread n e) w = read_asked e w.1
      back x (missing k e l) w = disk_asked e l w.1
      back x (no_count j a g) w = refl
      back x (small j a s g l) w = none-least w.1 a w.2 g
      back x (fits j a s g l) w = none-least w.1 a w.2 g

  -- and otherwise it is refused: with the number of the ticket or the stop, then 27, then 17.
  abbrev pub NoDisk : Type 0
  NoDisk = (j : Job) × (ticket_of t ≡ given j) × (stop ≤ ref_count j) × (disk_count j ≤ d)

  abbrev pub NoRoom : Type 0
  NoRoom = (j : Job) × Asked j × (s : ℕ) × Least j stop d wanted s × (room < length (found_with d (up_to stop j) s).sheet)

  pub slots-refusals : (n : ℕ) → (slots_answer t stop d wanted room ≡ refused n) ↔ ((job_up_to t stop ≡ refused n) ⊎ (((n ≡ 27) × NoDisk) ⊎ ((n ≡ 17) × NoRoom)))
  slots-refusals n = (there _ slots_view, ⊎_elim (first _ slots_view) (⊎_elim (second _ slots_view) (third _ slots_view)))
    where
      there : (x : Answer (Option SlotsFound)) → SlotsView x → x ≡ refused n → (job_up_to t stop ≡ refused n) ⊎ (((n ≡ 27) × NoDisk) ⊎ ((n ≡ 17) × NoRoom))
      there x (unread m e) h = inl (e ∙ h')
        where
          h' : ◌≡◌ {A = Answer Job} (refused m) (refused n)
          h' = let same : m ≡ n = cc in ap refused same
      there x (missing k e l) h =
          let w = (stops_exactly t stop k).0 e in
          let same = disks-of stop k w.0 w.3 in
          inr (inl ((cc), (w.0, w.1, w.2, omega (arith, l, same))))
      there x (no_count j a g) h = refused-given (sym h)
      there x (small j a s g l) h = inr (inr ((cc), (j, a, s, g, l)))
      there x (fits j a s g l) h = refused-given (sym h)

      first : (x : Answer (Option SlotsFound)) → SlotsView x → job_up_to t stop ≡ refused n → x ≡ refused n
      first x (unread m e) h = let same : m ≡ n = cc in ap refused same
      first x (missing k e l) h = refused-given (sym h ∙ e)
      first x (no_count j a g) h = read_asked h a
      first x (small j a s g l) h = read_asked h a
      first x (fits j a s g l) h = read_asked h a

      no_disk : {P : Type 0} → (w : NoDisk) → {j : Job} → Asked j → P
      no_disk w a = let same = ap disk_count (one_ticket t w.1 a.0) in let less = a.2 in let most = w.3 in absurd (omega (arith, same, less, most))

      second : (x : Answer (Option SlotsFound)) → SlotsView x → (n ≡ 27) × NoDisk → x ≡ refused n
      second x (unread m e) w = refused-given (sym e ∙ (stops_exactly t stop (up_to stop w.1.0)).1 (w.1.0, w.1.1, w.1.2, refl))
      second x (missing k e l) w = ap refused (sym w.0)
      second x (no_count j a g) w = no_disk w.1 a
      second x (small j a s g l) w = no_disk w.1 a
      second x (fits j a s g l) w = no_disk w.1 a

      third : (x : Answer (Option SlotsFound)) → SlotsView x → (n ≡ 17) × NoRoom → x ≡ refused n
      third x (unread m e) w = read_asked e w.1.1
      third x (missing k e l) w = disk_asked e l w.1.1
      third x (no_count j a g) w = none-least a w.1.1 g w.1.3
      third x (small j a s g l) w = ap refused (sym w.0)
      third x (fits j a s g l) w =
          let same = ap (λ (y : SlotsFound). length y.sheet) (one_found a w.1.1 g w.1.3) in
          let long = w.1.4 in
          absurd (omega (arith, same, long, l))

-- Its numbers are those of the ticket and the stop, 27 and 17.
pub slots-number : (t : List ℕ) (stop d wanted room n : ℕ) → slots_answer t stop d wanted room ≡ refused n → among n slots_refusals ≡ true
unfolding among each
slots-number t stop d wanted room n e =
    ⊎_elim (λ h. among_left n job_numbers (27 ∷ 17 ∷ []) (job_number t stop n h)) (⊎_elim (λ h. rw h.0) (λ h. rw h.0)) ((slots-refusals t stop d wanted room n).0 e)

pub slots-within : (t : List ℕ) (stop d wanted room n : ℕ) → slots_answer t stop d wanted room ≡ refused n → (1 ≤ n) × (n ≤ 27)
unfolding within_all each
slots-within t stop d wanted room n e = among-within 1 27 n slots_refusals refl (slots-number t stop d wanted room n e)

-- What is given with the least count: its sheet passes the check for the ticket with that count, within the wanted rounds, and no sheet for it takes
-- fewer; it is the short sheet that planning makes for it.
module _ (t : List ℕ) (stop d wanted room : ℕ) (f : SlotsFound) (e : slots_answer t stop d wanted room ≡ given (some f)) where
  abbrev pub FoundFor : Job → Type 0
  FoundFor j = (ticket_of t ≡ given j) × Least j stop d wanted f.slots
      × (check_answer (ticket_with d f.slots j) stop f.sheet ≡ given f.counts)
      × (f.counts.rounds ≤ wanted)
      × ((s : List ℕ) (c : Counts) → check_answer (ticket_with d f.slots j) stop s ≡ given c → f.counts.rounds ≤ c.rounds)
      × ((room₁ room₂ : ℕ) (p : Planned) → plan_answer (ticket_with d f.slots j) stop room₁ room₂ ≡ given p → (p.short ≡ f.counts) × (p.short_sheet ≡ f.sheet))

  pub slots-given : (j : Job) × FoundFor j
  unfolding found_with
  slots-given =
      let w = (slots_found t stop d wanted room f).0 e in
      let j = w.0 in
      let a = w.1 in
      let s = w.2 in
      let sound = ticket_sound t j a.0 in
      let allowed = w.3.allowed in
      let job = Slots.with_job j sound stop a.1 d s allowed in
      let same = w.4 in (
        j,
        (
          a.0,
          subst (λ (x : SlotsFound). Least j stop d wanted x.slots) same w.3,
          subst (λ (x : SlotsFound). check_answer (ticket_with d x.slots j) stop x.sheet ≡ given x.counts) same (Slots.found_passes j sound stop a.1 d s allowed),
          subst (λ (x : SlotsFound). x.counts.rounds ≤ wanted) same ((Slots.enough_exactly j sound stop a.1 d s allowed wanted).0 w.3.enough),
          subst (λ (x : SlotsFound). (s : List ℕ) (c : Counts) → check_answer (ticket_with d x.slots j) stop s ≡ given c → x.counts.rounds ≤ c.rounds) same
              (Slots.found_fewest j sound stop a.1 d s allowed),
          subst (λ (x : SlotsFound). (room₁ room₂ : ℕ) (p : Planned) → plan_answer (ticket_with d x.slots j) stop room₁ room₂ ≡ given p
              → (p.short ≡ x.counts) × (p.short_sheet ≡ x.sheet)) same
              (λ room₁ room₂ p g. let counts = planned-counts (ticket_with d s j) stop (with_slots d s (up_to stop j)) room₁ room₂ p job g in (counts.0, counts.2)),
        ),
      )

-- What the call returns and writes then.
pub slots-written : (t : List ℕ) (stop d wanted : ℕ) (lent : List ℕ) (f : SlotsFound) → slots_answer t stop d wanted (length lent) ≡ given (some f)
    → (let r = returned_slots (given (some f)) in (r.number ≡ 0) × (r.slots ≡ some (some f.slots)) × (r.sheet_length ≡ length f.sheet) × (r.counts ≡ f.counts))
    × (slots_part (given (some f)) lent ≡ f.sheet)
    × (length (slots_after (given (some f)) lent) ≡ length lent)
    × (drop (length f.sheet) (slots_after (given (some f)) lent) ≡ drop (length f.sheet) lent)
unfolding returned_slots slots_part written over
slots-written t stop d wanted lent f e =
    let rest = drop (length f.sheet) lent in
    let fits = ((slots_found t stop d wanted (length lent) f).0 e).5 in
    let l = length-append f.sheet rest in
    let n = length-drop (length f.sheet) lent in
    ((refl, refl, refl, refl), take-append_seam f.sheet rest, omega (arith, fits, l, n), drop-append_seam f.sheet rest)

-- Where the buffer holds the longest sheet it is not refused with 17.
pub slots_fits : (t : List ℕ) (stop d wanted room : ℕ) → 40962 ≤ room → slots_answer t stop d wanted room ≡ refused 17 → ⊥
unfolding among each
slots_fits t stop d wanted room l e =
    ⊎_elim (λ h. clash (job_number t stop 17 h) refl)
    (⊎_elim (λ h. (let z = h.0 in omega (arith, z)))
    (λ h. let w = h.1 in
    let short = Slots.found_short w.0 (ticket_sound t w.0 w.1.0) stop w.1.1 d w.2 w.3.allowed in
    let long = w.4 in
    omega (arith, short, long, l)))
    ((slots-refusals t stop d wanted room 17).0 e)

-- From 40,962 bytes on the buffer does not matter.
pub room_most : (t : List ℕ) (stop d wanted a b : ℕ) → 40962 ≤ a → 40962 ≤ b → slots_answer t stop d wanted a ≡ slots_answer t stop d wanted b
room_most t stop d wanted a b la lb = go (slots_answer t stop d wanted a) refl
  where
    go : (x : Answer (Option SlotsFound)) → slots_answer t stop d wanted a ≡ x → slots_answer t stop d wanted a ≡ slots_answer t stop d wanted b
    go (given (some f)) q =
        let w = (slots_found t stop d wanted a f).0 q in
        let short = Slots.found_short w.0 (ticket_sound t w.0 w.1.0) stop w.1.1 d w.2 w.3.allowed in
        let same = ap (λ (y : SlotsFound). length y.sheet) w.4 in
        q ∙ sym ((slots_found t stop d wanted b f).1 (w.0, w.1, w.2, w.3, w.4, omega (arith, short, same, lb)))
    go (given none) q = q ∙ sym ((slots-none t stop d wanted b).1 ((slots-none t stop d wanted a).0 q))
    go (refused n) q =
        ⊎_elim (λ h. q ∙ sym ((slots-refusals t stop d wanted b n).1 (inl h)))
        (⊎_elim (λ h. q ∙ sym ((slots-refusals t stop d wanted b n).1 (inr (inl h))))
        (λ h. absurd (slots_fits t stop d wanted a la (q ∙ ap refused h.0))))
        ((slots-refusals t stop d wanted a n).0 q)

-- The ticket's own slots are one of the counts: where its short plan is within the wanted rounds, a count is found, and none above them.
module _ (t : List ℕ) (stop d wanted room : ℕ) (j : Job) (accepted : ticket_of t ≡ given j) (few : stop ≤ ref_count j) (l : d < disk_count j)
    (rounds : (short_counts (up_to stop j)).rounds ≤ wanted) where
  pub own_found : slots_answer t stop d wanted room ≡ given none → ⊥
  unfolding NoneEnough
  own_found e =
      let w = (slots-none t stop d wanted room).0 e in
      let sound = ticket_sound t j accepted in
      subst (λ (x : Job). NoneEnough x stop d wanted) (one_ticket t w.1.0 accepted) w.2 (slots_of j d) (Slots.own_allowed j d sound l) (Slots.own_enough j d sound stop few l wanted rounds)

  pub own_most : (f : SlotsFound) → slots_answer t stop d wanted room ≡ given (some f) → f.slots ≤ slots_of j d
  unfolding found_with
  own_most f e =
      let w = (slots_found t stop d wanted room f).0 e in
      let sound = ticket_sound t j accepted in
      let least = subst (λ (x : Job). Least x stop d wanted w.2) (one_ticket t w.1.0 accepted) w.3 in
      subst (λ (x : SlotsFound). x.slots ≤ slots_of j d) w.4 (least.least (slots_of j d) (Slots.own_allowed j d sound l) (Slots.own_enough j d sound stop few l wanted rounds))

-- From 8 on the disk does not matter, and from 2,048 on the wanted rounds.
module _ (t : List ℕ) (stop room : ℕ) where
  pub disk_most : (d e wanted : ℕ) → 8 ≤ d → 8 ≤ e → slots_answer t stop d wanted room ≡ slots_answer t stop e wanted room
  disk_most d e wanted a b = go (job_up_to t stop) refl
    where
      missing : (k : Job) (n : ℕ) → 8 ≤ n → job_up_to t stop ≡ given k → slots_answer t stop n wanted room ≡ refused 27
      missing k n l q =
          let w = (stops_exactly t stop k).0 q in
          let most = (ticket_sound t w.0 w.1).few_disks in
          (slots-refusals t stop n wanted room 27).1 (inr (inl (refl, (w.0, w.1, w.2, omega (arith, l, most)))))

      go : (x : Answer Job) → job_up_to t stop ≡ x → slots_answer t stop d wanted room ≡ slots_answer t stop e wanted room
      go (refused n) q = (slots-refusals t stop d wanted room n).1 (inl q) ∙ sym ((slots-refusals t stop e wanted room n).1 (inl q))
      go (given k) q = missing k d a q ∙ sym (missing k e b q)

  pub wanted_most : (d wanted rounds : ℕ) → 2048 ≤ wanted → 2048 ≤ rounds → slots_answer t stop d wanted room ≡ slots_answer t stop d rounds room
  unfolding slots_answer
  wanted_most d wanted rounds a b = go (job_up_to t stop) refl
    where
      go : (x : Answer Job) → job_up_to t stop ≡ x → slots_for d wanted room (job_up_to t stop) ≡ slots_for d rounds room (job_up_to t stop)
      go (refused n) q = ap (slots_for d wanted room) q ∙ refl ∙ sym (ap (slots_for d rounds room) q)
      go (given k) q =
          let w = (stops_exactly t stop k).0 q in
          let same = subst (λ (x : Job). least_slots x d wanted ≡ least_slots x d rounds) w.3 (Slots.within_most w.0 (ticket_sound t w.0 w.1) stop w.2 d wanted rounds a b) in
          rw q (by_test (leb (disk_count k) d) (λ y. rw (y, slots_for)) (λ y. rw (y, slots_for) (ap (with_sheet room d k) same)))
