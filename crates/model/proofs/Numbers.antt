-- Demand 1: a refused call has one of its numbers in documents 01 and 02. Assumes nothing.
use mathlib.Core.Path.{◌≡◌, refl, sym, ap, ◌∙◌}
use mathlib.Core.Logic.{◌⊎◌, inl, inr, ⊎_elim}
use mathlib.Core.Bool.{Bool, true, false, cond, ◌&&◌}
use mathlib.Core.List.{List, [], ◌∷◌, ◌++◌}
use Prim.Native.Nat.{ℕ, zero, suc, ◌+◌, ◌*◌, ◌≤◌}
use native.Mathlib.Omega.{arith}
use lib.Dec.{eqb, ltb, leb}
use lib.ListN.{length}
use Rattle.bits.specs.Bits.{bits}
use Rattle.bits.specs.Reading.{Answer, given, refused, Read, got, stop, Reader, bind, ◌>>=◌, ◌>>◌, give, field, field_after, refuse_if, many, is_closed, closing, answer, read_all}
use borrow.Author.Tests.{eqb-true, leb-true}
use Rattle.bits.proofs.Logic.{by_test, clash, and_left, and_right}
use Rattle.bits.proofs.Reading.{refused-given}
use Rattle.model.specs.Job.{Job}
use Rattle.model.specs.Ticket.{slots_field, disk_field, ref_field, carried_blocks, carried_field, carried_fields, ticket_reader, ticket_of}
use Rattle.model.specs.Playing.{State, Schedule, start}
use Rattle.model.specs.Rules.{short, sparing}
use Rattle.model.specs.Plans.{each, schedule_of}
use Rattle.model.specs.Sheet.{discard_reader, fetch_reader, action_reader, round_reader, rounds_reader, sheet_reader, schedule_read}
use Rattle.model.specs.Calls.{job_up_to, Planned, ticket_numbers, job_numbers, sheet_numbers, room_numbers, check_refusals, plan_refusals, page_refusals, among, number_of, pass_of, check_for, check_answer, planned_of, with_rooms, planned_for, plan_answer, page_answer}
use Rattle.model.proofs.Stop.{stop_refusals}
use Rattle.model.proofs.PageCall.{page-refusals}

-- Where a reader stops, its number is one of a list.
record Numbered {A : Type 0} (ns : List ℕ) (r : Reader A) : Type 0 where
  stops : (l : List ℕ) (n : ℕ) → r l ≡ stop n → among n ns ≡ true

got-stop : {A : Type 0} {C : Type 0} {a : A} {l : List ℕ} {n : ℕ} → got a l ≡ stop n → C
got-stop e = let z : ◌≡◌ {A = ℕ} 0 1 = cc in absurd (omega (arith, z))

stopped : {A : Type 0} (ns : List ℕ) {m n : ℕ} → among m ns ≡ true → ◌≡◌ {A = Read A} (stop m) (stop n) → among n ns ≡ true
stopped ns {m} {n} h e = let same : m ≡ n = cc in ap (λ (x : ℕ). among x ns) (sym same) ∙ h

then : {A B : Type 0} {ns : List ℕ} {r : Reader A} {f : A → Reader B} → Numbered ns r → ((a : A) → Numbered ns (f a)) → Numbered ns (r >>= f)
unfolding ◌>>=◌ bind
then {A = A} {ns = ns} {r = r} {f = f} h k = record { stops = λ l n e. go l n (r l) refl e }
  where
    go : (l : List ℕ) (n : ℕ) (x : Read A) → r l ≡ x → bind x f ≡ stop n → among n ns ≡ true
    go l n (got a m) q p = (k a).stops m n p
    go l n (stop m) q p = h.stops l n (q ∙ let same : m ≡ n = cc in ap stop same)

next : {A B : Type 0} {ns : List ℕ} {r : Reader A} {f : Reader B} → Numbered ns r → Numbered ns f → Numbered ns (r >> f)
unfolding ◌>>◌ ◌>>=◌
next {r = r} {f = f} h k = then {r = r} {f = λ a. f} h (λ a. k)

of_give : {A : Type 0} {ns : List ℕ} (a : A) → Numbered ns (give a)
unfolding give
of_give a = record { stops = λ l n e. got-stop e }

field-after : (ns : List ℕ) (m : ℕ) → among m ns ≡ true → (w before : ℕ) (l : List ℕ) (n : ℕ) → field_after m w before l ≡ stop n → among n ns ≡ true
unfolding field_after
field-after ns m h zero before l n e = got-stop e
field-after ns m h (suc w) before [] n e = stopped ns h e
field-after ns m h (suc w) before (b ∷ l) n e = field-after ns m h w (before * 2 + b) l n e

of_field : {ns : List ℕ} (m : ℕ) → among m ns ≡ true → (w : ℕ) → Numbered ns (field m w)
unfolding field
of_field {ns} m h w = record { stops = λ l n e. field-after ns m h w 0 l n e }

of_refuse : {ns : List ℕ} (m : ℕ) → among m ns ≡ true → (b : Bool) → Numbered ns (refuse_if m b)
unfolding refuse_if
of_refuse {ns} m h true = record { stops = λ l n e. stopped ns h e }
of_refuse m h false = record { stops = λ l n e. got-stop e }

of_closing : {ns : List ℕ} (m : ℕ) → among m ns ≡ true → Numbered ns (closing m)
unfolding closing
of_closing {ns} m h = record { stops = λ l n e. go n (is_closed l) e }
  where
    go : (n : ℕ) (b : Bool) → ◌≡◌ {A = Read (Unit {0})} (elim b [ true ↦ got tt [] | false ↦ stop m ]) (stop n) → among n ns ≡ true
    go n true p = got-stop p
    go n false p = stopped ns h p

of_many : {A : Type 0} {ns : List ℕ} (k : ℕ) {r : Reader A} → Numbered ns r → Numbered ns (many k r)
unfolding many
of_many zero h = of_give _
of_many (suc k) {r} h = then {r = r} h λ a. then (of_many k h) λ more. of_give _

of_whole : {A : Type 0} {ns : List ℕ} {r : Reader A} → Numbered ns r → (s : List ℕ) (n : ℕ) → read_all r s ≡ refused n → among n ns ≡ true
unfolding read_all answer
of_whole {A} {ns} {r} h s n e = go (r (bits s)) refl e
  where
    go : (x : Read A) → r (bits s) ≡ x → answer x ≡ refused n → among n ns ≡ true
    go (got a l) q p = refused-given (sym p)
    go (stop m) q p = h.stops (bits s) n (q ∙ (let same : m ≡ n = cc in ap stop same))

-- a ticket

of_slots : Numbered ticket_numbers slots_field
unfolding slots_field among each
of_slots = then (of_field 1 refl 7) λ s. next (of_refuse 3 refl _) (of_give _)

of-disk : (disks : ℕ) → Numbered ticket_numbers (disk_field disks)
unfolding disk_field among each
of-disk disks = then (of_field 1 refl 3) λ k. next (of_refuse 5 refl _) (of_give _)

of_ref : (blocks : ℕ) → Numbered ticket_numbers (ref_field blocks)
unfolding ref_field among each
of_ref blocks = then (of_field 1 refl 9) λ r. next (of_refuse 7 refl _) (of_give _)

of_carried_blocks : (disks : List ℕ) (d k least : ℕ) → Numbered ticket_numbers (carried_blocks disks d k least)
unfolding carried_blocks among each
of_carried_blocks disks d zero least = of_give _
of_carried_blocks disks d (suc k) least =
    then (of_field 1 refl 9) λ b. next (of_refuse 26 refl _) (then (of_carried_blocks disks d k (suc b)) λ more. of_give _)

of_carried : (disks : List ℕ) (d : ℕ) (slots : List ℕ) → Numbered ticket_numbers (carried_fields disks d slots)
unfolding carried_fields carried_field among each
of_carried disks d [] = of_give _
of_carried disks d (s ∷ others) =
    then (then (of_field 1 refl 7) λ k. next (of_refuse 25 refl _) (of_carried_blocks disks d k 0)) λ blocks.
    then (of_carried disks (suc d) others) λ more. of_give _

of_ticket : Numbered ticket_numbers ticket_reader
unfolding ticket_reader among each
of_ticket =
    then (of_field 1 refl 4) λ d. next (of_refuse 2 refl _) (then (of_many d of_slots) λ slots.
    then (of_field 1 refl 10) λ b. next (of_refuse 4 refl _) (then (of_many b (of-disk d)) λ disks.
    then (of_field 1 refl 12) λ n. next (of_refuse 6 refl _) (then (of_many n (of_ref b)) λ refs.
    then (of_carried disks 0 slots) λ carried. next (of_closing 8 refl) (of_give _))))

pub ticket_number : (t : List ℕ) (n : ℕ) → ticket_of t ≡ refused n → among n ticket_numbers ≡ true
unfolding ticket_of
ticket_number t n e = of_whole of_ticket t n e

-- a sheet

of_discard : (j : Job) (marks : List Bool) (d x b : ℕ) → Numbered sheet_numbers (discard_reader j marks d x b)
unfolding discard_reader among each
of_discard j marks d x zero = next (of_refuse 13 refl _) (of_give _)
of_discard j marks d x (suc k) = next (of_refuse 20 refl _) (then (of_field 9 refl 9) λ z. next (of_refuse 14 refl _) (of_give _))

of_fetch : (j : Job) (marks : List Bool) (d b : ℕ) → Numbered sheet_numbers (fetch_reader j marks d b)
unfolding fetch_reader among each
of_fetch j marks d zero = of_give _
of_fetch j marks d (suc k) =
    then (of_field 9 refl 9) λ x. next (of_refuse 11 refl _) (next (of_refuse 12 refl _) (then (of_field 9 refl 1) λ b. of_discard j marks d x b))

of_action : (j : Job) (marks : List Bool) (d : ℕ) → Numbered sheet_numbers (action_reader j marks d)
unfolding action_reader among each
of_action j marks d = then (of_field 9 refl 1) λ b. of_fetch j marks d b

of_round : (j : Job) (k : ℕ) (marks : List Bool) (d : ℕ) → Numbered sheet_numbers (round_reader j k marks d)
unfolding round_reader
of_round j zero marks d = of_give _
of_round j (suc k) marks d = then (of_action j marks d) λ a. then (of_round j k _ (suc d)) λ more. of_give _

of_rounds : (j : Job) (r : ℕ) (s : State) → Numbered sheet_numbers (rounds_reader j r s)
unfolding rounds_reader
of_rounds j zero s = of_give _
of_rounds j (suc r) s = then (of_round j _ s.resident 0) λ actions. then (of_rounds j r _) λ more. of_give _

of_sheet : (j : Job) (s : State) → Numbered sheet_numbers (sheet_reader j s)
unfolding sheet_reader among each
of_sheet j s =
    then (of_field 9 refl 12) λ r. next (of_refuse 10 refl _) (then (of_rounds j r s) λ schedule.
    next (of_refuse 15 refl _) (next (of_closing 16 refl) (of_give _)))

pub sheet-number : (j : Job) (s : List ℕ) (n : ℕ) → schedule_read j s ≡ refused n → among n sheet_numbers ≡ true
unfolding schedule_read
sheet-number j s n e = of_whole (of_sheet j (start j)) s n e

-- the calls, for a ticket t and a stop k (`stop` is here what a reader gives)

-- a number of one list or of the other
pub among_left : (n : ℕ) (l m : List ℕ) → among n l ≡ true → among n (l ++ m) ≡ true
unfolding among
among_left n [] m h = clash h refl
among_left n (a ∷ l) m h = by_test (eqb n a) (λ e. rw e) (λ e. rw e (among_left n l m (rw e at h)))

among_right : (n : ℕ) (l m : List ℕ) → among n m ≡ true → among n (l ++ m) ≡ true
unfolding among
among_right n [] m h = h
among_right n (a ∷ l) m h = by_test (eqb n a) (λ e. rw e) (λ e. rw e (among_right n l m h))

-- a number that is among small ones is small
unfoldable pub within_all : ℕ → ℕ → List ℕ → Bool
within_all low high [] = true
within_all low high (m ∷ more) = leb low m && leb m high && within_all low high more

pub among-within : (low high n : ℕ) (l : List ℕ) → within_all low high l ≡ true → among n l ≡ true → (low ≤ n) × (n ≤ high)
unfolding within_all among
among-within low high n [] w h = clash h refl
among-within low high n (m ∷ more) w h =
    let both = and_left (leb low m && leb m high) (within_all low high more) w in
    by_test (eqb n m)
    (λ e. rw (eqb-true n m e) (leb-true low m (and_left (leb low m) (leb m high) both), leb-true m high (and_right (leb low m) (leb m high) both)))
    (λ e. among-within low high n more (and_right (leb low m && leb m high) (within_all low high more) w) (rw e at h))

refused_same : {A B : Type 0} {a b : ℕ} → ◌≡◌ {A = Answer A} (refused a) (refused b) → ◌≡◌ {A = Answer B} (refused a) (refused b)
refused_same {a = a} {b} e = let same : a ≡ b = cc in ap refused same

-- a ticket and a stop
pub job_number : (t : List ℕ) (k n : ℕ) → job_up_to t k ≡ refused n → among n job_numbers ≡ true
unfolding among each
job_number t k n e =
    ⊎_elim (λ h. among_left n ticket_numbers (21 ∷ []) (ticket_number t n h)) (λ h. rw h.0) ((stop_refusals t k n).0 e)

-- a check's number is one of these, or one of a sheet's,
pub check_parts : (t : List ℕ) (k : ℕ) (s : List ℕ) (n : ℕ) → check_answer t k s ≡ refused n → (job_up_to t k ≡ refused n) ⊎ (among n sheet_numbers ≡ true)
unfolding check_answer check_for pass_of
check_parts t k s n e = go (job_up_to t k) refl e
  where
    sheet : (j : Job) (a : Answer Schedule) → schedule_read j s ≡ a → pass_of j a ≡ refused n → among n sheet_numbers ≡ true
    sheet j (given x) q h = refused-given (sym h)
    sheet j (refused m) q h = sheet-number j s n (q ∙ refused_same h)

    go : (a : Answer Job) → job_up_to t k ≡ a → check_for s a ≡ refused n → (job_up_to t k ≡ refused n) ⊎ (among n sheet_numbers ≡ true)
    go (given j) q h = inr (sheet j (schedule_read j s) refl h)
    go (refused m) q h = inl (q ∙ refused_same h)

pub check_number : (t : List ℕ) (k : ℕ) (s : List ℕ) (n : ℕ) → check_answer t k s ≡ refused n → among n check_refusals ≡ true
check_number t k s n e =
    ⊎_elim (λ h. among_left n job_numbers sheet_numbers (job_number t k n h)) (among_right n job_numbers sheet_numbers) (check_parts t k s n e)

rooms_number : (a b n : ℕ) (p : Planned) → with_rooms a b p ≡ refused n → among n room_numbers ≡ true
unfolding with_rooms among each
rooms_number a b n p = first (ltb a (length p.short_sheet)) (ltb b (length p.sparing_sheet))
  where
    is : {m : ℕ} → among m room_numbers ≡ true → ◌≡◌ {A = Answer Planned} (refused m) (refused n) → among n room_numbers ≡ true
    is {m} h e = let same : m ≡ n = cc in ap (λ (x : ℕ). among x room_numbers) (sym same) ∙ h

    first : (x y : Bool) → cond x (refused 17) (cond y (refused 18) (given p)) ≡ refused n → among n room_numbers ≡ true
    first true y e = is refl e
    first false true e = is refl e
    first false false e = refused-given (sym e)

-- and planning's one of these, or one of the rooms'
pub plan_parts : (t : List ℕ) (k a b n : ℕ) → plan_answer t k a b ≡ refused n → (job_up_to t k ≡ refused n) ⊎ (among n room_numbers ≡ true)
unfolding plan_answer planned_for
plan_parts t k a b n e = go (job_up_to t k) refl e
  where
    go : (x : Answer Job) → job_up_to t k ≡ x → planned_for a b x ≡ refused n → (job_up_to t k ≡ refused n) ⊎ (among n room_numbers ≡ true)
    go (given j) q h = inr (rooms_number a b n (planned_of j (schedule_of short j) (schedule_of sparing j)) h)
    go (refused m) q h = inl (q ∙ refused_same h)

pub plan_number : (t : List ℕ) (k a b n : ℕ) → plan_answer t k a b ≡ refused n → among n plan_refusals ≡ true
plan_number t k a b n e =
    ⊎_elim (λ h. among_left n job_numbers room_numbers (job_number t k n h)) (among_right n job_numbers room_numbers) (plan_parts t k a b n e)

-- a page's own number comes after those of planning
pub page-number : (t : List ℕ) (k a b c n : ℕ) → page_answer t k a b c ≡ refused n → among n page_refusals ≡ true
unfolding among each
page-number t k a b c n e =
    ⊎_elim (λ h. among_left n plan_refusals (19 ∷ []) (plan_number t k a b n h)) (λ h. rw h.0) ((page-refusals t k a b c n).0 e)

-- so no number of a refused call is 0, and each is small
pub ticket_within : (t : List ℕ) (n : ℕ) → ticket_of t ≡ refused n → (1 ≤ n) × (n ≤ 26)
unfolding within_all each
ticket_within t n e = among-within 1 26 n ticket_numbers refl (ticket_number t n e)

pub check_within : (t : List ℕ) (k : ℕ) (s : List ℕ) (n : ℕ) → check_answer t k s ≡ refused n → (1 ≤ n) × (n ≤ 26)
unfolding within_all each
check_within t k s n e = among-within 1 26 n check_refusals refl (check_number t k s n e)

pub plan_within : (t : List ℕ) (k a b n : ℕ) → plan_answer t k a b ≡ refused n → (1 ≤ n) × (n ≤ 26)
unfolding within_all each
plan_within t k a b n e = among-within 1 26 n plan_refusals refl (plan_number t k a b n e)

pub page-within : (t : List ℕ) (k a b c n : ℕ) → page_answer t k a b c ≡ refused n → (1 ≤ n) × (n ≤ 26)
unfolding within_all each
page-within t k a b c n e = among-within 1 26 n page_refusals refl (page-number t k a b c n e)

-- and a call is refused where its number is not 0
pub refused_by : {A : Type 0} (a : Answer A) (number : ℕ) → number ≡ number_of a → (number ≡ 0 → ⊥) → a ≡ refused number
refused_by (given v) number e f = absurd (f e)
refused_by (refused n) number e f = ap refused (sym e)
