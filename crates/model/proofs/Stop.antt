-- Request L5: a ticket's job up to a stop, and which tickets have one. Assumes nothing.
use mathlib.Core.Path.{◌≡◌, refl, sym, ap, ◌∙◌, subst}
use mathlib.Core.Logic.{◌↔◌, ◌⊎◌, inl, inr, ⊎_elim}
use mathlib.Core.Bool.{true, cond}
use mathlib.Core.List.{List}
use Prim.Native.Nat.{ℕ, ◌≤◌, ◌<◌}
use native.Mathlib.Omega.{arith}
use lib.Dec.{ltb}
use lib.ListN.{length, length-take}
use lib.Seq.{get_or-take, take-length}
use borrow.Author.Tests.{ltb-true, ltb-false}
use Rattle.bits.specs.Bits.{pack}
use Rattle.bits.specs.Reading.{Answer, given, refused}
use Rattle.bits.proofs.Logic.{by_test}
use Rattle.bits.proofs.Reading.{refused-given}
use Rattle.model.specs.Job.{Job, Sound, disk_count, block_count, ref_count, slots_of, disk_of, ref_at, carried_on, carried_at, up_to}
use Rattle.model.specs.Ticket.{ticket_bits, ticket_of}
use Rattle.model.specs.Playing.{Schedule, start, is_resident, play}
use Rattle.model.specs.Rules.{distance}
use Rattle.model.specs.Calls.{stop_at, job_up_to, references_of}
use Rattle.model.proofs.Ticket.{ticket_sound, sound_accepted}
use Rattle.model.proofs.Playing.{play-within}
use Rattle.model.proofs.Carried.{start-within, start_exactly}
use Rattle.model.proofs.Distances.{distance_from, distance_hit, distance_least, distance_is}

-- The job up to a stop has the references before it, and everything else of the job.

module _ (stop : ℕ) (j : Job) where
  -- where N is less, it has N
  count_most : ref_count (up_to stop j) ≤ ref_count j
  unfolding up_to
  count_most = let l = length-take stop j.refs in omega (arith, l)

  count_before : ref_count (up_to stop j) ≤ stop
  unfolding up_to
  count_before = let l = length-take stop j.refs in omega (arith, l)

  pub stop-count : stop ≤ ref_count j → ref_count (up_to stop j) ≡ stop
  unfolding up_to
  stop-count few = let l = length-take stop j.refs in omega (arith, l)

  pub stop_ref : (i : ℕ) → i < stop → ref_at (up_to stop j) i ≡ ref_at j i
  unfolding up_to
  stop_ref i l = get_or-take stop j.refs i 0 l

  pub stop_same : (disk_count (up_to stop j) ≡ disk_count j) × ((d : ℕ) → slots_of (up_to stop j) d ≡ slots_of j d)
      × (block_count (up_to stop j) ≡ block_count j) × ((b : ℕ) → disk_of (up_to stop j) b ≡ disk_of j b) × ((d : ℕ) → carried_on (up_to stop j) d ≡ carried_on j d)
  unfolding up_to
  stop_same = (refl, λ d. refl, refl, λ b. refl, λ d. refl)

  carried_lists : length (up_to stop j).carried ≡ length j.carried
  unfolding up_to
  carried_lists = refl

  pub stop-sound : Sound j → Sound (up_to stop j)
  stop-sound h =
      let same = stop_same in
      let most = count_most in
      record {
        some_disk = rw same.0 h.some_disk;
        few_disks = rw same.0 h.few_disks;
        some_slot = λ d l. rw (same.1 d) (h.some_slot d (rw same.0 at l));
        few_slots = λ d l. rw (same.1 d) (h.few_slots d (rw same.0 at l));
        some_block = rw same.2 h.some_block;
        few_blocks = rw same.2 h.few_blocks;
        on_disks = λ b l. rw (same.3 b, same.0) (h.on_disks b (rw same.2 at l));
        few_refs = (let few = h.few_refs in omega (arith, most, few));
        to_blocks = λ i l. (let before = count_before in rw (stop_ref i (omega (arith, before)), same.2) (h.to_blocks i (omega (arith, most))));
        one_list = carried_lists ∙ h.one_list ∙ sym same.0;
        few_carried = λ d l. rw (same.4 d, same.1 d) (h.few_carried d (rw same.0 at l));
        rising = λ d i l p. rw (same.4 d) (h.rising d i (rw same.0 at l) (rw (same.4 d) at p));
        of_blocks = λ d i l p. rw (same.4 d, same.2) (h.of_blocks d i (rw same.0 at l) (rw (same.4 d) at p));
        on_own_disk = λ d i l p. rw (same.4 d, same.3 (carried_at j d i)) (h.on_own_disk d i (rw same.0 at l) (rw (same.4 d) at p));
      }

  -- "none at or past it is consumed", whatever is played
  pub stop-consumed : (schedule : Schedule) → (play (up_to stop j) (start (up_to stop j)) schedule).next ≤ stop
  unfolding start
  stop-consumed schedule =
      let within = play-within (up_to stop j) (start (up_to stop j)) schedule (start-within (up_to stop j)) in
      let before = count_before in
      omega (arith, within, before)

  -- "The lookup of the next reference now answers "never" for references at or past the stop": a distance is the job's own where that is before the
  -- stop, and otherwise never, which is the number of references.
  pub stop-distance : stop ≤ ref_count j → (p b : ℕ) → p ≤ stop
      → (let d = distance j.refs p b in distance (up_to stop j).refs p b ≡ cond (ltb d stop) d (ref_count (up_to stop j)))
  stop-distance few p b l =
      let d = distance j.refs p b in
      let count = stop-count few in
      let from = distance_from j.refs p b in
      by_test (ltb d stop)
      (λ e. let before = ltb-true d stop e in
      rw e (sym (distance_is (up_to stop j).refs p b d from (omega (arith, before, count))
      (λ _. stop_ref d before ∙ distance_hit j.refs p b (omega (arith, before)))
      (λ i h k q. distance_least j.refs p b i h k (sym (stop_ref i (omega (arith, before))) ∙ q)))))
      (λ e. let past = ltb-false d stop e in
      rw e (sym (distance_is (up_to stop j).refs p b (ref_count (up_to stop j)) (omega (arith, count)) (omega arith)
      (λ k. absurd (omega (arith, k)))
      (λ i h k q. distance_least j.refs p b i h (omega (arith, past, count)) (sym (stop_ref i (omega (arith, count))) ∙ q)))))

-- A stop equal to N leaves the job as it is.
pub stop-whole : (j : Job) → up_to (ref_count j) j ≡ j
unfolding up_to
stop-whole j = λ i. record { slots = j.slots; block_disks = j.block_disks; refs = take-length j.refs i; carried = j.carried }

-- What a ticket and a stop give.

module _ (t : List ℕ) (stop : ℕ) where
  data StopView : Answer Job → Type 0 where
    unread : (n : ℕ) → ticket_of t ≡ refused n → StopView (refused n)
    above : (j : Job) → ticket_of t ≡ given j → ref_count j < stop → StopView (refused 21)
    within : (j : Job) → ticket_of t ≡ given j → stop ≤ ref_count j → StopView (given (up_to stop j))

  stop_view : StopView (job_up_to t stop)
  unfolding job_up_to stop_at
  stop_view = go (ticket_of t) refl
    where
      go : (x : Answer Job) → ticket_of t ≡ x → StopView (stop_at stop x)
      go (refused n) e = unread n e
      go (given j) e =
          by_test (ltb (ref_count j) stop)
          (λ y. rw y (above j e (ltb-true _ _ y)))
          (λ y. rw y (within j e (ltb-false _ _ y)))

  -- so the job up to the stop exactly if the ticket is accepted and the stop is not above N,
  abbrev Stopped : Job → Type 0
  Stopped k = (j : Job) × (ticket_of t ≡ given j) × (stop ≤ ref_count j) × (up_to stop j ≡ k)

  pub stops_exactly : (k : Job) → (job_up_to t stop ≡ given k) ↔ Stopped k
  stops_exactly k = (there _ stop_view, back _ stop_view)
    where
      there : (x : Answer Job) → StopView x → x ≡ given k → Stopped k
      there x (unread n e) h = refused-given h
      there x (above j e l) h = refused-given h
      there x (within j e l) h = (j, e, l, (cc))

      back : (x : Answer Job) → StopView x → Stopped k → x ≡ given k
      back x (unread n e) h = refused-given (sym e ∙ h.1)
      back x (above j e l) h = let same : j ≡ h.0 = cc in absurd (omega (arith, l, h.2, ap ref_count same))
      back x (within j e l) h = let same : j ≡ h.0 = cc in ap given (ap (up_to stop) same ∙ h.3)

  -- and otherwise the ticket's number, or 21 after it.
  abbrev Above : ℕ → Type 0
  Above n = (n ≡ 21) × (j : Job) × (ticket_of t ≡ given j) × (ref_count j < stop)

  pub stop_refusals : (n : ℕ) → (job_up_to t stop ≡ refused n) ↔ ((ticket_of t ≡ refused n) ⊎ Above n)
  stop_refusals n = (there _ stop_view, ⊎_elim (first _ stop_view) (second _ stop_view))
    where
      there : (x : Answer Job) → StopView x → x ≡ refused n → (ticket_of t ≡ refused n) ⊎ Above n
      there x (unread m e) h = let same : m ≡ n = cc in inl (e ∙ ap refused same)
      there x (above j e l) h = inr ((cc), j, e, l)
      there x (within j e l) h = refused-given (sym h)

      first : (x : Answer Job) → StopView x → ticket_of t ≡ refused n → x ≡ refused n
      first x (unread m e) h = let same : m ≡ n = cc in ap refused same
      first x (above j e l) h = refused-given (sym h ∙ e)
      first x (within j e l) h = refused-given (sym h ∙ e)

      second : (x : Answer Job) → StopView x → Above n → x ≡ refused n
      second x (unread m e) h = refused-given (sym e ∙ h.2)
      second x (above j e l) h = ap refused (sym h.0)
      second x (within j e l) h = let same : j ≡ h.1 = cc in absurd (omega (arith, l, h.3, ap ref_count same))

  -- that job is sound
  pub job_sound : (k : Job) → job_up_to t stop ≡ given k → Sound k
  job_sound k e = let w = (stops_exactly k).0 e in subst Sound w.3 (stop-sound stop w.0 (ticket_sound t w.0 w.1))

  -- so that what is said of a sound job before round 1 is said of it (L9)
  pub carried-in : (j : Job) → job_up_to t stop ≡ given j → (d b : ℕ) → d < disk_count j → b < block_count j → disk_of j b ≡ d
      → (is_resident (start j).resident b ≡ true) ↔ ((i : ℕ) × (i < length (carried_on j d)) × (carried_at j d i ≡ b))
  carried-in j e = start_exactly j (job_sound j e)

-- With the stop N it is the ticket's own answer.
pub whole_job : (t : List ℕ) → job_up_to t (references_of (ticket_of t)) ≡ ticket_of t
whole_job t = go (ticket_of t) refl
  where
    go : (x : Answer Job) → ticket_of t ≡ x → job_up_to t (references_of (ticket_of t)) ≡ ticket_of t
    go (given j) e = ap (λ (x : Answer Job). job_up_to t (references_of x)) e ∙ (stops_exactly t (ref_count j) j).1 (j, e, omega arith, stop-whole j) ∙ sym e
    go (refused n) e = ap (λ (x : Answer Job). job_up_to t (references_of x)) e ∙ (stop_refusals t 0 n).1 (inl e) ∙ sym e

-- So every sound job is that of a ticket and a stop.
pub sound_job : (j : Job) → Sound j → job_up_to (pack (ticket_bits j)) (ref_count j) ≡ given j
sound_job j sound = (stops_exactly (pack (ticket_bits j)) (ref_count j) j).1 (j, sound_accepted j sound, omega arith, stop-whole j)
