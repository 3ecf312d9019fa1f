-- A job by value read back: the value of a sound job fits, and is that job, also up to a stop; and what one entry of an array says of the job.
-- Assumes nothing.
use mathlib.Core.Path.{◌≡◌, refl, sym, ap, ◌∙◌, subst}
use mathlib.Core.List.{List, [], ◌∷◌, ◌++◌, map, append_assoc}
use Prim.Native.Nat.{ℕ, zero, suc, ◌+◌, ◌-◌, ◌*◌, ◌≤◌, ◌<◌}
use native.Mathlib.Omega.{arith}
use lib.Dec.{ltb}
use borrow.Author.Tests.{ltb-true, ltb-false}
use Rattle.bits.proofs.Logic.{by_test, get_d_same, drop_same}
use lib.ListN.{length, take, drop, get_or, replicate, length-append, length-replicate, length-take, length-map, get_or-append, get_or-map}
use lib.Seq.{sets, sets-eq, take-append_seam, take-append-le, drop-append-add, get_or-append-add, get_or-take, take-take, ext_get_or}
use Rattle.model.specs.Job.{Job, Sound, disk_count, block_count, ref_count, slots_of, disk_of, ref_at, up_to}
use Rattle.model.specs.Plans.{each}
use Rattle.model.proofs.Plans.{length-each, get_d_each}
use Rattle.model.proofs.Stop.{stop-sound}
use Rattle.job.specs.Meaning.{carried_in, job_of, pad_to, rows_of, stored, counting, Fits}
use Rattle.job.specs.declared.Job.{Job as Stored}

pub length-pad_to : (n : ℕ) (l : List ℕ) → length l ≤ n → length (pad_to n l) ≡ n
unfolding pad_to
length-pad_to n l h =
    let e = length-append l (replicate (n - length l) 0) in
    let r = length-replicate {A = ℕ} (n - length l) 0 in
    omega (arith, e, r)

pub take-pad_to : (n : ℕ) (l : List ℕ) → take (length l) (pad_to n l) ≡ l
unfolding pad_to
take-pad_to n l = take-append_seam l (replicate (n - length l) 0)

-- a list that was written into zeros
pub sets_zeros : (n : ℕ) (vs : List ℕ) → length vs ≤ n → sets (replicate n 0) 0 vs ≡ pad_to n vs
unfolding pad_to
sets_zeros n vs h =
    let len = length-replicate {A = ℕ} n 0 in
    let e : 0 + length vs ≡ length vs = omega arith in
    sets-eq vs (replicate n 0) 0 (omega arith)
    ∙ ap (λ (k : ℕ). vs ++ drop k (replicate n 0)) e
    ∙ ap (λ (l : List ℕ). vs ++ l) (drop_same (length vs) n 0 h)

-- two lists below a bound, one after the other
append_below : (k : ℕ) (l m : List ℕ) → ((i : ℕ) → i < length l → get_or l i 0 < k) → ((i : ℕ) → get_or m i 0 < k) → (i : ℕ) → get_or (l ++ m) i 0 < k
append_below k l m h g i =
    by_test (ltb i (length l))
    (λ e. let small = ltb-true i (length l) e in rw (get_or-append l m 0 i small) (h i small))
    (λ e. let at : length l + (i - length l) ≡ i = (let q = ltb-false i (length l) e in omega (arith, q)) in
    subst (λ (x : ℕ). get_or (l ++ m) x 0 < k) at (rw (get_or-append-add l m (i - length l) 0) (g (i - length l))))

-- so is one with zeros after it
pad_to_below : (n k : ℕ) (l : List ℕ) → ((i : ℕ) → i < length l → get_or l i 0 < k) → (b : ℕ) → 0 < k → get_or (pad_to n l) b 0 < k
unfolding pad_to
pad_to_below n k l h b pos = append_below k l (replicate (n - length l) 0) h (λ i. rw (get_d_same {A = ℕ} (n - length l) i 0) pos) b

-- The blocks carried in, read back from their rows.

-- no list has more than 64 entries
abbrev Short : List (List ℕ) → Type 0
Short lists = (d : ℕ) → d < length lists → length (get_or lists d []) ≤ 64

length_rows : (lists : List (List ℕ)) → Short lists → length (rows_of lists) ≡ length lists * 64
unfolding rows_of
length_rows [] h = refl
length_rows (blocks ∷ more) h =
    let e = length-append (pad_to 64 blocks) (rows_of more) in
    let row = length-pad_to 64 blocks (h 0 (omega arith)) in
    let ih = length_rows more (λ d l. h (suc d) (omega arith)) in
    omega (arith, e, row, ih)

rows_back : (lists : List (List ℕ)) (after : List ℕ) → Short lists → (d : ℕ) → d < length lists
    → take (length (get_or lists d [])) (drop (d * 64) (rows_of lists ++ after)) ≡ get_or lists d []
unfolding rows_of
rows_back [] after h d l = absurd (omega arith)
rows_back (blocks ∷ more) after h zero l =
    ap (take (length blocks)) (append_assoc (pad_to 64 blocks) (rows_of more) after)
    ∙ take-append-le (length blocks) (pad_to 64 blocks) (rows_of more ++ after)
    (let row = length-pad_to 64 blocks (h 0 l) in let few = h 0 l in omega (arith, row, few))
    ∙ take-pad_to 64 blocks
rows_back (blocks ∷ more) after h (suc d) l =
    let row = length-pad_to 64 blocks (h 0 (omega arith)) in
    ap (λ (r : List ℕ). take (length (get_or more d [])) (drop (suc d * 64) r)) (append_assoc (pad_to 64 blocks) (rows_of more) after)
    ∙ ap (λ (n : ℕ). take (length (get_or more d [])) (drop n (pad_to 64 blocks ++ (rows_of more ++ after))))
    (let e : suc d * 64 ≡ length (pad_to 64 blocks) + d * 64 = omega (arith, row) in e)
    ∙ ap (take (length (get_or more d []))) (drop-append-add (pad_to 64 blocks) (rows_of more ++ after) (d * 64))
    ∙ rows_back more after (λ e k. h (suc e) (omega arith)) d (omega arith)

rows_below : (k : ℕ) (lists : List (List ℕ)) → 0 < k → ((d i : ℕ) → d < length lists → i < length (get_or lists d []) → get_or (get_or lists d []) i 0 < k)
    → (i : ℕ) → get_or (rows_of lists) i 0 < k
unfolding rows_of
rows_below k [] pos h i = pos
rows_below k (blocks ∷ more) pos h i =
    append_below k (pad_to 64 blocks) (rows_of more) (λ b _. pad_to_below 64 k blocks (λ e l. h 0 e (omega arith) l) b pos)
    (rows_below k more pos (λ d e l p. h (suc d) e (omega arith) p)) i

held_at : (lists : List (List ℕ)) (d : ℕ) → d < length lists → get_or (pad_to 8 (map length lists)) d 0 ≡ length (get_or lists d [])
unfolding pad_to
held_at lists d l =
    get_or-append (map length lists) _ 0 d (let e = length-map lists length in omega (arith, e, l)) ∙ get_or-map length lists d []

module _ (j : Job) (sound : Sound j) where
  pub short_lists : Short j.carried
  short_lists d l =
      let lists = sound.one_list in
      let few = sound.few_carried d (omega (arith, lists)) in
      let most = sound.few_slots d (omega (arith, lists)) in
      omega (arith, few, most)

  carried_back : each (carried_in (stored j).held (stored j).carried) 0 (disk_count j) ≡ j.carried
  unfolding stored pad_to
  carried_back =
      let lists = sound.one_list in
      let long = length-each (carried_in (stored j).held (stored j).carried) 0 (disk_count j) in
      ext_get_or [] (each (carried_in (stored j).held (stored j).carried) 0 (disk_count j)) j.carried (long ∙ sym lists) λ d l.
      get_d_each (carried_in (stored j).held (stored j).carried) 0 (disk_count j) d [] (omega (arith, long, l)) ∙ ap (carried_in (stored j).held (stored j).carried) (let e : 0 + d ≡ d = omega arith in e)
      ∙ ap (λ (n : ℕ). take n (drop (d * 64) (pad_to 512 (rows_of j.carried)))) (held_at j.carried d (omega (arith, long, l, lists)))
      ∙ rows_back j.carried _ short_lists d (omega (arith, long, l, lists))

  pub job_of_stored : job_of (stored j) ≡ j
  unfolding job_of stored
  job_of_stored = λ i. record {
    slots = take-pad_to 8 j.slots i;
    block_disks = take-pad_to 512 j.block_disks i;
    refs = take-pad_to 2048 j.refs i;
    carried = carried_back i;
  }

  held_below : (d : ℕ) → d < length (map length j.carried) → get_or (map length j.carried) d 0 < 65
  held_below d l =
      let n = length-map j.carried length in
      let at = get_or-map length j.carried d [] in
      let short = short_lists d (omega (arith, n, l)) in
      omega (arith, at, short)

  carried_below : (i : ℕ) → get_or (rows_of j.carried) i 0 < 512
  carried_below =
      rows_below 512 j.carried (omega arith) λ d i l p.
      let lists = sound.one_list in
      let known = sound.of_blocks d i (omega (arith, lists)) p in
      let few = sound.few_blocks in
      omega (arith, known, few)

pub stored_fits : (j : Job) → Sound j → Fits (stored j)
unfolding stored
stored_fits j h = record {
  long_slots = length-pad_to 8 j.slots h.few_disks;
  long_disk = length-pad_to 512 j.block_disks h.few_blocks;
  long_refs = length-pad_to 2048 j.refs h.few_refs;
  long_held = length-pad_to 8 (map length j.carried) (let e = length-map j.carried length in let lists = h.one_list in let few = h.few_disks in omega (arith, e, lists, few));
  long_carried = length-pad_to 512 (rows_of j.carried) (let e = length_rows j.carried (short_lists j h) in let lists = h.one_list in let few = h.few_disks in omega (arith, e, lists, few));
  small_disk = λ b. pad_to_below 512 8 j.block_disks (λ i l. (let a = h.on_disks i l in let e = h.few_disks in omega (arith, a, e))) b (omega arith);
  small_held = λ d. (let small = pad_to_below 8 65 (map length j.carried) (held_below j h) d (omega arith) in omega (arith, small));
  small_carried = λ i. pad_to_below 512 512 (rows_of j.carried) (λ b _. carried_below j h b) i (omega arith);
  few_disks = h.few_disks;
  few_blocks = h.few_blocks;
  few_refs = h.few_refs;
  sound = subst Sound (sym (job_of_stored j h)) h;
}

-- With fewer references that count it is the job up to a stop, and fits as well.

pub job_of_counting : (n : ℕ) (c : Stored) → n ≤ c.count → job_of (counting n c) ≡ up_to n (job_of c)
unfolding job_of counting up_to
job_of_counting n c few = λ i. record {
  slots = take c.disks c.slots;
  block_disks = take c.blocks c.disk;
  refs = sym (take-take n c.count c.refs few) i;
  carried = each (carried_in c.held c.carried) 0 c.disks;
}

pub counting_fits : (n : ℕ) (c : Stored) → n ≤ c.count → Fits c → Fits (counting n c)
unfolding counting
counting_fits n c few h = record {
  long_slots = h.long_slots;
  long_disk = h.long_disk;
  long_refs = h.long_refs;
  long_held = h.long_held;
  long_carried = h.long_carried;
  small_disk = h.small_disk;
  small_held = h.small_held;
  small_carried = h.small_carried;
  few_disks = h.few_disks;
  few_blocks = h.few_blocks;
  few_refs = (let most = h.few_refs in omega (arith, most));
  sound = subst Sound (sym (job_of_counting n c few)) (stop-sound n (job_of c) h.sound);
}

module _ (c : Stored) (h : Fits c) where
  pub disks_are : disk_count (job_of c) ≡ c.disks
  unfolding job_of
  disks_are = length-take c.disks c.slots ∙ (let a = h.long_slots in let b = h.few_disks in omega (arith, a, b))

  pub blocks_are : block_count (job_of c) ≡ c.blocks
  unfolding job_of
  blocks_are = length-take c.blocks c.disk ∙ (let a = h.long_disk in let b = h.few_blocks in omega (arith, a, b))

  pub refs_are : ref_count (job_of c) ≡ c.count
  unfolding job_of
  refs_are = length-take c.count c.refs ∙ (let a = h.long_refs in let b = h.few_refs in omega (arith, a, b))

  pub slots_at : (d : ℕ) → d < c.disks → slots_of (job_of c) d ≡ get_or c.slots d 0
  unfolding job_of
  slots_at d l = get_or-take c.disks c.slots d 0 l

  pub disk-at : (b : ℕ) → b < c.blocks → disk_of (job_of c) b ≡ get_or c.disk b 0
  unfolding job_of
  disk-at b l = get_or-take c.blocks c.disk b 0 l

  pub ref-at : (i : ℕ) → i < c.count → ref_at (job_of c) i ≡ get_or c.refs i 0
  unfolding job_of
  ref-at i l = get_or-take c.count c.refs i 0 l
