-- A disk's rows stay right when it acts, and when another disk acts. Assumes nothing.
use mathlib.Core.Path.{◌≡◌, refl, sym, ap, ◌∙◌, subst}
use mathlib.Core.Logic.{◌≢◌}
use mathlib.Core.Bool.{Bool, true, false}
use mathlib.Core.List.{List}
use Prim.Native.Nat.{ℕ, suc, ◌+◌, ◌-◌, ◌*◌, ◌≤◌, ◌<◌}
use native.Mathlib.Omega.{arith}
use lib.Dec.{eqb}
use lib.ListN.{length, get_or, set}
use lib.Seq.{get_or-set_same, get_or-set_other}
use borrow.Author.Tests.{eqb-true, eqb-false}
use Rattle.bits.proofs.Logic.{by_test, clash}
use Rattle.model.specs.Job.{Job, Sound, disk_count, block_count, ref_count, slots_of, disk_of, ref_at}
use Rattle.model.specs.Playing.{Action, fetch, replace, is_resident, load, act}
use Rattle.model.specs.Rules.{distance}
use Rattle.model.specs.Valid.{Block, Legal}
use Rattle.model.proofs.Buffers.{entered, replaced_in, replaced_out, fetch_kept, replace_kept, act_elsewhere, apart, SameOn, load_same, load_own}
use Rattle.lookup.proofs.Right.{Listed, Pointer, DiskRight}
use Rattle.lookup.proofs.StaysRight.{pointer_kept}

-- one place of a list of residents is written
listed_put : (j : Job) (marks : List Bool) (d : ℕ) (residents : List ℕ) (count m u : ℕ) → m < count → d * 64 + m < length residents
    → Block j marks d u true
    → ((i : ℕ) → i < count → i ≢ m → Block j marks d (get_or residents (d * 64 + i) 0) true)
    → ((i : ℕ) → i < count → i ≢ m → get_or residents (d * 64 + i) 0 ≢ u)
    → ((b : ℕ) → Block j marks d b true → b ≢ u → (i : ℕ) × (i < count) × (i ≢ m) × (get_or residents (d * 64 + i) 0 ≡ b))
    → ((i k : ℕ) → i < count → k < count → i ≢ m → k ≢ m → get_or residents (d * 64 + i) 0 ≡ get_or residents (d * 64 + k) 0 → i ≡ k)
    → Listed j marks d (set residents (d * 64 + m) u) count
listed_put j marks d residents count m u small room new kept fresh only single = record { each = each; all = all; once = once }
  where
    here : get_or (set residents (d * 64 + m) u) (d * 64 + m) 0 ≡ u
    here = get_or-set_same residents (d * 64 + m) u 0 room

    there : (i : ℕ) → i ≢ m → get_or (set residents (d * 64 + m) u) (d * 64 + i) 0 ≡ get_or residents (d * 64 + i) 0
    there i n = get_or-set_other residents (d * 64 + m) (d * 64 + i) u 0 (λ e. n (omega arith))

    each : (i : ℕ) → i < count → Block j marks d (get_or (set residents (d * 64 + m) u) (d * 64 + i) 0) true
    each i l =
        by_test (eqb i m)
        (λ y. let same = eqb-true i m y in rw (same, here) new)
        (λ n. let other = eqb-false i m n in rw (there i other) (kept i l other))

    all : (b : ℕ) → Block j marks d b true → (i : ℕ) × (i < count) × (get_or (set residents (d * 64 + m) u) (d * 64 + i) 0 ≡ b)
    all b inside =
        by_test (eqb b u)
        (λ y. (m, small, here ∙ sym (eqb-true b u y)))
        (λ n. let w = only b inside (eqb-false b u n) in (w.0, w.1, there w.0 w.2 ∙ w.3))

    once : (i k : ℕ) → i < count → k < count
        → get_or (set residents (d * 64 + m) u) (d * 64 + i) 0 ≡ get_or (set residents (d * 64 + m) u) (d * 64 + k) 0 → i ≡ k
    once i k l r e =
        by_test (eqb i m)
        (λ y. let same = eqb-true i m y in
        by_test (eqb k m)
        (λ z. same ∙ sym (eqb-true k m z))
        (λ z. let other = eqb-false k m z in
        absurd (fresh k r other (sym (there k other) ∙ sym e ∙ ap (λ (x : ℕ). get_or (set residents (d * 64 + m) u) (d * 64 + x) 0) same ∙ here))))
        (λ n. let other = eqb-false i m n in
        by_test (eqb k m)
        (λ z. let same = eqb-true k m z in
        absurd (fresh i l other (sym (there i other) ∙ e ∙ ap (λ (x : ℕ). get_or (set residents (d * 64 + m) u) (d * 64 + x) 0) same ∙ here)))
        (λ z. let also = eqb-false k m z in single i k l r other also (sym (there i other) ∙ e ∙ there k also)))

-- a block enters an empty slot: it is written after the others
listed_more : (j : Job) (marks : List Bool) (d : ℕ) (residents : List ℕ) (count u : ℕ) → block_count j ≤ length marks
    → d * 64 + count < length residents → Listed j marks d residents count → Block j marks d u false
    → Listed j (act marks (fetch u)) d (set residents (d * 64 + count) u) (suc count)
listed_more j marks d residents count u long room listed out =
    listed_put j (act marks (fetch u)) d residents (suc count) count u (omega arith) room
    (let k = out.known in record { known = out.known; on_disk = out.on_disk; mark = entered marks u (omega arith) })
    (λ i l n. let was = listed.each i (before i l n) in
    record { known = was.known; on_disk = was.on_disk; mark = fetch_kept marks u _ (apart marks u _ out.mark was.mark) ∙ was.mark })
    (λ i l n. apart marks u _ out.mark (listed.each i (before i l n)).mark)
    (λ b now n.
    let w = listed.all b (record { known = now.known; on_disk = now.on_disk; mark = sym (fetch_kept marks u b n) ∙ now.mark }) in
    (w.0, (let l = w.1 in omega (arith, l)), (let l = w.1 in omega (arith, l)), w.2))
    (λ i k l r n m. listed.once i k (before i l n) (before k r m))
  where
    before : (i : ℕ) → i < suc count → i ≢ count → i < count
    before i l n = lib.Arith.lt_of_le-ne (omega arith) n

-- a block enters in place of another: it is written at the place of that one
listed_other : (j : Job) (marks : List Bool) (d : ℕ) (residents : List ℕ) (count m u v : ℕ) → block_count j ≤ length marks
    → d * 64 + m < length residents → m < count → v ≡ get_or residents (d * 64 + m) 0 → Listed j marks d residents count → Block j marks d u false
    → Listed j (act marks (replace u v)) d (set residents (d * 64 + m) u) count
listed_other j marks d residents count m u v long room small is listed out =
    listed_put j (act marks (replace u v)) d residents count m u small room
    (let k = out.known in record { known = out.known; on_disk = out.on_disk; mark = replaced_in marks u v (omega arith) })
    (λ i l n. let was = listed.each i l in
    record {
      known = was.known;
      on_disk = was.on_disk;
      mark = replace_kept marks u v _ (apart marks u _ out.mark was.mark) (λ e. n (listed.once i m l small (e ∙ is))) ∙ was.mark;
    })
    (λ i l n. apart marks u _ out.mark (listed.each i l).mark)
    (λ b now n.
    let left : b ≢ v = λ e. clash now.mark (ap (is_resident (act marks (replace u v))) e ∙ gone) in
    let w = listed.all b (record { known = now.known; on_disk = now.on_disk; mark = sym (replace_kept marks u v b n left) ∙ now.mark }) in
    (w.0, w.1, (λ e. left (sym w.2 ∙ ap (λ (x : ℕ). get_or residents (d * 64 + x) 0) e ∙ sym is)), w.2))
    (λ i k l r n o. listed.once i k l r)
  where
    evicted : Block j marks d v true
    evicted = subst (λ (x : ℕ). Block j marks d x true) (sym is) (listed.each m small)

    gone : is_resident (act marks (replace u v)) v ≡ false
    gone = let k = evicted.known in replaced_out marks u v (omega arith) (apart marks u v out.mark evicted.mark)

-- the disk's own action

pub load_into : (j : Job) (marks : List Bool) (d u : ℕ) → block_count j ≤ length marks → Block j marks d u false
    → load j (act marks (fetch u)) d ≡ suc (load j marks d)
unfolding Legal
load_into j marks d u long out = let own = load_own j marks long d (fetch u) out in omega (arith, own)

pub load-over : (j : Job) (marks : List Bool) (d u v : ℕ) → block_count j ≤ length marks → Block j marks d u false → Block j marks d v true
    → load j (act marks (replace u v)) d ≡ load j marks d
unfolding Legal
load-over j marks d u v long out inside = let own = load_own j marks long d (replace u v) (out, inside) in omega (arith, own)

module _ {j : Job} {marks : List Bool} {from d look : ℕ} {residents later : List ℕ} (sound : Sound j)
    (right : DiskRight j marks from d residents look later) (more : look < ref_count j) where
  -- the block at the pointer is missing: the disk may fetch it
  pub pointed : Block j marks d (ref_at j look) false
  pointed = record { known = sound.to_blocks look more; on_disk = right.pointer.on_disk more; mark = right.stops more }

  pub pointer_into : Pointer j (act marks (fetch (ref_at j look))) from d look later
  pointer_into =
      pointer_kept right.pointer
      (λ b k on out.
      by_test (eqb b (ref_at j look))
      (λ y. right.pointer.least b k on (ap (is_resident marks) (eqb-true b (ref_at j look) y) ∙ pointed.mark))
      (λ n. right.pointer.least b k on (sym (fetch_kept marks (ref_at j look) b (eqb-false b (ref_at j look) n)) ∙ out)))
      (λ b k on. refl)

  pub pointer_over : (v : ℕ) → look ≤ distance j.refs from v → Pointer j (act marks (replace (ref_at j look) v)) from d look later
  pointer_over v far =
      pointer_kept right.pointer
      (λ b k on out.
      by_test (eqb b (ref_at j look))
      (λ y. right.pointer.least b k on (ap (is_resident marks) (eqb-true b (ref_at j look) y) ∙ pointed.mark))
      (λ n. by_test (eqb b v)
      (λ y. let same = ap (distance j.refs from) (eqb-true b v y) in omega (arith, same))
      (λ o. right.pointer.least b k on (sym (replace_kept marks (ref_at j look) v b (eqb-false b (ref_at j look) n) (eqb-false b v o)) ∙ out))))
      (λ b k on. refl)

  module _ (known : d < disk_count j) (long : block_count j ≤ length marks) (full : length residents ≡ 512) where
    pub listed_into : load j marks d < slots_of j d
        → Listed j (act marks (fetch (ref_at j look))) d (set residents (d * 64 + load j marks d) (ref_at j look))
        (load j (act marks (fetch (ref_at j look))) d)
    listed_into free =
        let few = sound.few_slots d known in
        let disks = sound.few_disks in
        rw (load_into j marks d (ref_at j look) long pointed)
        (listed_more j marks d residents (load j marks d) (ref_at j look) long (omega (arith, few, disks)) right.listed pointed)

    pub listed_over : load j marks d ≤ slots_of j d → (place : ℕ) → d * 64 ≤ place → place < d * 64 + load j marks d
        → Listed j (act marks (replace (ref_at j look) (get_or residents place 0))) d (set residents place (ref_at j look))
        (load j (act marks (replace (ref_at j look) (get_or residents place 0))) d)
    listed_over fits place l r =
        let few = sound.few_slots d known in
        let disks = sound.few_disks in
        let at : d * 64 + (place - d * 64) ≡ place = omega arith in
        let small : place - d * 64 < load j marks d = omega arith in
        let evicted : Block j marks d (get_or residents place 0) true =
        subst (λ (x : ℕ). Block j marks d (get_or residents x 0) true) at (right.listed.each (place - d * 64) small) in
        rw (load-over j marks d (ref_at j look) (get_or residents place 0) long pointed evicted)
        (subst (λ (x : ℕ). Listed j (act marks (replace (ref_at j look) (get_or residents x 0))) d (set residents x (ref_at j look)) (load j marks d)) at
        (listed_other j marks d residents (load j marks d) (place - d * 64) (ref_at j look) _ long (omega (arith, few, disks)) small refl
        right.listed pointed))

block_same : {j : Job} {m n : List Bool} {d b : ℕ} {r : Bool} → is_resident m b ≡ is_resident n b → Block j m d b r → Block j n d b r
block_same e h = record { known = h.known; on_disk = h.on_disk; mark = sym e ∙ h.mark }

listed_agree : {j : Job} {m n : List Bool} {d count : ℕ} {residents residents' : List ℕ} → SameOn j d m n
    → ((i : ℕ) → i < count → get_or residents' (d * 64 + i) 0 ≡ get_or residents (d * 64 + i) 0)
    → Listed j m d residents count → Listed j n d residents' count
listed_agree marks places listed = record {
  each = λ i l. rw (places i l) (let was = listed.each i l in block_same (marks _ was.known was.on_disk) was);
  all = λ b h. (let w = listed.all b (block_same (sym (marks b h.known h.on_disk)) h) in (w.0, w.1, places w.0 w.1 ∙ w.2));
  once = λ i k l r e. listed.once i k l r (sym (places i l) ∙ e ∙ places k r);
}

-- tables that agree on one disk are right for it together
pub disk_agree : {j : Job} {m n : List Bool} {from d look : ℕ} {residents later residents' later' : List ℕ} → Sound j → SameOn j d m n
    → ((i : ℕ) → i < load j m d → get_or residents' (d * 64 + i) 0 ≡ get_or residents (d * 64 + i) 0)
    → ((b : ℕ) → b < block_count j → disk_of j b ≡ d → get_or later' b 0 ≡ get_or later b 0)
    → DiskRight j m from d residents look later → DiskRight j n from d residents' look later'
disk_agree {j = j} {m = m} {n = n} {d = d} {look = look} {residents' = residents'} sound marks places laters right = record {
  listed = subst (Listed j n d residents') (load_same j m n d marks) (listed_agree marks places right.listed);
  pointer = pointer_kept right.pointer (λ b k on out. right.pointer.least b k on (marks b k on ∙ out)) laters;
  stops = λ l. sym (marks (ref_at j look) (sound.to_blocks look l) (right.pointer.on_disk l)) ∙ right.stops l;
}

pub disk_same : {j : Job} {m n : List Bool} {from d look : ℕ} {residents later : List ℕ} → Sound j → SameOn j d m n
    → DiskRight j m from d residents look later → DiskRight j n from d residents look later
disk_same sound marks right = disk_agree sound marks (λ i l. refl) (λ b k on. refl) right

-- another disk's action

pub places_elsewhere : (residents : List ℕ) (d e place u i : ℕ) → e ≢ d → d * 64 ≤ place → place < d * 64 + 64 → i < 64
    → get_or (set residents place u) (e * 64 + i) 0 ≡ get_or residents (e * 64 + i) 0
places_elsewhere residents d e place u i n l r s = get_or-set_other residents place (e * 64 + i) u 0 (λ q. n (omega arith))

pub disk_elsewhere : {j : Job} {marks : List Bool} {from d e look : ℕ} {residents later residents' later' : List ℕ} (a : Action) → Sound j → e ≢ d
    → Legal j marks d a → load j marks e ≤ 64
    → ((i : ℕ) → i < 64 → get_or residents' (e * 64 + i) 0 ≡ get_or residents (e * 64 + i) 0)
    → ((b : ℕ) → disk_of j b ≢ d → get_or later' b 0 ≡ get_or later b 0)
    → DiskRight j marks from e residents look later → DiskRight j (act marks a) from e residents' look later'
disk_elsewhere {j = j} {marks = marks} {d = d} a sound other legal few places laters right =
    disk_agree sound
    (λ b k on. sym (act_elsewhere j marks d a legal b (λ q. other (sym on ∙ q))))
    (λ i l. places i (omega arith))
    (λ b k on. laters b (λ q. other (sym on ∙ q)))
    right
