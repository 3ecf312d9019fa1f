-- Why a long input may be cut: no reading of a ticket looks past its first 24,722 bits, so the first 3,091 bytes answer for all. Assumes nothing.
use mathlib.Core.Path.{◌≡◌, refl, sym, ap, ◌∙◌, subst}
use mathlib.Core.Bool.{Bool, true, false, ◌&&◌, true≢false}
use mathlib.Core.List.{List, [], ◌∷◌, ◌++◌, append_assoc}
use Prim.Native.Nat.{ℕ, zero, suc, ◌+◌, ◌*◌, ◌≤◌}
use native.Mathlib.Nat.{suc-mul}
use native.Mathlib.Omega.{arith}
use lib.Dec.{ltb, leb, eqb}
use lib.ListN.{length, take, drop, length-append, take-append-drop}
use lib.Seq.{length-take-le, take_all}
use borrow.Author.Tests.{ltb-false, le-ltb, leb-true, leb-false}
use Rattle.bits.specs.Bits.{digits, bits}
use Rattle.bits.specs.Reading.{Read, got, stop, Reader, bind, ◌>>=◌, ◌>>◌, give, field_after, field, refuse_if, many, all_zero, closing, answer, read_all}
use Rattle.bits.proofs.Logic.{by_test, and_false_left, or_false_right, Each}
use Rattle.bits.proofs.Bits.{length-bits}
use Rattle.bits.proofs.Reading.{stop-got, got_rest, bind-got, then_got, give-got, refuse_got, field-length, closing-got}
use Rattle.model.specs.Ticket.{slots_field, disk_field, ref_field, carried_blocks, carried_field, carried_fields, ticket_reader, ticket_of}

-- what reading gives where more bits follow
abbrev more : {A : Type 0} → List ℕ → Read A → Read A
more x (got a l) = got a (l ++ x)
more x (stop n) = stop n

-- A reader that looks at the first w bits only: bits after these are left as they are.
record Within {A : Type 0} (w : ℕ) (r : Reader A) : Type 0 where
  same : (l x : List ℕ) → w ≤ length l → r (l ++ x) ≡ more x (r l)
  takes : (l : List ℕ) (a : A) (rest : List ℕ) → r l ≡ got a rest → length l ≤ w + length rest

widen : {A : Type 0} {r : Reader A} (v w : ℕ) → v ≤ w → Within v r → Within w r
widen v w h p = record {
  same = λ l x k. p.same l x (omega arith);
  takes = λ l a rest e. let t = p.takes l a rest e in omega (arith, t);
}

of_give : {A : Type 0} (a : A) → Within 0 (give a)
unfolding give
of_give a = record { same = λ l x h. refl; takes = λ l b rest e. let r = ap length (got_rest e) in omega (arith, r) }

field_more : (n w high : ℕ) (l x : List ℕ) → w ≤ length l → field_after n w high (l ++ x) ≡ more x (field_after n w high l)
unfolding field_after
field_more n zero high l x h = refl
field_more n (suc w) high [] x h = absurd (omega arith)
field_more n (suc w) high (b ∷ l) x h = field_more n w (high * 2 + b) l x (omega arith)

of_field : (n w : ℕ) → Within w (field n w)
unfolding field
of_field n w = record { same = λ l x h. field_more n w 0 l x h; takes = λ l a rest e. let r = field-length n w l e in omega (arith, r) }

-- a value that a reader gives
abbrev Gives : {A : Type 0} → Reader A → A → Type 0
Gives r a = (l : List ℕ) × (rest : List ℕ) × (r l ≡ got a rest)

-- what follows a value is read where that value is given
after : {A B : Type 0} {m : Reader A} {f : A → Reader B} (v w : ℕ) → Within v m → ((a : A) → Gives m a → Within w (f a)) → Within (v + w) (m >>= f)
unfolding ◌>>=◌ bind
after {A} {B} {m} {f} v w p q = record {
  same = λ l x h. ap (λ (z : Read A). bind z f) (p.same l x (omega arith)) ∙ go l x h (m l) refl;
  takes = λ l b rest e. bind-got m f l e λ a left g k.
      let s = p.takes l a left g in let t = (q a (l, left, g)).takes left b rest k in omega (arith, s, t);
}
  where
    go : (l x : List ℕ) → v + w ≤ length l → (z : Read A) → m l ≡ z → bind (more x z) f ≡ more x (bind z f)
    go l x h (got a left) e = let s = p.takes l a left e in (q a (l, left, e)).same left x (omega (arith, s, h))
    go l x h (stop n) e = refl

then : {A B : Type 0} {m : Reader A} {f : A → Reader B} (v w : ℕ) → Within v m → ((a : A) → Within w (f a)) → Within (v + w) (m >>= f)
then {m = m} {f = f} v w p q = after {m = m} {f = f} v w p (λ a _. q a)

next : {A B : Type 0} {m : Reader A} {r : Reader B} (v w : ℕ) → Within v m → Within w r → Within (v + w) (m >> r)
unfolding ◌>>◌ ◌>>=◌
next {A} {B} {m} {r} v w p q = then {m = m} {f = λ a. r} v w p (λ a. q)

-- what follows a condition is read where the condition is not met
unless : {A : Type 0} {r : Reader A} (w n : ℕ) (t : Bool) → (t ≡ false → Within w r) → Within w (refuse_if n t >> r)
unfolding ◌>>◌ bind refuse_if
unless w n true p = record { same = λ l x h. refl; takes = λ l a rest e. stop-got e }
unless w n false p = record { same = (p refl).same; takes = (p refl).takes }

of_many : {A : Type 0} {r : Reader A} (w k : ℕ) → Within w r → Within (k * w) (many k r)
unfolding many
of_many w zero p = widen 0 (0 * w) (omega arith) (of_give [])
of_many w (suc k) p = widen (w + (k * w + 0)) (suc k * w) (omega (arith, suc-mul k w)) (then w (k * w + 0) p λ a. then (k * w) 0 (of_many w k p) λ rest. of_give (a ∷ rest))

stops : (n : ℕ) (l : List ℕ) → 8 ≤ length l → closing n l ≡ stop n
unfolding closing
stops n l h = go (ltb (length l) 8 && all_zero l) (and_false_left (all_zero l) (le-ltb (length l) 8 h))
  where
    go : (t : Bool) → t ≡ false → ◌≡◌ {A = Read (Unit {0})} (elim t [ true ↦ got tt [] | false ↦ stop n ]) (stop n)
    go true e = absurd (true≢false e)
    go false e = refl

of_closing : (n : ℕ) → Within 8 (closing n)
of_closing n = record {
  same = λ l x h. let e = length-append l x in stops n (l ++ x) (omega (arith, e)) ∙ sym (ap (more x) (stops n l h));
  takes = λ l a rest e. closing-got n l e λ few zero. omega (arith, few);
}

of_slots : Within 7 slots_field
unfolding slots_field
of_slots = then 7 0 (of_field 1 7) λ s. unless 0 3 _ λ t. of_give s

of-disk : (d : ℕ) → Within 3 (disk_field d)
unfolding disk_field
of-disk d = then 3 0 (of_field 1 3) λ k. unless 0 5 _ λ t. of_give k

of_ref : (b : ℕ) → Within 9 (ref_field b)
unfolding ref_field
of_ref b = then 9 0 (of_field 1 9) λ r. unless 0 7 _ λ t. of_give r

-- the slots of the disks: so many of them, none above 64
slots-few : (k : ℕ) (l slots rest : List ℕ) → many k slots_field l ≡ got slots rest → (length slots ≡ k) × Each (λ (s : ℕ). s ≤ 64) slots
unfolding many Each slots_field
slots-few zero l slots rest e = give-got e λ p _. subst (λ (x : List ℕ). (length x ≡ 0) × Each (λ (s : ℕ). s ≤ 64) x) p (refl, tt)
slots-few (suc k) l slots rest e =
    bind-got slots_field _ l e λ s l₁ e₁ e.
    bind-got (many k slots_field) _ l₁ e λ others l₂ e₂ e.
    give-got e λ p _.
    bind-got (field 1 7) _ l e₁ λ v l₃ _ e₁.
    then_got (refuse_if 3 _) _ l₃ e₁ λ _ l₄ e₃ e₁.
    refuse_got 3 _ l₃ e₃ λ t _.
    give-got e₁ λ same _.
    let ih = slots-few k l₁ others l₂ e₂ in
    let most = ltb-false 64 v (or_false_right (eqb v 0) (ltb 64 v) t) in
    subst (λ (x : List ℕ). (length x ≡ suc k) × Each (λ (s : ℕ). s ≤ 64) x) p (ap suc ih.0, (omega (arith, most, same), ih.1))

-- the blocks carried in
of_carried_blocks : (disks : List ℕ) (d k least : ℕ) → Within (k * 9) (carried_blocks disks d k least)
unfolding carried_blocks
of_carried_blocks disks d zero least = widen 0 (0 * 9) (omega arith) (of_give [])
of_carried_blocks disks d (suc k) least =
    widen (9 + (k * 9 + 0)) (suc k * 9) (omega arith)
    (then 9 (k * 9 + 0) (of_field 1 9) λ b. unless (k * 9 + 0) 26 _ λ t. then (k * 9) 0 (of_carried_blocks disks d k (suc b)) λ rest. of_give (b ∷ rest))

of_carried : (disks : List ℕ) (d slots : ℕ) → slots ≤ 64 → Within 583 (carried_field disks d slots)
unfolding carried_field
of_carried disks d slots few =
    then 7 576 (of_field 1 7) λ k. unless 576 25 _ λ t.
    widen (k * 9) 576 (let most = ltb-false slots k t in omega (arith, most, few)) (of_carried_blocks disks d k 0)

of_all_carried : (disks : List ℕ) (d : ℕ) (slots : List ℕ) → Each (λ (s : ℕ). s ≤ 64) slots → Within (length slots * 583) (carried_fields disks d slots)
unfolding carried_fields Each
of_all_carried disks d [] few = widen 0 (0 * 583) (omega arith) (of_give [])
of_all_carried disks d (s ∷ others) few =
    widen (583 + (length others * 583 + 0)) (suc (length others) * 583) (omega arith)
    (then 583 (length others * 583 + 0) (of_carried disks d s few.0) λ blocks.
    then (length others * 583) 0 (of_all_carried disks (suc d) others few.1) λ rest. of_give (blocks ∷ rest))

of_ticket : Within 24722 ticket_reader
unfolding ticket_reader
of_ticket =
    then 4 24718 (of_field 1 4) λ d. unless 24718 2 _ λ td. let few = ltb-false 8 d (or_false_right (eqb d 0) (ltb 8 d) td) in
    after 56 24662 (widen (d * 7) 56 (omega (arith, few)) (of_many 7 d of_slots)) λ slots gave. let some-slots = slots-few d gave.0 slots gave.1 gave.2 in
    then 10 24652 (of_field 1 10) λ b. unless 24652 4 _ λ tb. let some = ltb-false 512 b (or_false_right (eqb b 0) (ltb 512 b) tb) in
    then 1536 23116 (widen (b * 3) 1536 (omega (arith, some)) (of_many 3 b (of-disk d))) λ disks.
    then 12 23104 (of_field 1 12) λ n. unless 23104 6 _ λ tn. let all = ltb-false 2048 n tn in
    then 18432 4672 (widen (n * 9) 18432 (omega (arith, all)) (of_many 9 n (of_ref b))) λ refs.
    then 4664 8 (widen (length slots * 583) 4664 (let same = some-slots.0 in omega (arith, same, few)) (of_all_carried disks 0 slots some-slots.1)) λ carried.
    next 8 0 (of_closing 8) (of_give _)

bits_append : (s t : List ℕ) → bits (s ++ t) ≡ bits s ++ bits t
unfolding bits
bits_append [] t = refl
bits_append (b ∷ s) t = ap (λ (l : List ℕ). digits 8 b ++ l) (bits_append s t) ∙ sym (append_assoc (digits 8 b) (bits s) (bits t))

-- a reading that gives the same but for the bits left is the same answer
same_answer : {A : Type 0} (x : List ℕ) (r : Read A) → answer (more x r) ≡ answer r
unfolding answer
same_answer x (got a l) = refl
same_answer x (stop n) = refl

-- The first 3,091 bytes are accepted as the whole is, or refused with the same number.
pub cut_ticket : (t : List ℕ) → ticket_of (take 3091 t) ≡ ticket_of t
unfolding ticket_of read_all
cut_ticket t =
    by_test (leb (length t) 3091)
    (λ y. ap ticket_of (take_all 3091 t (leb-true (length t) 3091 y)))
    (λ n. let long = leb-false (length t) 3091 n in
    let s = take 3091 t in
    let x = bits (drop 3091 t) in
    let len = length-bits s ∙ ap (λ (k : ℕ). k * 8) (length-take-le 3091 t (omega (arith, long))) in
    let all : bits t ≡ bits s ++ x = ap bits (sym (take-append-drop 3091 t)) ∙ bits_append s (drop 3091 t) in
    sym (ap (λ (l : List ℕ). answer (ticket_reader l)) all ∙ ap answer (of_ticket.same (bits s) x (omega (arith, len))) ∙ same_answer x (ticket_reader (bits s))))
