-- What is known of a reader that gave a value: each law takes one step apart and hands its parts to what follows. Assumes nothing.
use mathlib.Core.Path.{◌≡◌, refl, ap, ap₂, ◌∙◌}
use mathlib.Core.Bool.{Bool, true, false, cond, ◌&&◌}
use mathlib.Core.List.{List, [], ◌∷◌}
use Prim.Native.Nat.{ℕ, zero, suc, ◌+◌, ◌*◌, ◌<◌}
use native.Mathlib.Omega.{arith}
use lib.Dec.{eqb, ltb}
use lib.ListN.{length, replicate, length-replicate}
use borrow.Author.Tests.{eqb-true, ltb-true, lt-ltb}
use Rattle.bits.specs.Bits.{bits}
use Rattle.bits.specs.Reading.{given, refused, Read, got, stop, Reader, bind, ◌>>=◌, ◌>>◌, give, field_after, field, refuse_if, all_zero, is_closed, closing, answer, read_all}
use Rattle.bits.proofs.Logic.{by_test, and_left, and_right}

-- a refusal is no value
pub stop-got : {A P : Type 0} {n : ℕ} {a : A} {l : List ℕ} → stop n ≡ got a l → P
stop-got e = let z : ◌≡◌ {A = ℕ} 0 1 = cc in absurd (omega arith)

pub refused-given : {A P : Type 0} {n : ℕ} {a : A} → refused n ≡ given a → P
refused-given e = let z : ◌≡◌ {A = ℕ} 0 1 = cc in absurd (omega arith)

pub got_value : {A : Type 0} {a b : A} {l m : List ℕ} → got a l ≡ got b m → a ≡ b
got_value e = cc

pub got_rest : {A : Type 0} {a b : A} {l m : List ℕ} → got a l ≡ got b m → l ≡ m
got_rest e = cc

pub bind-got : {A B P : Type 0} (m : Reader A) (f : A → Reader B) (l : List ℕ) {b : B} {rest : List ℕ} → (m >>= f) l ≡ got b rest
    → ((a : A) (after : List ℕ) → m l ≡ got a after → f a after ≡ got b rest → P) → P
unfolding ◌>>=◌ bind
bind-got {A} {B} {P} m f l {b} {rest} e k = go (m l) refl e
  where
    go : (r : Read A) → m l ≡ r → bind r f ≡ got b rest → P
    go (got a after) q p = k a after q p
    go (stop n) q p = stop-got p

pub then_got : {A B P : Type 0} (m : Reader A) (r : Reader B) (l : List ℕ) {b : B} {rest : List ℕ} → (m >> r) l ≡ got b rest
    → ((a : A) (after : List ℕ) → m l ≡ got a after → r after ≡ got b rest → P) → P
unfolding ◌>>◌ ◌>>=◌
then_got m r l e k = bind-got m (λ a. r) l e k

pub give-got : {A P : Type 0} {a b : A} {l rest : List ℕ} → give a l ≡ got b rest → (a ≡ b → l ≡ rest → P) → P
unfolding give
give-got e k = k (got_value e) (got_rest e)

pub refuse_got : {P : Type 0} (n : ℕ) (t : Bool) (l : List ℕ) {u : Unit {0}} {rest : List ℕ} → refuse_if n t l ≡ got u rest
    → (t ≡ false → l ≡ rest → P) → P
unfolding refuse_if
refuse_got n true l e k = stop-got e
refuse_got n false l e k = k refl (got_rest e)

field_after-length : (n w high : ℕ) (l : List ℕ) {v : ℕ} {rest : List ℕ} → field_after n w high l ≡ got v rest → length l ≡ w + length rest
unfolding field_after
field_after-length n zero high l e = let r = ap length (got_rest e) in omega (arith, r)
field_after-length n (suc w) high [] e = stop-got e
field_after-length n (suc w) high (b ∷ l) e = let r = field_after-length n w (high * 2 + b) l e in omega (arith, r)

-- a field takes its width
pub field-length : (n w : ℕ) (l : List ℕ) {v : ℕ} {rest : List ℕ} → field n w l ≡ got v rest → length l ≡ w + length rest
unfolding field
field-length n w l e = field_after-length n w 0 l e

-- the end: fewer than eight bits were left, all zero
pub closing-got : {P : Type 0} (n : ℕ) (l : List ℕ) {u : Unit {0}} {rest : List ℕ} → closing n l ≡ got u rest
    → (length l < 8 → all_zero l ≡ true → P) → P
unfolding closing is_closed
closing-got {P} n l {u} {rest} e k = go (ltb (length l) 8 && all_zero l) refl e
  where
    go : (t : Bool) → ltb (length l) 8 && all_zero l ≡ t → elim t as (λ x. Read (Unit {0})) [ true ↦ got tt [] | false ↦ stop n ] ≡ got u rest → P
    go true q p = k (ltb-true _ _ (and_left (ltb (length l) 8) (all_zero l) q)) (and_right (ltb (length l) 8) (all_zero l) q)
    go false q p = stop-got p

pub read_all_given : {A P : Type 0} (r : Reader A) (s : List ℕ) {a : A} → read_all r s ≡ given a
    → ((rest : List ℕ) → r (bits s) ≡ got a rest → P) → P
unfolding read_all answer
read_all_given {A} {P} r s {a} e k = go (r (bits s)) refl e
  where
    go : (x : Read A) → r (bits s) ≡ x → answer x ≡ given a → P
    go (got b rest) q p = let same : b ≡ a = cc in k rest (q ∙ ap (λ (z : A). got z rest) same)
    go (stop n) q p = refused-given p

-- the other way: a step whose first part gives a value goes on with it
pub bind_ok : {A B : Type 0} (m : Reader A) (f : A → Reader B) (l : List ℕ) {a : A} {after : List ℕ} → m l ≡ got a after → (m >>= f) l ≡ f a after
unfolding ◌>>=◌ bind
bind_ok m f l e = ap (λ (r : Read _). bind r f) e

pub then_ok : {A B : Type 0} (m : Reader A) (r : Reader B) (l : List ℕ) {a : A} {after : List ℕ} → m l ≡ got a after → (m >> r) l ≡ r after
unfolding ◌>>◌ bind
then_ok m r l e = ap (λ (x : Read _). bind x (λ _. r)) e

pub refuse_ok : (n : ℕ) (t : Bool) (l : List ℕ) → t ≡ false → refuse_if n t l ≡ got tt l
unfolding refuse_if
refuse_ok n t l e = rw e

-- a reader that then gives what it read is that reader
pub bind-give : {A : Type 0} (m : Reader A) (l : List ℕ) → m l ≡ (m >>= λ a. give a) l
unfolding ◌>>=◌ bind give
bind-give {A} m l = go (m l)
  where
    go : (x : Read A) → x ≡ bind x (λ a. give a)
    go (got a rest) = refl
    go (stop n) = refl

-- a refusal is the first that counts

pub bind-stop : {A B : Type 0} (m : Reader A) (f : A → Reader B) (l : List ℕ) {n : ℕ} → m l ≡ stop n → (m >>= f) l ≡ stop n
unfolding ◌>>=◌ bind
bind-stop m f l e = ap (λ (r : Read _). bind r f) e

pub then_stop : {A B : Type 0} (m : Reader A) (r : Reader B) (l : List ℕ) {n : ℕ} → m l ≡ stop n → (m >> r) l ≡ stop n
unfolding ◌>>◌ bind
then_stop m r l e = ap (λ (x : Read _). bind x (λ _. r)) e

-- Where the first part of a step gives a value if a test holds, and stops if not, the step gives what its second part gives, or stops likewise.
pub bind_if : {A B : Type 0} (m : Reader A) (f : A → Reader B) (l : List ℕ) (t : Bool) (a : A) (after : List ℕ) (n : ℕ) {x : Read B}
    → m l ≡ cond t (got a after) (stop n) → f a after ≡ x → (m >>= f) l ≡ cond t x (stop n)
bind_if m f l true a after n e g = bind_ok m f l e ∙ g
bind_if m f l false a after n e g = bind-stop m f l e

pub closing_ok : (n : ℕ) (l : List ℕ) → length l < 8 → all_zero l ≡ true → closing n l ≡ got tt []
unfolding closing is_closed
closing_ok n l p z = let e : ltb (length l) 8 && all_zero l ≡ true = rw (lt-ltb (length l) 8 p, z) in rw (e, closing)

-- zeros are written and read as the end

pub zero_list : (l : List ℕ) → all_zero l ≡ true → l ≡ replicate (length l) 0
unfolding all_zero
zero_list [] e = refl
zero_list (b ∷ l) e =
    ap₂ (λ (x : ℕ) (m : List ℕ). x ∷ m) (eqb-true b 0 (and_left (eqb b 0) (all_zero l) e)) (zero_list l (and_right (eqb b 0) (all_zero l) e))

zeros_are : (k : ℕ) → all_zero (replicate k 0) ≡ true
unfolding all_zero
zeros_are zero = refl
zeros_are (suc k) = zeros_are k

pub closing_zeros : (n k : ℕ) → k < 8 → closing n (replicate k 0) ≡ got tt []
closing_zeros n k h = closing_ok n (replicate k 0) (let l = length-replicate {A = ℕ} k 0 in omega (arith, l)) (zeros_are k)

-- what a reader of the end makes of it
pub closing_is : (n : ℕ) (l : List ℕ) → closing n l ≡ cond (is_closed l) (got tt []) (stop n)
unfolding closing
closing_is n l = by_test (is_closed l) (λ e. rw (e, closing)) (λ e. rw (e, closing))

pub closing_open : (n : ℕ) (l : List ℕ) → is_closed l ≡ false → closing n l ≡ stop n
closing_open n l e = closing_is n l ∙ ap (λ (t : Bool). cond t (got tt []) (stop n)) e

pub closing-closed : (n : ℕ) (l : List ℕ) → is_closed l ≡ true → closing n l ≡ got tt []
closing-closed n l e = closing_is n l ∙ ap (λ (t : Bool). cond t (got tt []) (stop n)) e

pub read_all_ok : {A : Type 0} (r : Reader A) (s : List ℕ) {a : A} {rest : List ℕ} → r (bits s) ≡ got a rest → read_all r s ≡ given a
unfolding read_all answer
read_all_ok r s e = ap answer e

pub read_all_if : {A : Type 0} (r : Reader A) (s : List ℕ) (t : Bool) (a : A) (rest : List ℕ) (n : ℕ) → r (bits s) ≡ cond t (got a rest) (stop n)
    → read_all r s ≡ cond t (given a) (refused n)
unfolding read_all answer
read_all_if r s true a rest n e = ap answer e
read_all_if r s false a rest n e = ap answer e
