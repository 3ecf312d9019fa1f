-- Reading on, character by character, by the pieces that the code reads. Assumes nothing.
use mathlib.Core.Path.{◌≡◌, refl, sym, ◌∙◌}
use mathlib.Core.Bool.{true, false}
use mathlib.Core.List.{List, [], ◌∷◌}
use mathlib.Core.Logic.{◌⊎◌, inl, ⊎_elim}
use mathlib.Core.Option.{Option, none, some}
use Prim.Native.Nat.{ℕ, zero, suc, ◌+◌, ◌*◌, ◌≤◌, ◌<◌}
use native.Mathlib.Omega.{arith}
use lib.Dec.{leb, eqb}
use lib.ListN.{length, drop}
use borrow.Author.Tests.{lt-ltb, ne_eqb, leb-true}
use Rattle.bits.proofs.Logic.{by_test, and_left, and_right}
use Rattle.grammar.specs.Note.{Part, block, inside, Item, once, times, Side, Note}
use Rattle.grammar.specs.Reading.{Before, nothing, side_with, mixed_with, note_with, begin, read, star, space, bar, state, is_digit, digit, goes_on, longer, starred, grown, after_in, after, scan}
use Rattle.grammar.proofs.Scan.{scan_on}
use Rattle.pieces.specs.Pieces.{begins_with, digits_from}
use Rattle.pieces.proofs.Laws.{digits_more, digits-stop, digits_end}
use Rattle.notes.specs.Readers.{Ended}

-- the text after its first character
pub drop_tail : (t : List ℕ) (at c : ℕ) (l : List ℕ) → drop at t ≡ c ∷ l → drop (suc at) t ≡ l
drop_tail [] zero c l e = cc
drop_tail [] (suc at) c l e = cc
drop_tail (x ∷ t) zero c l e = cc
drop_tail (x ∷ t) (suc at) c l e = drop_tail t at c l e

-- digits are none of the other characters of a note
pub digit_other : (c x : ℕ) → is_digit c ≡ true → (x < 48) ⊎ (57 < x) → eqb c x ≡ false
digit_other c x e h =
    let low = leb-true 48 c (and_left (leb 48 c) _ e) in
    let high = leb-true c 57 (and_right (leb 48 c) _ e) in
    ne_eqb c x (λ s. ⊎_elim (λ w. omega (arith, low, high)) (λ w. omega (arith, low, high)) h)

-- What one character does.

pub opens : (b : Before) (o : List Before) → after (state (begin b) o) 40 ≡ some (state (begin nothing) (b ∷ o))
unfolding after_in
opens b o = refl

pub closes : (b x : Before) (i : Item) (o : List Before) → after (state (read x i) (b ∷ o)) 41 ≡ some (state (read b (once (inside (note_with x i)))) o)
unfolding after_in
closes b x i o = refl

pub begins_block : (b : Before) (o : List Before) (c : ℕ) → is_digit c ≡ true → after (state (begin b) o) c ≡ some (state (read b (once (block (digit c)))) o)
unfolding after_in
begins_block b o c e = rw (digit_other c 40 e (inl (omega arith)), e)

pub begins_none : (b : Before) (o : List Before) (c : ℕ) → eqb c 40 ≡ false → is_digit c ≡ false → after (state (begin b) o) c ≡ none
unfolding after_in
begins_none b o c p e = rw (p, e)

pub grows_on : (b : Before) (i j : Item) (o : List Before) (c : ℕ) → is_digit c ≡ true → longer i c ≡ some j → after (state (read b i) o) c ≡ some (state (read b j) o)
unfolding after_in
grows_on b i j o c e g = rw (digit_other c 32 e (inl (omega arith)), digit_other c 41 e (inl (omega arith)), digit_other c 42 e (inl (omega arith)), g)

pub stars : (b : Before) (p : Part) (o : List Before) → after (state (read b (once p)) o) 42 ≡ some (state (star b p) o)
unfolding after_in
stars b p o = refl

pub counts : (b : Before) (p : Part) (o : List Before) (c : ℕ) → is_digit c ≡ true → 0 < digit c → after (state (star b p) o) c ≡ some (state (read b (times p (digit c))) o)
unfolding after_in
counts b p o c e h = rw (e, lt-ltb 0 (digit c) h)

pub spaces : (b : Before) (i : Item) (o : List Before) → after (state (read b i) o) 32 ≡ some (state (space b.sides (side_with b.items i)) o)
unfolding after_in
spaces b i o = refl

pub bars : (n : Option Note) (s : Side) (o : List Before) → after (state (space n s) o) 124 ≡ some (state (bar (mixed_with n s)) o)
unfolding after_in
bars n s o = refl

pub bar_spaces : (n : Note) (o : List Before) → after (state (bar n) o) 32 ≡ some (state (begin (record { sides = some n; items = none })) o)
unfolding after_in
bar_spaces n o = refl

-- An item that does not go on with a character, which is no space and closes nothing.
pub ended_off : (b : Before) (i : Item) (o : List Before) (c : ℕ) (l : List ℕ) → Ended i (c ∷ l) → eqb c 32 ≡ false → eqb c 41 ≡ false → after (state (read b i) o) c ≡ none
unfolding after_in Ended
ended_off b i o c l e p q = rw (p, q) (e b o)

-- A number that goes on, of a block or of a count: the item with the number so far, and with the whole number.
module _ (f : ℕ → Item) (most : ℕ) (grows : (v c : ℕ) → goes_on most v c ≡ true → longer (f v) c ≡ some (f (v * 10 + digit c))) (b : Before) (o : List Before) (few : length o ≤ 16) (t : List ℕ) where
  pub digits-scan : (l : List ℕ) (v at : ℕ) → l ≡ drop at t
      → scan (state (read b (f v)) o) l ≡ scan (state (read b (f (digits_from most v at l).value)) o) (drop (digits_from most v at l).at t)
  digits-scan [] v at e = rw (digits_end most v at, ← e)
  digits-scan (c ∷ l) v at e =
      by_test (goes_on most v c)
      (λ g. rw (digits_more most v at c l g)
      (scan_on (state (read b (f v)) o) (state (read b (f (v * 10 + digit c))) o) c l (grows_on b (f v) _ o c (and_left (is_digit c) _ g) (grows v c g)) few
      ∙ digits-scan l (v * 10 + digit c) (suc at) (sym (drop_tail t at c l (sym e)))))
      (λ g. rw (digits-stop most v at c l g, ← e))

-- it stops at the end or at a character with which it does not go on
unfoldable pub Stops : ℕ → ℕ → List ℕ → Type 0
Stops most v [] = Unit {0}
Stops most v (c ∷ l) = goes_on most v c ≡ false

pub digits-stops : (most : ℕ) (t l : List ℕ) (v at : ℕ) → l ≡ drop at t → Stops most (digits_from most v at l).value (drop (digits_from most v at l).at t)
unfolding Stops
digits-stops most t [] v at e = rw (digits_end most v at, ← e) tt
digits-stops most t (c ∷ l) v at e =
    by_test (goes_on most v c)
    (λ g. rw (digits_more most v at c l g) (digits-stops most t l (v * 10 + digit c) (suc at) (sym (drop_tail t at c l (sym e)))))
    (λ g. rw (digits-stop most v at c l g, ← e) g)

-- blocks and counts
pub block_grows : (v c : ℕ) → goes_on 511 v c ≡ true → longer (once (block v)) c ≡ some (once (block (v * 10 + digit c)))
unfolding longer
block_grows v c g = rw g

pub count_grows : (p : Part) (k c : ℕ) → goes_on 2048 k c ≡ true → longer (times p k) c ≡ some (times p (k * 10 + digit c))
unfolding longer
count_grows p k c g = rw g

pub block-ended : (v : ℕ) (l : List ℕ) → Stops 511 v l → begins_with 42 l ≡ false → Ended (once (block v)) l
unfolding Stops Ended longer grown begins_with
block-ended v [] h e = tt
block-ended v (c ∷ l) h e = λ b o. rw (e, h)

pub inside-ended : (n : Note) (l : List ℕ) → begins_with 42 l ≡ false → Ended (once (inside n)) l
unfolding Ended longer grown begins_with
inside-ended n [] e = tt
inside-ended n (c ∷ l) e = λ b o. rw e

pub times-ended : (p : Part) (k : ℕ) (l : List ℕ) → Stops 2048 k l → Ended (times p k) l
unfolding Stops Ended longer grown starred
times-ended p k [] h = tt
times-ended p k (c ∷ l) h = λ b o. by_test (eqb c 42) (λ e. rw e) (λ e. rw (e, h))
