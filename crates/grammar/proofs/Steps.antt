-- How reading goes on with one character, as a relation: each way is a line of `Step`, and `after` goes these ways and no other. Assumes nothing.
use mathlib.Core.Path.{◌≡◌, refl}
use mathlib.Core.Bool.{Bool, true, false, cond, ◌&&◌}
use mathlib.Core.List.{List, [], ◌∷◌}
use mathlib.Core.Option.{Option, none, some}
use Prim.Native.Nat.{ℕ, ◌+◌, ◌*◌, ◌≤◌, ◌<◌}
use native.Mathlib.Omega.{arith}
use lib.Dec.{ltb, leb, eqb}
use borrow.Author.Tests.{ltb-true, leb-true, eqb-true, lt-ltb, le-leb, ne_eqb}
use Rattle.bits.proofs.Logic.{and_left, and_right, and_true}
use Rattle.grammar.specs.Note.{Part, block, inside, Item, once, times, Side, Note}
use Rattle.grammar.specs.Reading.{Before, nothing, side_with, mixed_with, note_with, Mode, begin, read, star, space, bar, State, state, is_digit, digit, goes_on, longer, at_begin, closed, starred, grown, after_in, after}

-- An item may begin here, after what b holds.
pub data Starts : Mode → Before → Type 0 where
  fresh : {b : Before} → Starts (begin b) b
  spaced : {n : Option Note} {s : Side} → Starts (space n s) (record { sides = n; items = some s })

-- c is the digit d
pub record Digit (c d : ℕ) : Type 0 where
  pub written : c ≡ 48 + d
  pub small : d < 10

pub digit_of : {d : ℕ} → d < 10 → Digit (48 + d) d
digit_of h = record { written = refl; small = h }

-- The ways to go on: "(" is 40, a digit begins a block or goes on with one, "*" is 42, a digit begins a count or goes on with one, ")" is 41, a space
-- is 32, "|" is 124, and the space after it.
pub data Step (c : ℕ) : State → State → Type 0 where
  opens : {m : Mode} {b : Before} {o : List Before} → c ≡ 40 → Starts m b → Step c (state m o) (state (begin nothing) (b ∷ o))
  numbers : {m : Mode} {b : Before} {o : List Before} {d : ℕ} → Digit c d → Starts m b → Step c (state m o) (state (read b (once (block d))) o)
  block_on : {b : Before} {o : List Before} {v d : ℕ} → Digit c d → 1 ≤ v → v * 10 + d ≤ 511
      → Step c (state (read b (once (block v))) o) (state (read b (once (block (v * 10 + d)))) o)
  stars : {b : Before} {o : List Before} {p : Part} → c ≡ 42 → Step c (state (read b (once p)) o) (state (star b p) o)
  counts : {b : Before} {o : List Before} {p : Part} {d : ℕ} → Digit c d → 1 ≤ d → Step c (state (star b p) o) (state (read b (times p d)) o)
  count_on : {b : Before} {o : List Before} {p : Part} {k d : ℕ} → Digit c d → 1 ≤ k → k * 10 + d ≤ 2048
      → Step c (state (read b (times p k)) o) (state (read b (times p (k * 10 + d))) o)
  closes : {b x : Before} {o : List Before} {i : Item} → c ≡ 41 → Step c (state (read b i) (x ∷ o)) (state (read x (once (inside (note_with b i)))) o)
  spaces : {b : Before} {o : List Before} {i : Item} → c ≡ 32 → Step c (state (read b i) o) (state (space b.sides (side_with b.items i)) o)
  bars : {n : Option Note} {s : Side} {o : List Before} → c ≡ 124 → Step c (state (space n s) o) (state (bar (mixed_with n s)) o)
  mixes : {n : Note} {o : List Before} → c ≡ 32 → Step c (state (bar n) o) (state (begin (record { sides = some n; items = none })) o)

-- `after` goes no other way.
abbrev Holds : (State → Type 0) → Option State → Type 0
Holds Q none = Unit {0}
Holds Q (some t) = Q t

either : (Q : State → Type 0) (t : Bool) (a b : Option State) → (t ≡ true → Holds Q a) → (t ≡ false → Holds Q b) → Holds Q (cond t a b)
either Q true a b f g = f refl
either Q false a b f g = g refl

is_digit_lem : (c : ℕ) → is_digit c ≡ true → Digit c (digit c)
is_digit_lem c t =
    let low = leb-true 48 c (and_left (leb 48 c) (leb c 57) t) in
    let high = leb-true c 57 (and_right (leb 48 c) (leb c 57) t) in
    record { written = omega arith; small = omega arith }

begins : {m : Mode} {b : Before} (o : List Before) (c : ℕ) → Starts m b → Holds (Step c (state m o)) (at_begin b o c)
begins {m} o c w =
    either (Step c (state m o)) (eqb c 40) _ _
    (λ t. opens (eqb-true c 40 t) w)
    (λ _. either (Step c (state m o)) (is_digit c) _ none (λ t. numbers (is_digit_lem c t) w) (λ _. tt))

-- a number goes on: its next digit, not after 0, and within its bound
goes_on_lem : (most v c : ℕ) → goes_on most v c ≡ true → Digit c (digit c) × (1 ≤ v) × (v * 10 + digit c ≤ most)
goes_on_lem most v c t =
    let within = and_right (is_digit c) (ltb 0 v && leb (v * 10 + digit c) most) t in (
      is_digit_lem c (and_left (is_digit c) (ltb 0 v && leb (v * 10 + digit c) most) t),
      ltb-true 0 v (and_left (ltb 0 v) (leb (v * 10 + digit c) most) within),
      leb-true (v * 10 + digit c) most (and_right (ltb 0 v) (leb (v * 10 + digit c) most) within),
    )

ons : (b : Before) (o : List Before) (i : Item) (c : ℕ) → Holds (Step c (state (read b i) o)) (grown b o (longer i c))
unfolding longer grown
ons b o (once (block v)) c = go (goes_on 511 v c) refl
  where
    go : (t : Bool) → goes_on 511 v c ≡ t → Holds (Step c (state (read b (once (block v))) o)) (grown b o (cond t (some (once (block (v * 10 + digit c)))) none))
    go true e = let g = goes_on_lem 511 v c e in block_on g.0 g.1 g.2
    go false e = tt
ons b o (once (inside n)) c = tt
ons b o (times p k) c = go (goes_on 2048 k c) refl
  where
    go : (t : Bool) → goes_on 2048 k c ≡ t → Holds (Step c (state (read b (times p k)) o)) (grown b o (cond t (some (times p (k * 10 + digit c))) none))
    go true e = let g = goes_on_lem 2048 k c e in count_on g.0 g.1 g.2
    go false e = tt

ends : (b : Before) (o : List Before) (i : Item) (c : ℕ) → c ≡ 41 → Holds (Step c (state (read b i) o)) (closed (note_with b i) o)
unfolding closed
ends b [] i c e = tt
ends b (x ∷ o) i c e = closes e

multiplies : (b : Before) (o : List Before) (i : Item) (c : ℕ) → c ≡ 42 → Holds (Step c (state (read b i) o)) (starred b i o)
unfolding starred
multiplies b o (once p) c e = stars e
multiplies b o (times p k) c e = tt

steps : (m : Mode) (o : List Before) (c : ℕ) → Holds (Step c (state m o)) (after_in m o c)
unfolding after_in
steps (begin b) o c = begins o c fresh
steps (read b i) o c =
    let Q = Step c (state (read b i) o) in
    either Q (eqb c 32) _ _
    (λ t. spaces (eqb-true c 32 t))
    (λ _. either Q (eqb c 41) _ _
    (λ t. ends b o i c (eqb-true c 41 t))
    (λ _. either Q (eqb c 42) _ _ (λ t. multiplies b o i c (eqb-true c 42 t)) (λ _. ons b o i c)))
steps (star b p) o c =
    either (Step c (state (star b p) o)) (is_digit c && ltb 0 (digit c)) _ none
    (λ t. counts (is_digit_lem c (and_left (is_digit c) (ltb 0 (digit c)) t)) (ltb-true 0 (digit c) (and_right (is_digit c) (ltb 0 (digit c)) t)))
    (λ _. tt)
steps (space n s) o c =
    either (Step c (state (space n s) o)) (eqb c 124) _ _ (λ t. bars (eqb-true c 124 t)) (λ _. begins o c spaced)
steps (bar n) o c = either (Step c (state (bar n) o)) (eqb c 32) _ none (λ t. mixes (eqb-true c 32 t)) (λ _. tt)

pub after_step : (s t : State) (c : ℕ) → after s c ≡ some t → Step c s t
after_step s t c e = rw e at (steps s.mode s.outer c)

-- `after` goes each of these ways.
digit_test : {c d : ℕ} → Digit c d → is_digit c ≡ true
digit_test {c} {d} g = and_true (le-leb 48 c (omega arith)) (le-leb c 57 (omega arith))

digit_value : {c d : ℕ} → Digit c d → digit c ≡ d
digit_value {c} {d} g = omega arith

-- it is none of the other characters that are asked for
digit_is_not : {c d : ℕ} (k : ℕ) → k < 48 → Digit c d → eqb c k ≡ false
digit_is_not {c} k h g = ne_eqb c k (omega arith)

goes_test : (most v : ℕ) {c d : ℕ} → Digit c d → 1 ≤ v → v * 10 + d ≤ most → goes_on most v c ≡ true
goes_test most v {c} {d} g p q = and_true (digit_test g) (and_true (lt-ltb 0 v p) (rw (digit_value g) (le-leb (v * 10 + d) most q)))

start-after : {m : Mode} {b : Before} (o : List Before) (c : ℕ) → Starts m b → c < 124 → after_in m o c ≡ at_begin b o c
unfolding after_in
start-after o c fresh h = refl
start-after o c spaced h = rw (ne_eqb c 124 (omega arith))

pub step_after : {s t : State} {c : ℕ} → Step c s t → after s c ≡ some t
unfolding after_in longer grown closed starred
step_after {c} (opens {m = m} {o = o} e w) = rw (start-after o c w (omega arith), e)
step_after {c} (numbers {o = o} {d = d} g w) = rw (start-after o c w (omega arith), digit_is_not 40 (omega arith) g, digit_test g, digit_value g)
step_after (block_on {v = v} g p q) = rw (digit_is_not 32 (omega arith) g, digit_is_not 41 (omega arith) g, digit_is_not 42 (omega arith) g, goes_test 511 v g p q, digit_value g)
step_after (stars e) = rw e
step_after {c} (counts {d = d} g h) = rw (digit_test g, digit_value g, lt-ltb 0 d h)
step_after (count_on {k = k} g p q) = rw (digit_is_not 32 (omega arith) g, digit_is_not 41 (omega arith) g, digit_is_not 42 (omega arith) g, goes_test 2048 k g p q, digit_value g)
step_after (closes e) = rw e
step_after (spaces e) = rw e
step_after (bars e) = rw e
step_after (mixes e) = rw e
