-- The pieces of a note, by the tests that the code makes. Assumes nothing.
use mathlib.Core.Path.{◌≡◌, refl, ap, ◌∙◌}
use mathlib.Core.Bool.{true, false}
use mathlib.Core.List.{List, ◌++◌}
use Prim.Native.Nat.{ℕ, ◌+◌, ◌-◌, ◌*◌, ◌≤◌, ◌<◌}
use native.Mathlib.Nat.{mul-le-mul_left}
use native.Mathlib.Omega.{arith}
use lib.ListN.{take, drop, set}
use lib.Seq.{take-take, drop-drop}
use Rattle.std.proofs.Common.{Some, None, Result, Ok, Err, IsErrAnd}
use Rattle.std.proofs.lemmas.Result.{err_from_is_err_and}
use Rattle.grammar.specs.Note.{repeated}
use Rattle.mixing.specs.declared.Place.{Place}
use Rattle.mixing.specs.Room.{capped}
use Rattle.mixing.proofs.Room.{room, no_room}
use Rattle.pieces.specs.Pieces.{begins_with, first_digit, malformed, count_at}
use Rattle.pieces.specs.declared.Counted.{Counted}
use Rattle.pieces.specs.declared.Met.{Met}
use Rattle.building.specs.declared.Piece.{Piece}
use Rattle.building.specs.Building.{number_at, block_at, block_laid, GivenAs, Continues, closed_at, counted_at, counted_line}

-- a block number that begins with the digit d
module _ (t : List ℕ) (at d : ℕ) where
  pub block-number : first_digit (drop at t) ≡ Some d → block_at t at ≡ Ok (record { at = (number_at t at d).at; count = 1 })
  unfolding block_at
  block-number e = rw e

pub block_none : (t : List ℕ) (at : ℕ) → first_digit (drop at t) ≡ None → block_at t at ≡ Err (malformed at)
unfolding block_at
block_none t at e = rw e

-- and that block at the end of the line
module _ (t : List ℕ) (from : Place) (line : List ℕ) where
  pub laid-number : (d : ℕ) → first_digit (drop from.at t) ≡ Some d → from.line + from.left + 1 ≤ 2048
      → block_laid t from line ≡ set line from.line (number_at t from.at d).value
  unfolding block_laid
  laid-number d e k = rw (e, room from 1 k)

  pub laid-full : (d : ℕ) → first_digit (drop from.at t) ≡ Some d → 2048 < from.line + from.left + 1 → block_laid t from line ≡ line
  unfolding block_laid
  laid-full d e k = rw (e, no_room from 1 k)

  pub laid_none : first_digit (drop from.at t) ≡ None → block_laid t from line ≡ line
  unfolding block_laid
  laid_none e = rw e

-- a piece that was refused, and its line
module _ {M : Type 0} {x : Result Piece M} {e : M} (q : x ≡ Err e) where
  pub refused_stays : (gives : Met → M → Type 0) (step : Piece → Result Piece Met) (r : Result Piece M) → r ≡ Err e → Continues gives step x r
  unfolding Continues
  refused_stays gives step r h = rw q h

  pub line_refused : (t : List ℕ) (from : Place) (line : List ℕ) → counted_line t x from line ≡ line
  unfolding counted_line
  line_refused t from line = rw q refl

-- a piece that was read, by a step that refuses it or reads further
module _ {M : Type 0} (gives : Met → M → Type 0) (step : Piece → Result Piece Met) (p : Piece) where
  pub step_reads : {q : Piece} → step p ≡ Ok q → Continues gives step (Ok p) (Ok q)
  unfolding Continues
  step_reads h = rw h refl

  pub step_refuses : {m : Met} (r : Result Piece M) → step p ≡ Err m → IsErrAnd r (gives m) → Continues gives step (Ok p) r
  unfolding Continues
  step_refuses r h g = rw h g

-- where a refusal is given as it is, the step itself, and a piece that was refused
abbrev pub by_step : (Piece → Result Piece Met) → Result Piece Met → Result Piece Met
by_step step (Ok p) = step p
by_step step (Err m) = Err m

given_met : (x : Result Piece Met) {r : Result Piece Met} → GivenAs (λ m e. e ≡ m) x r → r ≡ x
given_met (Ok p) h = h
given_met (Err m) {r} h = let e = err_from_is_err_and r h in e.1 ∙ ap (λ (w : Met). Err w) e.2

pub of_met : (step : Piece → Result Piece Met) (x : Result Piece Met) {r : Result Piece Met} → Continues (λ m e. e ≡ m) step x r → r ≡ by_step step x
unfolding Continues
of_met step (Ok p) h = given_met (step p) h
of_met step (Err m) h = h

-- a note in parentheses, and a part with its count
module _ (t : List ℕ) (p : Piece) where
  pub closed_paren : begins_with 41 (drop p.at t) ≡ true → closed_at t p ≡ Ok (record { at = p.at + 1; count = p.count })
  unfolding closed_at
  closed_paren b = rw b

  pub closed_wrong : begins_with 41 (drop p.at t) ≡ false → closed_at t p ≡ Err (malformed p.at)
  unfolding closed_at
  closed_wrong b = rw b

  pub counted_wrong : {m : Met} → count_at t p.at ≡ Err m → counted_at t p ≡ Err m
  unfolding counted_at
  counted_wrong e = rw e

  pub counted-times : {c : Counted} → count_at t p.at ≡ Ok c → counted_at t p ≡ Ok (record { at = c.at; count = capped (p.count * c.times) })
  unfolding counted_at
  counted-times e = rw e

  -- and the line with that part repeated
  module _ (M : Type 0) (from : Place) (line : List ℕ) where
    pub line_wrong : {m : Met} → count_at t p.at ≡ Err m → counted_line {M = M} t (Ok p) from line ≡ line
    unfolding counted_line
    line_wrong e = rw e

    pub line_full : {c : Counted} → count_at t p.at ≡ Ok c → 2048 < from.line + from.left + p.count * c.times → counted_line {M = M} t (Ok p) from line ≡ line
    unfolding counted_line
    line_full {c} e r = rw (e, no_room from (p.count * c.times) r)

    pub line_times : {c : Counted} → count_at t p.at ≡ Ok c → from.line + from.left + p.count * c.times ≤ 2048
        → counted_line {M = M} t (Ok p) from line
        ≡ take from.line line ++ (repeated c.times (take p.count (drop from.line line)) ++ drop (from.line + p.count * c.times) line)
    unfolding counted_line
    line_times {c} e r = rw (e, room from (p.count * c.times) r)

-- a part of a slice, from a on, that is lent to a call and comes back as `new`, repeated
pub part-repeated : (a one times : ℕ) (l new : List ℕ) → 1 ≤ times → new ≡ repeated times (take one (take (a + one * times - a) (drop a l)))
    → take a l ++ (new ++ drop (a + one * times - a) (drop a l)) ≡ take a l ++ (repeated times (take one (drop a l)) ++ drop (a + one * times) l)
part-repeated a one times l new h e =
    let k : a + one * times - a ≡ one * times = omega arith in
    let fewer : one ≤ one * times = omega (arith, mul-le-mul_left one h) in
    rw (e, k, take-take one (one * times) (drop a l) fewer, drop-drop (one * times) a l)
