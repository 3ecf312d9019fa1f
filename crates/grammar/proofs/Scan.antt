-- Reading on: what `scan` comes to at the end, and at a character. Assumes nothing.
use mathlib.Core.Path.{◌≡◌, refl}
use mathlib.Core.List.{List, [], ◌∷◌}
use mathlib.Core.Option.{none, some}
use Prim.Native.Nat.{ℕ, ◌≤◌, ◌<◌}
use lib.ListN.{length}
use borrow.Author.Tests.{lt-ltb, le-ltb}
use Rattle.grammar.specs.Reading.{State, after, stuck, end_in, scan}

pub scan_end : (s : State) → scan s [] ≡ end_in s.mode s.outer
unfolding scan
scan_end s = refl

pub scan-stuck : (s : State) (c : ℕ) (l : List ℕ) → after s c ≡ none → scan s (c ∷ l) ≡ stuck 22 (c ∷ l)
unfolding scan
scan-stuck s c l e = rw (e, scan)

pub scan-deep : (s t : State) (c : ℕ) (l : List ℕ) → after s c ≡ some t → 16 < length t.outer → scan s (c ∷ l) ≡ stuck 23 (c ∷ l)
unfolding scan
scan-deep s t c l e d = rw (e, lt-ltb 16 (length t.outer) d, scan)

pub scan_on : (s t : State) (c : ℕ) (l : List ℕ) → after s c ≡ some t → length t.outer ≤ 16 → scan s (c ∷ l) ≡ scan t l
unfolding scan
scan_on s t c l e d = rw (e, le-ltb 16 (length t.outer) d, scan)
