-- A part of a ticket as a reader reads it: its count, its entries, and then what follows. Assumes nothing.
use mathlib.Core.Path.{◌≡◌, refl, ap, ◌∙◌}
use mathlib.Core.Bool.{Bool}
use mathlib.Core.List.{List, [], ◌∷◌}
use Prim.Native.Nat.{ℕ, zero, suc, ◌+◌, ◌*◌, ◌≤◌, ◌<◌}
use native.Mathlib.Nat.{suc-mul}
use native.Mathlib.Omega.{arith}
use lib.ListN.{length, drop, set}
use lib.Seq.{sets}
use Rattle.std.specs.Prelude.{Result, Ok, Err}
use Rattle.refusal.specs.declared.Refusal.{Refusal}
use Rattle.refusal.specs.Refusals.{number}
use Rattle.bits.specs.Bits.{bits, Below}
use Rattle.bits.specs.Reading.{Read, got, stop, Reader, bind, ◌>>=◌, ◌>>◌, give, field, refuse_if, many}
use Rattle.bits.proofs.Reading.{bind_ok, bind-stop}
use Rattle.entries.specs.Parts.{outside, entry_at, unread_refusal, entry_then, Entries, of_row, Filled, filled_by, fill, part_at}
use Rattle.entries.specs.declared.Row.{Row}
use Rattle.entries.specs.declared.Unread.{Unread}
use Rattle.entries.proofs.Entries.{entry-within, entry_reads}

-- Readers of k entries, with the `least` of the first: entry by entry, each value below `limit`.
pub record Reads (t : List ℕ) (e : Entries (Unread Refusal)) (limit : ℕ) (r : (k least : ℕ) → Reader (List ℕ)) : Type 0 where
  pub none : (at least : ℕ) → r 0 least (drop at (bits t)) ≡ got [] (drop at (bits t))
  pub one : (at k least : ℕ) → r (suc k) least (drop at (bits t))
      ≡ entry_then (drop (at + e.width) (bits t)) (λ v. r k (suc v) >>= λ more. give (v ∷ more)) (e.entry at least)
  pub below : (at least : ℕ) {v : ℕ} → e.entry at least ≡ Ok v → v < limit

-- Entries of a row, each by the same reader.
pub row_reads : (t : List ℕ) (row : Row Refusal) (r : Reader ℕ)
    → ((at : ℕ) → r (drop at (bits t)) ≡ entry_then (drop (at + row.width) (bits t)) give (entry_at t at row))
    → Reads t (of_row t row) row.limit (λ k least. many k r)
unfolding many give entry_then bind ◌>>=◌
row_reads t row r reads = record {
  none = λ at least. refl;
  one = λ at k least.
      ap (λ (x : Read ℕ). bind x (λ v. many k r >>= λ more. give (v ∷ more))) (reads at) ∙ go (drop (at + row.width) (bits t)) k (entry_at t at row);
  below = λ at least e. (entry-within t at row e).1;
}
  where
    go : (rest : List ℕ) (k : ℕ) (x : Result ℕ (Unread Refusal))
        → bind (entry_then rest give x) (λ v. many k r >>= λ more. give (v ∷ more)) ≡ entry_then rest (λ v. many k r >>= λ more. give (v ∷ more)) x
    go rest k (Ok v) = refl
    go rest k (Err n) = refl

-- What a reader of k entries gives beside a table filled with them: both have all, or both end with the same refusal.
pub data Filling (t : List ℕ) (width limit count at i k : ℕ) (table : List ℕ) (l : Read (List ℕ)) : Filled (Unread Refusal) → Type 0 where
  whole : (vs : List ℕ) (next : ℕ) → length vs ≡ k → Below limit vs → next ≡ at + k * width → l ≡ got vs (drop next (bits t))
      → Filling t width limit count at i k table l (record { part = Ok (record { count = count; next = next }); table = sets table i vs })
  broken : (r : Unread Refusal) (left : List ℕ) → l ≡ stop (number (unread_refusal r))
      → Filling t width limit count at i k table l (record { part = Err r; table = left })

below_one_more : (limit v : ℕ) (vs : List ℕ) → v < limit → Below limit vs → Below limit (v ∷ vs)
below_one_more limit v vs h below zero l = h
below_one_more limit v vs h below (suc i) l = below i (omega arith)

module _ (t : List ℕ) (e : Entries (Unread Refusal)) (limit : ℕ) (r : (k least : ℕ) → Reader (List ℕ)) (h : Reads t e limit r) (count : ℕ) where
  -- one entry before others
  fill_before : (at i k v : ℕ) (table : List ℕ) {l : Read (List ℕ)} {f : Filled (Unread Refusal)} → v < limit
      → l ≡ (r k (suc v) >>= λ more. give (v ∷ more)) (drop (at + e.width) (bits t))
      → Filling t e.width limit count (at + e.width) (suc i) k (set table i v) (r k (suc v) (drop (at + e.width) (bits t))) f
      → Filling t e.width limit count at i (suc k) table l f
  unfolding give
  fill_before at i k v table small q (whole vs next len below pos g) =
      let m = suc-mul k e.width in
      whole (v ∷ vs) next (ap suc len) (below_one_more limit v vs small below) (omega (arith, m, pos)) (q ∙ bind_ok (r k (suc v)) _ _ g)
  fill_before at i k v table small q (broken n left g) = broken n left (q ∙ bind-stop (r k (suc v)) _ _ g)

  fill_step : (at least i k : ℕ) (table : List ℕ) (x : Result ℕ (Unread Refusal)) → e.entry at least ≡ x
      → r (suc k) least (drop at (bits t)) ≡ entry_then (drop (at + e.width) (bits t)) (λ v. r k (suc v) >>= λ more. give (v ∷ more)) x
      → ((v : ℕ) → Filling t e.width limit count (at + e.width) (suc i) k (set table i v) (r k (suc v) (drop (at + e.width) (bits t)))
      (fill e count (at + e.width) (suc v) (suc i) k (set table i v)))
      → Filling t e.width limit count at i (suc k) table (r (suc k) least (drop at (bits t)))
      (filled_by x table λ v. fill e count (at + e.width) (suc v) (suc i) k (set table i v))
  unfolding filled_by entry_then
  fill_step at least i k table (Ok v) q g more = fill_before at i k v table (h.below at least q) g (more v)
  fill_step at least i k table (Err n) q g more = broken n table g

  pub fill_reads : (at least i k : ℕ) (table : List ℕ)
      → Filling t e.width limit count at i k table (r k least (drop at (bits t))) (fill e count at least i k table)
  unfolding fill
  fill_reads at least i zero table = whole [] at refl (λ j l. absurd (omega arith)) (omega arith) (h.none at least)
  fill_reads at least i (suc k) table =
      fill_step at least i k table (e.entry at least) refl (h.one at k least)
      (λ v. fill_reads (at + e.width) (suc v) (suc i) k (set table i v))

-- A part as its reader reads it, beside the part that is read into a table: it goes on with the count and the entries, or ends with the refusal.
pub data PartRead {A : Type 0} (t : List ℕ) (at : ℕ) (counts : Row Refusal) (width limit i : ℕ) (table : List ℕ)
    (more : ℕ → List ℕ → Reader A) (l : Read A) : Filled (Unread Refusal) → Type 0 where
  whole : (count next : ℕ) (vs : List ℕ) → counts.least ≤ count → count < counts.limit → length vs ≡ count → Below limit vs
      → next ≡ at + counts.width + count * width → l ≡ more count vs (drop next (bits t))
      → PartRead t at counts width limit i table more l (record { part = Ok (record { count = count; next = next }); table = sets table i vs })
  broken : (r : Unread Refusal) (left : List ℕ) → l ≡ stop (number (unread_refusal r))
      → PartRead t at counts width limit i table more l (record { part = Err r; table = left })

module _ {A : Type 0} (t : List ℕ) (at : ℕ) (counts : Row Refusal) (e : Entries (Unread Refusal)) (limit i : ℕ) (table : List ℕ) (test : ℕ → Bool)
    (r : (k least : ℕ) → Reader (List ℕ)) (more : ℕ → List ℕ → Reader A) (after : ℕ → Reader A) where
  -- the part as a reader, which after the count goes on with the entries and what follows
  abbrev pub part_reader : Reader A
  part_reader = field 1 counts.width >>= λ n. refuse_if (number counts.refusal) (test n) >> after n

  part_filled : (l : Read A) (n : ℕ) {f : Filled (Unread Refusal)} → counts.least ≤ n → n < counts.limit
      → l ≡ (r n 0 >>= λ vs. more n vs) (drop (at + counts.width) (bits t))
      → Filling t e.width limit n (at + counts.width) i n table (r n 0 (drop (at + counts.width) (bits t))) f
      → PartRead t at counts e.width limit i table more l f
  part_filled l n p q g (whole vs next len below pos s) = whole n next vs p q len below pos (g ∙ bind_ok (r n 0) _ _ s)
  part_filled l n p q g (broken m left s) = broken m left (g ∙ bind-stop (r n 0) _ _ s)

  pub part_reads : 0 < counts.width → ((v : ℕ) → test v ≡ outside counts v)
      → ((n : ℕ) (l : List ℕ) → after n l ≡ (r n 0 >>= λ vs. more n vs) l) → Reads t e limit r
      → PartRead t at counts e.width limit i table more (part_reader (drop at (bits t))) (part_at t at counts e i table)
  unfolding part_at filled_by entry_then
  part_reads p same goes h = go (entry_at t at counts) refl (entry_reads t at counts test after p same)
    where
      go : (x : Result ℕ (Unread Refusal)) → entry_at t at counts ≡ x
          → part_reader (drop at (bits t)) ≡ entry_then (drop (at + counts.width) (bits t)) after x
          → PartRead t at counts e.width limit i table more (part_reader (drop at (bits t)))
          (filled_by x table λ n. fill e n (at + counts.width) 0 i n table)
      go (Ok n) q g =
          let within = entry-within t at counts q in
          part_filled (part_reader (drop at (bits t))) n within.0 within.1 (g ∙ goes n _)
          (fill_reads t e limit r h n (at + counts.width) 0 i n table)
      go (Err n) q g = broken n table g
