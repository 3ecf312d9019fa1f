-- A part of a ticket that was read into a table of zeros, and what its reader has of it. Assumes nothing.
use mathlib.Core.Path.{◌≡◌, sym, ap, ◌∙◌, subst, subst₂}
use mathlib.Core.List.{List}
use Prim.Native.Nat.{ℕ, ◌+◌, ◌*◌, ◌≤◌, ◌<◌}
use native.Mathlib.Omega.{arith}
use lib.ListN.{length, take, drop, replicate, length-append}
use Rattle.std.specs.Prelude.{Ok, Err}
use Rattle.refusal.specs.declared.Refusal.{Refusal}
use Rattle.refusal.specs.Refusals.{number}
use Rattle.bits.specs.Bits.{bits, Below}
use Rattle.bits.specs.Reading.{Read, stop, Reader}
use Rattle.job.specs.Meaning.{pad_to}
use Rattle.job.proofs.Laws.{take-pad_to, sets_zeros}
use Rattle.entries.specs.Parts.{unread_refusal, Filled}
use Rattle.entries.specs.declared.Row.{Row}
use Rattle.entries.specs.declared.Part.{Part}
use Rattle.entries.specs.declared.Unread.{Unread}
use Rattle.entries.proofs.Parts.{PartRead, whole, broken}

-- A part that was read into a table of `size` zeros: its reader has the count and the entries, and goes on after the part.
pub record Got {A : Type 0} (t : List ℕ) (at : ℕ) (counts : Row Refusal) (width limit size : ℕ) (more : ℕ → List ℕ → Reader A) (l : Read A)
    (p : Part) (table : List ℕ) : Type 0 where
  pub values : List ℕ
  pub least : counts.least ≤ p.count
  pub below : p.count < counts.limit
  pub long : length values ≡ p.count
  pub small : Below limit values
  pub next : p.next ≡ at + counts.width + p.count * width
  pub held : table ≡ pad_to size values
  pub goes : l ≡ more p.count values (drop p.next (bits t))

module _ {A : Type 0} (t : List ℕ) (at : ℕ) (counts : Row Refusal) (width limit size : ℕ) (more : ℕ → List ℕ → Reader A) (l : Read A) where
  pub part-got : {f : Filled (Unread Refusal)} {p : Part} {table : List ℕ} → counts.limit ≤ size + 1
      → PartRead t at counts width limit 0 (replicate size 0) more l f
      → f.part ≡ Ok p → table ≡ f.table → Got t at counts width limit size more l p table
  part-got {p = p} {table = table} h (whole count next vs least below len small pos e) q s =
      let same : record { count = count; next = next } ≡ p = cc in
      subst₂ (λ (x : Part) (y : List ℕ). Got t at counts width limit size more l x y) same (sym s)
      (record {
        values = vs;
        least = least;
        below = below;
        long = len;
        small = small;
        next = pos;
        held = sets_zeros size vs (omega arith);
        goes = e;
      })
  part-got h (broken r left e) q s = absurd (let z : ◌≡◌ {A = ℕ} 0 1 = cc in omega arith)

  pub part-stop : {f : Filled (Unread Refusal)} {r : Unread Refusal}
      → PartRead t at counts width limit 0 (replicate size 0) more l f → f.part ≡ Err r → l ≡ stop (number (unread_refusal r))
  part-stop (whole count next vs least below len small pos e) q = absurd (let z : ◌≡◌ {A = ℕ} 0 1 = cc in omega arith)
  part-stop {r = r} (broken s left e) q = let same : s ≡ r = cc in e ∙ ap (λ (x : Unread Refusal). stop (number (unread_refusal x))) same

-- as many entries of the table as the count says: they are there, and are those that the reader has
module _ {A : Type 0} {t : List ℕ} {at : ℕ} {counts : Row Refusal} {width limit size : ℕ} {more : ℕ → List ℕ → Reader A} {l : Read A} {p : Part}
    {table : List ℕ} (g : Got t at counts width limit size more l p table) where
  pub got_room : p.count ≤ length table
  unfolding pad_to
  got_room =
      let e = ap length g.held ∙ length-append g.values _ in
      let long = g.long in
      omega (arith, e, long)

  pub got_lent : take p.count table ≡ g.values
  got_lent = rw (g.held, ← g.long) (take-pad_to size g.values)

  pub got-counted : p.count ≡ length (take p.count table)
  got-counted = sym (ap length got_lent ∙ g.long)

  pub got-small : Below limit (take p.count table)
  got-small = subst (λ (x : List ℕ). Below limit x) (sym got_lent) g.small
