-- Entries written one after the other: what one more entry does, as the loops do it. Assumes nothing.
use mathlib.Core.Path.{◌≡◌, refl, sym, ap, ◌∙◌, subst}
use mathlib.Core.List.{List}
use Prim.Native.Nat.{ℕ, suc, ◌+◌, ◌-◌, ◌*◌, ◌≤◌, ◌<◌}
use native.Mathlib.Numerals.{add-one}
use native.Mathlib.Omega.{arith}
use lib.ListN.{length, set, length-set}
use Rattle.std.specs.Prelude.{Result, Ok, Err}
use Rattle.entries.specs.Parts.{Entries, Filled, filled_by, fill, part_at, entry_at}
use Rattle.entries.specs.declared.Row.{Row}
use Rattle.entries.specs.declared.Part.{Part}
use Rattle.entries.specs.declared.Unread.{Unread}

module _ {E : Type 0} (e : Entries E) (count : ℕ) where
  -- where entries are left, the next one decides
  pub fill_by : (at least i end : ℕ) (table : List ℕ) {x : Result ℕ E} → i < end → e.entry at least ≡ x
      → fill e count at least i (end - i) table
      ≡ filled_by x table (λ v. fill e count (at + e.width) (v + 1) (i + 1) (end - (i + 1)) (set table i v))
  unfolding fill
  fill_by at least i end table h q =
      let left : end - i ≡ suc (end - (i + 1)) = omega arith in
      ap (λ (k : ℕ). fill e count at least i k table) left
      ∙ ap (λ (y : Result ℕ E). filled_by y table (λ v. fill e count (at + e.width) (suc v) (suc i) (end - (i + 1)) (set table i v))) q
      ∙ simp add-one

  pub fill-whole : (at least i end : ℕ) (table : List ℕ) → end ≤ i
      → fill e count at least i (end - i) table ≡ record { part = Ok (record { count = count; next = at }); table = table }
  unfolding fill
  fill-whole at least i end table h = let z : end - i ≡ 0 = omega arith in ap (λ (k : ℕ). fill e count at least i k table) z

-- Where a loop that fills a table from the place `first` on stands: the answer is what the rest gives from here.
pub record Going {E : Type 0} (e : Entries E) (count at first : ℕ) (lent : List ℕ) (next least i : ℕ) (table : List ℕ) : Type 0 where
  pub from : first ≤ i
  pub few : i ≤ first + count
  pub near : next ≤ at + (i - first) * 12
  pub long : length table ≡ length lent
  pub rest : fill e count at 0 first count lent ≡ fill e count next least i (first + count - i) table

pub going_start : {E : Type 0} (e : Entries E) (count at first : ℕ) (lent : List ℕ) → Going e count at first lent at 0 first lent
going_start e count at first lent = record {
  from = omega arith;
  few = omega arith;
  near = omega arith;
  long = refl;
  rest = let q : count ≡ first + count - first = omega arith in ap (λ (k : ℕ). fill e count at 0 first k lent) q;
}

-- a part and its table, where one equation says both
both : {E : Type 0} (f : Filled E) {p : Result Part E} {table : List ℕ} → f ≡ record { part = p; table = table } → (p ≡ f.part) × (table ≡ f.table)
both {E} f e = (sym (ap (λ (x : Filled E). x.part) e), sym (ap (λ (x : Filled E). x.table) e))

module _ {E : Type 0} {e : Entries E} {count at first : ℕ} {lent : List ℕ} {next least i : ℕ} {table : List ℕ}
    (h : Going e count at first lent next least i table) where
  pub going_on : {v width : ℕ} → width ≡ e.width → width ≤ 12 → i < first + count → e.entry next least ≡ Ok v
      → Going e count at first lent (next + width) (v + 1) (i + 1) (set table i v)
  unfolding filled_by
  going_on {v} s w l q = record {
    from = (let a = h.from in omega (arith, a));
    few = omega arith;
    near = (let a = h.from in let b = h.near in omega (arith, a, b));
    long = length-set table i v ∙ h.long;
    rest = h.rest ∙ fill_by e count next least i (first + count) table l q ∙ rw s;
  }

  -- what the two ends of such a loop give

  pub going_stopped : {r : E} → i < first + count → e.entry next least ≡ Err r
      → (Err r ≡ (fill e count at 0 first count lent).part) × (table ≡ (fill e count at 0 first count lent).table)
  unfolding filled_by
  going_stopped l q = both (fill e count at 0 first count lent) (h.rest ∙ fill_by e count next least i (first + count) table l q)

  pub going_whole : first + count ≤ i
      → (Ok (record { count = count; next = next }) ≡ (fill e count at 0 first count lent).part)
      × (table ≡ (fill e count at 0 first count lent).table)
  going_whole l = both (fill e count at 0 first count lent) (h.rest ∙ fill-whole e count next least i (first + count) table l)

-- a part is its count, and then the entries

module _ {R : Type 0} (t : List ℕ) (at : ℕ) (counts : Row R) (e : Entries (Unread R)) (i : ℕ) (table : List ℕ) where
  pub part_entries : {n : ℕ} {p : Result Part (Unread R)} {left : List ℕ} → entry_at t at counts ≡ Ok n
      → (p ≡ (fill e n (at + counts.width) 0 i n table).part) × (left ≡ (fill e n (at + counts.width) 0 i n table).table)
      → (p ≡ (part_at t at counts e i table).part) × (left ≡ (part_at t at counts e i table).table)
  unfolding part_at filled_by
  part_entries {p = p} {left = left} q h =
      let same = ap (λ (x : Result ℕ (Unread R)). filled_by x table λ n. fill e n (at + counts.width) 0 i n table) q in
      subst (λ (f : Filled (Unread R)). (p ≡ f.part) × (left ≡ f.table)) (sym same) h

  pub part-refused : {r : Unread R} → entry_at t at counts ≡ Err r
      → (Err r ≡ (part_at t at counts e i table).part) × (table ≡ (part_at t at counts e i table).table)
  unfolding part_at filled_by
  part-refused q =
      both (part_at t at counts e i table) (ap (λ (x : Result ℕ (Unread R)). filled_by x table λ n. fill e n (at + counts.width) 0 i n table) q)
