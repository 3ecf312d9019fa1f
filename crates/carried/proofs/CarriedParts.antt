-- The blocks carried in, as a reader reads them: the part of one disk, the parts of all, and the two tables that they are written into. Assumes
-- nothing.
use mathlib.Core.Path.{◌≡◌, refl, sym, ap, ◌∙◌, subst}
use mathlib.Core.List.{List, [], ◌∷◌, map}
use Prim.Native.Nat.{ℕ, suc, ◌+◌, ◌*◌, ◌≤◌}
use native.Mathlib.Numerals.{add-one}
use native.Mathlib.Omega.{arith}
use lib.Dec.{ltb, leb, lit<}
use lib.ListN.{length, drop, set}
use lib.Seq.{sets}
use Rattle.std.specs.Prelude.{Ok, Err}
use Rattle.refusal.specs.declared.Refusal.{Refusal}
use Rattle.refusal.specs.Refusals.{number}
use Rattle.bits.specs.Bits.{bits, Below}
use Rattle.bits.specs.Reading.{Read, got, stop, ◌>>=◌, give}
use Rattle.bits.proofs.Reading.{bind_ok, bind-give, bind-stop}
use Rattle.model.specs.Ticket.{carried_blocks, carried_field, carried_fields}
use Rattle.entries.specs.Parts.{outside, unread_refusal, Filled}
use Rattle.carried.specs.Carried.{carried_row, blocks_on, disk_part, Carried, carried_by, carried_parts}
use Rattle.entries.specs.declared.Part.{Part}
use Rattle.entries.specs.declared.Unread.{Unread}
use Rattle.entries.proofs.Entries.{any_test}
use Rattle.carried.proofs.Blocks.{block_reads, block_within}
use Rattle.entries.proofs.Parts.{Reads, PartRead, whole, broken, part_reads}
use Rattle.carried.proofs.Rows.{set_rows}

-- The part of one disk.

-- the test of its count is that of the row
count_test : (slots v : ℕ) → ltb slots v ≡ outside (carried_row slots) v
count_test slots v = ap (λ (k : ℕ). leb k v) (sym (add-one slots)) ∙ any_test (slots + 1) v

module _ (t disks : List ℕ) where
  blocks_read : (d : ℕ) → Reads t (blocks_on t disks d) (length disks) (carried_blocks disks d)
  unfolding carried_blocks give
  blocks_read d = record {
    none = λ at least. refl;
    one = λ at k least. block_reads t disks d at least (λ b. carried_blocks disks d k (suc b) >>= λ more. give (b ∷ more));
    below = λ at least e. block_within t disks d at least e;
  }

  disk_read : (at d slots : ℕ) (table : List ℕ)
      → PartRead t at (carried_row slots) 9 (length disks) (d * 64) table (λ n vs. give vs) (carried_field disks d slots (drop at (bits t)))
      (disk_part t disks at d slots table)
  unfolding carried_field
  disk_read at d slots table =
      part_reads t at (carried_row slots) (blocks_on t disks d) (length disks) (d * 64) table (λ k. ltb slots k) (carried_blocks disks d)
      (λ n vs. give vs) (λ k. carried_blocks disks d k 0) (lit< tt) (count_test slots)
      (λ n l. bind-give (carried_blocks disks d n 0) l) (blocks_read d)

  -- a part that was read has no more blocks than slots, and ends within 583 bits: 7 for the count, 9 for each of at most 64 numbers
  pub disk_bounds : (at d slots : ℕ) (table : List ℕ) {p : Part} → slots ≤ 64 → (disk_part t disks at d slots table).part ≡ Ok p
      → (p.count ≤ 64) × (p.next ≤ at + 583)
  disk_bounds at d slots table {p} few e = go (disk_read at d slots table) e
    where
      go : {f : Filled (Unread Refusal)} {l : Read (List ℕ)}
          → PartRead t at (carried_row slots) 9 (length disks) (d * 64) table (λ n vs. give vs) l f → f.part ≡ Ok p
          → (p.count ≤ 64) × (p.next ≤ at + 583)
      go (whole count next vs least below len small pos g) q =
          let c : count ≡ p.count = cc in
          let n : next ≡ p.next = cc in
          (omega (arith, c, below, few), omega (arith, n, pos, below, few))
      go (broken r left g) q = absurd (let z : ◌≡◌ {A = ℕ} 0 1 = cc in omega arith)

-- The parts of all disks.

-- What a reader of the parts from disk d on gives beside the two tables: both have all, or both end with the same refusal.
pub data AllRead (t : List ℕ) (at d : ℕ) (slots held table : List ℕ) (l : Read (List (List ℕ))) : Carried → Type 0 where
  complete : (lists : List (List ℕ)) (count next : ℕ) → next ≤ at + length slots * 583 → l ≡ got lists (drop next (bits t))
      → AllRead t at d slots held table l
      (record { part = Ok (record { count = count; next = next }); held = sets held d (map length lists); table = set_rows table d lists })
  ended : (r : Refusal) (some left : List ℕ) → l ≡ stop (number r)
      → AllRead t at d slots held table l (record { part = Err r; held = some; table = left })

module _ (t disks : List ℕ) where
  all_before : (at d slots next count : ℕ) (others held table vs : List ℕ) {l : Read (List (List ℕ))} {c : Carried} → next ≤ at + 583
      → length vs ≡ count
      → l ≡ (carried_fields disks (suc d) others >>= λ more. give (vs ∷ more)) (drop next (bits t))
      → AllRead t next (suc d) others (set held d count) (sets table (d * 64) vs) (carried_fields disks (suc d) others (drop next (bits t))) c
      → AllRead t at d (slots ∷ others) held table l c
  unfolding set_rows give
  all_before at d slots next count others held table vs {l} near len e (complete lists n last pos g) =
      subst (λ (k : ℕ). AllRead t at d (slots ∷ others) held table l (record {
        part = Ok (record { count = n; next = last });
        held = sets (set held d k) (suc d) (map length lists);
        table = set_rows (sets table (d * 64) vs) (suc d) lists;
      })) len
      (complete (vs ∷ lists) n last (omega (arith, near, pos)) (e ∙ bind_ok (carried_fields disks (suc d) others) _ _ g))
  all_before at d slots next count others held table vs near len e (ended r some left g) =
      ended r some left (e ∙ bind-stop (carried_fields disks (suc d) others) _ _ g)

  all_step : (at d slots : ℕ) (others held table : List ℕ) {f : Filled (Unread Refusal)} → slots ≤ 64
      → PartRead t at (carried_row slots) 9 (length disks) (d * 64) table (λ n vs. give vs) (carried_field disks d slots (drop at (bits t))) f
      → ((p : Part) → AllRead t p.next (suc d) others (set held d p.count) f.table
      (carried_fields disks (suc d) others (drop p.next (bits t)))
      (carried_parts t disks p.next (suc d) others (set held d p.count) f.table))
      → AllRead t at d (slots ∷ others) held table (carried_fields disks d (slots ∷ others) (drop at (bits t)))
      (carried_by f.part held f.table λ p. carried_parts t disks p.next (suc d) others (set held d p.count) f.table)
  unfolding carried_by carried_fields give
  all_step at d slots others held table few (whole count next vs least below len small pos g) more =
      all_before at d slots next count others held table vs (omega (arith, pos, below, few)) len (bind_ok (carried_field disks d slots) _ _ g)
      (more (record { count = count; next = next }))
  all_step at d slots others held table few (broken r left g) more =
      ended (unread_refusal r) held left (bind-stop (carried_field disks d slots) _ _ g)

  pub all_read : (at d : ℕ) (slots held table : List ℕ) → Below 65 slots
      → AllRead t at d slots held table (carried_fields disks d slots (drop at (bits t))) (carried_parts t disks at d slots held table)
  unfolding carried_parts carried_fields give set_rows
  all_read at d [] held table small = complete [] d at (omega arith) refl
  all_read at d (slots ∷ others) held table small =
      let few = small 0 (omega arith) in
      all_step at d slots others held table (omega (arith, few)) (disk_read t disks at d slots table)
      (λ p. all_read p.next (suc d) others (set held d p.count) (disk_part t disks at d slots table).table (λ i l. small (suc i) (omega arith)))
