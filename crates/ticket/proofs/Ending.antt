-- What follows the references, as the ticket's reader reads it: the blocks carried in, and the closing bits. Assumes nothing.
use mathlib.Core.Path.{◌≡◌, ap, ◌∙◌}
use mathlib.Core.Bool.{true, false}
use mathlib.Core.List.{List, [], map}
use Prim.Native.Nat.{ℕ, ◌+◌, ◌≤◌}
use native.Mathlib.Omega.{arith}
use lib.ListN.{length, drop, replicate, length-map}
use Rattle.std.specs.Prelude.{Ok, Err}
use Rattle.refusal.specs.declared.Refusal.{Refusal}
use Rattle.refusal.specs.Refusals.{number}
use Rattle.bits.specs.Bits.{bits, Below}
use Rattle.bits.specs.Reading.{Read, got, stop, Reader, ◌>>=◌, ◌>>◌, give, is_closed, closing}
use Rattle.bits.proofs.Bits.{bits_are, drop_bits}
use Rattle.bits.proofs.Reading.{bind_ok, bind-stop, then_ok, then_stop, closing_open, closing-closed}
use Rattle.model.specs.Job.{Job}
use Rattle.model.specs.Ticket.{carried_fields}
use Rattle.model.proofs.CarriedFields.{fields_wrote}
use Rattle.job.specs.Meaning.{pad_to, rows_of}
use Rattle.job.proofs.Laws.{sets_zeros}
use Rattle.entries.specs.declared.Part.{Part}
use Rattle.carried.specs.Carried.{Carried, carried_parts}
use Rattle.carried.proofs.Rows.{rows_written}
use Rattle.carried.proofs.CarriedParts.{AllRead, complete, ended, all_read}

-- where the parts of all disks were read, the last one ends within 8 * 583 bits
pub all_near : (t disks : List ℕ) (at : ℕ) (slots held table : List ℕ) {p : Part} → Below 65 slots → length slots ≤ 8
    → (carried_parts t disks at 0 slots held table).part ≡ Ok p → p.next ≤ at + 4664
all_near t disks at slots held table {p} small few e = go (all_read t disks at 0 slots held table small) e
  where
    go : {c : Carried} {l : Read (List (List ℕ))} → AllRead t at 0 slots held table l c → c.part ≡ Ok p → p.next ≤ at + 4664
    go (complete lists count next near g) q = let n : next ≡ p.next = cc in omega (arith, n, near, few)
    go (ended r some left g) q = absurd (let z : ◌≡◌ {A = ℕ} 0 1 = cc in omega arith)

-- The reader of what follows, which has the rest of the job already.

abbrev pub end_reader : List ℕ → List ℕ → List ℕ → Reader Job
end_reader slots disks refs =
    carried_fields disks 0 slots >>= λ carried. closing 8 >> give (record { slots = slots; block_disks = disks; refs = refs; carried = carried })

-- The blocks carried in that were read into two tables of zeros, and the job that the reader gives with them.
pub record Ended (t slots disks refs : List ℕ) (at : ℕ) (held table : List ℕ) : Type 0 where
  pub lists : List (List ℕ)
  pub counts : held ≡ pad_to 8 (map length lists)
  pub rows : table ≡ pad_to 512 (rows_of lists)
  pub gives : end_reader slots disks refs (drop at (bits t)) ≡ got (record { slots = slots; block_disks = disks; refs = refs; carried = lists }) []

-- what is read into tables of zeros
abbrev pub end_part : (t slots disks : List ℕ) (at : ℕ) → Carried
end_part t slots disks at = carried_parts t disks at 0 slots (replicate 8 0) (replicate 512 0)

module _ (t slots disks refs : List ℕ) (at : ℕ) (small : Below 65 slots) where
  -- the parts of all disks, beside what the reader reads of them
  abbrev Beside : Carried → Type 0
  Beside c = AllRead t at 0 slots (replicate 8 0) (replicate 512 0) (carried_fields disks 0 slots (drop at (bits t))) c

  beside : Beside (end_part t slots disks at)
  beside = all_read t disks at 0 slots (replicate 8 0) (replicate 512 0) small

  pub end_stop : {r : Refusal} → (end_part t slots disks at).part ≡ Err r → end_reader slots disks refs (drop at (bits t)) ≡ stop (number r)
  end_stop {r} e = go beside e
    where
      go : {c : Carried} → Beside c → c.part ≡ Err r → end_reader slots disks refs (drop at (bits t)) ≡ stop (number r)
      go (complete lists count next near g) q = absurd (let z : ◌≡◌ {A = ℕ} 0 1 = cc in omega arith)
      go (ended s some left g) q =
          let same : s ≡ r = cc in bind-stop (carried_fields disks 0 slots) _ _ g ∙ ap (λ (x : Refusal). stop (number x)) same

  pub end_open : {p : Part} → (end_part t slots disks at).part ≡ Ok p → is_closed (drop p.next (bits t)) ≡ false
      → end_reader slots disks refs (drop at (bits t)) ≡ stop 8
  end_open {p} e c = go beside e
    where
      go : {x : Carried} → Beside x → x.part ≡ Ok p → end_reader slots disks refs (drop at (bits t)) ≡ stop 8
      go (complete lists count next near g) q =
          let same : next ≡ p.next = cc in
          bind_ok (carried_fields disks 0 slots) _ _ g
          ∙ then_stop (closing 8) _ _ (closing_open 8 (drop next (bits t)) (ap (λ (k : ℕ). is_closed (drop k (bits t))) same ∙ c))
      go (ended s some left g) q = absurd (let z : ◌≡◌ {A = ℕ} 0 1 = cc in omega arith)

  pub end_got : {p : Part} {held table : List ℕ} → length slots ≤ 8 → length disks ≤ 512 → (end_part t slots disks at).part ≡ Ok p
      → held ≡ (end_part t slots disks at).held → table ≡ (end_part t slots disks at).table → is_closed (drop p.next (bits t)) ≡ true
      → Ended t slots disks refs at held table
  unfolding give
  end_got {p} {held} {table} few known e h s c = go beside e h s
    where
      go : {x : Carried} → Beside x → x.part ≡ Ok p → held ≡ x.held → table ≡ x.table → Ended t slots disks refs at held table
      go (complete lists count next near g) q h s =
          let same : next ≡ p.next = cc in
          let wrote = fields_wrote disks known 0 slots (drop at (bits t)) (drop_bits at (bits t) (bits_are t)) g in
          let long = wrote.0 in
          let counted = length-map lists length in
          record {
            lists = lists;
            counts = h ∙ sets_zeros 8 (map length lists) (omega (arith, long, counted, few));
            rows =
                s
                ∙ rows_written lists (omega (arith, long, few))
                (λ d l. let fits = wrote.1 d in let most = small d (omega (arith, l, long)) in omega (arith, fits, most));
            gives =
                bind_ok (carried_fields disks 0 slots) _ _ g
                ∙ then_ok (closing 8) _ _ (closing-closed 8 (drop next (bits t)) (ap (λ (k : ℕ). is_closed (drop k (bits t))) same ∙ c));
          }
      go (ended r some left g) q h s = absurd (let z : ◌≡◌ {A = ℕ} 0 1 = cc in omega arith)
