-- A ticket part by part: disks and slots, blocks and their disks, references, the blocks carried in and the closing bits. Assumes nothing.
use mathlib.Core.Path.{◌≡◌, refl, sym, ap, ap₂, ◌∙◌}
use mathlib.Core.Bool.{Bool, ◌||◌}
use mathlib.Core.List.{List}
use Prim.Native.Nat.{ℕ}
use native.Mathlib.Omega.{arith}
use lib.Dec.{ltb, leb, eqb, lit<, lit≤}
use lib.ListN.{take, drop, replicate}
use borrow.Author.Tests.{lt-ltb, ltb-true, eq-eqb, eqb-true}
use Rattle.std.specs.Prelude.{Ok, Err, true, false}
use Rattle.refusal.specs.declared.Refusal.{Refusal}
use Rattle.refusal.specs.declared.Refusal.TheVariants.{TicketClosing}
use Rattle.refusal.specs.Refusals.{number}
use Rattle.refusal.proofs.Numbers.{refusal_of-number}
use Rattle.bits.specs.Bits.{bits}
use Rattle.bits.specs.Reading.{stop, Reader, ◌>>=◌, ◌>>◌, give, field, refuse_if, many, answer, read_all, is_closed}
use Rattle.bits.proofs.Reading.{read_all_ok}
use Rattle.bits.proofs.Logic.{same_test}
use Rattle.model.specs.Job.{Job}
use Rattle.model.specs.Ticket.{slots_field, disk_field, ref_field, ticket_reader, ticket_of}
use Rattle.job.specs.Meaning.{stored}
use Rattle.ticket.specs.Meaning.{answer_of, ticket_read}
use Rattle.ticket.specs.Rows.{disks_row, slots_row, blocks_row, disk_row, refs_row, ref_row}
use Rattle.entries.specs.Parts.{unread_refusal, of_row, Filled, part_at}
use Rattle.carried.specs.Carried.{Carried}
use Rattle.entries.specs.declared.Row.{Row}
use Rattle.entries.specs.declared.Part.{Part}
use Rattle.entries.specs.declared.Unread.{Unread}
use Rattle.entries.proofs.Entries.{entry_reads, any_test}
use Rattle.entries.proofs.Parts.{Reads, row_reads, PartRead, part_reads}
use Rattle.ticket.proofs.Tables.{Got, part-got, part-stop, got_lent}
use Rattle.ticket.proofs.Ending.{end_reader, end_part, end_stop, end_open, end_got}

-- the tests of the readers are those of the rows

some_test : (k v : ℕ) → eqb v 0 || leb k v ≡ ltb v 1 || leb k v
some_test k v =
    ap (λ (b : Bool). b || leb k v)
    (same_test (eqb v 0) (ltb v 1)
    (λ e. (let z = eqb-true v 0 e in lt-ltb v 1 (omega (arith, z))))
    (λ e. (let z = ltb-true v 1 e in eq-eqb v 0 (omega (arith, z)))))

slots_reads : (t : List ℕ) → Reads t (of_row t slots_row) 65 (λ k least. many k slots_field)
unfolding slots_field
slots_reads t = row_reads t slots_row slots_field λ at. entry_reads t at slots_row (λ v. eqb v 0 || ltb 64 v) give (lit< tt) (some_test 65)

disk_reads : (t : List ℕ) (d : ℕ) → Reads t (of_row t (disk_row d)) d (λ k least. many k (disk_field d))
unfolding disk_field
disk_reads t d = row_reads t (disk_row d) (disk_field d) λ at. entry_reads t at (disk_row d) (λ v. leb d v) give (lit< tt) (any_test d)

ref_reads : (t : List ℕ) (b : ℕ) → Reads t (of_row t (ref_row b)) b (λ k least. many k (ref_field b))
unfolding ref_field
ref_reads t b = row_reads t (ref_row b) (ref_field b) λ at. entry_reads t at (ref_row b) (λ v. leb b v) give (lit< tt) (any_test b)

-- what is read after each part

abbrev pub after_refs : List ℕ → List ℕ → ℕ → List ℕ → Reader Job
after_refs slots disks n refs = end_reader slots disks refs

abbrev pub after_disks : List ℕ → ℕ → List ℕ → Reader Job
after_disks slots b disks = field 1 12 >>= λ n. refuse_if 6 (ltb 2048 n) >> (many n (ref_field b) >>= λ refs. after_refs slots disks n refs)

abbrev pub after_slots : ℕ → List ℕ → Reader Job
after_slots d slots = field 1 10 >>= λ b. refuse_if 4 (eqb b 0 || ltb 512 b) >> (many b (disk_field d) >>= λ disks. after_disks slots b disks)

-- the three parts, each read into a table of zeros

abbrev pub slots_part : List ℕ → Filled (Unread Refusal)
slots_part t = part_at t 0 disks_row (of_row t slots_row) 0 (replicate 8 0)

abbrev pub disks_part : List ℕ → ℕ → Row Refusal → Filled (Unread Refusal)
disks_part t at row = part_at t at blocks_row (of_row t row) 0 (replicate 512 0)

abbrev pub refs_part : List ℕ → ℕ → Row Refusal → Filled (Unread Refusal)
refs_part t at row = part_at t at refs_row (of_row t row) 0 (replicate 2048 0)

module _ (t : List ℕ) where
  slots-part : PartRead t 0 disks_row 7 65 0 (replicate 8 0) after_slots (ticket_reader (bits t)) (slots_part t)
  unfolding ticket_reader
  slots-part =
      part_reads t 0 disks_row (of_row t slots_row) 65 0 (replicate 8 0) (λ v. eqb v 0 || ltb 8 v) (λ k least. many k slots_field) after_slots _
      (lit< tt) (some_test 9) (λ n l. refl) (slots_reads t)

  disks-part : (at d : ℕ) (slots : List ℕ)
      → PartRead t at blocks_row 3 d 0 (replicate 512 0) (after_disks slots) (after_slots d slots (drop at (bits t))) (disks_part t at (disk_row d))
  disks-part at d slots =
      part_reads t at blocks_row (of_row t (disk_row d)) d 0 (replicate 512 0) (λ v. eqb v 0 || ltb 512 v)
      (λ k least. many k (disk_field d)) (after_disks slots) _
      (lit< tt) (some_test 513) (λ n l. refl) (disk_reads t d)

  refs-part : (at b : ℕ) (slots disks : List ℕ)
      → PartRead t at refs_row 9 b 0 (replicate 2048 0) (after_refs slots disks) (after_disks slots b disks (drop at (bits t)))
      (refs_part t at (ref_row b))
  refs-part at b slots disks =
      part_reads t at refs_row (of_row t (ref_row b)) b 0 (replicate 2048 0) (λ v. ltb 2048 v) (λ k least. many k (ref_field b)) (after_refs slots disks) _
      (lit< tt) (any_test 2049) (λ n l. refl) (ref_reads t b)

  -- each part, read
  abbrev pub Slots : Part → List ℕ → Type 0
  Slots p slots = Got t 0 disks_row 7 65 8 after_slots (ticket_reader (bits t)) p slots

  abbrev pub Disks : Part → List ℕ → Part → List ℕ → Type 0
  Disks p values q disk =
      Got t p.next blocks_row 3 p.count 512 (after_disks values) (after_slots p.count values (drop p.next (bits t))) q disk

  abbrev pub Refs : List ℕ → Part → List ℕ → Part → List ℕ → Type 0
  Refs slots q values r refs =
      Got t q.next refs_row 9 q.count 2048 (after_refs slots values) (after_disks slots q.count values (drop q.next (bits t))) r refs

  -- a refusal by the reader
  stopped : (r : Refusal) → ticket_reader (bits t) ≡ stop (number r) → ticket_read t ≡ Err r
  unfolding ticket_read answer_of ticket_of read_all answer
  stopped r e = ap (λ x. answer_of (answer x)) e ∙ ap Err (refusal_of-number r)

  pub slots-got : {p : Part} {slots : List ℕ} → (slots_part t).part ≡ Ok p → slots ≡ (slots_part t).table → Slots p slots
  slots-got e s = part-got t 0 disks_row 7 65 8 after_slots (ticket_reader (bits t)) (lit≤ tt) slots-part e s

  pub slots-refused : {r : Unread Refusal} → (slots_part t).part ≡ Err r → ticket_read t ≡ Err (unread_refusal r)
  slots-refused e = stopped _ (part-stop t 0 disks_row 7 65 8 after_slots (ticket_reader (bits t)) slots-part e)

  module _ {p : Part} {slots : List ℕ} (a : Slots p slots) {row : Row Refusal} (is : row ≡ disk_row p.count) where
    pub disks_got : {q : Part} {disk : List ℕ} → (disks_part t p.next row).part ≡ Ok q → disk ≡ (disks_part t p.next row).table → Disks p a.values q disk
    disks_got e s =
        part-got t p.next blocks_row 3 p.count 512 (after_disks a.values) _ (lit≤ tt) (disks-part p.next p.count a.values)
        (ap (λ (x : Row Refusal). (disks_part t p.next x).part) (sym is) ∙ e)
        (s ∙ ap (λ (x : Row Refusal). (disks_part t p.next x).table) is)

    pub disks_refused : {r : Unread Refusal} → (disks_part t p.next row).part ≡ Err r → ticket_read t ≡ Err (unread_refusal r)
    disks_refused e =
        stopped _
        (a.goes
        ∙ part-stop t p.next blocks_row 3 p.count 512 (after_disks a.values) _ (disks-part p.next p.count a.values)
        (ap (λ (x : Row Refusal). (disks_part t p.next x).part) (sym is) ∙ e))

  module _ {p : Part} {slots : List ℕ} (a : Slots p slots) {q : Part} {disk : List ℕ} (b : Disks p a.values q disk)
      {row : Row Refusal} (is : row ≡ ref_row q.count) where
    pub refs-got : {r : Part} {refs : List ℕ} → (refs_part t q.next row).part ≡ Ok r → refs ≡ (refs_part t q.next row).table
        → Refs a.values q b.values r refs
    refs-got e s =
        part-got t q.next refs_row 9 q.count 2048 (after_refs a.values b.values) _ (lit≤ tt)
        (refs-part q.next q.count a.values b.values)
        (ap (λ (x : Row Refusal). (refs_part t q.next x).part) (sym is) ∙ e)
        (s ∙ ap (λ (x : Row Refusal). (refs_part t q.next x).table) is)

    pub refs-refused : {r : Unread Refusal} → (refs_part t q.next row).part ≡ Err r → ticket_read t ≡ Err (unread_refusal r)
    refs-refused e =
        stopped _
        (a.goes ∙ b.goes
        ∙ part-stop t q.next refs_row 9 q.count 2048 (after_refs a.values b.values) _
        (refs-part q.next q.count a.values b.values)
        (ap (λ (x : Row Refusal). (refs_part t q.next x).part) (sym is) ∙ e))

  module _ {p : Part} {slots : List ℕ} (a : Slots p slots) {q : Part} {disk : List ℕ} (b : Disks p a.values q disk)
      {r : Part} {refs : List ℕ} (c : Refs a.values q b.values r refs) where
    ends : ticket_reader (bits t) ≡ after_refs a.values b.values r.count c.values (drop r.next (bits t))
    ends = a.goes ∙ b.goes ∙ c.goes

    -- what is read of the lent slots and disks
    abbrev pub lent_end : Carried
    lent_end = end_part t (take p.count slots) (take q.count disk) r.next

    lent_part : end_part t a.values b.values r.next ≡ lent_end
    lent_part = sym (ap₂ (λ (x y : List ℕ). end_part t x y r.next) (got_lent a) (got_lent b))

    pub end_refused : {n : Refusal} → lent_end.part ≡ Err n → ticket_read t ≡ Err n
    end_refused e =
        stopped _ (ends ∙ end_stop t a.values b.values c.values r.next a.small (ap (λ (x : Carried). x.part) lent_part ∙ e))

    pub end_closing : {last : Part} → lent_end.part ≡ Ok last → is_closed (drop last.next (bits t)) ≡ false → ticket_read t ≡ Err TicketClosing
    end_closing e k =
        stopped TicketClosing (ends ∙ end_open t a.values b.values c.values r.next a.small (ap (λ (x : Carried). x.part) lent_part ∙ e) k)

    pub accepted : {last : Part} {held carried : List ℕ} → lent_end.part ≡ Ok last → held ≡ lent_end.held → carried ≡ lent_end.table
        → is_closed (drop last.next (bits t)) ≡ true
        → ticket_read t ≡ Ok (record {
          disks = p.count;
          slots = slots;
          blocks = q.count;
          disk = disk;
          count = r.count;
          refs = refs;
          held = held;
          carried = carried;
        })
    unfolding ticket_read answer_of ticket_of stored
    accepted e h s k =
        let d = a.long in
        let least = a.below in
        let n = b.long in
        let most = b.below in
        let end =
        end_got t a.values b.values c.values r.next a.small (omega (arith, d, least)) (omega (arith, n, most))
        (ap (λ (x : Carried). x.part) lent_part ∙ e) (h ∙ ap (λ (x : Carried). x.held) (sym lent_part))
        (s ∙ ap (λ (x : Carried). x.table) (sym lent_part)) k
        in
        ap answer_of (read_all_ok ticket_reader t (ends ∙ end.gives))
        ∙ (λ i. Ok (record {
          disks = a.long i;
          slots = sym a.held i;
          blocks = b.long i;
          disk = sym b.held i;
          count = c.long i;
          refs = sym c.held i;
          held = sym end.counts i;
          carried = sym end.rows i;
        }))
