-- The tickets that are accepted are those of sound jobs: what was read was written so, and what is written so is read. Assumes nothing.
use mathlib.Core.Path.{◌≡◌, refl, ap, ◌∙◌, subst}
use mathlib.Core.Bool.{false, ◌||◌}
use mathlib.Core.List.{List, [], ◌++◌, append_assoc, append-nil}
use Prim.Native.Nat.{ℕ, zero, suc, ◌+◌, ◌*◌, ◌^◌, ◌≤◌, ◌<◌}
use native.Mathlib.Omega.{arith}
use lib.Dec.{ltb, leb, eqb}
use lib.ListN.{length, get_or, replicate, length-append}
use borrow.Author.Tests.{ltb-false, le-ltb, leb-false, lt-leb, eqb-false, ne_eqb}
use Rattle.bits.specs.Bits.{digits, fields, bits, pack}
use Rattle.bits.specs.Reading.{given, got, ◌>>=◌, ◌>>◌, give, field, refuse_if, many, closing}
use Rattle.bits.proofs.Logic.{or_false_left, or_false_right, Each, each_at, at_each}
use Rattle.bits.proofs.Bits.{Bits, digits_are, bits_are, bits-pack, length_digits, field_wrote, field-digits}
use Rattle.bits.proofs.Reading.{bind-got, then_got, give-got, refuse_got, closing-got, bind_ok, then_ok, refuse_ok, zero_list, closing_zeros, read_all_given, read_all_ok}
use Rattle.bits.proofs.Repeated.{length_fields, fields_are, Exactly, tested, many_wrote, many_reads}
use Rattle.model.specs.Job.{Job, Sound, disk_count, block_count, ref_count}
use Rattle.model.specs.Ticket.{carried_bits, ticket_bits, slots_field, disk_field, ref_field, carried_fields, ticket_reader, ticket_of}
use Rattle.model.specs.Valid.{ValidTicket}
use Rattle.model.proofs.Carried.{RisingFrom, rising_up, rising-known, CarriedFrom, carried-at, sound-carried}
use Rattle.model.proofs.CarriedFields.{fields_wrote, fields_read, carried-bits, carried_total, length-carried}

-- one field of each table, and its values

above_zero : (n : ℕ) → eqb n 0 ≡ false → 1 ≤ n
above_zero zero e = absurd (eqb-false 0 0 e refl)
above_zero (suc n) e = omega arith

-- 0 and above a limit are both excluded
within : (n k : ℕ) → eqb n 0 || ltb k n ≡ false → (1 ≤ n) × (n ≤ k)
within n k e = (above_zero n (or_false_left (eqb n 0) (ltb k n) e), ltb-false k n (or_false_right (eqb n 0) (ltb k n) e))

not_out : (n k : ℕ) → 1 ≤ n → n ≤ k → eqb n 0 || ltb k n ≡ false
not_out n k p q = rw (ne_eqb n 0 (λ z. omega (arith, z, p)), le-ltb k n q)

slots_exactly : Exactly 7 (λ (s : ℕ). (1 ≤ s) × (s ≤ 64)) slots_field
unfolding slots_field
slots_exactly = tested 1 3 7 _ _
    (λ s t. let w = within s _ t in (w.0, let k = w.1 in omega (arith, k)))
    (λ s p. let k = p.1 in (omega (arith, k), not_out s _ p.0 (omega (arith, k))))

-- a number below a limit that the field's width holds
below_exactly : (n m w k : ℕ) → k ≤ 2 ^ w → Exactly w (λ (x : ℕ). x < k) (field n w >>= λ x. refuse_if m (leb k x) >> give x)
below_exactly n m w k h = tested n m w (λ x. leb k x) _ (λ x t. leb-false k x t) (λ x p. (omega (arith, h, p), lt-leb k x p))

disk_exactly : (disks : ℕ) → disks ≤ 8 → Exactly 3 (λ (x : ℕ). x < disks) (disk_field disks)
unfolding disk_field
disk_exactly disks h = below_exactly 1 5 3 disks h

ref_exactly : (blocks : ℕ) → blocks ≤ 512 → Exactly 9 (λ (x : ℕ). x < blocks) (ref_field blocks)
unfolding ref_field
ref_exactly blocks h = below_exactly 1 7 9 blocks h

-- the fields, each with its values, make a sound job,
sound_of : (slots disks refs : List ℕ) (carried : List (List ℕ)) → (1 ≤ length slots) × (length slots ≤ 8) → (1 ≤ length disks) × (length disks ≤ 512)
    → length refs ≤ 2048 → Each (λ (s : ℕ). (1 ≤ s) × (s ≤ 64)) slots → Each (λ (x : ℕ). x < length slots) disks → Each (λ (x : ℕ). x < length disks) refs
    → length carried ≡ length slots → ((d : ℕ) → length (get_or carried d []) ≤ get_or slots d 0) → CarriedFrom disks 0 carried
    → Sound (record { slots = slots; block_disks = disks; refs = refs; carried = carried })
sound_of slots disks refs carried d b n s k r c f u = record {
  some_disk = d.0;
  few_disks = d.1;
  some_slot = λ e h. (each_at _ slots s e 0 h).0;
  few_slots = λ e h. (let k = (each_at _ slots s e 0 h).1 in omega (arith, k));
  some_block = b.0;
  few_blocks = b.1;
  on_disks = λ c h. each_at _ disks k c 0 h;
  few_refs = n;
  to_blocks = λ i h. each_at _ refs r i 0 h;
  one_list = c;
  few_carried = λ e h. f e;
  rising = λ e i h p. rising_up disks e 0 (get_or carried e []) (on e h) i (suc i) (omega arith) p;
  of_blocks = λ e i h p. (rising-known disks e 0 (get_or carried e []) (on e h) i p).0;
  on_own_disk = λ e i h p. (rising-known disks e 0 (get_or carried e []) (on e h) i p).1;
}
  where
    on : (e : ℕ) → e < length slots → RisingFrom disks e 0 (get_or carried e [])
    on e h = carried-at disks 0 carried u e e (omega arith) (omega (arith, c, h))

-- and one after the other they are its ticket
joined : (slots disks refs : List ℕ) (carried : List (List ℕ)) {l l₁ l₂ l₃ l₄ l₅ l₆ l₇ l₈ l₉ m z : List ℕ}
    → l ≡ digits 4 (length slots) ++ l₁ → l₁ ≡ l₂ → l₂ ≡ fields 7 slots ++ l₃ → l₃ ≡ digits 10 (length disks) ++ l₄ → l₄ ≡ l₅
    → l₅ ≡ fields 3 disks ++ l₆ → l₆ ≡ digits 12 (length refs) ++ l₇ → l₇ ≡ l₈ → l₈ ≡ fields 9 refs ++ l₉ → l₉ ≡ carried_bits carried ++ m → m ≡ z
    → l ≡ ticket_bits (record { slots = slots; block_disks = disks; refs = refs; carried = carried }) ++ z
unfolding ticket_bits
joined slots disks refs carried a q s b r d n u f v g = simp append_assoc (cc)

-- What was read is a sound job, and was written so.
pub reader_wrote : (l : List ℕ) (j : Job) (rest : List ℕ) → Bits l → ticket_reader l ≡ got j rest
    → Sound j × (k : ℕ) × (k < 8) × (l ≡ ticket_bits j ++ replicate k 0)
unfolding ticket_reader
reader_wrote l j rest bits e =
    bind-got (field 1 4) _ l e λ d l₁ e₁ e.
    then_got (refuse_if 2 _) _ l₁ e λ _ l₂ e₂ e.
    refuse_got 2 _ l₁ e₂ λ t₂ q₂.
    bind-got (many d slots_field) _ l₂ e λ slots l₃ e₃ e.
    bind-got (field 1 10) _ l₃ e λ b l₄ e₄ e.
    then_got (refuse_if 4 _) _ l₄ e λ _ l₅ e₅ e.
    refuse_got 4 _ l₄ e₅ λ t₅ q₅.
    bind-got (many b (disk_field d)) _ l₅ e λ disks l₆ e₆ e.
    bind-got (field 1 12) _ l₆ e λ n l₇ e₇ e.
    then_got (refuse_if 6 _) _ l₇ e λ _ l₈ e₈ e.
    refuse_got 6 _ l₇ e₈ λ t₈ q₈.
    bind-got (many n (ref_field b)) _ l₈ e λ refs l₉ e₉ e.
    bind-got (carried_fields disks 0 slots) _ l₉ e λ carried m em e.
    then_got (closing 8) _ m e λ _ l₀ e₀ e.
    closing-got 8 m e₀ λ few zeros.
    give-got e λ p _.
    let td = within d _ t₂ in
    let tb = within b _ t₅ in
    let w₁ = field_wrote 1 4 l bits e₁ in
    let w₃ = many_wrote slots_exactly d l₂ (subst Bits q₂ w₁.2) e₃ in
    let w₄ = field_wrote 1 10 l₃ w₃.3 e₄ in
    let w₆ = many_wrote (disk_exactly d td.1) b l₅ (subst Bits q₅ w₄.2) e₆ in
    let w₇ = field_wrote 1 12 l₆ w₆.3 e₇ in
    let w₉ = many_wrote (ref_exactly b tb.1) n l₈ (subst Bits q₈ w₇.2) e₉ in
    let wm = fields_wrote disks (let k = tb.1 in let n = w₆.0 in omega (arith, k, n)) 0 slots l₉ w₉.3 em in
    subst (λ (x : Job). Sound x × (k : ℕ) × (k < 8) × (l ≡ ticket_bits x ++ replicate k 0)) p (
      sound_of slots disks refs carried
          (rw w₃.0 td)
          (rw w₆.0 tb)
          (rw w₉.0 (ltb-false _ n t₈))
          w₃.1
          (rw w₃.0 w₆.1)
          (rw w₆.0 w₉.1)
          wm.0
          wm.1
          wm.2,
      length m,
      few,
      joined slots disks refs carried (rw w₃.0 w₁.1) q₂ w₃.2 (rw w₆.0 w₄.1) q₅ w₆.2 (rw w₉.0 w₇.1) q₈ w₉.2 wm.3
          (zero_list m zeros),
    )

-- A sound job, written so, is read.
pub ticket_written : (j : Job) → Sound j → (k : ℕ) → k < 8 → ticket_reader (ticket_bits j ++ replicate k 0) ≡ got j []
unfolding ticket_reader ticket_bits give
ticket_written j sound k few =
    let d = sound.few_disks in
    let b = sound.few_blocks in
    let n = sound.few_refs in
    let slots = at_each (λ (s : ℕ). (1 ≤ s) × (s ≤ 64)) j.slots 0 (λ i h. (sound.some_slot i h, let k = sound.few_slots i h in omega (arith, k))) in
    let disks = at_each (λ (x : ℕ). x < disk_count j) j.block_disks 0 sound.on_disks in
    let refs = at_each (λ (x : ℕ). x < block_count j) j.refs 0 sound.to_blocks in
    ap ticket_reader (simp append_assoc)
    ∙ bind_ok (field 1 4) _ _ (field-digits 1 4 (disk_count j) _ (omega (arith, d)))
    ∙ then_ok (refuse_if 2 _) _ _ (refuse_ok 2 _ _ (not_out (disk_count j) _ sound.some_disk d))
    ∙ bind_ok (many (disk_count j) slots_field) _ _ (many_reads slots_exactly j.slots _ slots)
    ∙ bind_ok (field 1 10) _ _ (field-digits 1 10 (block_count j) _ (omega (arith, b)))
    ∙ then_ok (refuse_if 4 _) _ _ (refuse_ok 4 _ _ (not_out (block_count j) _ sound.some_block b))
    ∙ bind_ok (many (block_count j) (disk_field (disk_count j))) _ _ (many_reads (disk_exactly (disk_count j) d) j.block_disks _ disks)
    ∙ bind_ok (field 1 12) _ _ (field-digits 1 12 (ref_count j) _ (omega (arith, n)))
    ∙ then_ok (refuse_if 6 _) _ _ (refuse_ok 6 _ _ (le-ltb _ (ref_count j) n))
    ∙ bind_ok (many (ref_count j) (ref_field (block_count j))) _ _ (many_reads (ref_exactly (block_count j) b) j.refs _ refs)
    ∙ bind_ok (carried_fields j.block_disks 0 j.slots) _ _
    (fields_read j.block_disks b 0 j.slots j.carried _ sound.one_list sound.few_slots sound.few_carried (sound-carried j sound))
    ∙ then_ok (closing 8) _ _ (closing_zeros 8 k few)

-- "A ticket is accepted if its reading meets none of the ticket's conditions."

pub accepted_valid : (t : List ℕ) (j : Job) → ticket_of t ≡ given j → ValidTicket t j
unfolding ticket_of
accepted_valid t j e = read_all_given ticket_reader t e λ rest r.
    let w = reader_wrote (bits t) j rest (bits_are t) r in
    record { sound = w.0; closing_bits = w.1; few_closing = w.2; written = w.3 }

pub valid_accepted : (t : List ℕ) (j : Job) → ValidTicket t j → ticket_of t ≡ given j
unfolding ticket_of
valid_accepted t j v = read_all_ok ticket_reader t (ap ticket_reader v.written ∙ ticket_written j v.sound v.closing_bits v.few_closing)

-- its job is sound
pub ticket_sound : (t : List ℕ) (j : Job) → ticket_of t ≡ given j → Sound j
ticket_sound t j e = (accepted_valid t j e).sound

-- a sound job's own ticket

ticket-bits : (j : Job) → Bits (ticket_bits j)
unfolding ticket_bits Bits Each
ticket-bits j =
    digits_are 4 (disk_count j) _ (fields_are 7 j.slots _ (digits_are 10 (block_count j) _ (fields_are 3 j.block_disks _
    (digits_are 12 (ref_count j) _ (fields_are 9 j.refs _ (rw append-nil at (carried-bits j.carried [] tt)))))))

pub sound_accepted : (j : Job) → Sound j → ticket_of (pack (ticket_bits j)) ≡ given j
sound_accepted j sound =
    let p = bits-pack (ticket_bits j) (ticket-bits j) in
    valid_accepted (pack (ticket_bits j)) j (record { sound = sound; closing_bits = p.0; few_closing = p.1; written = p.2 })

-- how long a ticket is
pub length_ticket : (j : Job) → length (ticket_bits j) ≡ 26 + disk_count j * 7 + block_count j * 3 + ref_count j * 9 + length j.carried * 7 + carried_total j.carried * 9
unfolding ticket_bits
length_ticket j = simp (length-append, length_digits, length_fields, length-carried) (omega arith)
