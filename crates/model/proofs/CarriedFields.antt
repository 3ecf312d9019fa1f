-- The blocks carried in, as a ticket has them (request L9): what was read was written so, and what is written so is read. Assumes nothing.
use mathlib.Core.Path.{◌≡◌, refl, sym, ap, ◌∙◌, subst}
use mathlib.Core.Bool.{Bool, true, false, not, ◌||◌}
use mathlib.Core.List.{List, [], ◌∷◌, ◌++◌, append_assoc}
use Prim.Native.Nat.{ℕ, zero, suc, ◌+◌, ◌*◌, ◌≤◌, ◌<◌}
use native.Mathlib.Nat.{suc-mul}
use native.Mathlib.Omega.{arith}
use lib.Dec.{ltb, leb, eqb}
use lib.ListN.{length, get_or, length-append}
use borrow.Author.Tests.{ltb-false, le-ltb, leb-false, lt-leb, eq-eqb, eqb-true}
use Rattle.bits.specs.Bits.{digits, fields}
use Rattle.bits.specs.Reading.{got, ◌>>=◌, ◌>>◌, give, field, refuse_if}
use Rattle.bits.proofs.Logic.{by_test, clash, or_false_left, or_false_right}
use Rattle.bits.proofs.Bits.{Bits, digits_are, length_digits, field_wrote, field-digits}
use Rattle.bits.proofs.Reading.{bind-got, then_got, give-got, refuse_got, bind_ok, then_ok, refuse_ok}
use Rattle.bits.proofs.Repeated.{length_fields, fields_are}
use Rattle.model.specs.Ticket.{carried_bits, carried_blocks, carried_field, carried_fields}
use Rattle.model.proofs.Carried.{RisingFrom, CarriedFrom}

-- the test of one number

abbrev refused_at : List ℕ → ℕ → ℕ → ℕ → Bool
refused_at disks d least b = ltb b least || leb (length disks) b || not (eqb (get_or disks b 0) d)

not-false : (t : Bool) → not t ≡ false → t ≡ true
not-false t e = by_test t (λ y. y) (λ n. clash (ap not n) e)

number_passes : (disks : List ℕ) (d least b : ℕ) → refused_at disks d least b ≡ false → (least ≤ b) × (b < length disks) × (get_or disks b 0 ≡ d)
number_passes disks d least b e = (
  ltb-false b least (or_false_left (ltb b least) _ (or_false_left _ (not (eqb (get_or disks b 0) d)) e)),
  leb-false (length disks) b (or_false_right (ltb b least) (leb (length disks) b) (or_false_left _ (not (eqb (get_or disks b 0) d)) e)),
  eqb-true (get_or disks b 0) d (not-false (eqb (get_or disks b 0) d) (or_false_right (ltb b least || leb (length disks) b) _ e)),
)

passes_number : (disks : List ℕ) (d least b : ℕ) → least ≤ b → b < length disks → get_or disks b 0 ≡ d → refused_at disks d least b ≡ false
passes_number disks d least b p q e = rw (le-ltb b least p, lt-leb (length disks) b q, eq-eqb (get_or disks b 0) d e)

module _ (disks : List ℕ) (few : length disks ≤ 512) where
  -- the numbers of a disk
  blocks_wrote : (d k least : ℕ) (l : List ℕ) {vs rest : List ℕ} → Bits l → carried_blocks disks d k least l ≡ got vs rest
      → (length vs ≡ k) × RisingFrom disks d least vs × (l ≡ fields 9 vs ++ rest) × Bits rest
  unfolding carried_blocks RisingFrom fields
  blocks_wrote d zero least l {vs} {rest} h e =
      give-got e λ p q. subst (λ (x : List ℕ). (length x ≡ 0) × RisingFrom disks d least x × (l ≡ fields 9 x ++ rest) × Bits rest) p (refl, tt, q, subst Bits q h)
  blocks_wrote d (suc k) least l {vs} {rest} h e =
      bind-got (field 1 9) _ l e λ b l₁ e₁ e.
      then_got (refuse_if 26 _) _ l₁ e λ _ l₂ e₂ e.
      refuse_got 26 _ l₁ e₂ λ t q.
      bind-got (carried_blocks disks d k (suc b)) _ l₂ e λ more l₃ e₃ e.
      give-got e λ p r.
      let one = field_wrote 1 9 l h e₁ in
      let ok = number_passes disks d least b t in
      let ih = blocks_wrote d k (suc b) l₂ (subst Bits q one.2) e₃ in
      subst (λ (x : List ℕ). (length x ≡ suc k) × RisingFrom disks d least x × (l ≡ fields 9 x ++ rest) × Bits rest) p (
        ap suc ih.0,
        (ok.0, ok.1, ok.2, ih.1),
        one.1 ∙ ap (λ (m : List ℕ). digits 9 b ++ m) (q ∙ ih.2 ∙ ap (λ (m : List ℕ). fields 9 more ++ m) r) ∙ rw (append_assoc (digits 9 b) (fields 9 more) rest) refl,
        subst Bits r ih.3,
      )

  blocks_read : (d least : ℕ) (vs rest : List ℕ) → RisingFrom disks d least vs → carried_blocks disks d (length vs) least (fields 9 vs ++ rest) ≡ got vs rest
  unfolding carried_blocks RisingFrom fields give
  blocks_read d least [] rest h = refl
  blocks_read d least (b ∷ more) rest h =
      ap (carried_blocks disks d (suc (length more)) least) (append_assoc (digits 9 b) (fields 9 more) rest)
      ∙ bind_ok (field 1 9) _ _ (field-digits 1 9 b (fields 9 more ++ rest) (let p = h.1 in omega (arith, p, few)))
      ∙ then_ok (refuse_if 26 _) _ _ (refuse_ok 26 _ _ (passes_number disks d least b h.0 h.1 h.2))
      ∙ bind_ok (carried_blocks disks d (length more) (suc b)) _ _ (blocks_read d (suc b) more rest h.3)

  -- the lists of the disks from d on, none longer than its disk's slots

  pub fields_wrote : (d : ℕ) (slots l : List ℕ) {lists : List (List ℕ)} {rest : List ℕ} → Bits l → carried_fields disks d slots l ≡ got lists rest
      → (length lists ≡ length slots) × ((e : ℕ) → length (get_or lists e []) ≤ get_or slots e 0) × CarriedFrom disks d lists × (l ≡ carried_bits lists ++ rest) × Bits rest
  unfolding carried_fields carried_field CarriedFrom carried_bits
  fields_wrote d [] l {lists} {rest} h e =
      give-got e λ p q.
      subst (λ (x : List (List ℕ)). (length x ≡ 0) × ((e : ℕ) → length (get_or x e []) ≤ 0) × CarriedFrom disks d x × (l ≡ carried_bits x ++ rest) × Bits rest) p
      (refl, (λ e. omega arith), tt, q, subst Bits q h)
  fields_wrote d (s ∷ others) l {lists} {rest} h e =
      bind-got (carried_field disks d s) _ l e λ blocks l₃ e₃ e.
      bind-got (carried_fields disks (suc d) others) _ l₃ e λ more l₄ e₄ e.
      give-got e λ p r.
      bind-got (field 1 7) _ l e₃ λ k l₁ e₁ e₃.
      then_got (refuse_if 25 _) _ l₁ e₃ λ _ l₂ e₂ e₃.
      refuse_got 25 _ l₁ e₂ λ t q.
      let one = field_wrote 1 7 l h e₁ in
      let two = blocks_wrote d k 0 l₂ (subst Bits q one.2) e₃ in
      let ih = fields_wrote (suc d) others l₃ two.3 e₄ in
      subst (λ (x : List (List ℕ)). (length x ≡ suc (length others)) × ((e : ℕ) → length (get_or x e []) ≤ get_or (s ∷ others) e 0) × CarriedFrom disks d x
      × (l ≡ carried_bits x ++ rest) × Bits rest) p (
        ap suc ih.0,
        within blocks more (let n = two.0 in let m = ltb-false s k t in omega (arith, n, m)) ih.1,
        (two.1, ih.2),
        one.1 ∙ ap (λ (n : ℕ). digits 7 n ++ l₁) (sym two.0)
            ∙ ap (λ (m : List ℕ). digits 7 (length blocks) ++ m) (q ∙ two.2 ∙ ap (λ (m : List ℕ). fields 9 blocks ++ m) (ih.3 ∙ ap (λ (m : List ℕ). carried_bits more ++ m) r))
            ∙ simp append_assoc,
        subst Bits r ih.4,
      )
    where
      within : (blocks : List ℕ) (more : List (List ℕ)) → length blocks ≤ s → ((e : ℕ) → length (get_or more e []) ≤ get_or others e 0)
          → (e : ℕ) → length (get_or (blocks ∷ more) e []) ≤ get_or (s ∷ others) e 0
      within blocks more a b zero = a
      within blocks more a b (suc e) = b e

  pub fields_read : (d : ℕ) (slots : List ℕ) (lists : List (List ℕ)) (rest : List ℕ) → length lists ≡ length slots
      → ((e : ℕ) → e < length slots → get_or slots e 0 ≤ 64) → ((e : ℕ) → e < length slots → length (get_or lists e []) ≤ get_or slots e 0) → CarriedFrom disks d lists
      → carried_fields disks d slots (carried_bits lists ++ rest) ≡ got lists rest
  unfolding carried_fields carried_field CarriedFrom carried_bits give
  fields_read d [] [] rest n small fit h = refl
  fields_read d [] (blocks ∷ more) rest n small fit h = absurd (omega (arith, n))
  fields_read d (s ∷ others) [] rest n small fit h = absurd (omega (arith, n))
  fields_read d (s ∷ others) (blocks ∷ more) rest n small fit h =
      let room = fit 0 (omega arith) in
      let most = small 0 (omega arith) in
      ap (carried_fields disks d (s ∷ others)) (simp append_assoc)
      ∙ bind_ok (carried_field disks d s) _ _
      (bind_ok (field 1 7) _ _ (field-digits 1 7 (length blocks) (fields 9 blocks ++ (carried_bits more ++ rest)) (omega (arith, room, most)))
      ∙ then_ok (refuse_if 25 _) _ _ (refuse_ok 25 _ _ (le-ltb s (length blocks) room))
      ∙ blocks_read d 0 blocks (carried_bits more ++ rest) h.0)
      ∙ bind_ok (carried_fields disks (suc d) others) _ _
      (fields_read (suc d) others more rest (omega (arith, n)) (λ e p. small (suc e) (omega arith)) (λ e p. fit (suc e) (omega arith)) h.1)

pub carried-bits : (lists : List (List ℕ)) (rest : List ℕ) → Bits rest → Bits (carried_bits lists ++ rest)
unfolding carried_bits
carried-bits [] rest h = h
carried-bits (blocks ∷ more) rest h =
    rw (append_assoc (digits 7 (length blocks)) (fields 9 blocks ++ carried_bits more) rest, append_assoc (fields 9 blocks) (carried_bits more) rest)
    (digits_are 7 (length blocks) _ (fields_are 9 blocks _ (carried-bits more rest h)))

-- how many blocks are carried in, on all disks
unfoldable pub carried_total : List (List ℕ) → ℕ
carried_total [] = 0
carried_total (blocks ∷ more) = length blocks + carried_total more

pub length-carried : (lists : List (List ℕ)) → length (carried_bits lists) ≡ length lists * 7 + carried_total lists * 9
unfolding carried_bits carried_total
length-carried [] = omega arith
length-carried (blocks ∷ more) =
    let ih = length-carried more in
    let a = length-append (digits 7 (length blocks)) (fields 9 blocks ++ carried_bits more) in
    let b = length-append (fields 9 blocks) (carried_bits more) in
    let c = length_digits 7 (length blocks) in
    let f = length_fields 9 blocks in
    omega (arith, ih, a, b, c, f)

pub total-within : (most : ℕ) (lists : List (List ℕ)) → ((e : ℕ) → e < length lists → length (get_or lists e []) ≤ most) → carried_total lists ≤ length lists * most
unfolding carried_total
total-within most [] h = omega arith
total-within most (blocks ∷ more) h =
    let ih = total-within most more (λ e p. h (suc e) (omega arith)) in
    let one = h 0 (omega arith) in
    let s = suc-mul (length more) most in
    omega (arith, ih, one, s)
