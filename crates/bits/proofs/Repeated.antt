-- Fields one after the other: what was read was written so, and what is written so is read. Assumes nothing.
use mathlib.Core.Path.{◌≡◌, refl, ap, ◌∙◌, subst}
use mathlib.Core.Bool.{Bool, false}
use mathlib.Core.List.{List, [], ◌∷◌, ◌++◌, append_assoc}
use Prim.Native.Nat.{ℕ, zero, suc, ◌*◌, ◌^◌, ◌<◌}
use native.Mathlib.Nat.{suc-mul}
use native.Mathlib.Omega.{arith}
use lib.ListN.{length, length-append}
use Rattle.bits.specs.Bits.{digits, fields}
use Rattle.bits.specs.Reading.{got, Reader, ◌>>=◌, ◌>>◌, give, field, refuse_if, many}
use Rattle.bits.proofs.Logic.{Each}
use Rattle.bits.proofs.Bits.{Bits, length_digits, digits_are, field_wrote, field-digits}
use Rattle.bits.proofs.Reading.{bind-got, then_got, give-got, refuse_got, bind_ok, then_ok, refuse_ok}

pub length_fields : (w : ℕ) (l : List ℕ) → length (fields w l) ≡ length l * w
unfolding fields
length_fields w [] = omega arith
length_fields w (v ∷ more) =
    let e = length-append (digits w v) (fields w more) in
    let d = length_digits w v in
    let ih = length_fields w more in
    let s = suc-mul (length more) w in
    omega (arith, e, d, ih, s)

pub fields_are : (w : ℕ) (l rest : List ℕ) → Bits rest → Bits (fields w l ++ rest)
unfolding fields
fields_are w [] rest h = h
fields_are w (v ∷ more) rest h = rw (append_assoc (digits w v) (fields w more) rest) (digits_are w v (fields w more ++ rest) (fields_are w more rest h))

-- A reader of fields of w bits whose values have the property Q: what it read was written so, and every such value, written, is read.
pub record Exactly (w : ℕ) (Q : ℕ → Type 0) (r : Reader ℕ) : Type 0 where
  pub wrote : (l : List ℕ) (v : ℕ) (rest : List ℕ) → Bits l → r l ≡ got v rest → Q v × (l ≡ digits w v ++ rest) × Bits rest
  pub reads : (v : ℕ) (rest : List ℕ) → Q v → r (digits w v ++ rest) ≡ got v rest

-- a field that a test refuses with m, where the test says which values have the property
pub tested : (n m w : ℕ) (test : ℕ → Bool) (Q : ℕ → Type 0) → ((v : ℕ) → test v ≡ false → Q v) → ((v : ℕ) → Q v → (v < 2 ^ w) × (test v ≡ false))
    → Exactly w Q (field n w >>= λ v. refuse_if m (test v) >> give v)
unfolding give
tested n m w test Q allows back = record {
  wrote = λ l v rest h e.
      bind-got (field n w) _ l e λ x l₁ e₁ e.
      then_got (refuse_if m (test x)) _ l₁ e λ _ l₂ e₂ e.
      refuse_got m (test x) l₁ e₂ λ t q.
      give-got e λ same r.
      let f = field_wrote n w l h e₁ in
      (subst Q same (allows x t), f.1 ∙ (λ i. digits w (same i) ++ (q ∙ r) i), subst Bits (q ∙ r) f.2);
  reads = λ v rest p.
      bind_ok (field n w) _ (digits w v ++ rest) (field-digits n w v rest (back v p).0)
      ∙ then_ok (refuse_if m (test v)) (give v) rest (refuse_ok m (test v) rest (back v p).1);
}

module _ {w : ℕ} {Q : ℕ → Type 0} {r : Reader ℕ} (exact : Exactly w Q r) where
  -- k such fields
  pub many_wrote : (k : ℕ) (l : List ℕ) {vs : List ℕ} {rest : List ℕ} → Bits l → many k r l ≡ got vs rest
      → (length vs ≡ k) × Each Q vs × (l ≡ fields w vs ++ rest) × Bits rest
  unfolding many Each fields
  many_wrote zero l {vs} {rest} h e =
      give-got e λ p q. subst (λ (x : List ℕ). (length x ≡ 0) × Each Q x × (l ≡ fields w x ++ rest) × Bits rest) p (refl, tt, q, subst Bits q h)
  many_wrote (suc k) l {vs} {rest} h e =
      bind-got r (λ v. many k r >>= λ more. give (v ∷ more)) l e λ v after ev e.
      bind-got (many k r) (λ more. give (v ∷ more)) after e λ more last em e.
      give-got e λ p q.
      let one = exact.wrote l v after h ev in
      let ih = many_wrote k after one.2 em in
      subst (λ (x : List ℕ). (length x ≡ suc k) × Each Q x × (l ≡ fields w x ++ rest) × Bits rest) p (
        ap suc ih.0,
        (one.0, ih.1),
        one.1 ∙ ap (λ (m : List ℕ). digits w v ++ m) (ih.2 ∙ ap (λ (m : List ℕ). fields w more ++ m) q) ∙ rw (append_assoc (digits w v) (fields w more) rest) refl,
        subst Bits q ih.3,
      )

  pub many_reads : (vs rest : List ℕ) → Each Q vs → many (length vs) r (fields w vs ++ rest) ≡ got vs rest
  unfolding many Each fields give
  many_reads [] rest h = refl
  many_reads (v ∷ more) rest h =
      ap (many (suc (length more)) r) (append_assoc (digits w v) (fields w more) rest)
      ∙ bind_ok r _ (digits w v ++ (fields w more ++ rest)) (exact.reads v (fields w more ++ rest) h.0)
      ∙ bind_ok (many (length more) r) _ (fields w more ++ rest) (many_reads more rest h.1)
