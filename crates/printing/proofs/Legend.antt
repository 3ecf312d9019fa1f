-- The legend, line by line. Assumes nothing.
use mathlib.Core.Path.{◌≡◌, refl, sym, ap, ◌∙◌}
use mathlib.Core.List.{List, [], ◌∷◌, ◌++◌, append_assoc}
use Prim.Native.Nat.{ℕ, zero, suc, ◌+◌, ◌*◌, ◌≤◌, ◌<◌}
use native.Mathlib.Omega.{arith}
use lib.ListN.{length, get_or, take, length-append}
use Rattle.bits.specs.Fields.{laid_at}
use Rattle.bits.proofs.Fields.{laid_at_nil, laid_then}
use Rattle.model.specs.Plans.{each}
use Rattle.model.specs.Text.{text, filled_to}
use Rattle.model.specs.Page.{legend, ended}

-- a line has 16 columns
pub legend_line : (rule : ℕ) → rule < 5 → length (get_or legend rule []) ≡ 16
unfolding legend text filled_to each
legend_line zero l = refl
legend_line (suc zero) l = refl
legend_line (suc (suc zero)) l = refl
legend_line (suc (suc (suc zero))) l = refl
legend_line (suc (suc (suc (suc zero)))) l = refl
legend_line (suc (suc (suc (suc (suc rule))))) l = absurd (omega arith)

-- so many lines, and one more
legend-long : (rule : ℕ) → rule ≤ 5 → length (ended (take rule legend)) ≡ rule * 17
unfolding legend text filled_to each ended
legend-long zero l = refl
legend-long (suc zero) l = refl
legend-long (suc (suc zero)) l = refl
legend-long (suc (suc (suc zero))) l = refl
legend-long (suc (suc (suc (suc zero)))) l = refl
legend-long (suc (suc (suc (suc (suc zero))))) l = refl
legend-long (suc (suc (suc (suc (suc (suc rule)))))) l = absurd (omega arith)

legend_more : (rule : ℕ) → rule < 5 → ended (take (rule + 1) legend) ≡ ended (take rule legend) ++ (get_or legend rule [] ++ 10 ∷ [])
unfolding legend text filled_to each ended
legend_more zero l = refl
legend_more (suc zero) l = refl
legend_more (suc (suc zero)) l = refl
legend_more (suc (suc (suc zero))) l = refl
legend_more (suc (suc (suc (suc zero)))) l = refl
legend_more (suc (suc (suc (suc (suc rule))))) l = absurd (omega arith)

module _ (page₀ : List ℕ) (at : ℕ) where
  -- no line so far,
  pub legend-first : page₀ ≡ laid_at at (ended (take 0 legend)) page₀
  unfolding ended
  legend-first = sym (laid_at_nil at page₀)

  -- one more and its line feed,
  pub legend-next : (rule : ℕ) → rule < 5 → {page line after : List ℕ} → page ≡ laid_at at (ended (take rule legend)) page₀ → line ≡ get_or legend rule []
      → after ≡ laid_at (at + rule * 17 + 16) (10 ∷ []) (laid_at (at + rule * 17) line page) → after ≡ laid_at at (ended (take (rule + 1) legend)) page₀
  legend-next rule l {page} {line} {after} e el ea =
      let so = legend-long rule (omega arith) in
      let long = legend_line rule l in
      let next = get_or legend rule [] in
      let done = ended (take rule legend) in
      ea ∙ (λ i. laid_at (at + rule * 17 + 16) (10 ∷ []) (laid_at (at + rule * 17) (el i) (e i)))
      ∙ ap (laid_at (at + rule * 17 + 16) (10 ∷ [])) (laid_then at (at + rule * 17) done next page₀ (omega (arith, so)))
      ∙ laid_then at (at + rule * 17 + 16) (done ++ next) (10 ∷ []) page₀ (let a = length-append done next in omega (arith, so, long, a))
      ∙ ap (λ (t : List ℕ). laid_at at t page₀) (append_assoc done next (10 ∷ []) ∙ sym (legend_more rule l))

  -- and all five.
  pub legend_all : (rule : ℕ) → rule ≡ 5 → {page : List ℕ} → page ≡ laid_at at (ended (take rule legend)) page₀ → page ≡ laid_at at (ended legend) page₀
  unfolding legend
  legend_all rule n e = e ∙ ap (λ (k : ℕ). laid_at at (ended (take k legend)) page₀) n
