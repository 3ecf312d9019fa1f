-- `pieces::is_at` meets its contract: past the end nothing stands, and before it a character does. Assumes nothing.
use Rattle.std.proofs.Common.{◌≡◌, ℕ, List, Bor, Option, Some, None, eqb, drop, arith, refl, ap, ◌∙◌}
use Rattle.std.specs.Option.{option_eq}
use Rattle.std.specs.Slice.{IsItemAt}
use Rattle.pieces.specs.Pieces.{begins_with}
use Rattle.pieces.proofs.Laws.{char_at, drop_past}
use Rattle.pieces.proofs.is_at.Goals as goal

stands : (t : List ℕ) (at c : ℕ) (r : Option (Bor ℕ)) (x : Bor ℕ) → x.now ≡ c → IsItemAt t at r → option_eq (λ (a b : Bor ℕ). eqb a.now b.now) r (Some x) ≡ begins_with c (drop at t)
unfolding begins_with
stands t at c None x e h = rw (drop_past t at h.3)
stands t at c (Some y) x e h = rw (char_at t at h.3.0, h.3.1 0, e)

pub returns : goal.returns
returns c =
    c.eq.ensures ∙ stands c.args.text.now _ c.args.c c.get.result _ refl c.get.ensures.lookup
    ∙ ap (λ (k : ℕ). begins_with c.args.c (drop k c.args.text.now)) (omega arith)
