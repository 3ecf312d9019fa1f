-- `input::read_front` meets its contract: what a turn reads stands behind what was read before it. Assumes nothing.
use Rattle.std.proofs.Common.{◌≡◌, ℕ, ◌+◌, ◌-◌, ◌≤◌, List, ◌++◌, length, take, sym, ap, ap₂, ◌∙◌, subst, le_refl, drop_at, length-take-le, rules}
use Rattle.std.proofs.lemmas.Slice.{take-put_mid_below}
use Rattle.std.proofs.KnownBytes.{Consumes-trans}
use Rattle.std.specs.Io.KnownBytes.{Consumes}
use borrow.Rule.Slice.PartMut.{put_mid, post_of}
use lib.Seq.{take-add, take-append-le}
use Rattle.input.proofs.read_front.Goals as goal

-- the front of a slice whose part from a on is written anew
front : (a n k : ℕ) (xs ys : List ℕ) → a ≤ length xs → n ≤ length ys → take (a + n) (put_mid a k xs ys) ≡ take a xs ++ take n ys
front a n k xs ys within fits =
    take-add a n (put_mid a k xs ys)
    ∙ ap₂ (λ (x y : List ℕ). x ++ y) (take-put_mid_below a k xs ys a (le_refl a) within)
    (ap (take n) (drop_at (take a xs) (ys ++ post_of a k xs) a (length-take-le a xs within)) ∙ take-append-le n ys (post_of a k xs) fits)

pub loop-n-preserved : goal.loop-n-preserved
loop-n-preserved g c =
    let l = c.loop-n in
    let read = c.in_ok-got.ensures in
    record {
      within = search rules;
      bytes = subst (Consumes _ _) (sym (front l.n c.in_ok-got.got (length l.buf - l.n) l.buf c.read.new.buf l.invariant.within read.bound.0))
          (Consumes-trans _ _ _ _ _ l.invariant.bytes read.bytes.0);
    }
