-- The mark, and what belongs to a sheet, by which sheet is handed back. Assumes nothing.
use mathlib.Core.Path.{◌≡◌, refl, sym, ap, ◌∙◌}
use mathlib.Core.List.{List}
use Prim.Native.Nat.{ℕ}
use lib.ListN.{take}
use Rattle.std.specs.Prelude.{Some}
use Rattle.model.specs.Calls.{Which, is_first, is_second, of_two, which_for, is_short, is_sparing, mark_for, chosen, part_of, sheet_handed}
use Rattle.model.proofs.Bytes.{chosen_two}
use Rattle.returning.specs.Returning.{mark_as, which_as, which_given, handed_given, mark_of, of_which}
use Rattle.returning.specs.declared.Which.{Which as WhichOf}
use Rattle.returning.specs.declared.Which.TheVariants.{First, Second}

pub mark-chosen : (a b : ℕ) → mark_of (which_as (which_for a b)) ≡ mark_as (mark_for a b)
unfolding mark_for
mark-chosen a b = go (which_for a b)
  where
    go : (w : Which) → mark_of (which_as w) ≡ mark_as (of_two w is_short is_sparing)
    go is_first = refl
    go is_second = refl

pub two_chosen : {A : Type 0} (w : Which) (x y : A) → of_which (which_as w) x y ≡ of_two w x y
two_chosen is_first x y = refl
two_chosen is_second x y = refl

pub given_two : {A : Type 0} (w : WhichOf) (x y : A) → of_which w x y ≡ of_two (which_given w) x y
given_two First x y = refl
given_two Second x y = refl

pub two_marked : {A : Type 0} (a b : ℕ) (x y : A) → of_which (which_as (which_for a b)) x y ≡ chosen (mark_for a b) x y
unfolding mark_for
two_marked a b x y = two_chosen (which_for a b) x y ∙ sym (chosen_two (which_for a b) x y)

pub part_chosen : (n a b : ℕ) (x y : List ℕ) → sheet_handed (handed_given (Some (which_as (which_for a b)))) n x y ≡ part_of n a b x y
unfolding sheet_handed part_of
part_chosen n a b x y = ap (take n) (sym (given_two (which_as (which_for a b)) x y) ∙ two_marked a b x y)
