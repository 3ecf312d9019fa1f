-- Jobs of the family written out, so that a reader can compare the definition with document 000: one disk with two slots, four disks with one slot
-- each, and the job of the planner's table. Assumes nothing.
use mathlib.Core.Path.{◌≡◌, refl}
use mathlib.Core.List.{[], ◌∷◌}
use Rattle.model.proofs.Jobs.{job_waiting}
use Rattle.tight.specs.Family.{family}

one_disk : family 1 2 1 ≡ record { slots = 2 ∷ []; block_disks = 0 ∷ 0 ∷ 0 ∷ 0 ∷ []; refs = 3 ∷ 0 ∷ 1 ∷ 0 ∷ 1 ∷ 2 ∷ 3 ∷ 2 ∷ []; carried = [] ∷ [] }
unfolding family
one_disk = refl

four_disks : family 4 1 1 ≡ record {
  slots = 1 ∷ 1 ∷ 1 ∷ 1 ∷ [];
  block_disks = 0 ∷ 0 ∷ 1 ∷ 1 ∷ 2 ∷ 2 ∷ 3 ∷ 3 ∷ [];
  refs = 1 ∷ 0 ∷ 3 ∷ 2 ∷ 5 ∷ 4 ∷ 7 ∷ 6 ∷ 0 ∷ 1 ∷ 2 ∷ 3 ∷ 4 ∷ 5 ∷ 6 ∷ 7 ∷ [];
  carried = [] ∷ [] ∷ [] ∷ [] ∷ [];
}
unfolding family
four_disks = refl

in_the_table : family 2 2 4 ≡ job_waiting
unfolding family
in_the_table = refl
