-- The references of a disk. Assumes nothing.
use Rattle.std.specs.Prelude.{List, map, ℕ, get_or}
use Rattle.model.specs.Rules.{distance}

-- The disk of each reference.
unfoldable pub ref_disks : List ℕ → List ℕ → List ℕ
ref_disks disks refs = map (λ r. get_or disks r 0) refs

-- The first position at or after p whose block lies on disk d, or N.
abbrev pub chain_from : List ℕ → List ℕ → ℕ → ℕ → ℕ
chain_from disks refs p d = distance (ref_disks disks refs) p d
