-- The lines of the disks, one after the other. Assumes nothing.
use mathlib.Core.Path.{◌≡◌, ap}
use mathlib.Core.List.{List}
use Prim.Native.Nat.{ℕ, ◌+◌}
use native.Mathlib.Numerals.{add-one}
use Rattle.model.specs.Text.{decimal}
use Rattle.texts.specs.Texts.{Put, line_end}
use Rattle.texts.proofs.Laws.{put_then, put_same}
use Rattle.report.specs.Report.{disk_lines}

-- one disk more
pub put_disk : {at l m n number : ℕ} {a b c e : List ℕ} (fetches : ℕ → ℕ) (d : ℕ) → Put at (disk_lines fetches d) a b l → Put l (decimal d) b c m
    → number ≡ fetches d → Put m (line_end number) c e n → Put at (disk_lines fetches (d + 1)) a e n
unfolding disk_lines
put_disk fetches d p q same r = rw (add-one d) (put_then p (put_then q (put_same (ap line_end same) r)))
