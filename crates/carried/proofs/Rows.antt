-- Lists written into a table of zeros, 64 places for each, are the rows of a job by value. Assumes nothing.
use mathlib.Core.Path.{◌≡◌, refl, sym, ap, ◌∙◌}
use mathlib.Core.List.{List, [], ◌∷◌, ◌++◌, append_assoc}
use Prim.Native.Nat.{ℕ, suc, ◌+◌, ◌-◌, ◌*◌, ◌≤◌, ◌<◌}
use native.Mathlib.Nat.{sub-zero}
use native.Mathlib.Omega.{arith}
use lib.ListN.{length, get_or, drop, replicate, length-append, length-replicate, replicate-append-replicate}
use lib.Seq.{sets, sets-eq, take_at, drop-append-add}
use Rattle.bits.proofs.Logic.{drop_same}
use Rattle.job.specs.Meaning.{pad_to, rows_of}
use Rattle.job.proofs.Laws.{length-pad_to}

-- lists written into a table, 64 places for each
unfoldable pub set_rows : List ℕ → ℕ → List (List ℕ) → List ℕ
set_rows table d [] = table
set_rows table d (blocks ∷ more) = set_rows (sets table (d * 64) blocks) (suc d) more

-- a row and others, with zeros after them
pad_to-row : (n : ℕ) (row more : List ℕ) → length row ≡ 64 → row ++ pad_to (n - 64) more ≡ pad_to n (row ++ more)
unfolding pad_to
pad_to-row n row more h =
    let len = length-append row more in
    let e : n - 64 - length more ≡ n - length (row ++ more) = omega (arith, len, h) in
    ap (λ (k : ℕ). row ++ (more ++ replicate k 0)) e ∙ sym (append_assoc row more _)

sub_split : (k row n : ℕ) → k ≤ row → row ≤ n → n - k ≡ row - k + (n - row)
sub_split k row n few room = omega arith

-- the zeros that are left after k places, up to the end of a row and then to the end of the table
zeros_left : (front : List ℕ) (at k row n : ℕ) → length front ≡ at → k ≤ row → row ≤ n
    → drop (at + k) (front ++ replicate n 0) ≡ replicate (row - k) 0 ++ replicate (n - row) 0
zeros_left front at k row n e few room =
    ap (λ (x : ℕ). drop (x + k) (front ++ replicate n 0)) (sym e)
    ∙ drop-append-add front (replicate n 0) k
    ∙ drop_same k n 0 (omega arith)
    ∙ ap (λ (x : ℕ). replicate x 0) (sub_split k row n few room)
    ∙ sym (replicate-append-replicate (row - k) (n - row) 0)

-- one row, after others
row_written : (front blocks : List ℕ) (at n : ℕ) → length front ≡ at → length blocks ≤ 64 → 64 ≤ n
    → sets (front ++ replicate n 0) at blocks ≡ (front ++ pad_to 64 blocks) ++ replicate (n - 64) 0
unfolding pad_to
row_written front blocks at n e few room =
    let len = length-append front (replicate n 0) in
    let zeros = length-replicate {A = ℕ} n 0 in
    sets-eq blocks (front ++ replicate n 0) at (omega (arith, len, zeros, e, few, room))
    ∙ rw (take_at front (replicate n 0) at e, zeros_left front at (length blocks) 64 n e few room) (simp append_assoc)

rows_after : (front : List ℕ) (d n : ℕ) (lists : List (List ℕ)) → length front ≡ d * 64 → length lists * 64 ≤ n
    → ((e : ℕ) → e < length lists → length (get_or lists e []) ≤ 64) → set_rows (front ++ replicate n 0) d lists ≡ front ++ pad_to n (rows_of lists)
unfolding set_rows rows_of pad_to
rows_after front d n [] e room short = rw (sub-zero n)
rows_after front d n (blocks ∷ more) e room short =
    let few = short 0 (omega arith) in
    let row = length-pad_to 64 blocks few in
    let len = length-append front (pad_to 64 blocks) in
    ap (λ (table : List ℕ). set_rows table (suc d) more) (row_written front blocks (d * 64) n e few (omega (arith, room)))
    ∙ rows_after (front ++ pad_to 64 blocks) (suc d) (n - 64) more (omega (arith, len, row, e)) (omega (arith, room))
    (λ k l. short (suc k) (omega arith))
    ∙ append_assoc front (pad_to 64 blocks) (pad_to (n - 64) (rows_of more))
    ∙ ap (λ (l : List ℕ). front ++ l) (pad_to-row n (pad_to 64 blocks) (rows_of more) row)

pub rows_written : (lists : List (List ℕ)) → length lists ≤ 8 → ((e : ℕ) → e < length lists → length (get_or lists e []) ≤ 64)
    → set_rows (replicate 512 0) 0 lists ≡ pad_to 512 (rows_of lists)
rows_written lists few short = rows_after [] 0 512 lists refl (omega (arith, few)) short
