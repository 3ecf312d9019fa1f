-- The jobs of Theorem 8 of document 000, "The bound of Theorem 7 is tight": D disks with M slots and 2M blocks each, and a sequence that is read n
-- times. Assumes nothing.
use Rattle.std.specs.Prelude.{List, [], ◌++◌, ◌∷◌, ℕ, zero, suc, ◌+◌, ◌-◌, ◌*◌, replicate}
use Rattle.model.specs.Job.{Job}
use Rattle.model.specs.Plans.{each}
use Rattle.grammar.specs.Note.{repeated}

-- "B_i(j) is the j-th block on disk i": disks and blocks count from 1 there, and from 0 here.
unfoldable pub block_on : ℕ → ℕ → ℕ → ℕ
block_on m i j = i * (2 * m) + (j - 1)

-- "α_i = B_i(2M) B_i(1) B_i(2) .. B_i(M − 1)"
unfoldable pub alpha : ℕ → ℕ → List ℕ
unfolding block_on each
alpha m i = block_on m i (2 * m) ∷ each (block_on m i) 1 (m - 1)

-- "β_i = B_i(M), B_i(1) B_i(2) .. B_i(M − 1)"
unfoldable pub beta : ℕ → ℕ → List ℕ
unfolding block_on each
beta m i = block_on m i m ∷ each (block_on m i) 1 (m - 1)

-- "γ_i = B_i(M) B_i(M + 1) B_i(M + 2) .. B_i(2M − 1)"
unfoldable pub gamma : ℕ → ℕ → List ℕ
unfolding block_on each
gamma m i = block_on m i m ∷ each (block_on m i) (m + 1) (m - 1)

-- "δ_i = B_i(2M) B_i(M + 1) B_i(M + 2) .. B_i(2M − 1)"
unfoldable pub delta : ℕ → ℕ → List ℕ
unfolding block_on each
delta m i = block_on m i (2 * m) ∷ each (block_on m i) (m + 1) (m - 1)

-- one list after another, for the disks below d
unfoldable pub each_disk : (ℕ → List ℕ) → ℕ → List ℕ
each_disk f zero = []
each_disk f (suc d) = each_disk f d ++ f d

-- what is repeated: "α_1 β_1 α_2 β_2 .. α_D β_D γ_1 δ_1 γ_2 δ_2 .. γ_D δ_D"
unfoldable pub sequence : ℕ → ℕ → List ℕ
unfolding alpha beta gamma delta each_disk
sequence d m = each_disk (λ i. alpha m i ++ beta m i) d ++ each_disk (λ i. gamma m i ++ delta m i) d

-- The job of n repetitions, on d disks with m slots each, with empty buffers at the start.
unfoldable pub family : ℕ → ℕ → ℕ → Job
unfolding sequence each_disk repeated
family d m n = record {
  slots = replicate d m;
  block_disks = each_disk (λ i. replicate (2 * m) i) d;
  refs = repeated n (sequence d m);
  carried = replicate d [];
}
