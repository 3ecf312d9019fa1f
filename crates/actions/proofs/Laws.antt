-- One action: what stands at a position is what the reader of the model reads there. Assumes nothing.
use mathlib.Core.Path.{◌≡◌, refl, ap, ◌∙◌}
use mathlib.Core.Bool.{Bool, not, ◌||◌}
use mathlib.Core.List.{List}
use Prim.Native.Nat.{ℕ, zero, suc, ◌+◌}
use native.Mathlib.Omega.{arith}
use lib.Dec.{ltb, leb, eqb}
use lib.ListN.{drop}
use borrow.Author.Tests.{ltb-true, ltb-false, lt-leb, le-leb, ne_eqb}
use Rattle.std.specs.Prelude.{Some, Result}
use Rattle.bits.specs.Bits.{bits}
use Rattle.bits.specs.Reading.{Reader, bind, ◌>>=◌, ◌>>◌, give, field, refuse_if}
use Rattle.bits.specs.Fields.{field_at}
use Rattle.bits.proofs.Logic.{by_test, ltb-not}
use Rattle.bits.proofs.Fields.{field_then}
use Rattle.model.specs.Job.{Job, block_count, slots_of, disk_of}
use Rattle.model.specs.Playing.{Action, replace, is_resident, load}
use Rattle.model.specs.Sheet.{holds, discard_reader, fetch_reader, action_reader}
use Rattle.refusal.specs.declared.Refusal.{Refusal}
use Rattle.actions.specs.Actions.{on_bit, is_on, named_of, named_after, fetched_by, discarded_by, discard_at, action_at, act_read}
use Rattle.actions.specs.declared.Act.{Act}

-- A bit that is due, at `at` in the action that starts at `start`.
due_bit : (at start : ℕ) (s : List ℕ) (f : ℕ → Reader Action) (a b : Result Act Refusal)
    → f 0 (drop (at + 1) (bits s)) ≡ act_read s start a → ((k : ℕ) → f (suc k) (drop (at + 1) (bits s)) ≡ act_read s start b)
    → (field 9 1 >>= f) (drop at (bits s)) ≡ act_read s start (on_bit (field_at s at 1) a b)
unfolding act_read
due_bit at start s f a b h g = field_then 9 1 at s f (λ x. act_read s start (on_bit x a b)) (omega arith) refl go
  where
    go : (v : ℕ) → f v (drop (at + 1) (bits s)) ≡ act_read s start (on_bit (Some v) a b)
    go zero = h
    go (suc k) = rw (ne_eqb (suc k) 0 (omega arith)) (g k)

-- `full` says whether the slots of disk d are all taken.
module _ (j : Job) (marks : List Bool) (d : ℕ) (full : Bool) (taken : leb (slots_of j d) (load j marks d) ≡ full) where
  -- the model's test of a block that is fetched
  elsewhere : (x : ℕ) → leb (block_count j) x || not (eqb (disk_of j x) d) ≡ not (is_on j.block_disks d x)
  elsewhere x =
      by_test (ltb x (block_count j))
      (λ t. rw (t, lt-leb (block_count j) x (ltb-true x (block_count j) t)))
      (λ t. rw (t, le-leb (block_count j) x (ltb-false x (block_count j) t)))

  empty : ltb (load j marks d) (slots_of j d) ≡ not full
  empty = ltb-not (load j marks d) (slots_of j d) ∙ ap not taken

  module _ (s : List ℕ) (at : ℕ) where
    -- the discarded block z
    replace_reads : (x z : ℕ) → (refuse_if 14 (not (holds j marks d z)) >> give (replace x z)) (drop (at + 10 + 1 + 9) (bits s))
        ≡ act_read s at (discarded_by x (named_of j.block_disks marks d (Some z)))
    unfolding bind ◌>>◌ refuse_if give act_read
    replace_reads x z =
        let after : at + 10 + 1 + 9 ≡ at + 20 = omega arith in
        rw after
        (by_test (is_on j.block_disks d z) (λ t. rw t (by_test (is_resident marks z) (λ u. rw u) (λ u. rw u))) (λ t. rw t))

    -- what follows the fetched block x
    discard_reads : (x : ℕ) → (field 9 1 >>= discard_reader j marks d x) (drop (at + 10) (bits s))
        ≡ act_read s at (discard_at s (at + 10) j.block_disks marks d full x)
    unfolding bind ◌>>◌ refuse_if give act_read discard_reader discard_at named_after
    discard_reads x =
        let after : at + 10 + 1 ≡ at + 11 = omega arith in
        due_bit (at + 10) at s (discard_reader j marks d x) _ _
        (rw (taken, after) (by_test full (λ t. rw t) (λ t. rw t)))
        (λ k. rw empty
        (by_test full
        (λ t. rw t (field_then 9 9 (at + 10 + 1) s _
        (λ f. act_read s at (discarded_by x (named_of j.block_disks marks d f)))
        (omega arith) refl (replace_reads x)))
        (λ t. rw t refl)))

    -- the fetched block x
    fetch_reads : (x : ℕ)
        → (refuse_if 11 (leb (block_count j) x || not (eqb (disk_of j x) d))
        >> (refuse_if 12 (is_resident marks x) >> (field 9 1 >>= discard_reader j marks d x))) (drop (at + 1 + 9) (bits s))
        ≡ act_read s at (fetched_by (named_of j.block_disks marks d (Some x)) (discard_at s (at + 10) j.block_disks marks d full))
    unfolding bind ◌>>◌ refuse_if act_read
    fetch_reads x =
        let after : at + 1 + 9 ≡ at + 10 = omega arith in
        rw (elsewhere x, after)
        (by_test (is_on j.block_disks d x)
        (λ t. rw t (by_test (is_resident marks x) (λ u. rw u) (λ u. rw u (discard_reads x))))
        (λ t. rw t))

    -- Where the reader stands at the bit `at`, it reads the action at `at`.
    pub action_reads : action_reader j marks d (drop at (bits s)) ≡ act_read s at (action_at s at j.block_disks marks d full)
    unfolding give fetch_reader action_reader action_at act_read named_after
    action_reads =
        due_bit at at s (fetch_reader j marks d) _ _
        refl
        (λ k. field_then 9 9 (at + 1) s _
        (λ f. act_read s at (fetched_by (named_of j.block_disks marks d f) (discard_at s (at + 10) j.block_disks marks d full)))
        (omega arith) refl fetch_reads)
