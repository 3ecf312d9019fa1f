-- A schedule that is allowed, written as a sheet, is read as that schedule, or refused with 20 if it discards beside an empty slot. Assumes
-- nothing.
use mathlib.Core.Path.{◌≡◌, refl, ap, ◌∙◌}
use mathlib.Core.Bool.{Bool, true, false, cond, not, ◌&&◌, ◌||◌}
use mathlib.Core.List.{List, [], ◌∷◌, ◌++◌, append_assoc}
use Prim.Native.Nat.{ℕ, zero, suc, ◌≤◌, ◌<◌}
use native.Mathlib.Omega.{arith}
use lib.Dec.{ltb, leb, eqb}
use lib.ListN.{length, replicate}
use borrow.Author.Tests.{lt-ltb, le-ltb, lt-leb, eq-eqb}
use Rattle.bits.specs.Bits.{digits}
use Rattle.bits.specs.Reading.{Read, got, stop, bind, ◌>>=◌, ◌>>◌, give, field, refuse_if, closing}
use Rattle.bits.proofs.Logic.{by_test, ltb-not}
use Rattle.bits.proofs.Bits.{field-digits}
use Rattle.bits.proofs.Reading.{bind_ok, bind_if, then_ok, refuse_ok, closing_zeros}
use Rattle.model.specs.Job.{Job, disk_count, block_count, ref_count, slots_of, disk_of}
use Rattle.model.specs.Playing.{Action, idle, fetch, replace, Schedule, State, is_resident, load, act, play_round, play}
use Rattle.model.specs.Sheet.{action_bits, round_bits, rounds_bits, sheet_bits, holds, discard_reader, fetch_reader, action_reader, round_reader, rounds_reader, sheet_reader}
use Rattle.model.specs.Valid.{Block, Legal, LegalAll, discards_full, discards_full_all, discards_full_from}
use Rattle.model.proofs.Sheets.{Room, RoomAll, Allowed}

-- a field of one bit
zero_bit : (n : ℕ) (l : List ℕ) → field n 1 (0 ∷ l) ≡ got 0 l
unfolding field
zero_bit n l = refl

set_bit : (n : ℕ) (l : List ℕ) → field n 1 (1 ∷ l) ≡ got 1 l
unfolding field
set_bit n l = refl

-- a field of a block's number
block-field : (n b : ℕ) (l : List ℕ) → b < 512 → field n 9 (digits 9 b ++ l) ≡ got b l
block-field n b l h = field-digits n 9 b l h

-- two tests after one another are one
both : {A : Type 0} (t u : Bool) (a b : A) → cond t (cond u a b) b ≡ cond (t && u) a b
both true u a b = refl
both false u a b = refl

-- `a` and the bits that are left where `full` holds, and else a stop with 20.
abbrev read_if : {A : Type 0} → Bool → A → List ℕ → Read A
read_if full a rest = cond full (got a rest) (stop 20)

module _ (j : Job) (few : block_count j ≤ 512) where
  -- neither 11 nor 12 holds of a block outside the buffer, nor 14 of a block in it
  fetch_passes : (marks : List Bool) (d x : ℕ) → Block j marks d x false → leb (block_count j) x || not (eqb (disk_of j x) d) ≡ false
  fetch_passes marks d x h = rw (lt-leb (block_count j) x h.known, eq-eqb (disk_of j x) d h.on_disk)

  discard_passes : (marks : List Bool) (d z : ℕ) → Block j marks d z true → not (holds j marks d z) ≡ false
  discard_passes marks d z h = rw (lt-ltb z (block_count j) h.known, eq-eqb (disk_of j z) d h.on_disk, h.mark)

  discard_none : (marks : List Bool) (d x : ℕ) (rest : List ℕ) → load j marks d < slots_of j d → discard_reader j marks d x 0 rest ≡ got (fetch x) rest
  unfolding discard_reader give
  discard_none marks d x rest room =
      then_ok (refuse_if 13 (leb (slots_of j d) (load j marks d))) (give (fetch x)) rest (refuse_ok 13 _ rest (lt-leb (slots_of j d) (load j marks d) room))

  discard_one : (marks : List Bool) (d x z : ℕ) (rest : List ℕ) → Block j marks d z true
      → discard_reader j marks d x 1 (digits 9 z ++ rest) ≡ read_if (discards_full j marks d (replace x z)) (replace x z) rest
  unfolding discard_reader discards_full ◌>>◌ bind refuse_if give
  discard_one marks d x z rest h =
      rw (ltb-not (load j marks d) (slots_of j d))
      (by_test (leb (slots_of j d) (load j marks d))
      (λ full. rw full (
      bind_ok (field 9 9) _ (digits 9 z ++ rest) (block-field 9 z rest (let k = h.known in omega (arith, k)))
      ∙ then_ok (refuse_if 14 (not (holds j marks d z))) (give (replace x z)) rest (refuse_ok 14 _ rest (discard_passes marks d z h))))
      (λ empty. rw empty refl))

  fetch-none : (marks : List Bool) (d : ℕ) (rest : List ℕ) → fetch_reader j marks d 0 rest ≡ got idle rest
  unfolding fetch_reader give
  fetch-none marks d rest = refl

  fetch_one : (marks : List Bool) (d x : ℕ) (rest : List ℕ) → Block j marks d x false → fetch_reader j marks d 1 (digits 9 x ++ rest) ≡ (field 9 1 >>= discard_reader j marks d x) rest
  unfolding fetch_reader
  fetch_one marks d x rest h =
      bind_ok (field 9 9) _ (digits 9 x ++ rest) (block-field 9 x rest (let l = h.known in omega (arith, l)))
      ∙ then_ok (refuse_if 11 (leb (block_count j) x || not (eqb (disk_of j x) d))) _ rest (refuse_ok 11 _ rest (fetch_passes marks d x h))
      ∙ then_ok (refuse_if 12 (is_resident marks x)) _ rest (refuse_ok 12 (is_resident marks x) rest h.mark)

  pub action-written : (marks : List Bool) (d : ℕ) (a : Action) (rest : List ℕ) → Legal j marks d a → Room j marks d a
      → action_reader j marks d (action_bits a ++ rest) ≡ read_if (discards_full j marks d a) a rest
  unfolding action_reader action_bits Legal Room discards_full
  action-written marks d idle rest h room = bind_ok (field 9 1) (fetch_reader j marks d) (0 ∷ rest) (zero_bit 9 rest) ∙ fetch-none marks d rest
  action-written marks d (fetch x) rest h room =
      bind_ok (field 9 1) (fetch_reader j marks d) _ (set_bit 9 _)
      ∙ ap (fetch_reader j marks d 1) (append_assoc (digits 9 x) (0 ∷ []) rest)
      ∙ fetch_one marks d x (0 ∷ rest) h
      ∙ bind_ok (field 9 1) (discard_reader j marks d x) (0 ∷ rest) (zero_bit 9 rest)
      ∙ discard_none marks d x rest room
  action-written marks d (replace x z) rest h room =
      bind_ok (field 9 1) (fetch_reader j marks d) _ (set_bit 9 _)
      ∙ ap (fetch_reader j marks d 1) (append_assoc (digits 9 x) (1 ∷ digits 9 z) rest)
      ∙ fetch_one marks d x (1 ∷ (digits 9 z ++ rest)) h.0
      ∙ bind_ok (field 9 1) (discard_reader j marks d x) (1 ∷ (digits 9 z ++ rest)) (set_bit 9 (digits 9 z ++ rest))
      ∙ discard_one marks d x z rest h.1

  round-written : (k : ℕ) (marks : List Bool) (d : ℕ) (actions : List Action) (rest : List ℕ) → length actions ≡ k → LegalAll j marks d actions → RoomAll j marks d actions
      → round_reader j k marks d (round_bits actions ++ rest) ≡ read_if (discards_full_all j marks d actions) actions rest
  unfolding round_reader round_bits LegalAll RoomAll discards_full_all give
  round-written zero marks d [] rest e h room = refl
  round-written zero marks d (a ∷ more) rest e h room = absurd (omega (arith, e))
  round-written (suc k) marks d [] rest e h room = absurd (omega (arith, e))
  round-written (suc k) marks d (a ∷ more) rest e h room =
      ap (round_reader j (suc k) marks d) (append_assoc (action_bits a) (round_bits more) rest)
      ∙ bind_if (action_reader j marks d) _ _ (discards_full j marks d a) a _ 20 (action-written marks d a (round_bits more ++ rest) h.0 room.0)
      (bind_if (round_reader j k (act marks a) (suc d)) _ _ (discards_full_all j (act marks a) (suc d) more) more rest 20
      (round-written k (act marks a) (suc d) more rest (omega (arith, e)) h.1 room.1) refl)
      ∙ both (discards_full j marks d a) _ _ _

  rounds-written : (r : ℕ) (s : State) (schedule : Schedule) (rest : List ℕ) → length schedule ≡ r → Allowed j s schedule
      → rounds_reader j r s (rounds_bits schedule ++ rest) ≡ read_if (discards_full_from j s schedule) schedule rest
  unfolding rounds_reader rounds_bits Allowed discards_full_from give
  rounds-written zero s [] rest e h = refl
  rounds-written zero s (actions ∷ more) rest e h = absurd (omega (arith, e))
  rounds-written (suc r) s [] rest e h = absurd (omega (arith, e))
  rounds-written (suc r) s (actions ∷ more) rest e h =
      ap (rounds_reader j (suc r) s) (append_assoc (round_bits actions) (rounds_bits more) rest)
      ∙ bind_if (round_reader j (disk_count j) s.resident 0) _ _ (discards_full_all j s.resident 0 actions) actions _ 20
      (round-written (disk_count j) s.resident 0 actions (rounds_bits more ++ rest) h.0 h.1 h.2)
      (bind_if (rounds_reader j r (play_round j s actions)) _ _ (discards_full_from j (play_round j s actions) more) more rest 20
      (rounds-written r (play_round j s actions) more rest (omega (arith, e)) h.3) refl)
      ∙ both (discards_full_all j s.resident 0 actions) _ _ _

  pub sheet-written : (s : State) (schedule : Schedule) (k : ℕ) → length schedule ≤ 2048 → k < 8 → Allowed j s schedule → ref_count j ≤ (play j s schedule).next
      → sheet_reader j s (sheet_bits schedule ++ replicate k 0) ≡ read_if (discards_full_from j s schedule) schedule []
  unfolding sheet_reader sheet_bits give
  sheet-written s schedule k rounds short h finished =
      ap (sheet_reader j s) (append_assoc (digits 12 (length schedule)) (rounds_bits schedule) (replicate k 0))
      ∙ bind_ok (field 9 12) _ _ (field-digits 9 12 (length schedule) (rounds_bits schedule ++ replicate k 0) (omega arith))
      ∙ then_ok (refuse_if 10 (ltb 2048 (length schedule))) _ _ (refuse_ok 10 _ _ (le-ltb 2048 (length schedule) rounds))
      ∙ bind_if (rounds_reader j (length schedule) s) _ _ (discards_full_from j s schedule) schedule _ 20 (rounds-written (length schedule) s schedule (replicate k 0) refl h)
      (then_ok (refuse_if 15 (ltb (play j s schedule).next (ref_count j))) _ _ (refuse_ok 15 _ _ (le-ltb (play j s schedule).next (ref_count j) finished))
      ∙ then_ok (closing 16) _ _ (closing_zeros 16 k short))
