-- A sheet that is read is the schedule written: legal, within the slots, and with no discard beside an empty slot.
-- Assumes nothing.
use mathlib.Core.Path.{◌≡◌, refl, sym, ap, ◌∙◌, subst}
use mathlib.Core.Bool.{Bool, true, false, not, ◌&&◌, ◌||◌}
use mathlib.Core.List.{List, [], ◌∷◌, ◌++◌, append_assoc}
use Prim.Native.Nat.{ℕ, zero, suc, ◌≤◌, ◌<◌}
use native.Mathlib.Omega.{arith}
use lib.Dec.{ltb, leb, eqb}
use lib.ListN.{length}
use borrow.Author.Tests.{ltb-true, ltb-false, leb-false, le-leb, eqb-true, not-false}
use Rattle.bits.specs.Bits.{digits}
use Rattle.bits.specs.Reading.{got, field, refuse_if, all_zero, closing}
use Rattle.bits.proofs.Logic.{and_left, and_right, and_true, or_false_left, or_false_right}
use Rattle.bits.proofs.Bits.{Bits, field_wrote}
use Rattle.bits.proofs.Reading.{bind-got, then_got, give-got, refuse_got, closing-got}
use Rattle.model.specs.Job.{Job, disk_count, block_count, ref_count, slots_of, disk_of}
use Rattle.model.specs.Playing.{Action, idle, fetch, replace, Schedule, State, is_resident, load, act, play_round, play}
use Rattle.model.specs.Sheet.{action_bits, round_bits, rounds_bits, sheet_bits, holds, discard_reader, fetch_reader, action_reader, round_reader, rounds_reader, sheet_reader}
use Rattle.model.specs.Valid.{Block, Legal, LegalAll, discards_full, discards_full_all, discards_full_from}

-- A fetch that discards nothing finds a slot empty: 13 does not hold.
unfoldable pub Room : Job → List Bool → ℕ → Action → Type 0
Room j marks d idle = Unit {0}
Room j marks d (fetch x) = load j marks d < slots_of j d
Room j marks d (replace x z) = Unit {0}

unfoldable pub RoomAll : Job → List Bool → ℕ → List Action → Type 0
unfolding Room
RoomAll j marks d [] = Unit {0}
RoomAll j marks d (a ∷ more) = Room j marks d a × RoomAll j (act marks a) (suc d) more

-- What reading an action gives.
pub record ActionRead (j : Job) (marks : List Bool) (d : ℕ) (l : List ℕ) (a : Action) (rest : List ℕ) : Type 0 where
  pub wrote : l ≡ action_bits a ++ rest
  pub bits : Bits rest
  pub legal : Legal j marks d a
  pub room : Room j marks d a
  pub full : discards_full j marks d a ≡ true

-- a field of one bit is that bit
small-digit : (v : ℕ) → v < 2 → digits 1 v ≡ v ∷ []
unfolding digits
small-digit zero p = refl
small-digit (suc zero) p = refl
small-digit (suc (suc v)) p = absurd (omega arith)

one_bit : (n : ℕ) (l : List ℕ) {v : ℕ} {rest : List ℕ} → Bits l → field n 1 l ≡ got v rest → (v < 2) × (l ≡ v ∷ rest) × Bits rest
one_bit n l {v} {rest} h e =
    let r = field_wrote n 1 l h e in
    (r.0, r.1 ∙ ap (λ (m : List ℕ). m ++ rest) (small-digit v r.0), r.2)

-- The test of 11 is false of a block of the disk, and the test of 14 of a block in its buffer.
block_of : (j : Job) (marks : List Bool) (d x : ℕ) → leb (block_count j) x || not (eqb (disk_of j x) d) ≡ false → is_resident marks x ≡ false → Block j marks d x false
block_of j marks d x e m = record {
  known = leb-false (block_count j) x (or_false_left (leb (block_count j) x) (not (eqb (disk_of j x) d)) e);
  on_disk = eqb-true (disk_of j x) d (not-false (eqb (disk_of j x) d) (or_false_right (leb (block_count j) x) (not (eqb (disk_of j x) d)) e));
  mark = m;
}

held_of : (j : Job) (marks : List Bool) (d z : ℕ) → not (holds j marks d z) ≡ false → Block j marks d z true
held_of j marks d z e =
    let h = not-false (holds j marks d z) e in
    let l = and_left (ltb z (block_count j) && eqb (disk_of j z) d) (is_resident marks z) h in
    record {
      known = ltb-true z (block_count j) (and_left (ltb z (block_count j)) (eqb (disk_of j z) d) l);
      on_disk = eqb-true (disk_of j z) d (and_right (ltb z (block_count j)) (eqb (disk_of j z) d) l);
      mark = and_right (ltb z (block_count j) && eqb (disk_of j z) d) (is_resident marks z) h;
    }

discard_read : (j : Job) (marks : List Bool) (d x k : ℕ) (l : List ℕ) (a : Action) (rest : List ℕ) → k < 2 → Bits l → Block j marks d x false
    → discard_reader j marks d x k l ≡ got a rest → ActionRead j marks d (1 ∷ (digits 9 x ++ k ∷ l)) a rest
unfolding discard_reader action_bits Legal Room discards_full
discard_read j marks d x zero l a rest p bits block e =
    then_got (refuse_if 13 (leb (slots_of j d) (load j marks d))) _ l e λ _ l₁ e₁ e.
    refuse_got 13 (leb (slots_of j d) (load j marks d)) l e₁ λ t q.
    give-got e λ same r.
    subst (λ (y : Action). ActionRead j marks d (1 ∷ (digits 9 x ++ 0 ∷ l)) y rest) same (record {
      wrote = ap (λ (m : List ℕ). 1 ∷ m) (ap (λ (m : List ℕ). digits 9 x ++ 0 ∷ m) (q ∙ r) ∙ sym (append_assoc (digits 9 x) (0 ∷ []) rest));
      bits = subst Bits (q ∙ r) bits;
      legal = block;
      room = leb-false (slots_of j d) (load j marks d) t;
      full = refl;
    })
discard_read j marks d x (suc zero) l a rest p bits block e =
    then_got (refuse_if 20 (ltb (load j marks d) (slots_of j d))) _ l e λ _ l₀ e₀ e.
    refuse_got 20 (ltb (load j marks d) (slots_of j d)) l e₀ λ t₀ q₀.
    bind-got (field 9 9) _ l₀ e λ z l₁ e₁ e.
    then_got (refuse_if 14 (not (holds j marks d z))) _ l₁ e λ _ l₂ e₂ e.
    refuse_got 14 (not (holds j marks d z)) l₁ e₂ λ t q.
    give-got e λ same r.
    let f = field_wrote 9 9 l₀ (subst Bits q₀ bits) e₁ in
    subst (λ (y : Action). ActionRead j marks d (1 ∷ (digits 9 x ++ 1 ∷ l)) y rest) same (record {
      wrote = ap (λ (m : List ℕ). 1 ∷ m) (ap (λ (m : List ℕ). digits 9 x ++ 1 ∷ m) (q₀ ∙ f.1 ∙ ap (λ (m : List ℕ). digits 9 z ++ m) (q ∙ r)) ∙ sym (append_assoc (digits 9 x) (1 ∷ digits 9 z) rest));
      bits = subst Bits (q ∙ r) f.2;
      legal = (block, held_of j marks d z t);
      room = tt;
      full = le-leb (slots_of j d) (load j marks d) (ltb-false (load j marks d) (slots_of j d) t₀);
    })
discard_read j marks d x (suc (suc k)) l a rest p bits block e = absurd (omega arith)

fetch-read : (j : Job) (marks : List Bool) (d v : ℕ) (l : List ℕ) (a : Action) (rest : List ℕ) → v < 2 → Bits l
    → fetch_reader j marks d v l ≡ got a rest → ActionRead j marks d (v ∷ l) a rest
unfolding fetch_reader action_bits Legal Room discards_full
fetch-read j marks d zero l a rest p bits e =
    give-got e λ same r.
    subst (λ (y : Action). ActionRead j marks d (0 ∷ l) y rest) same
    (record { wrote = ap (λ (m : List ℕ). 0 ∷ m) r; bits = subst Bits r bits; legal = tt; room = tt; full = refl })
fetch-read j marks d (suc zero) l a rest p bits e =
    bind-got (field 9 9) _ l e λ x l₁ e₁ e.
    then_got (refuse_if 11 (leb (block_count j) x || not (eqb (disk_of j x) d))) _ l₁ e λ _ l₂ e₂ e.
    refuse_got 11 (leb (block_count j) x || not (eqb (disk_of j x) d)) l₁ e₂ λ t₂ q₂.
    then_got (refuse_if 12 (is_resident marks x)) _ l₂ e λ _ l₃ e₃ e.
    refuse_got 12 (is_resident marks x) l₂ e₃ λ t₃ q₃.
    bind-got (field 9 1) _ l₃ e λ k l₄ e₄ e.
    let f = field_wrote 9 9 l bits e₁ in
    let b = one_bit 9 l₃ (subst Bits (q₂ ∙ q₃) f.2) e₄ in
    subst (λ (m : List ℕ). ActionRead j marks d (1 ∷ m) a rest)
    (sym (f.1 ∙ ap (λ (m : List ℕ). digits 9 x ++ m) (q₂ ∙ q₃ ∙ b.1)))
    (discard_read j marks d x k l₄ a rest b.0 b.2 (block_of j marks d x t₂ t₃) e)
fetch-read j marks d (suc (suc v)) l a rest p bits e = absurd (omega arith)

pub action-read : (j : Job) (marks : List Bool) (d : ℕ) (l : List ℕ) (a : Action) (rest : List ℕ) → Bits l
    → action_reader j marks d l ≡ got a rest → ActionRead j marks d l a rest
unfolding action_reader
action-read j marks d l a rest bits e =
    bind-got (field 9 1) _ l e λ v l₁ e₁ e.
    let b = one_bit 9 l bits e₁ in
    subst (λ (m : List ℕ). ActionRead j marks d m a rest) (sym b.1) (fetch-read j marks d v l₁ a rest b.0 b.2 e)

-- a round, and all rounds

pub record RoundRead (j : Job) (k : ℕ) (marks : List Bool) (d : ℕ) (l : List ℕ) (actions : List Action) (rest : List ℕ) : Type 0 where
  pub each : length actions ≡ k
  pub wrote : l ≡ round_bits actions ++ rest
  pub bits : Bits rest
  pub legal : LegalAll j marks d actions
  pub room : RoomAll j marks d actions
  pub full : discards_full_all j marks d actions ≡ true

pub round-read : (j : Job) (k : ℕ) (marks : List Bool) (d : ℕ) (l : List ℕ) (actions : List Action) (rest : List ℕ) → Bits l
    → round_reader j k marks d l ≡ got actions rest → RoundRead j k marks d l actions rest
unfolding round_reader round_bits LegalAll RoomAll discards_full_all
round-read j zero marks d l actions rest bits e =
    give-got e λ same r.
    subst (λ (x : List Action). RoundRead j 0 marks d l x rest) same
    (record { each = refl; wrote = r; bits = subst Bits r bits; legal = tt; room = tt; full = refl })
round-read j (suc k) marks d l actions rest bits e =
    bind-got (action_reader j marks d) _ l e λ a l₁ e₁ e.
    bind-got (round_reader j k (act marks a) (suc d)) _ l₁ e λ more l₂ e₂ e.
    give-got e λ same r.
    let one = action-read j marks d l a l₁ bits e₁ in
    let ih = round-read j k (act marks a) (suc d) l₁ more l₂ one.bits e₂ in
    subst (λ (x : List Action). RoundRead j (suc k) marks d l x rest) same (record {
      each = ap suc ih.each;
      wrote = one.wrote ∙ ap (λ (m : List ℕ). action_bits a ++ m) (ih.wrote ∙ ap (λ (m : List ℕ). round_bits more ++ m) r) ∙ sym (append_assoc (action_bits a) (round_bits more) rest);
      bits = subst Bits r ih.bits;
      legal = (one.legal, ih.legal);
      room = (one.room, ih.room);
      full = and_true one.full ih.full;
    })

-- Every round has one action for each disk, each legal and with room when it is played.
unfoldable pub Allowed : Job → State → Schedule → Type 0
Allowed j s [] = Unit {0}
Allowed j s (actions ∷ more) =
    (length actions ≡ disk_count j) × LegalAll j s.resident 0 actions × RoomAll j s.resident 0 actions × Allowed j (play_round j s actions) more

pub record RoundsRead (j : Job) (r : ℕ) (s : State) (l : List ℕ) (schedule : Schedule) (rest : List ℕ) : Type 0 where
  pub each : length schedule ≡ r
  pub wrote : l ≡ rounds_bits schedule ++ rest
  pub bits : Bits rest
  pub allowed : Allowed j s schedule
  pub full : discards_full_from j s schedule ≡ true

rounds-read : (j : Job) (r : ℕ) (s : State) (l : List ℕ) (schedule : Schedule) (rest : List ℕ) → Bits l
    → rounds_reader j r s l ≡ got schedule rest → RoundsRead j r s l schedule rest
unfolding rounds_reader rounds_bits Allowed discards_full_from
rounds-read j zero s l schedule rest bits e =
    give-got e λ same q.
    subst (λ (x : Schedule). RoundsRead j 0 s l x rest) same (record { each = refl; wrote = q; bits = subst Bits q bits; allowed = tt; full = refl })
rounds-read j (suc r) s l schedule rest bits e =
    bind-got (round_reader j (disk_count j) s.resident 0) _ l e λ actions l₁ e₁ e.
    bind-got (rounds_reader j r (play_round j s actions)) _ l₁ e λ more l₂ e₂ e.
    give-got e λ same q.
    let one = round-read j (disk_count j) s.resident 0 l actions l₁ bits e₁ in
    let ih = rounds-read j r (play_round j s actions) l₁ more l₂ one.bits e₂ in
    subst (λ (x : Schedule). RoundsRead j (suc r) s l x rest) same (record {
      each = ap suc ih.each;
      wrote = one.wrote ∙ ap (λ (m : List ℕ). round_bits actions ++ m) (ih.wrote ∙ ap (λ (m : List ℕ). rounds_bits more ++ m) q) ∙ sym (append_assoc (round_bits actions) (rounds_bits more) rest);
      bits = subst Bits q ih.bits;
      allowed = (one.each, one.legal, one.room, ih.allowed);
      full = and_true one.full ih.full;
    })

-- What reading a whole sheet gives: the schedule, and the bits after it.
pub record SheetRead (j : Job) (s : State) (l : List ℕ) (schedule : Schedule) : Type 0 where
  pub few : length schedule ≤ 2048
  pub allowed : Allowed j s schedule
  pub full : discards_full_from j s schedule ≡ true
  pub finished : ref_count j ≤ (play j s schedule).next
  pub tail : List ℕ
  pub short : length tail < 8
  pub zeros : all_zero tail ≡ true
  pub wrote : l ≡ sheet_bits schedule ++ tail

pub sheet-read : (j : Job) (s : State) (l : List ℕ) (schedule : Schedule) (rest : List ℕ) → Bits l
    → sheet_reader j s l ≡ got schedule rest → SheetRead j s l schedule
unfolding sheet_reader sheet_bits
sheet-read j s l schedule rest bits e =
    bind-got (field 9 12) _ l e λ r l₁ e₁ e.
    then_got (refuse_if 10 (ltb 2048 r)) _ l₁ e λ _ l₂ e₂ e.
    refuse_got 10 (ltb 2048 r) l₁ e₂ λ t₂ q₂.
    bind-got (rounds_reader j r s) _ l₂ e λ run l₃ e₃ e.
    then_got (refuse_if 15 (ltb (play j s run).next (ref_count j))) _ l₃ e λ _ l₄ e₄ e.
    refuse_got 15 (ltb (play j s run).next (ref_count j)) l₃ e₄ λ t₄ q₄.
    then_got (closing 16) _ l₄ e λ _ l₅ e₅ e.
    closing-got 16 l₄ e₅ λ few zeros.
    give-got e λ same _.
    let f = field_wrote 9 12 l bits e₁ in
    let g = rounds-read j r s l₂ run l₃ (subst Bits q₂ f.2) e₃ in
    let w = f.1 ∙ ap (λ (m : List ℕ). digits 12 r ++ m) (q₂ ∙ g.wrote ∙ ap (λ (m : List ℕ). rounds_bits run ++ m) q₄)
    ∙ ap (λ (k : ℕ). digits 12 k ++ (rounds_bits run ++ l₄)) (sym g.each) ∙ sym (append_assoc (digits 12 (length run)) (rounds_bits run) l₄) in
    subst (SheetRead j s l) same (record {
      few = (let p = ltb-false 2048 r t₂ in let q = g.each in omega (arith, p, q));
      allowed = g.allowed;
      full = g.full;
      finished = ltb-false (play j s run).next (ref_count j) t₄;
      tail = l₄;
      short = few;
      zeros = zeros;
      wrote = w;
    })
