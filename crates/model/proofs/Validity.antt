-- The schedules that the check's tests but for 20 allow are those that can be played: the tests, action by action, say what legality, A1 and A2
-- say. What passes also discards nothing beside an empty slot. Assumes nothing.
use mathlib.Core.Path.{◌≡◌, sym, ap, ◌∙◌, subst}
use mathlib.Core.Bool.{Bool, cond}
use mathlib.Core.List.{List, [], ◌∷◌, ◌++◌}
use Prim.Native.Nat.{ℕ, suc, ◌+◌, ◌≤◌, ◌<◌}
use native.Mathlib.Nat.{le_antisymm}
use native.Mathlib.Omega.{arith}
use lib.Dec.{eqb}
use lib.ListN.{length}
use borrow.Author.Tests.{eqb-true, eqb-false}
use Rattle.bits.specs.Bits.{bits}
use Rattle.bits.specs.Reading.{given, refused}
use Rattle.bits.proofs.Logic.{by_test}
use Rattle.bits.proofs.Reading.{read_all_if, zero_list}
use Rattle.model.specs.Job.{Sound, Job, block_count, ref_count, slots_of}
use Rattle.model.specs.Playing.{Action, idle, fetch, replace, Schedule, State, start, load, act, act_all, play_round, play}
use Rattle.model.specs.Sheet.{sheet_bits, sheet_reader, schedule_read}
use Rattle.model.specs.Valid.{Legal, LegalAll, Ready, ValidFrom, discards_full_from, LegalSheet, ValidSheet}
use Rattle.model.proofs.Buffers.{length-act, load_own, load_elsewhere, load_before}
use Rattle.model.proofs.Playing.{round_plays}
use Rattle.model.proofs.Carried.{ready_start}
use Rattle.model.proofs.Rounds.{ready_after, round_of}
use Rattle.model.proofs.Sheets.{Room, RoomAll, Allowed, SheetRead}
use Rattle.model.proofs.Written.{sheet-written}

-- where there was room, the slots are kept

act_fits : (j : Job) (marks : List Bool) → block_count j ≤ length marks → (d : ℕ) (a : Action) → Legal j marks d a → Room j marks d a
    → (e : ℕ) → load j marks e ≤ slots_of j e → load j (act marks a) e ≤ slots_of j e
unfolding Room act
act_fits j marks long d idle h room e fits = fits
act_fits j marks long d (fetch x) h room e fits =
    by_test (eqb e d)
    (λ y. let same = eqb-true e d y in let own = load_own j marks long d (fetch x) h in rw same (omega (arith, own)))
    (λ f. let other = load_elsewhere j marks d (fetch x) h e (eqb-false e d f) in omega (arith, other))
act_fits j marks long d (replace x z) h room e fits =
    by_test (eqb e d)
    (λ y. let same = eqb-true e d y in let own = load_own j marks long d (replace x z) h in let k = ap (load j marks) same in let l = ap (slots_of j) same in rw same (omega (arith, own, k, l)))
    (λ f. let other = load_elsewhere j marks d (replace x z) h e (eqb-false e d f) in omega (arith, other))

all_fits : (j : Job) (marks : List Bool) → block_count j ≤ length marks → (d : ℕ) (actions : List Action) → LegalAll j marks d actions → RoomAll j marks d actions
    → (e : ℕ) → load j marks e ≤ slots_of j e → load j (act_all marks actions) e ≤ slots_of j e
unfolding LegalAll RoomAll act_all
all_fits j marks long d [] h room e fits = fits
all_fits j marks long d (a ∷ more) h room e fits =
    all_fits j (act marks a) (let l = length-act marks a in omega (arith, l)) (suc d) more h.1 room.1 e (act_fits j marks long d a h.0 room.0 e fits)

-- and where the slots are kept there was room

act_room : (j : Job) (marks : List Bool) → block_count j ≤ length marks → (d : ℕ) (a : Action) → Legal j marks d a → load j (act marks a) d ≤ slots_of j d → Room j marks d a
unfolding Room
act_room j marks long d idle h fits = tt
act_room j marks long d (fetch x) h fits = let own = load_own j marks long d (fetch x) h in omega (arith, own)
act_room j marks long d (replace x z) h fits = tt

all_room : (j : Job) (marks : List Bool) → block_count j ≤ length marks → (d : ℕ) (actions : List Action) → LegalAll j marks d actions
    → ((e : ℕ) → e < d + length actions → load j (act_all marks actions) e ≤ slots_of j e) → RoomAll j marks d actions
unfolding LegalAll RoomAll act_all
all_room j marks long d [] h fits = tt
all_room j marks long d (a ∷ more) h fits =
    let here = fits d (omega arith) in
    let rest = load_before j (act marks a) (suc d) more h.1 d (omega arith) in (
      act_room j marks long d a h.0 (omega (arith, here, rest)),
      all_room j (act marks a) (let l = length-act marks a in omega (arith, l)) (suc d) more h.1 (λ e l. fits e (omega (arith, l))),
    )

-- schedules

pub allowed-valid : (j : Job) (s : State) (schedule : Schedule) → Ready j s → Allowed j s schedule → ref_count j ≤ (play j s schedule).next → ValidFrom j s schedule
unfolding Allowed ValidFrom play
allowed-valid j s [] ready h finished = le_antisymm ready.within finished
allowed-valid j s (actions ∷ more) ready h finished =
    let t = play_round j s actions in
    let r = round_of j s actions ready h.0 h.1 (λ d l. all_fits j s.resident ready.long 0 actions h.1 h.2 d (ready.loads d l)) in
    (t, r, allowed-valid j t more (ready_after j s actions t ready r) h.3 finished)

pub valid-allowed : (j : Job) (s : State) (schedule : Schedule) → Ready j s → ValidFrom j s schedule → Allowed j s schedule
unfolding Allowed ValidFrom
valid-allowed j s [] ready v = tt
valid-allowed j s (actions ∷ more) ready v =
    let t = v.0 in
    let r = v.1 in
    let same = round_plays j s actions t r in
    let each = r.one_each in (
      each,
      r.legal,
      all_room j s.resident ready.long 0 actions r.legal (λ e l. subst (λ (m : List Bool). load j m e ≤ slots_of j e) r.played (r.a2 e (omega (arith, l, each)))),
      subst (λ (x : State). Allowed j x more) same (valid-allowed j t more (ready_after j s actions t ready r) v.2),
    )

pub valid_finished : (j : Job) (s : State) (schedule : Schedule) → ValidFrom j s schedule → (play j s schedule).next ≡ ref_count j
unfolding ValidFrom play
valid_finished j s [] v = v
valid_finished j s (actions ∷ more) v =
    ap (λ (x : State). (play j x more).next) (sym (round_plays j s actions v.0 v.1)) ∙ valid_finished j v.0 more v.2

-- sheets

pub read-valid : (j : Job) → Sound j → (s : List ℕ) (schedule : Schedule) → SheetRead j (start j) (bits s) schedule → ValidSheet j s schedule
read-valid j sound s schedule r = record {
  legal = record {
    few_rounds = r.few;
    valid = allowed-valid j (start j) schedule (ready_start j sound) r.allowed r.finished;
    closing_bits = length r.tail;
    few_closing = r.short;
    written = r.wrote ∙ ap (λ (l : List ℕ). sheet_bits schedule ++ l) (zero_list r.tail r.zeros);
  };
  full = r.full;
}

-- What is read of a sheet of document 01.
pub legal-read : (j : Job) → Sound j → (s : List ℕ) (schedule : Schedule) → LegalSheet j s schedule
    → schedule_read j s ≡ cond (discards_full_from j (start j) schedule) (given schedule) (refused 20)
unfolding schedule_read
legal-read j sound s schedule v =
    let finished = valid_finished j (start j) schedule v.valid in
    read_all_if (sheet_reader j (start j)) s (discards_full_from j (start j) schedule) schedule [] 20 (ap (sheet_reader j (start j)) v.written
    ∙ sheet-written j sound.few_blocks (start j) schedule v.closing_bits v.few_rounds v.few_closing
    (valid-allowed j (start j) schedule (ready_start j sound) v.valid) (omega (arith, finished)))
