-- One action of a sheet, as the code reads it: what stands at a bit, for the disk whose turn it is. Document 01, 9 and 11 to 14 of "Numbers of a
-- refused call"; 20 of request L3. Assumes nothing.
use Rattle.std.specs.Prelude.{Bool, cond, ◌&&◌, Option, Some, None, Result, Ok, Err, List, ℕ, ◌+◌, ltb, eqb, length, get_or, drop}
use Rattle.bits.specs.Bits.{bits}
use Rattle.bits.specs.Reading.{Read, got, stop}
use Rattle.bits.specs.Fields.{field_at}
use Rattle.model.specs.Playing.{Action, idle, fetch, replace, is_resident}
use Rattle.refusal.specs.declared.Refusal.{Refusal}
use Rattle.refusal.specs.declared.Refusal.TheVariants.{SheetEnds, SheetFetched, SheetResident, SheetFull, SheetDiscarded, SheetSlotEmpty}
use Rattle.refusal.specs.Refusals.{number}
use Rattle.actions.specs.declared.Act.{Act}
use Rattle.actions.specs.declared.Act.TheVariants.{Idle, Fetch, Replace}
use Rattle.actions.specs.declared.Named.{Named}
use Rattle.actions.specs.declared.Named.TheVariants.{Elsewhere, Missing, Resident}

-- A bit that is due leads to the first answer where it is 0, to the second where it is 1. "9. The sheet ends inside a field that is due."
abbrev pub on_bit : Option ℕ → Result Act Refusal → Result Act Refusal → Result Act Refusal
on_bit (Some bit) a b = cond (eqb bit 0) a b
on_bit None a b = Err SheetEnds

-- Block x is one of disk d's.
abbrev pub is_on : List ℕ → ℕ → ℕ → Bool
is_on disk d x = ltb x (length disk) && eqb (get_or disk x 0) d

-- The block that a field names, as disk d sees it.
abbrev pub named_of : List ℕ → List Bool → ℕ → Option ℕ → Result Named Refusal
named_of disk marks d (Some x) = Ok (cond (is_on disk d x) (cond (is_resident marks x) (Resident x) (Missing x)) Elsewhere)
named_of disk marks d None = Err SheetEnds

-- The block that the nine bits after the bit `at` name, as disk d sees it.
unfoldable pub named_after : List ℕ → ℕ → List ℕ → List Bool → ℕ → Result Named Refusal
unfolding field_at
named_after s at disk marks d = named_of disk marks d (field_at s (at + 1) 9)

-- What the named block leads to where it is to be fetched: "11. A fetched block is B or more, or lies on another disk. 12. A fetched block is already
-- in the buffer."
abbrev pub fetched_by : Result Named Refusal → (ℕ → Result Act Refusal) → Result Act Refusal
fetched_by (Err e) more = Err e
fetched_by (Ok Elsewhere) more = Err SheetFetched
fetched_by (Ok (Resident x)) more = Err SheetResident
fetched_by (Ok (Missing x)) more = more x

-- What the named block leads to where it is to be discarded for x: "14. The discarded block is not in that disk's buffer."
abbrev pub discarded_by : ℕ → Result Named Refusal → Result Act Refusal
discarded_by x (Err e) = Err e
discarded_by x (Ok Elsewhere) = Err SheetDiscarded
discarded_by x (Ok (Missing z)) = Err SheetDiscarded
discarded_by x (Ok (Resident z)) = Ok (Replace x z)

-- What follows the fetched block x, at the bit `at`; `full` says that every slot of disk d is taken. "13. Nothing is discarded though every slot is
-- taken." L3: "20, a discard though a slot is empty, tested once the discard bit is read as 1 and before the discarded block's field".
unfoldable pub discard_at : List ℕ → ℕ → List ℕ → List Bool → ℕ → Bool → ℕ → Result Act Refusal
unfolding field_at named_after
discard_at s at disk marks d full x =
    on_bit (field_at s at 1) (cond full (Err SheetFull) (Ok (Fetch x)))
    (cond full (discarded_by x (named_after s at disk marks d)) (Err SheetSlotEmpty))

-- The action of disk d at the bit `at`.
unfoldable pub action_at : List ℕ → ℕ → List ℕ → List Bool → ℕ → Bool → Result Act Refusal
unfolding field_at named_after discard_at
action_at s at disk marks d full =
    on_bit (field_at s at 1) (Ok Idle) (fetched_by (named_after s at disk marks d) (discard_at s (at + 10) disk marks d full))

-- An action that starts at the bit `at`, as a reader gives it: the action with the bits after it, or the number of its refusal.
unfoldable pub act_read : List ℕ → ℕ → Result Act Refusal → Read Action
unfolding bits
act_read s at (Ok Idle) = got idle (drop (at + 1) (bits s))
act_read s at (Ok (Fetch x)) = got (fetch x) (drop (at + 11) (bits s))
act_read s at (Ok (Replace x z)) = got (replace x z) (drop (at + 20) (bits s))
act_read s at (Err e) = stop (number e)
