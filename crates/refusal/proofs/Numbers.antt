-- The number of a refusal determines it, and the refusal of a number determines the number. Assumes nothing.
use Rattle.std.proofs.Common.{◌≡◌, ℕ, ◌+◌, ◌-◌, ◌≤◌, List, map, get_or, refl, sym, ap, ◌∙◌, arith}
use Rattle.std.specs.List.{range_with_len}
use Rattle.std.proofs.Math.ListN.{get_or-map}
use Rattle.std.proofs.lemmas.List.FromFn.{get_or-range_with_len}
use Rattle.refusal.specs.declared.Refusal.{Refusal}
use Rattle.refusal.specs.declared.Refusal.TheVariants.{TicketEnds, TicketDisks, TicketSlots, TicketBlocks, TicketBlockDisk, TicketReferences, TicketReference, TicketClosing, SheetEnds, SheetRounds, SheetFetched, SheetResident, SheetFull, SheetDiscarded, SheetUnfinished, SheetClosing, ShortRoom, SparingRoom, PageRoom, SheetSlotEmpty, Stop, NoteMalformed, NoteParentheses, NoteReferences, CarriedCount, CarriedBlock, SlotsDisk}
use Rattle.refusal.specs.Refusals.{number, refusals, refusal_of}

pub refusal_of-number : (r : Refusal) → refusal_of (number r) ≡ r
unfolding refusal_of
refusal_of-number TicketEnds = refl
refusal_of-number TicketDisks = refl
refusal_of-number TicketSlots = refl
refusal_of-number TicketBlocks = refl
refusal_of-number TicketBlockDisk = refl
refusal_of-number TicketReferences = refl
refusal_of-number TicketReference = refl
refusal_of-number TicketClosing = refl
refusal_of-number SheetEnds = refl
refusal_of-number SheetRounds = refl
refusal_of-number SheetFetched = refl
refusal_of-number SheetResident = refl
refusal_of-number SheetFull = refl
refusal_of-number SheetDiscarded = refl
refusal_of-number SheetUnfinished = refl
refusal_of-number SheetClosing = refl
refusal_of-number ShortRoom = refl
refusal_of-number SparingRoom = refl
refusal_of-number PageRoom = refl
refusal_of-number SheetSlotEmpty = refl
refusal_of-number Stop = refl
refusal_of-number NoteMalformed = refl
refusal_of-number NoteParentheses = refl
refusal_of-number NoteReferences = refl
refusal_of-number CarriedCount = refl
refusal_of-number CarriedBlock = refl
refusal_of-number SlotsDisk = refl

-- back
pub number-refusal_of : (n : ℕ) → 1 ≤ n → n ≤ 27 → number (refusal_of n) ≡ n
unfolding refusal_of
number-refusal_of n some few =
    let in_order : map number refusals ≡ range_with_len 1 27 = refl in
    let same : 1 + (n - 1) ≡ n = omega arith in
    sym (get_or-map number refusals (n - 1) TicketEnds) ∙ ap (λ (l : List ℕ). get_or l (n - 1) 1) in_order
    ∙ get_or-range_with_len 1 27 (n - 1) 1 (omega arith) ∙ same
