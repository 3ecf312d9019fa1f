-- The papers' number of each refusal, and the refusal of a number. Assumes nothing.
use Rattle.std.specs.Prelude.{List, [], ◌∷◌, ℕ, ◌-◌, get_or}
use Rattle.refusal.specs.declared.Refusal.{Refusal}
use Rattle.refusal.specs.declared.Refusal.TheVariants.{TicketEnds, TicketDisks, TicketSlots, TicketBlocks, TicketBlockDisk, TicketReferences, TicketReference, TicketClosing, SheetEnds, SheetRounds, SheetFetched, SheetResident, SheetFull, SheetDiscarded, SheetUnfinished, SheetClosing, ShortRoom, SparingRoom, PageRoom, SheetSlotEmpty, Stop, NoteMalformed, NoteParentheses, NoteReferences, CarriedCount, CarriedBlock, SlotsDisk}

abbrev pub number : Refusal → ℕ
number TicketEnds = 1
number TicketDisks = 2
number TicketSlots = 3
number TicketBlocks = 4
number TicketBlockDisk = 5
number TicketReferences = 6
number TicketReference = 7
number TicketClosing = 8
number SheetEnds = 9
number SheetRounds = 10
number SheetFetched = 11
number SheetResident = 12
number SheetFull = 13
number SheetDiscarded = 14
number SheetUnfinished = 15
number SheetClosing = 16
number ShortRoom = 17
number SparingRoom = 18
number PageRoom = 19
number SheetSlotEmpty = 20
number Stop = 21
number NoteMalformed = 22
number NoteParentheses = 23
number NoteReferences = 24
number CarriedCount = 25
number CarriedBlock = 26
number SlotsDisk = 27

-- The refusals in the order of their numbers, from 1 on.
abbrev pub refusals : List Refusal
refusals =
    TicketEnds ∷ TicketDisks ∷ TicketSlots ∷ TicketBlocks ∷ TicketBlockDisk ∷
    TicketReferences ∷ TicketReference ∷ TicketClosing ∷ SheetEnds ∷ SheetRounds ∷
    SheetFetched ∷ SheetResident ∷ SheetFull ∷ SheetDiscarded ∷ SheetUnfinished ∷
    SheetClosing ∷ ShortRoom ∷ SparingRoom ∷ PageRoom ∷ SheetSlotEmpty ∷
    Stop ∷ NoteMalformed ∷ NoteParentheses ∷ NoteReferences ∷ CarriedCount ∷
    CarriedBlock ∷ SlotsDisk ∷ []

-- The refusal with a number; of 0 and of numbers from 28 on, which no call gives, the first one.
unfoldable pub refusal_of : ℕ → Refusal
refusal_of n = get_or refusals (n - 1) TicketEnds
