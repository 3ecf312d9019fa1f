-- The rows of document 01's table of ticket fields, each with the refusal of other values. Assumes nothing.
use Rattle.std.specs.Prelude.{ℕ}
use Rattle.refusal.specs.declared.Refusal.{Refusal}
use Rattle.refusal.specs.declared.Refusal.TheVariants.{TicketDisks, TicketSlots, TicketBlocks, TicketBlockDisk, TicketReferences, TicketReference}
use Rattle.entries.specs.declared.Row.{Row}

abbrev pub disks_row : Row Refusal
disks_row = record { width = 4; least = 1; limit = 9; refusal = TicketDisks }

abbrev pub slots_row : Row Refusal
slots_row = record { width = 7; least = 1; limit = 65; refusal = TicketSlots }

abbrev pub blocks_row : Row Refusal
blocks_row = record { width = 10; least = 1; limit = 513; refusal = TicketBlocks }

abbrev pub disk_row : ℕ → Row Refusal
disk_row disks = record { width = 3; least = 0; limit = disks; refusal = TicketBlockDisk }

abbrev pub refs_row : Row Refusal
refs_row = record { width = 12; least = 0; limit = 2049; refusal = TicketReferences }

abbrev pub ref_row : ℕ → Row Refusal
ref_row blocks = record { width = 9; least = 0; limit = blocks; refusal = TicketReference }
