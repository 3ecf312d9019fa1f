-- What `slots` prints: document 02, L10, a count, none and a refusal. Assumes nothing.
use mathlib.Core.Path.{◌≡◌, refl}
use Rattle.bits.specs.Reading.{bind, ◌>>=◌, ◌>>◌, give, field, refuse_if, many, closing, answer, read_all}
use Rattle.model.specs.Job.{up_to}
use Rattle.model.specs.Ticket.{slots_field, disk_field, ref_field, carried_blocks, carried_field, carried_fields, ticket_reader, ticket_of}
use Rattle.model.specs.Calls.{stop_at, job_up_to}
use Rattle.model.specs.Playing.{none_resident, load, play}
use Rattle.slot_counts.specs.Slots.{with_sheet}
use Rattle.model.proofs.Rows.{hex}
use Rattle.slots_text.specs.SlotsText.{slots_printed}

-- slots 4: G's disk 0, within 5 rounds
pub prints_slots : slots_printed (hex 34 0x2060c080002490150000404040180002050301c04040281800010101006000080000) 0 5 ≡ hex 8 0x736c6f747320340a
unfolding slots_printed hex ◌>>=◌ ◌>>◌ bind give field refuse_if many closing answer read_all stop_at up_to job_up_to slots_field disk_field ref_field carried_blocks carried_field carried_fields ticket_reader ticket_of play load none_resident with_sheet
prints_slots = refl

-- none: A within 0 rounds
pub prints_none : slots_printed (hex 7 0x10200800100000) 0 0 ≡ hex 5 0x6e6f6e650a
unfolding slots_printed hex ◌>>=◌ ◌>>◌ bind give field refuse_if many closing answer read_all stop_at up_to job_up_to slots_field disk_field ref_field carried_blocks carried_field carried_fields ticket_reader ticket_of play load none_resident with_sheet
prints_none = refl

-- refused 27: A has no disk 1
pub prints_27 : slots_printed (hex 7 0x10200800100000) 1 0 ≡ hex 11 0x726566757365642032370a
unfolding slots_printed hex ◌>>=◌ ◌>>◌ bind give field refuse_if many closing answer read_all stop_at up_to job_up_to slots_field disk_field ref_field carried_blocks carried_field carried_fields ticket_reader ticket_of play load none_resident with_sheet
prints_27 = refl
