-- What `plan` prints: with the stop N, what it printed before there were stops. Document 01: "For F the program prints exactly the lines below"; and
-- G, short, and K's single byte 00, which is refused with 2. Assumes nothing.
use mathlib.Core.Path.{◌≡◌, refl, ap}
use mathlib.Core.List.{List}
use Prim.Native.Nat.{ℕ}
use Rattle.bits.specs.Reading.{bind, ◌>>=◌, ◌>>◌, give, field, refuse_if, many, closing, answer, read_all}
use Rattle.model.specs.Job.{up_to}
use Rattle.model.specs.Ticket.{slots_field, disk_field, ref_field, carried_blocks, carried_field, carried_fields, ticket_reader, ticket_of}
use Rattle.model.specs.Calls.{stop_at, job_up_to, planned_for}
use Rattle.model.specs.Playing.{none_resident, load, play}
use Rattle.model.proofs.Rows.{hex}
use Rattle.model.proofs.Promises.{whole_plan}
use Rattle.report.specs.Report.{lines_of, disks_of, printed}

-- L5: "A stop equal to N is the old call": the plan of all references of the ticket
pub printed-whole : (t : List ℕ) → printed t ≡ lines_of (disks_of (ticket_of t)) (planned_for 40962 40962 (ticket_of t))
unfolding printed
printed-whole t = ap (lines_of (disks_of (ticket_of t))) (whole_plan t 40962 40962)

-- sparing 4, 0 2, 1 3
pub prints_F : printed (hex 17 0x2020805009200e020180002020200c0000) ≡ hex 18 0x73706172696e6720340a3020320a3120330a
unfolding printed hex ◌>>=◌ ◌>>◌ bind give field refuse_if many closing answer read_all stop_at up_to job_up_to slots_field disk_field ref_field carried_blocks carried_field carried_fields ticket_reader ticket_of play load none_resident
prints_F = refl

-- short 6, 0 6, 1 5
pub prints_G : printed (hex 34 0x2060c080002490150000404040180002050301c04040281800010101006000080000) ≡ hex 16 0x73686f727420360a3020360a3120350a
unfolding printed hex ◌>>=◌ ◌>>◌ bind give field refuse_if many closing answer read_all stop_at up_to job_up_to slots_field disk_field ref_field carried_blocks carried_field carried_fields ticket_reader ticket_of play load none_resident
prints_G = refl

-- sparing 3, 0 2, 1 1: F with 1 carried in on disk 0, and 2 and 3 on disk 1
pub prints_carried : printed (hex 20 0x2020805009200e020180002020200c0804100806) ≡ hex 18 0x73706172696e6720330a3020320a3120310a
unfolding printed hex ◌>>=◌ ◌>>◌ bind give field refuse_if many closing answer read_all stop_at up_to job_up_to slots_field disk_field ref_field carried_blocks carried_field carried_fields ticket_reader ticket_of play load none_resident
prints_carried = refl

-- refused 2
pub prints_K : printed (hex 1 0x00) ≡ hex 10 0x7265667573656420320a
unfolding printed hex ◌>>=◌ ◌>>◌ bind give field refuse_if many closing answer read_all stop_at up_to job_up_to slots_field disk_field ref_field carried_blocks carried_field carried_fields ticket_reader ticket_of
prints_K = refl
