-- `fill` meets its contract: part by part, what was read is what the ticket's reader reads. Assumes nothing.
use Rattle.std.proofs.Common.{◌≡◌, Result, Ok, sym, ap, ◌∙◌, ℕ, List, ◌<◌, ◌≤◌, length, arith}
use lib.ListN.{take}
use Rattle.refusal.specs.declared.Refusal.{Refusal}
use Rattle.bits.specs.Bits.{Below}
use Rattle.entries.specs.declared.Row.{Row}
use Rattle.entries.specs.declared.Part.{Part}
use Rattle.entries.specs.declared.Unread.{Unread}
use Rattle.ticket.specs.Rows.{disk_row, ref_row}
use Rattle.ticket.proofs.Stages.{slots_part, disks_part, refs_part, Slots, Disks, Refs, slots-got, disks_got, refs-got}
use Rattle.ticket.proofs.Stages.{slots-refused, disks_refused, refs-refused, end_refused, end_closing, accepted}
use Rattle.ticket.proofs.Ending.{all_near}
use Rattle.ticket.proofs.Tables.{got-counted, got-small}
use Rattle.ticket.proofs.fill.Goals as goal

-- The three parts, each read into its table: the reader has them too.

module _ (t : List ℕ) {p : Part} {slots : List ℕ} {x : Result Part (Unread Refusal)} (e : x ≡ (slots_part t).part) (s : slots ≡ (slots_part t).table)
    (was : x ≡ Ok p) where
  first : Slots t p slots
  first = slots-got t (sym e ∙ was) s

  first_row : {row : Row Refusal} → row ≡ disk_row p.count → row.limit ≤ 65536
  first_row is = let a = first in let limit = ap (λ (x : Row Refusal). x.limit) is in omega (arith, limit, a.below)

  first_next : p.next < 65000
  first_next = let a = first in omega (arith, a.below, a.next)

  module _ {q : Part} {disk : List ℕ} {row : Row Refusal} (is : row ≡ disk_row p.count) {x₂ : Result Part (Unread Refusal)}
      (e₂ : x₂ ≡ (disks_part t p.next row).part)
      (s₂ : disk ≡ (disks_part t p.next row).table) (was₂ : x₂ ≡ Ok q) where
    second : Disks t p first.values q disk
    second = disks_got t first is (sym e₂ ∙ was₂) s₂

    second_row : {row₂ : Row Refusal} → row₂ ≡ ref_row q.count → row₂.limit ≤ 65536
    second_row is₂ = let b = second in let limit = ap (λ (x : Row Refusal). x.limit) is₂ in omega (arith, limit, b.below)

    second_next : q.next < 65000
    second_next = let a = first in let b = second in omega (arith, a.below, a.next, b.below, b.next)

    module _ {r : Part} {refs : List ℕ} {row₂ : Row Refusal} (is₂ : row₂ ≡ ref_row q.count) {x₃ : Result Part (Unread Refusal)}
        (e₃ : x₃ ≡ (refs_part t q.next row₂).part)
        (s₃ : refs ≡ (refs_part t q.next row₂).table) (was₃ : x₃ ≡ Ok r) where
      third : Refs t first.values q second.values r refs
      third = refs-got t first second is₂ (sym e₃ ∙ was₃) s₃

      end_within : (r.next < 60000) × (length (take p.count slots) ≤ 8) × Below 65 (take p.count slots) × (length (take q.count disk) ≤ 512)
      end_within =
          let a = first in
          let b = second in
          let d = third in
          let few = got-counted a in
          let most = got-counted b in (
            omega (arith, a.below, a.next, b.below, b.next, d.below, d.next),
            omega (arith, few, a.below),
            got-small a,
            omega (arith, most, b.below),
          )

pub returns-in_err-disks : goal.returns-in_err-disks
returns-in_err-disks c =
    let disks = rw c.requires at c.table_part.ensures in
    let e = slots-refused c.args.t.now (sym disks.value ∙ c.in_err-disks.was) in
    grind (arith, e)

pub table_part-requires-2-clause-limit_bound : goal.table_part-requires-2-clause-limit_bound
table_part-requires-2-clause-limit_bound c =
    let disks = rw c.requires at c.table_part.ensures in first_row c.args.t.now disks.value disks.table_after c.in_ok-disks.was c.disk_row.ensures

pub table_part-requires-2-clause-at_bound : goal.table_part-requires-2-clause-at_bound
table_part-requires-2-clause-at_bound c =
    let disks = rw c.requires at c.table_part.ensures in first_next c.args.t.now disks.value disks.table_after c.in_ok-disks.was

pub returns-in_err-blocks : goal.returns-in_err-blocks
returns-in_err-blocks c =
    let disks = rw c.requires at c.table_part.ensures in
    let blocks = rw c.requires at c.table_part-2.ensures in
    let a = first c.args.t.now disks.value disks.table_after c.in_ok-disks.was in
    let e = disks_refused c.args.t.now a c.disk_row.ensures (sym blocks.value ∙ c.in_err-blocks.was) in
    grind (arith, e)

pub table_part-requires-3-clause-limit_bound : goal.table_part-requires-3-clause-limit_bound
table_part-requires-3-clause-limit_bound c =
    let disks = rw c.requires at c.table_part.ensures in
    let blocks = rw c.requires at c.table_part-2.ensures in
    second_row c.args.t.now disks.value disks.table_after c.in_ok-disks.was
    c.disk_row.ensures blocks.value blocks.table_after c.in_ok-blocks.was c.ref_row.ensures

pub table_part-requires-3-clause-at_bound : goal.table_part-requires-3-clause-at_bound
table_part-requires-3-clause-at_bound c =
    let disks = rw c.requires at c.table_part.ensures in
    let blocks = rw c.requires at c.table_part-2.ensures in
    second_next c.args.t.now disks.value disks.table_after c.in_ok-disks.was
    c.disk_row.ensures blocks.value blocks.table_after c.in_ok-blocks.was

pub returns-in_err-references : goal.returns-in_err-references
returns-in_err-references c =
    let disks = rw c.requires at c.table_part.ensures in
    let blocks = rw c.requires at c.table_part-2.ensures in
    let t = c.args.t.now in
    let a = first t disks.value disks.table_after c.in_ok-disks.was in
    let b = second t disks.value disks.table_after c.in_ok-disks.was c.disk_row.ensures blocks.value blocks.table_after c.in_ok-blocks.was in
    let references = rw c.requires at c.table_part-3.ensures in
    let e = refs-refused t a b c.ref_row.ensures (sym references.value ∙ c.in_err-references.was) in
    grind (arith, e)

pub shared_ref_as_front-slots : goal.shared_ref_as_front-slots
shared_ref_as_front-slots c =
    let disks = rw c.requires at c.table_part.ensures in
    let a = first c.args.t.now disks.value disks.table_after c.in_ok-disks.was in
    omega (arith, a.below)

pub shared_ref_as_front-disk : goal.shared_ref_as_front-disk
shared_ref_as_front-disk c =
    let disks = rw c.requires at c.table_part.ensures in
    let blocks = rw c.requires at c.table_part-2.ensures in
    let b =
    second c.args.t.now disks.value disks.table_after c.in_ok-disks.was
    c.disk_row.ensures blocks.value blocks.table_after c.in_ok-blocks.was
    in
    omega (arith, b.below)

pub carried_part-end-requires : goal.carried_part-end-requires
carried_part-end-requires c =
    let disks = rw c.requires at c.table_part.ensures in
    let blocks = rw c.requires at c.table_part-2.ensures in
    let references = rw c.requires at c.table_part-3.ensures in
    end_within c.args.t.now disks.value disks.table_after c.in_ok-disks.was
    c.disk_row.ensures blocks.value blocks.table_after c.in_ok-blocks.was
    c.ref_row.ensures references.value references.table_after c.in_ok-references.was

pub returns-in_err-next : goal.returns-in_err-next
returns-in_err-next c =
    let disks = rw c.requires at c.table_part.ensures in
    let blocks = rw c.requires at c.table_part-2.ensures in
    let references = rw c.requires at c.table_part-3.ensures in
    let t = c.args.t.now in
    let a = first t disks.value disks.table_after c.in_ok-disks.was in
    let b = second t disks.value disks.table_after c.in_ok-disks.was c.disk_row.ensures blocks.value blocks.table_after c.in_ok-blocks.was in
    let d =
    third t disks.value disks.table_after c.in_ok-disks.was c.disk_row.ensures blocks.value blocks.table_after c.in_ok-blocks.was
    c.ref_row.ensures references.value references.table_after c.in_ok-references.was
    in
    let end = rw c.requires at c.carried_part-end.ensures in
    let e = end_refused t a b d (sym end.0 ∙ c.in_err-next.was) in
    grind (arith, e)

pub closed-requires : goal.closed-requires
closed-requires c =
    let disks = rw c.requires at c.table_part.ensures in
    let blocks = rw c.requires at c.table_part-2.ensures in
    let references = rw c.requires at c.table_part-3.ensures in
    let within =
    end_within c.args.t.now disks.value disks.table_after c.in_ok-disks.was
    c.disk_row.ensures blocks.value blocks.table_after c.in_ok-blocks.was
    c.ref_row.ensures references.value references.table_after c.in_ok-references.was
    in
    let near = all_near _ _ _ _ _ _ within.2 within.1 (sym (rw c.requires at c.carried_part-end.ensures).0 ∙ c.in_ok-next.was) in
    omega (arith, near, within.0)

pub returns-then-not-closed : goal.returns-then-not-closed
returns-then-not-closed c =
    let disks = rw c.requires at c.table_part.ensures in
    let blocks = rw c.requires at c.table_part-2.ensures in
    let references = rw c.requires at c.table_part-3.ensures in
    let t = c.args.t.now in
    let a = first t disks.value disks.table_after c.in_ok-disks.was in
    let b = second t disks.value disks.table_after c.in_ok-disks.was c.disk_row.ensures blocks.value blocks.table_after c.in_ok-blocks.was in
    let d =
    third t disks.value disks.table_after c.in_ok-disks.was c.disk_row.ensures blocks.value blocks.table_after c.in_ok-blocks.was
    c.ref_row.ensures references.value references.table_after c.in_ok-references.was
    in
    sym (end_closing t a b d (sym (rw c.requires at c.carried_part-end.ensures).0 ∙ c.in_ok-next.was) (sym c.closed.ensures ∙ c.if-not-closed.true))

pub returns : goal.returns
returns c =
    let disks = rw c.requires at c.table_part.ensures in
    let blocks = rw c.requires at c.table_part-2.ensures in
    let references = rw c.requires at c.table_part-3.ensures in
    let t = c.args.t.now in
    let a = first t disks.value disks.table_after c.in_ok-disks.was in
    let b = second t disks.value disks.table_after c.in_ok-disks.was c.disk_row.ensures blocks.value blocks.table_after c.in_ok-blocks.was in
    let d =
    third t disks.value disks.table_after c.in_ok-disks.was c.disk_row.ensures blocks.value blocks.table_after c.in_ok-blocks.was
    c.ref_row.ensures references.value references.table_after c.in_ok-references.was
    in
    let end = rw c.requires at c.carried_part-end.ensures in
    sym (accepted t a b d (sym end.0 ∙ c.in_ok-next.was) end.1 end.2 (sym c.closed.ensures ∙ c.if-not-closed.false))
