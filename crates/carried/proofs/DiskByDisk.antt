-- The parts of the disks one after the other: what one more disk does, as the loop does it. Assumes nothing.
use mathlib.Core.Path.{◌≡◌, refl, sym, ap, ◌∙◌}
use mathlib.Core.List.{List}
use Prim.Native.Nat.{ℕ, ◌+◌, ◌*◌, ◌≤◌, ◌<◌}
use native.Mathlib.Numerals.{add-one}
use native.Mathlib.Omega.{arith}
use lib.ListN.{length, get_or, drop, set, drop_of_length-le}
use lib.Seq.{drop-cons}
use Rattle.std.specs.Prelude.{Result, Ok, Err}
use Rattle.refusal.specs.declared.Refusal.{Refusal}
use Rattle.entries.specs.Parts.{unread_refusal}
use Rattle.carried.specs.Carried.{disk_part, Carried, carried_by, carried_parts, Gives}
use Rattle.entries.specs.declared.Part.{Part}
use Rattle.entries.specs.declared.Unread.{Unread}

-- Where the loop over the disks stands: the answer is what the rest gives from here.
pub record AllGoing (t disks : List ℕ) (at : ℕ) (slots lentHeld lent : List ℕ) (next d : ℕ) (held table : List ℕ) : Type 0 where
  pub few : d ≤ length slots
  pub near : next ≤ at + d * 583
  pub rest : carried_parts t disks at 0 slots lentHeld lent ≡ carried_parts t disks next d (drop d slots) held table

by_three : (c : Carried) {part : Result Part Refusal} {held table : List ℕ} → c ≡ record { part = part; held = held; table = table }
    → Gives c part held table
by_three c e = (sym (ap (λ (x : Carried). x.part) e), sym (ap (λ (x : Carried). x.held) e), sym (ap (λ (x : Carried). x.table) e))

module _ (t disks : List ℕ) (at : ℕ) (slots lentHeld lent : List ℕ) where
  pub all_start : AllGoing t disks at slots lentHeld lent at 0 lentHeld lent
  all_start = record { few = omega arith; near = omega arith; rest = refl }

module _ {t disks : List ℕ} {at : ℕ} {slots lentHeld lent : List ℕ} {next d : ℕ} {held table : List ℕ}
    (h : AllGoing t disks at slots lentHeld lent next d held table) where
  -- where disks are left, the next one decides
  all_by : {p : Result Part (Unread Refusal)} {left : List ℕ} → d < length slots → p ≡ (disk_part t disks next d (get_or slots d 0) table).part
      → left ≡ (disk_part t disks next d (get_or slots d 0) table).table
      → carried_parts t disks at 0 slots lentHeld lent
      ≡ carried_by p held left (λ q. carried_parts t disks q.next (d + 1) (drop (d + 1) slots) (set held d q.count) left)
  unfolding carried_parts
  all_by l e s =
      h.rest ∙ ap (λ (s : List ℕ). carried_parts t disks next d s held table) (drop-cons slots d 0 l) ∙ rw (e, s) (simp add-one)

  module _ {left : List ℕ} (l : d < length slots) (s : left ≡ (disk_part t disks next d (get_or slots d 0) table).table) where
    pub all_on : {p : Part} → (disk_part t disks next d (get_or slots d 0) table).part ≡ Ok p → p.next ≤ next + 583
        → AllGoing t disks at slots lentHeld lent p.next (d + 1) (set held d p.count) left
    unfolding carried_by
    all_on e near = record {
      few = omega arith;
      near = (let a = h.near in omega (arith, a, near));
      rest = all_by l (sym e) s;
    }

    pub all_stopped : {r : Unread Refusal} → (disk_part t disks next d (get_or slots d 0) table).part ≡ Err r
        → Gives (carried_parts t disks at 0 slots lentHeld lent) (Err (unread_refusal r)) held left
    unfolding carried_by
    all_stopped e = by_three (carried_parts t disks at 0 slots lentHeld lent) (all_by l (sym e) s)

  pub all_whole : length slots ≤ d
      → Gives (carried_parts t disks at 0 slots lentHeld lent) (Ok (record { count = length slots; next = next })) held table
  unfolding carried_parts
  all_whole l =
      let all : d ≡ length slots = (let most = h.few in omega (arith, most, l)) in
      by_three (carried_parts t disks at 0 slots lentHeld lent)
      (h.rest ∙ ap (λ (s : List ℕ). carried_parts t disks next d s held table) (drop_of_length-le slots {i = d} l)
      ∙ (λ i. record { part = Ok (record { count = all i; next = next }); held = held; table = table }))
