-- Lines written one after the other: what is on the page so far, and what is still to come. Assumes nothing.
use mathlib.Core.Path.{◌≡◌, refl, sym, ap, ◌∙◌}
use mathlib.Core.List.{List, [], ◌++◌, append-nil, append_assoc}
use Prim.Native.Nat.{ℕ, zero, suc, ◌+◌, ◌-◌, ◌*◌, ◌≤◌, ◌<◌}
use native.Mathlib.Omega.{arith}
use lib.Dec.{eqb}
use lib.ListN.{length, take, drop, length-append, length-drop, drop_of_length-le}
use lib.Seq.{take_all}
use Rattle.bits.specs.Bits.{over, laid}
use Rattle.bits.specs.Fields.{field_at, laid_at}
use Rattle.bits.proofs.Fields.{laid_then, laid-over, length-laid}
use Rattle.bits.proofs.Logic.{by_test}
use Rattle.model.specs.Page.{legend, ended}
use Rattle.lines.specs.declared.Place.{Place}
use Rattle.lines.specs.Lines.{line_bytes, value_of, shown_at, place_after, line_at}
use Rattle.printing.specs.Printing.{lines_read, page_read, first_place}

-- a text written at the start of the part of a page from k on
pub text-laid : (k n : ℕ) (text page : List ℕ) {part : List ℕ} → n ≡ length text → k + length text ≤ length page
    → part ≡ over (take n text) (take (length page - k) (drop k page))
    → take k page ++ (part ++ drop (length page - k) (drop k page)) ≡ laid_at k text page
unfolding laid_at
text-laid k n text page {part} e room h =
    let d = length-drop k page in
    let all : take (length page - k) (drop k page) ≡ drop k page = take_all (length page - k) (drop k page) (omega (arith, d)) in
    let none : drop (length page - k) (drop k page) ≡ [] = drop_of_length-le (drop k page) {i = length page - k} (omega (arith, d)) in
    ap (λ (l : List ℕ). take k page ++ l)
    (ap (λ (l : List ℕ). part ++ l) none ∙ append-nil part ∙ h ∙ (λ i. over (take_all n text (omega (arith, e)) i) (all i))
    ∙ sym (laid-over text (drop k page) (omega (arith, d, room))))

-- Before a line: so much is on the page, and the lines from the place on are the rest.
pub record BeforeLine (sheet reasons : List ℕ) (disks count : ℕ) (lent page : List ℕ) (place : Place) : Type 0 where
  pub within : place.line ≤ count
  pub done : List ℕ
  pub wrote : page ≡ laid done lent
  pub long : length done ≡ place.line * 17
  pub rest : done ++ lines_read sheet reasons disks (count - place.line) place ≡ lines_read sheet reasons disks count first_place
  pub near_at : place.at ≤ 12 + place.line * 20
  pub near_round : place.round ≤ 1 + place.line
  pub near_disk : place.disk ≤ place.line

-- an action takes at most 20 bits
shown_next : (sheet : List ℕ) (at : ℕ) → (shown_at sheet at).next ≤ at + 20
unfolding shown_at
shown_next sheet at =
    by_test (eqb (value_of (field_at sheet at 1)) 0)
    (λ y. rw y (omega arith))
    (λ n. by_test (eqb (value_of (field_at sheet (at + 10) 1)) 0) (λ y. rw (n, y) (omega arith)) (λ m. rw (n, m) (omega arith)))

-- the next place is one line on, and its round and disk are at most one more
module _ (p : Place) (next disks : ℕ) where
  after_line : (place_after p next disks).line ≡ p.line + 1
  unfolding place_after
  after_line = by_test (eqb (p.disk + 1) disks) (λ y. rw y refl) (λ n. rw n refl)

  pub line_on : {p' : Place} → p' ≡ place_after p next disks → p'.line ≡ p.line + 1
  line_on e = ap (λ (x : Place). x.line) e ∙ after_line

  after_at : (place_after p next disks).at ≡ next
  unfolding place_after
  after_at = by_test (eqb (p.disk + 1) disks) (λ y. rw y refl) (λ n. rw n refl)

  after-round : (place_after p next disks).round ≤ p.round + 1
  unfolding place_after
  after-round = by_test (eqb (p.disk + 1) disks) (λ y. rw y (omega arith)) (λ n. rw n (omega arith))

  after_disk : (place_after p next disks).disk ≤ p.disk + 1
  unfolding place_after
  after_disk = by_test (eqb (p.disk + 1) disks) (λ y. rw y (omega arith)) (λ n. rw n (omega arith))

module _ {sheet reasons : List ℕ} {disks count : ℕ} {lent : List ℕ} where
  pub line_first : BeforeLine sheet reasons disks count lent lent first_place
  unfolding laid
  line_first = record {
    within = omega arith;
    done = [];
    wrote = refl;
    long = refl;
    rest = ap (λ (n : ℕ). lines_read sheet reasons disks n first_place) (let e : count - 0 ≡ count = omega arith in e);
    near_at = omega arith;
    near_round = omega arith;
    near_disk = omega arith;
  }

  module _ {page : List ℕ} {place : Place} (h : BeforeLine sheet reasons disks count lent page place) where
    -- the line is written where it is due, and the next place follows
    pub line_next : place.line < count → (text : List ℕ) → text ≡ line_at sheet reasons place → {page' : List ℕ} {next : Place}
        → page' ≡ laid_at (place.line * 17) text page
        → next ≡ place_after place (shown_at sheet place.at).next disks → BeforeLine sheet reasons disks count lent page' next
    unfolding lines_read line_bytes laid_at
    line_next more text et {page'} {next} ep en =
        let line = line_at sheet reasons place in
        let after = place_after place (shown_at sheet place.at).next disks in
        let left : count - place.line ≡ suc (count - (place.line + 1)) = omega arith in
        let on = line_on place _ disks en in
        let to = ap (λ (p : Place). p.at) en ∙ after_at place _ disks in
        let in-round = after-round place (shown_at sheet place.at).next disks in
        let of-disk = after_disk place (shown_at sheet place.at).next disks in
        let same-round = ap (λ (p : Place). p.round) en in
        let same-disk = ap (λ (p : Place). p.disk) en in
        let long = h.long in
        let sum = length-append h.done line in
        let at = h.near_at in
        let bits = shown_next sheet place.at in
        let round = h.near_round in
        let disk = h.near_disk in
        record {
          within = omega (arith, on, more);
          done = h.done ++ line;
          wrote = ep ∙ (λ i. laid_at (place.line * 17) (et i) (h.wrote i))
              ∙ laid_then 0 (place.line * 17) h.done line lent (omega (arith, long));
          long = omega (arith, sum, long, on);
          rest = append_assoc h.done line _
              ∙ ap (λ (l : List ℕ). h.done ++ l)
              ((λ i. line ++ lines_read sheet reasons disks (count - on i) (en i))
              ∙ sym (ap (λ (n : ℕ). lines_read sheet reasons disks n place) left))
              ∙ h.rest;
          near_at = omega (arith, on, to, at, bits);
          near_round = omega (arith, on, in-round, same-round, round);
          near_disk = omega (arith, on, of-disk, same-disk, disk);
        }

    -- where the line stands is small
    pub line_small : place.line < count → count ≤ 16384 → (place.at < 400000) × (place.round ≤ 16384) × (place.disk < 16384)
    line_small more few =
        let at = h.near_at in let round = h.near_round in let disk = h.near_disk in
        (omega (arith, at), omega (arith, round), omega (arith, disk))

    -- no line is left
    pub lines_all : count ≤ place.line → page ≡ laid (lines_read sheet reasons disks count first_place) lent
    unfolding lines_read
    lines_all past =
        let none : count - place.line ≡ 0 = omega arith in
        h.wrote ∙ ap (λ (l : List ℕ). laid l lent)
        (sym (append-nil h.done) ∙ ap (λ (l : List ℕ). h.done ++ l) (sym (ap (λ (n : ℕ). lines_read sheet reasons disks n place) none)) ∙ h.rest)

    -- the page keeps its length
    pub lines_length : length page ≡ length lent
    unfolding laid_at
    lines_length = ap length h.wrote ∙ length-laid 0 h.done lent

-- So many lines of 17 bytes each, and the legend after them.
lines_long : (sheet reasons : List ℕ) (disks n : ℕ) (p : Place) → length (lines_read sheet reasons disks n p) ≡ n * 17
unfolding lines_read line_bytes
lines_long sheet reasons disks zero p = refl
lines_long sheet reasons disks (suc n) p =
    let more = lines_long sheet reasons disks n (place_after p (shown_at sheet p.at).next disks) in
    let sum = length-append (line_at sheet reasons p) (lines_read sheet reasons disks n (place_after p (shown_at sheet p.at).next disks)) in
    omega (arith, more, sum)

pub page_put : (sheet reasons : List ℕ) (disks n : ℕ) (lent : List ℕ) {lines page : List ℕ} → lines ≡ laid (lines_read sheet reasons disks n first_place) lent
    → page ≡ laid_at (n * 17) (ended legend) lines → page ≡ laid (page_read sheet reasons disks n) lent
unfolding page_read laid_at
page_put sheet reasons disks n lent el ep =
    let long = lines_long sheet reasons disks n first_place in
    ep ∙ ap (laid_at (n * 17) (ended legend)) el
    ∙ laid_then 0 (n * 17) (lines_read sheet reasons disks n first_place) (ended legend) lent (omega (arith, long))
