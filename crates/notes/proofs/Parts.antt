-- An item by its parts: a block or a note in parentheses, and the count that may follow. Assumes nothing.
use mathlib.Core.Path.{◌≡◌, refl, sym, ap, ◌∙◌}
use Rattle.std.proofs.Common.{Option, Some, None, Result, Ok, Err}
use Rattle.std.specs.Result.{ForOk}
use mathlib.Core.Bool.{true, false}
use mathlib.Core.List.{List, [], ◌∷◌, append-nil}
use mathlib.Core.Logic.{⊎_elim}
use Prim.Native.Nat.{ℕ, suc, ◌+◌, ◌*◌, ◌-◌, ◌≤◌, ◌<◌}
use native.Mathlib.Nat.{mul_comm, le-mul_of_pos_right}
use native.Mathlib.Omega.{arith}
use native.Mathlib.Numerals.{add-one}
use lib.Dec.{ltb}
use lib.ListN.{length, take, drop, get_or, length-drop}
use lib.Seq.{take-suc-set}
use borrow.Author.Tests.{eqb-true, le-leb, ltb-true, ltb-false}
use Rattle.bits.proofs.Logic.{by_test, clash}
use Rattle.grammar.specs.Note.{Part, block, inside, Item, once, times, repeated, part_refs, item_refs, part_count, item_count}
use Rattle.grammar.specs.Reading.{Before, nothing, note_with, begin, read, star, state, is_digit, digit, after_in, stuck, scan}
use Rattle.grammar.proofs.Counts.{part-count_is}
use Rattle.refusal.specs.declared.Refusal.TheVariants.{NoteParentheses}
use Rattle.refusal.specs.Refusals.{number}
use Rattle.pieces.specs.Pieces.{begins_with, first_digit, digits_from, malformed, count_begun, count_at}
use Rattle.pieces.proofs.Laws.{char_at, drop_past, begins_within, digits-place, digits-some}
use Rattle.pieces.specs.declared.Counted.{Counted}
use Rattle.pieces.specs.declared.Met.{Met}
use Rattle.mixing.specs.declared.Place.{Place}
use Rattle.mixing.specs.Room.{capped}
use Rattle.mixing.proofs.Room.{room}
use Rattle.building.specs.declared.Piece.{Piece}
use Rattle.building.specs.Building.{number_at, block_from, block_at, laid_from, block_laid, closed_at, counted_by, counted_at, line_by, counted_line}
use Rattle.building.proofs.Laws.{by_step}
use Rattle.notes.specs.Readers.{Built, Ended, ItemGot, ItemRefused, ItemRead, NoteGot, NoteRefused, NoteRead}
use Rattle.notes.proofs.Lines.{ends_front, ends-refs, ends-laid, cap_few, cap_times}
use Rattle.grammar.proofs.Scan.{scan_on, scan-stuck, scan-deep}
use Rattle.notes.proofs.Scanning.{opens, closes, begins_block, begins_none, stars, counts, drop_tail, digits-scan, digits-stops, block_grows, count_grows, block-ended, inside-ended, times-ended}

-- A part that was read, before the count that may follow.
pub record PartGot (t : List ℕ) (from : Place) (line₀ left₀ line left : List ℕ) (r : Piece) (p : Part) : Type 0 where
  pub further : from.at < r.at
  pub within : r.at ≤ length t
  pub scanned : (b : Before) (o : List Before) → length o + from.depth ≡ 16 → scan (state (begin b) o) (drop from.at t) ≡ scan (state (read b (once p)) o) (drop r.at t)
  pub ended : begins_with 42 (drop r.at t) ≡ false → Ended (once p) (drop r.at t)
  pub counted : r.count ≡ capped (part_count p)
  pub built : from.line + from.left + part_count p ≤ 2048 → Built from (part_refs p) line₀ left₀ line left

abbrev pub PartRead : List ℕ → Place → List ℕ → List ℕ → List ℕ → List ℕ → Result Piece Met → Type 0
PartRead t from line₀ left₀ line left (Ok r) = (p : Part) × PartGot t from line₀ left₀ line left r p
PartRead t from line₀ left₀ line left (Err m) = ItemRefused t from m

-- the character at a place, by a test
pub char_here : (x : ℕ) (t : List ℕ) (at : ℕ) → begins_with x (drop at t) ≡ true → drop at t ≡ x ∷ drop (at + 1) t
unfolding begins_with
char_here x t at e =
    let h = begins_within x t at refl e in
    let s = char_at t at h in
    let f : begins_with x (get_or t at 0 ∷ drop (suc at) t) ≡ true = rw s at e in
    rw (s, add-one, eqb-true (get_or t at 0) x f)

-- the end of a text where an item begins, or another character that begins none
pub begins_wrong : (b : Before) (o : List Before) (l : List ℕ) → first_digit l ≡ None → begins_with 40 l ≡ false → scan (state (begin b) o) l ≡ stuck 22 l
unfolding scan first_digit begins_with
begins_wrong b o [] d e = refl
begins_wrong b o (c ∷ l) d e =
    scan-stuck (state (begin b) o) c l (begins_none b o c e (by_test (is_digit c)
    (λ g. let f = rw g at d in absurd (cc))
    (λ g. g)))

-- the digit with which a text begins
first-digit : (l : List ℕ) {d : ℕ} → first_digit l ≡ Some d → (c : ℕ) × (m : List ℕ) × (l ≡ c ∷ m) × (is_digit c ≡ true) × (d ≡ digit c)
unfolding first_digit
first-digit [] e = absurd (cc)
first-digit (c ∷ l) e = by_test (is_digit c) (λ g. let f = rw g at e in (c, l, refl, g, cc)) (λ g. let f = rw g at e in absurd (cc))

-- a block laid at the end of the line
block-built : (t : List ℕ) (from : Place) (line left : List ℕ) (d : ℕ) → length line ≡ 2048
    → from.line + from.left + 1 ≤ 2048 → Built from ((number_at t from.at d).value ∷ []) line left (laid_from t from line (Some d)) left
block-built t from line left d long h =
    record {
      in_line =
          let r = le-leb (from.line + from.left + 1) 2048 h in
          let w : from.line < length line = omega arith in
          rw (r, add-one from.line) (take-suc-set line from.line (number_at t from.at d).value w);
      on_left = refl;
    }

block-got : (t : List ℕ) (from : Place) (line left : List ℕ) → length line ≡ 2048 → (d : ℕ) → first_digit (drop from.at t) ≡ Some d
    → PartGot t from line left (laid_from t from line (Some d)) left (record { at = (number_at t from.at d).at; count = 1 }) (block (number_at t from.at d).value)
unfolding part_refs part_count
block-got t from line left long d e =
    let at = from.at in
    let n = number_at t at d in
    let f = first-digit (drop at t) e in
    let m = f.1 in
    let is : drop at t ≡ f.0 ∷ m = f.2 in
    let rest : m ≡ drop (at + 1) t = sym (drop_tail t at f.0 m is) ∙ ap (λ (k : ℕ). drop k t) (sym (add-one at)) in
    let some_left : length (drop at t) ≡ suc (length m) = ap length is in
    let place = digits-place 511 d (at + 1) (drop (at + 1) t) in
    record {
      further = omega arith;
      within = let a = length-drop at t in let b = length-drop (at + 1) t in omega arith;
      scanned = λ b o e.
          let few : length o ≤ 16 = omega arith in
          let step = scan_on (state (begin b) o) (state (read b (once (block (digit f.0)))) o) f.0 m (begins_block b o f.0 f.3) few in
          let more = digits-scan (λ v. once (block v)) 511 block_grows b o few t (drop (at + 1) t) d (at + 1) refl in
          ap (scan (state (begin b) o)) is ∙ step ∙ ap (scan (state (read b (once (block (digit f.0)))) o)) rest
          ∙ ap (λ (v : ℕ). scan (state (read b (once (block v))) o) (drop (at + 1) t)) (sym f.4) ∙ more;
      ended = block-ended n.value (drop n.at t) (digits-stops 511 t (drop (at + 1) t) d (at + 1) refl);
      counted = refl;
      built = block-built t from line left d long;
    }

pub block_read : (t : List ℕ) (from : Place) (line left : List ℕ) → length line ≡ 2048 → begins_with 40 (drop from.at t) ≡ false
    → PartRead t from line left (block_laid t from line) left (block_at t from.at)
unfolding block_at block_laid
block_read t from line left long e = go (first_digit (drop from.at t)) refl
  where
    go : (x : Option ℕ) → first_digit (drop from.at t) ≡ x → PartRead t from line left (laid_from t from line x) left (block_from t from.at x)
    go None d = record { met = λ b o h. begins_wrong b o (drop from.at t) d e }
    go (Some d) f = (block (number_at t from.at d).value, block-got t from line left long d f)

-- A parenthesis that opens: one too many, and a note in parentheses.
module _ (t : List ℕ) (from : Place) (e : begins_with 40 (drop from.at t) ≡ true) where
  opened : (b : Before) (o : List Before) → length o + from.depth ≡ 16 → 1 ≤ from.depth
      → scan (state (begin b) o) (drop from.at t) ≡ scan (state (begin nothing) (b ∷ o)) (drop (from.at + 1) t)
  opened b o h k =
      ap (scan (state (begin b) o)) (char_here 40 t from.at e)
      ∙ scan_on (state (begin b) o) (state (begin nothing) (b ∷ o)) 40 (drop (from.at + 1) t) (opens b o) (omega arith)

  pub deep-refused : from.depth ≡ 0 → ItemRefused t from (record { refusal = NoteParentheses; at = from.at })
  deep-refused z =
      record {
        met = λ b o h.
            let is = char_here 40 t from.at e in
            rw is (scan-deep (state (begin b) o) (state (begin nothing) (b ∷ o)) 40 (drop (from.at + 1) t) (opens b o) (omega arith));
      }

  module _ (k : 1 ≤ from.depth) (line₀ left₀ line left : List ℕ) where
    abbrev pub place : Place
    place = record from { at = from.at + 1; depth = from.depth - 1 }

    pub inside-refused : {m : Met} → NoteRefused t place m → ItemRefused t from m
    inside-refused n = record { met = λ b o h. opened b o h k ∙ n.met (b ∷ o) (omega arith) }

    module _ (r : Piece) (b' : Before) (i' : Item) (n : NoteGot t place line₀ left₀ line left r b' i') where
      inside-got : begins_with 41 (drop r.at t) ≡ true → PartGot t from line₀ left₀ line left (record { at = r.at + 1; count = r.count }) (inside (note_with b' i'))
      unfolding part_refs part_count
      inside-got c =
          let w = begins_within 41 t r.at refl c in
          record {
            further = let f = n.further in omega arith;
            within = omega arith;
            scanned = λ b o h.
                opened b o h k ∙ n.scanned (b ∷ o) (omega arith) ∙ ap (scan (state (read b' i') (b ∷ o))) (char_here 41 t r.at c)
                ∙ scan_on (state (read b' i') (b ∷ o)) (state (read b (once (inside (note_with b' i')))) o) 41 (drop (r.at + 1) t) (closes b b' i' o) (omega arith);
            ended = inside-ended (note_with b' i') (drop (r.at + 1) t);
            counted = n.counted;
            built = λ f. let u = n.built f in record { in_line = u.in_line; on_left = u.on_left };
          }

      -- the text ends before the parenthesis closes
      inside_open : begins_with 41 (drop r.at t) ≡ false → ItemRefused t from (malformed r.at)
      unfolding scan
      inside_open c =
          let last : r.at ≡ length t = ⊎_elim (λ w. w) (λ w. clash w c) n.ends in
          let none_left : drop r.at t ≡ [] = drop_past t r.at (omega arith) in
          record { met = λ b o h. opened b o h k ∙ n.scanned (b ∷ o) (omega arith) ∙ rw none_left }

    pub inside-read : (r : Result Piece Met) → NoteRead t place line₀ left₀ line left r
        → PartRead t from line₀ left₀ line left (by_step (closed_at t) r)
    unfolding NoteRead closed_at
    inside-read (Err m) w = inside-refused w
    inside-read (Ok r) w =
        by_test (begins_with 41 (drop r.at t))
        (λ c. rw c (inside (note_with w.0 w.1), inside-got r w.0 w.1 w.2 c))
        (λ c. rw c (inside_open r w.0 w.1 w.2 c))

-- The count that may follow a part.
record CountGot (t : List ℕ) (at : ℕ) (p : Part) (c : Counted) (i : Item) : Type 0 where
  pub from : at ≤ c.at
  pub within : c.at ≤ length t
  pub scanned : (b : Before) (o : List Before) → length o ≤ 16 → scan (state (read b (once p)) o) (drop at t) ≡ scan (state (read b i) o) (drop c.at t)
  pub ended : Ended i (drop c.at t)
  pub some : 1 ≤ c.times
  pub counted : item_count i ≡ c.times * part_count p
  pub refs : item_refs i ≡ repeated c.times (part_refs p)

record CountRefused (t : List ℕ) (at : ℕ) (p : Part) (m : Met) : Type 0 where
  pub met : (b : Before) (o : List Before) → length o ≤ 16 → scan (state (read b (once p)) o) (drop at t) ≡ stuck (number m.refusal) (drop m.at t)

abbrev CountRead : List ℕ → ℕ → Part → Result Counted Met → Type 0
CountRead t at p (Ok c) = (i : Item) × CountGot t at p c i
CountRead t at p (Err m) = CountRefused t at p m

-- the end of a text where a count begins, or another character that begins none
star_wrong : (b : Before) (p : Part) (o : List Before) (l : List ℕ) → ((d : ℕ) → first_digit l ≡ Some d → 0 < d → ⊥) → scan (state (star b p) o) l ≡ stuck 22 l
unfolding scan first_digit after_in
star_wrong b p o [] g = refl
star_wrong b p o (c ∷ l) g =
    scan-stuck (state (star b p) o) c l
    (by_test (is_digit c)
    (λ d. by_test (ltb 0 (digit c)) (λ z. absurd (g (digit c) (rw d) (ltb-true 0 (digit c) z))) (λ z. rw (d, z)))
    (λ d. rw d))

module _ (t : List ℕ) (at : ℕ) (p : Part) where
  count-alone : at ≤ length t → Ended (once p) (drop at t) → CountGot t at p (record { times = 1; at = at }) (once p)
  unfolding item_refs item_count repeated
  count-alone h f =
      record {
        from = omega arith;
        within = h;
        scanned = λ b o few. refl;
        ended = f;
        some = omega arith;
        counted = omega arith;
        refs = sym (append-nil (part_refs p));
      }

  module _ (e : begins_with 42 (drop at t) ≡ true) where
    starred_on : (b : Before) (o : List Before) → length o ≤ 16 → scan (state (read b (once p)) o) (drop at t) ≡ scan (state (star b p) o) (drop (at + 1) t)
    starred_on b o few =
        ap (scan (state (read b (once p)) o)) (char_here 42 t at e)
        ∙ scan_on (state (read b (once p)) o) (state (star b p) o) 42 (drop (at + 1) t) (stars b p o) few

    count-given : (v : ℕ) → first_digit (drop (at + 1) t) ≡ Some v → 0 < v → let n = digits_from 2048 v (at + 2) (drop (at + 2) t) in
        CountGot t at p (record { times = n.value; at = n.at }) (times p n.value)
    unfolding item_refs item_count
    count-given v d some-digit =
        let n = digits_from 2048 v (at + 2) (drop (at + 2) t) in
        let f = first-digit (drop (at + 1) t) d in
        let m = f.1 in
        let is : drop (at + 1) t ≡ f.0 ∷ m = f.2 in
        let two : suc (at + 1) ≡ at + 2 = omega arith in
        let rest : m ≡ drop (at + 2) t = sym (drop_tail t (at + 1) f.0 m is) ∙ ap (λ (k : ℕ). drop k t) two in
        let some_left : length (drop (at + 1) t) ≡ suc (length m) = ap length is in
        let a = length-drop (at + 1) t in
        let b = length-drop (at + 2) t in
        let place = digits-place 2048 v (at + 2) (drop (at + 2) t) in
        record {
          from = omega arith;
          within = omega arith;
          scanned = λ b o few.
              let step = scan_on (state (star b p) o) (state (read b (times p (digit f.0))) o) f.0 m (counts b p o f.0 f.3 (let s = f.4 in omega (arith, s))) few in
              let more = digits-scan (times p) 2048 (count_grows p) b o few t (drop (at + 2) t) v (at + 2) refl in
              starred_on b o few ∙ ap (scan (state (star b p) o)) is ∙ step ∙ ap (scan (state (read b (times p (digit f.0))) o)) rest
              ∙ ap (λ (k : ℕ). scan (state (read b (times p k)) o) (drop (at + 2) t)) (sym f.4) ∙ more;
          ended = times-ended p n.value (drop n.at t) (digits-stops 2048 t (drop (at + 2) t) v (at + 2) refl);
          some = digits-some 2048 v (at + 2) (drop (at + 2) t) some-digit;
          counted = refl;
          refs = refl;
        }

    count-missing : ((d : ℕ) → first_digit (drop (at + 1) t) ≡ Some d → 0 < d → ⊥) → CountRefused t at p (malformed (at + 1))
    count-missing f = record { met = λ b o few. starred_on b o few ∙ star_wrong b p o (drop (at + 1) t) f }

    count-starred : (x : Option ℕ) → first_digit (drop (at + 1) t) ≡ x → CountRead t at p (count_begun t at x)
    count-starred None d = count-missing (λ v e h. cc)
    count-starred (Some v) d =
        by_test (ltb 0 v)
        (λ z. rw z (times p _, count-given v d (ltb-true 0 v z)))
        (λ z. rw z (count-missing (λ w e h. let same : v ≡ w = cc in let none = ltb-false 0 v z in omega arith)))

  count-read : at ≤ length t → (begins_with 42 (drop at t) ≡ false → Ended (once p) (drop at t)) → CountRead t at p (count_at t at)
  unfolding count_at
  count-read h f =
      by_test (begins_with 42 (drop at t))
      (λ e. rw e (count-starred e (first_digit (drop (at + 1) t)) refl))
      (λ e. rw e (once p, count-alone h (f e)))

-- A part and its count, repeated at the end of the line.
module _ (t : List ℕ) (from : Place) (line₀ left₀ line left : List ℕ) (part : Piece) (long : length line ≡ 2048) (p : Part) (g : PartGot t from line₀ left₀ line left part p) where
  module _ (c : Counted) (i : Item) (q : CountGot t part.at p c i) where
    repeated-built : from.line + from.left + item_count i ≤ 2048 → Built from (item_refs i) line₀ left₀ (line_by part from line (Ok c)) left
    repeated-built f =
        let most : part_count p ≤ part_count p * c.times = le-mul_of_pos_right (part_count p) q.some in
        let turned = mul_comm (part_count p) c.times in
        let all = q.counted in
        let few : from.line + from.left + part_count p ≤ 2048 = omega arith in
        let n : part.count ≡ part_count p = g.counted ∙ cap_few (part_count p) (omega arith) in
        let u = g.built few in
        let is = part-count_is p in
        let fits : from.line + length (part_refs p) ≤ length line = omega arith in
        let front = ends_front from.line line₀ (part_refs p) line fits u.in_line in
        let own : take part.count (drop from.line line) ≡ part_refs p = rw (n, ← is) (ends-refs from.line line₀ (part_refs p) line fits u.in_line) in
        let fits : from.line + from.left + part.count * c.times ≤ 2048 = rw n (omega arith) in
        let refs : repeated c.times (take part.count (drop from.line line)) ≡ item_refs i = rw own (sym q.refs) in
        record {
          in_line = rw (room from (part.count * c.times) fits, refs) (ends-laid from.line line₀ (item_refs i) line _ (omega arith) front);
          on_left = u.on_left;
        }

    counted-got : ItemGot t from line₀ left₀ (line_by part from line (Ok c)) left (record { at = c.at; count = capped (part.count * c.times) }) i
    counted-got =
        record {
          further = let a = g.further in let b = q.from in omega arith;
          within = q.within;
          scanned = λ b o h. g.scanned b o h ∙ q.scanned b o (omega arith);
          ended = q.ended;
          counted = rw (g.counted, q.counted) (cap_times (part_count p) c.times q.some);
          built = repeated-built;
        }

  part_counted : (x : Result Counted Met) → CountRead t part.at p x → ItemRead t from line₀ left₀ (line_by part from line x) left (counted_by part x)
  unfolding ItemRead
  part_counted (Ok c) w = (w.0, counted-got c w.0 w.1)
  part_counted (Err m) w = record { met = λ b o h. g.scanned b o h ∙ w.met b o (omega arith) }

-- What was read of a part, with the count that may follow; a part that was refused stays refused.
module _ (t : List ℕ) (from : Place) (line₀ left₀ line left : List ℕ) where
  pub counted-read : (r : Result Piece Met) → length line ≡ 2048 → PartRead t from line₀ left₀ line left r
      → ItemRead t from line₀ left₀ (counted_line t r from line) left (by_step (counted_at t) r)
  unfolding ItemRead counted_line counted_at
  counted-read (Ok r) long w =
      part_counted t from line₀ left₀ line left r long w.0 w.1 (count_at t r.at) (count-read t r.at w.0 w.1.within w.1.ended)
  counted-read (Err m) long w = w

  -- a part's count is at most 2049
  pub part-few : (r : Result Piece Met) → PartRead t from line₀ left₀ line left r → ForOk r (λ p. p.count ≤ 2049)
  part-few (Ok r) w p e = let n = w.1.counted in let is : r ≡ p = cc in rw (← is) (omega arith)
  part-few (Err m) w p e = absurd (cc)
