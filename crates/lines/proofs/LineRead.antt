-- The line read back from the action of a choice and its reason is the line of the choice. Assumes nothing.
use mathlib.Core.Path.{◌≡◌, refl, sym, ap, ◌∙◌}
use mathlib.Core.List.{List, [], ◌∷◌, ◌++◌, append_assoc}
use Prim.Native.Nat.{ℕ, ◌+◌, ◌*◌, ◌%◌, ◌≤◌, ◌<◌}
use native.Mathlib.Omega.{arith}
use Rattle.std.specs.Prelude.{None}
use lib.ListN.{length, get_or, drop, length-append, length-drop}
use lib.Seq.{drop-drop, drop-append_seam, get_or-drop}
use borrow.Author.Tests.{le-leb}
use Rattle.bits.specs.Bits.{digits, bits, leading}
use Rattle.bits.specs.Fields.{field_at}
use Rattle.bits.proofs.Bits.{length_digits, length-bits}
use Rattle.bits.proofs.Leading.{leading_front, leading-digits}
use Rattle.model.specs.Rules.{Choice, into_empty, over_min_block, min_block_sooner, waits, none_missing, action}
use Rattle.model.specs.Sheet.{action_bits}
use Rattle.model.specs.Page.{fetched_block, discarded_block, line_of, reason}
use Rattle.model.proofs.Page.{SmallChoice}
use Rattle.lines.specs.declared.Shown.{Shown}
use Rattle.lines.specs.declared.Place.{Place}
use Rattle.lines.specs.Lines.{line_bytes, value_of, shown_at, line_at}
use Rattle.lines.proofs.Laws.{shown_idle, shown_fetch, shown_replace}
use Rattle.lines.proofs.Columns.{block_as, line_columns}

-- What stands at a bit of the sheet: a field there has the value of its bits, and what follows it stands after it.
module _ (sheet : List ℕ) (at : ℕ) where
  value_front : (w : ℕ) (front rest : List ℕ) → drop at (bits sheet) ≡ front ++ rest → length front ≡ w → 0 < w
      → value_of (field_at sheet at w) ≡ leading w 0 front
  unfolding field_at
  value_front w front rest e n some =
      let whole = length-bits sheet in
      let left = length-drop at (bits sheet) in
      let long = ap length e ∙ length-append front rest in
      let fits : at + w ≤ length sheet * 8 = omega (arith, whole, left, long, n, some) in
      rw (le-leb (at + w) (length sheet * 8) fits)
      (ap (leading w 0) e ∙ leading_front w 0 front rest (omega (arith, n)))

  value_bit : (b : ℕ) (rest : List ℕ) → drop at (bits sheet) ≡ b ∷ rest → value_of (field_at sheet at 1) ≡ b
  unfolding leading
  value_bit b rest e = value_front 1 (b ∷ []) rest e refl (omega arith) ∙ (let z : 0 * 2 + b ≡ b = omega arith in z)

  value_block : (x : ℕ) (rest : List ℕ) → x < 512 → drop at (bits sheet) ≡ digits 9 x ++ rest → value_of (field_at sheet at 9) ≡ x
  value_block x rest l e =
      value_front 9 (digits 9 x) rest e (length_digits 9 x) (omega arith) ∙ leading-digits 9 0 x
      ∙ (let z : 0 * 512 + x % 512 ≡ x = omega arith in z)

  pub after_front : (n : ℕ) (front rest : List ℕ) → drop at (bits sheet) ≡ front ++ rest → length front ≡ n → drop (at + n) (bits sheet) ≡ rest
  after_front n front rest e l =
      sym (drop-drop n at (bits sheet)) ∙ (λ i. drop (sym l i) (e i)) ∙ drop-append_seam front rest

-- The action that begins there is the choice's, with the bit after it.
abbrev shown_of : Choice → ℕ → Shown
shown_of c next = record { fetched = block_as (fetched_block c); discarded = block_as (discarded_block c); next = next }

not-zero : {n : ℕ} → n ≡ 1 → n ≡ 0 → ⊥
not-zero e z = omega (arith, e, z)

module _ (sheet : List ℕ) (at : ℕ) where
  idle_shown : (rest : List ℕ) → drop at (bits sheet) ≡ 0 ∷ rest → shown_at sheet at ≡ record { fetched = None; discarded = None; next = at + 1 }
  idle_shown rest e = shown_idle sheet at (value_bit sheet at 0 rest e)

  pub choice_shown : (c : Choice) → SmallChoice c → (rest : List ℕ) → drop at (bits sheet) ≡ action_bits (action c) ++ rest
      → shown_at sheet at ≡ shown_of c (at + length (action_bits (action c)))
  unfolding action_bits
  choice_shown (into_empty u) small rest e =
      let after : drop (at + 1) (bits sheet) ≡ digits 9 u ++ (0 ∷ rest) =
      after_front sheet at 1 (1 ∷ []) _ e refl ∙ append_assoc (digits 9 u) (0 ∷ []) rest in
      let last = after_front sheet (at + 1) 9 (digits 9 u) (0 ∷ rest) after (length_digits 9 u) in
      let ten : at + 1 + 9 ≡ at + 10 = omega arith in
      let long = length-append (digits 9 u) (0 ∷ []) in
      let d = length_digits 9 u in
      shown_fetch sheet at (not-zero (value_bit sheet at 1 _ e))
      (value_bit sheet (at + 10) 0 rest (ap (λ (n : ℕ). drop n (bits sheet)) (sym ten) ∙ last)) u (sym (value_block sheet (at + 1) u (0 ∷ rest) small after))
      ∙ ap (shown_of (into_empty u)) (omega (arith, long, d))
  choice_shown (over_min_block u v) small rest e =
      let after : drop (at + 1) (bits sheet) ≡ digits 9 u ++ (1 ∷ (digits 9 v ++ rest)) =
      after_front sheet at 1 (1 ∷ []) _ e refl ∙ append_assoc (digits 9 u) (1 ∷ digits 9 v) rest in
      let last = after_front sheet (at + 1) 9 (digits 9 u) (1 ∷ (digits 9 v ++ rest)) after (length_digits 9 u) in
      let ten : at + 1 + 9 ≡ at + 10 = omega arith in
      let there : drop (at + 10) (bits sheet) ≡ 1 ∷ (digits 9 v ++ rest) = ap (λ (n : ℕ). drop n (bits sheet)) (sym ten) ∙ last in
      let eleven : at + 10 + 1 ≡ at + 11 = omega arith in
      let end = ap (λ (n : ℕ). drop n (bits sheet)) (sym eleven) ∙ after_front sheet (at + 10) 1 (1 ∷ []) (digits 9 v ++ rest) there refl in
      let long = length-append (digits 9 u) (1 ∷ digits 9 v) in
      let d = length_digits 9 u in
      let f = length_digits 9 v in
      shown_replace sheet at (not-zero (value_bit sheet at 1 _ e)) (not-zero (value_bit sheet (at + 10) 1 _ there))
      u v (sym (value_block sheet (at + 1) u _ small.0 after)) (sym (value_block sheet (at + 11) v rest small.1 end))
      ∙ ap (shown_of (over_min_block u v)) (omega (arith, long, d, f))
  choice_shown min_block_sooner small rest e = idle_shown rest e
  choice_shown waits small rest e = idle_shown rest e
  choice_shown none_missing small rest e = idle_shown rest e

-- The place of a line, by its numbers.
abbrev pub place_at : ℕ → ℕ → ℕ → ℕ → Place
place_at line at round disk = record { line = line; at = at; round = round; disk = disk }

-- A line: its action begins at the place's bit, and its reason stands at the place's line.
module _ (sheet reasons : List ℕ) where
  reason_here : (line r : ℕ) (rest : List ℕ) → drop line reasons ≡ r ∷ rest → get_or reasons line 0 ≡ r
  reason_here line r rest e =
      let z : line + 0 ≡ line = omega arith in
      ap (λ (n : ℕ). get_or reasons n 0) (sym z) ∙ sym (get_or-drop line reasons 0 0) ∙ ap (λ (l : List ℕ). get_or l 0 0) e

  pub line_read : (line at round disk : ℕ) (c : Choice) → SmallChoice c → round < 10000 → disk < 10 → (rest more : List ℕ)
      → drop at (bits sheet) ≡ action_bits (action c) ++ rest → drop line reasons ≡ reason c ∷ more
      → line_at sheet reasons (place_at line at round disk) ≡ line_of round disk c
  line_read line at round disk c small p q rest more e r =
      (λ i. let a = choice_shown sheet at c small rest e i in line_bytes round disk a.fetched a.discarded (reason_here line (reason c) more r i))
      ∙ line_columns round disk c p q small
