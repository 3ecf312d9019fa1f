-- The page read back from a plan's sheet and reasons is the page of the plan. Assumes nothing.
use mathlib.Core.Path.{◌≡◌, refl, sym, ap, ap₂, ◌∙◌}
use mathlib.Core.List.{List, [], ◌∷◌, ◌++◌, map, append_assoc, append-nil}
use Prim.Native.Nat.{ℕ, suc, ◌+◌, ◌-◌, ◌*◌, ◌≤◌, ◌<◌}
use native.Mathlib.Nat.{suc-mul, zero-mul}
use native.Mathlib.Numerals.{add-one}
use native.Mathlib.Omega.{arith}
use lib.ListN.{length, drop, replicate, length-append, length-map}
use lib.Seq.{drop-drop, drop-append_seam}
use Rattle.bits.specs.Bits.{digits, bits, bytes, over, laid}
use Rattle.bits.proofs.Logic.{Each}
use Rattle.bits.proofs.Bits.{length_digits, bits-bytes}
use Rattle.bits.proofs.Fields.{laid-over}
use Rattle.model.specs.Rules.{Choice, action}
use Rattle.model.specs.Sheet.{action_bits, round_bits, rounds_bits, sheet_bits}
use Rattle.model.specs.Page.{line_of, round_lines, lines_from, legend, ended, page_of, reason, reasons_of}
use Rattle.model.proofs.Bytes.{sheet-bits}
use Rattle.model.proofs.Page.{SmallChoice, SmallRounds}
use Rattle.lines.specs.declared.Shown.{Shown}
use Rattle.lines.specs.declared.Place.{Place}
use Rattle.lines.specs.Lines.{place_after}
use Rattle.lines.proofs.Laws.{place-round, place_disk}
use Rattle.lines.proofs.LineRead.{after_front, choice_shown, place_at, line_read}
use Rattle.printing.specs.Printing.{lines_read, page_read}

-- The lines of a round: its actions begin at the place's bit, and its reasons at the place's line.
module _ (sheet reasons : List ℕ) (disks : ℕ) (few : disks ≤ 8) where
  -- the reasons after that of a line
  reasons_after : (line r : ℕ) (rest : List ℕ) → drop line reasons ≡ r ∷ rest → drop (line + 1) reasons ≡ rest
  reasons_after line r rest e = sym (drop-drop 1 line reasons) ∙ ap (drop 1) e

  -- one line and those after it,
  line_step : (line at round disk m : ℕ) (c : Choice) → SmallChoice c → round < 10000 → disk < 10 → (rest more : List ℕ)
      → drop at (bits sheet) ≡ action_bits (action c) ++ rest → drop line reasons ≡ reason c ∷ more
      → lines_read sheet reasons disks (suc m) (place_at line at round disk)
      ≡ line_of round disk c ++ lines_read sheet reasons disks m (place_after (place_at line at round disk) (at + length (action_bits (action c))) disks)
  unfolding lines_read
  line_step line at round disk m c small p q rest more e r =
      ap₂ (λ (l : List ℕ) (a : Shown). l ++ lines_read sheet reasons disks m (place_after (place_at line at round disk) a.next disks))
      (line_read sheet reasons line at round disk c small p q rest more e r) (choice_shown sheet at c small rest e)

  -- and the lines from a disk on, to the round's last
  round-read : (choices : List Choice) → Each SmallChoice choices → (line at round disk n : ℕ) → disk + length choices ≡ disks → disk < disks → round < 10000
      → (rest more : List ℕ) → drop at (bits sheet) ≡ round_bits (map action choices) ++ rest → drop line reasons ≡ map reason choices ++ more
      → lines_read sheet reasons disks (length choices + n) (place_at line at round disk)
      ≡ round_lines round disk choices
      ++ lines_read sheet reasons disks n (place_at (line + length choices) (at + length (round_bits (map action choices))) (round + 1) 0)
  unfolding round_lines round_bits Each
  round-read [] small line at round disk n sum due p rest more e r = absurd (omega arith)
  round-read (c ∷ []) small line at round disk n sum due p rest more e r =
      let one : length {A = Choice} (c ∷ []) + n ≡ suc n = omega arith in
      let bitsAfter = ap length (append-nil (action_bits (action c))) in
      ap (λ (k : ℕ). lines_read sheet reasons disks k (place_at line at round disk)) one
      ∙ line_step line at round disk n c small.0 p (omega arith) rest more (e ∙ ap (λ (l : List ℕ). l ++ rest) (append-nil (action_bits (action c)))) r
      ∙ ap₂ (λ (l : List ℕ) (q : Place). l ++ lines_read sheet reasons disks n q) (sym (append-nil (line_of round disk c)))
      (place-round (place_at line at round disk) _ disks sum ∙ ap (λ (k : ℕ). place_at (line + 1) (at + k) (round + 1) 0) (sym bitsAfter))
  round-read (c ∷ d ∷ choices) small line at round disk n sum due p rest more e r =
      let here = action_bits (action c) in
      let later = round_bits (map action (d ∷ choices)) in
      let one : length (c ∷ d ∷ choices) + n ≡ suc (length (d ∷ choices) + n) = omega arith in
      let standing = e ∙ append_assoc here later rest in
      let next : length (c ∷ d ∷ choices) ≡ 1 + length (d ∷ choices) = omega arith in
      let long = length-append here later in
      ap (λ (k : ℕ). lines_read sheet reasons disks k (place_at line at round disk)) one
      ∙ line_step line at round disk (length (d ∷ choices) + n) c small.0 p (omega arith) (later ++ rest) (map reason (d ∷ choices) ++ more) standing r
      ∙ ap (λ (q : Place). line_of round disk c ++ lines_read sheet reasons disks (length (d ∷ choices) + n) q)
      (place_disk (place_at line at round disk) _ disks (λ x. absurd (omega (arith, x, sum))))
      ∙ ap (λ (l : List ℕ). line_of round disk c ++ l)
      (round-read (d ∷ choices) small.1 (line + 1) (at + length here) round (disk + 1) n (omega (arith, sum)) (omega (arith, sum)) p rest more
      (after_front sheet at (length here) here (later ++ rest) standing refl) (reasons_after line (reason c) _ r))
      ∙ sym (append_assoc (line_of round disk c) (round_lines round (disk + 1) (d ∷ choices)) _)
      ∙ ap₂ (λ (l : List ℕ) (q : Place). (line_of round disk c ++ l) ++ lines_read sheet reasons disks n q)
      (ap (λ (k : ℕ). round_lines round k (d ∷ choices)) (add-one disk))
      (ap₂ (λ (x y : ℕ). place_at x y (round + 1) 0) (omega arith) (omega (arith, long)))

  -- The lines of all rounds.
  plan_read : 1 ≤ disks → (plan : List (List Choice)) → SmallRounds disks plan → (line at round : ℕ) → round + length plan ≤ 10000 → (rest more : List ℕ)
      → drop at (bits sheet) ≡ rounds_bits (map (map action) plan) ++ rest → drop line reasons ≡ reasons_of plan ++ more
      → lines_read sheet reasons disks (length plan * disks) (place_at line at round 0) ≡ lines_from round plan
  unfolding lines_read lines_from rounds_bits reasons_of Each
  plan_read some [] small line at round p rest more e r = ap (λ (n : ℕ). lines_read sheet reasons disks n (place_at line at round 0)) (zero-mul disks)
  plan_read some (choices ∷ plan) small line at round p rest more e r =
      let here = round_bits (map action choices) in
      let later = rounds_bits (map (map action) plan) in
      let standing = e ∙ append_assoc here later rest in
      let reasoned = r ∙ append_assoc (map reason choices) (reasons_of plan) more in
      let many = small.0.0 in
      let count : length (choices ∷ plan) * disks ≡ length choices + length plan * disks = (let m = suc-mul (length plan) disks in omega (arith, m, many)) in
      let long = length-map choices reason in
      ap (λ (n : ℕ). lines_read sheet reasons disks n (place_at line at round 0)) count
      ∙ round-read choices small.0.1 line at round 0 (length plan * disks) (omega (arith, many)) some (omega arith) (later ++ rest) (reasons_of plan ++ more)
      standing reasoned
      ∙ ap (λ (l : List ℕ). round_lines round 0 choices ++ l)
      (plan_read some plan small.1 (line + length choices) (at + length here) (round + 1) (omega arith) rest more
      (after_front sheet at (length here) here (later ++ rest) standing refl)
      (sym (drop-drop (length choices) line reasons) ∙ (λ i. drop (sym long i) (reasoned i)) ∙ drop-append_seam (map reason choices) (reasons_of plan ++ more))
      ∙ ap (λ (k : ℕ). lines_from k plan) (add-one round))

-- The page of a plan, from its sheet in a buffer of 40,968 bytes and its reasons.
pub page-read : (disks : ℕ) → 1 ≤ disks → disks ≤ 8 → (plan : List (List Choice)) → SmallRounds disks plan → length plan ≤ 2048
    → length (sheet_bits (map (map action) plan)) ≤ 40968 * 8 → (sheet reasons lent : List ℕ)
    → sheet ≡ bytes 40968 (sheet_bits (map (map action) plan)) → reasons ≡ laid (reasons_of plan) lent → length (reasons_of plan) ≤ length lent
    → page_read sheet reasons disks (length plan * disks) ≡ page_of plan
unfolding page_read page_of sheet_bits over
page-read disks some few plan small rounds fits sheet reasons lent es er room =
    let schedule = map (map action) plan in
    let padding = replicate {A = ℕ} (40968 * 8 - length (sheet_bits schedule)) 0 in
    let whole : drop 0 (bits sheet) ≡ digits 12 (length schedule) ++ (rounds_bits schedule ++ padding) =
    ap bits es ∙ bits-bytes 40968 (sheet_bits schedule) (sheet-bits schedule) fits ∙ append_assoc (digits 12 (length schedule)) (rounds_bits schedule) padding in
    let begins : drop 12 (bits sheet) ≡ rounds_bits schedule ++ padding =
    after_front sheet 0 12 (digits 12 (length schedule)) (rounds_bits schedule ++ padding) whole (length_digits 12 (length schedule)) in
    let reasoned : drop 0 reasons ≡ reasons_of plan ++ drop (length (reasons_of plan)) lent = er ∙ laid-over (reasons_of plan) lent room in
    ap (λ (l : List ℕ). l ++ ended legend)
    (plan_read sheet reasons disks few some plan small 0 12 1 (omega arith) padding (drop (length (reasons_of plan)) lent) begins reasoned)
