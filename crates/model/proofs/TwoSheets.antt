-- Request L1: the choice between two sheets, whoever drew them up. Assumes nothing.
use mathlib.Core.Path.{◌≡◌, refl, sym, ap, ◌∙◌, subst}
use mathlib.Core.Logic.{◌↔◌, ◌⊎◌, inl, inr, ⊎_elim}
use mathlib.Core.Bool.{true}
use mathlib.Core.List.{List}
use mathlib.Core.Option.{some}
use Prim.Native.Nat.{ℕ, ◌≤◌, ◌<◌, ◌^◌}
use native.Mathlib.Omega.{arith}
use lib.Dec.{leb}
use lib.ListN.{length, take}
use lib.Seq.{take-length}
use borrow.Author.Tests.{leb-true, leb-false}
use Rattle.bits.specs.Reading.{Answer, given, refused}
use Rattle.bits.proofs.Logic.{by_test}
use Rattle.bits.proofs.Reading.{refused-given}
use Rattle.model.specs.Job.{Job}
use Rattle.model.specs.Playing.{charged}
use Rattle.model.specs.Rules.{short, sparing}
use Rattle.model.specs.Plans.{schedule_of}
use Rattle.model.specs.Sheet.{sheet_of}
use Rattle.model.specs.Calls.{job_up_to, Counts, counts_of, short_counts, Which, is_first, is_second, of_two, which_for, is_sparing, Planned, mark_for, handed, planned_of, plan_answer, check_answer, check_refusals, among, ChosenSheet, chosen_of, chosen_from, choose_answer, returned_choice, sheet_after}
use Rattle.model.proofs.Choosing.{short_lawful, sparing_lawful}
use Rattle.model.proofs.Numbers.{check_number, check_within}
use Rattle.model.proofs.Longest.{passed_16_bits}
use Rattle.model.proofs.Bytes

-- It gives something exactly if both sheets pass, and then what their counts say;

module _ (t : List ℕ) (stop : ℕ) (first second : List ℕ) where
  pub chosen-given : (c : ChosenSheet) → choose_answer t stop first second ≡ given c
      → (a : Counts) × (b : Counts) × (check_answer t stop first ≡ given a) × (check_answer t stop second ≡ given b) × (chosen_of first second a b ≡ c)
  unfolding choose_answer chosen_from
  chosen-given c e = go (check_answer t stop first) (check_answer t stop second) refl refl e
    where
      go : (x y : Answer Counts) → check_answer t stop first ≡ x → check_answer t stop second ≡ y → chosen_from first second x y ≡ given c
          → (a : Counts) × (b : Counts) × (check_answer t stop first ≡ given a) × (check_answer t stop second ≡ given b) × (chosen_of first second a b ≡ c)
      go (refused n) y p q h = refused-given h
      go (given a) (refused n) p q h = refused-given h
      go (given a) (given b) p q h = (a, b, p, q, cc)

  pub both_pass : (a b : Counts) → check_answer t stop first ≡ given a → check_answer t stop second ≡ given b → choose_answer t stop first second ≡ given (chosen_of first second a b)
  unfolding choose_answer chosen_from
  both_pass a b p q = λ i. chosen_from first second (p i) (q i)

  pub chooses_exactly : (c : ChosenSheet) → (choose_answer t stop first second ≡ given c)
      ↔ ((a : Counts) × (b : Counts) × (check_answer t stop first ≡ given a) × (check_answer t stop second ≡ given b) × (chosen_of first second a b ≡ c))
  chooses_exactly c = (chosen-given c, λ w. both_pass w.0 w.1 w.2 w.3 ∙ ap given w.4)

  -- otherwise the first refusal that is met.
  pub first-refused : (n : ℕ) → check_answer t stop first ≡ refused n → choose_answer t stop first second ≡ refused n
  unfolding choose_answer chosen_from
  first-refused n p = ap (λ (x : Answer Counts). chosen_from first second x (check_answer t stop second)) p

  pub second_refused : (a : Counts) (n : ℕ) → check_answer t stop first ≡ given a → check_answer t stop second ≡ refused n → choose_answer t stop first second ≡ refused n
  unfolding choose_answer chosen_from
  second_refused a n p q = λ i. chosen_from first second (p i) (q i)

  pub choose_refusals : (n : ℕ) → (choose_answer t stop first second ≡ refused n)
      ↔ ((check_answer t stop first ≡ refused n) ⊎ ((a : Counts) × (check_answer t stop first ≡ given a) × (check_answer t stop second ≡ refused n)))
  unfolding choose_answer chosen_from
  choose_refusals n = (
    go (check_answer t stop first) (check_answer t stop second) refl refl,
    λ w. ⊎_elim (first-refused n) (λ v. second_refused v.0 n v.1 v.2) w,
  )
    where
      go : (x y : Answer Counts) → check_answer t stop first ≡ x → check_answer t stop second ≡ y → chosen_from first second x y ≡ refused n
          → (check_answer t stop first ≡ refused n) ⊎ ((a : Counts) × (check_answer t stop first ≡ given a) × (check_answer t stop second ≡ refused n))
      go (refused m) y p q h = let same : m ≡ n = cc in inl (p ∙ ap refused same)
      go (given a) (refused m) p q h = let same : m ≡ n = cc in inr (a, p, q ∙ ap refused same)
      go (given a) (given b) p q h = refused-given (sym h)

-- so its number is that of a check
pub choose_fails : (t : List ℕ) (stop : ℕ) (first second : List ℕ) (n : ℕ) → choose_answer t stop first second ≡ refused n → (s : List ℕ) × (check_answer t stop s ≡ refused n)
choose_fails t stop first second n e = ⊎_elim (λ p. (first, p)) (λ v. (second, v.2)) ((choose_refusals t stop first second n).0 e)

pub choose_number : (t : List ℕ) (stop : ℕ) (first second : List ℕ) (n : ℕ) → choose_answer t stop first second ≡ refused n → among n check_refusals ≡ true
choose_number t stop first second n e = let f = choose_fails t stop first second n e in check_number t stop f.0 n f.1

pub choose_within : (t : List ℕ) (stop : ℕ) (first second : List ℕ) (n : ℕ) → choose_answer t stop first second ≡ refused n → (1 ≤ n) × (n ≤ 26)
choose_within t stop first second n e = let f = choose_fails t stop first second n e in check_within t stop f.0 n f.1

-- The sheet handed back, where both pass.

by_which : {A B : Type 0} (Q : A → B → Type 0) (w : Which) {x y : A} {a b : B} → Q x a → Q y b → Q (of_two w x y) (of_two w a b)
by_which Q is_first p q = p
by_which Q is_second p q = q

-- it takes no more rounds than either
no_more : (a b : Counts) → (let w = which_for a.rounds b.rounds in ((of_two w a b).rounds ≤ a.rounds) × ((of_two w a b).rounds ≤ b.rounds))
unfolding which_for
no_more a b =
    by_test (leb b.rounds a.rounds)
    (λ e. let l = leb-true b.rounds a.rounds e in rw e (l, omega arith))
    (λ e. let l = leb-false b.rounds a.rounds e in rw e (omega arith, omega (arith, l)))

abbrev HandedBack : List ℕ → ℕ → List ℕ → List ℕ → Counts → Counts → ChosenSheet → Type 0
HandedBack t stop first second a b c =
    ((c.which ≡ is_second) ↔ (b.rounds ≤ a.rounds))
    × (check_answer t stop (of_two c.which first second) ≡ given (of_two c.which a b))
    × (length (of_two c.which first second) ≡ c.sheet_length)
    × ((of_two c.which a b).rounds ≤ a.rounds)
    × ((of_two c.which a b).rounds ≤ b.rounds)

pub chosen_passes : (t : List ℕ) (stop : ℕ) (first second : List ℕ) (a b : Counts) (c : ChosenSheet) → check_answer t stop first ≡ given a → check_answer t stop second ≡ given b
    → choose_answer t stop first second ≡ given c → HandedBack t stop first second a b c
unfolding chosen_of
chosen_passes t stop first second a b c p q e =
    let w = which_for a.rounds b.rounds in
    let least = no_more a b in
    let chosenOne : chosen_of first second a b ≡ c = (let both = both_pass t stop first second a b p q in cc) in
    subst (HandedBack t stop first second a b) chosenOne (
      Bytes.which_second a.rounds b.rounds,
      by_which (λ (s : List ℕ) (x : Counts). check_answer t stop s ≡ given x) w p q,
      refl,
      least.0,
      least.1,
    )

-- what the call returns
pub choose_given : (t : List ℕ) (stop : ℕ) (first second : List ℕ) (c : ChosenSheet) → choose_answer t stop first second ≡ given c
    → (let r = returned_choice (given c) in (r.number ≡ 0) × (r.which ≡ some c.which) × (r.sheet_length ≡ length (of_two c.which first second)))
unfolding returned_choice
choose_given t stop first second c e =
    let g = chosen-given t stop first second c e in
    (refl, refl, sym (chosen_passes t stop first second g.0 g.1 c g.2 g.3 e).2)

-- what is handed back of the two is that sheet, byte for byte
pub sheet-handed : (t : List ℕ) (stop : ℕ) (first second : List ℕ) (c : ChosenSheet) → choose_answer t stop first second ≡ given c → sheet_after (given c) first second ≡ of_two c.which first second
unfolding sheet_after
sheet-handed t stop first second c e =
    let g = chosen-given t stop first second c e in
    let long = (chosen_passes t stop first second g.0 g.1 c g.2 g.3 e).2 in
    ap (λ (n : ℕ). take n (of_two c.which first second)) (sym long) ∙ take-length (of_two c.which first second)

-- Planning's own two sheets, the short one first.

pub length_two : (w : Which) (x y : List ℕ) → length (of_two w x y) ≡ of_two w (length x) (length y)
length_two is_first x y = refl
length_two is_second x y = refl

abbrev AsPlanned : List ℕ → ℕ → Planned → Type 0
AsPlanned t stop p = (c : ChosenSheet) × (choose_answer t stop p.short_sheet p.sparing_sheet ≡ given c)
    × ((c.which ≡ is_second) ↔ (p.mark ≡ is_sparing))
    × (c.sheet_length ≡ p.part_length)
    × (sheet_after (given c) p.short_sheet p.sparing_sheet ≡ handed p)

pub chosen_as_planned : (t : List ℕ) (stop room₁ room₂ : ℕ) (p : Planned) → plan_answer t stop room₁ room₂ ≡ given p → AsPlanned t stop p
unfolding planned_of counts_of chosen_of mark_for
chosen_as_planned t stop room₁ room₂ p e =
    let g = Bytes.planned t stop room₁ room₂ p e in
    let j = g.0 in
    let a = schedule_of short j in
    let b = schedule_of sparing j in
    let w = which_for (charged j a) (charged j b) in
    let chose = both_pass t stop (sheet_of a) (sheet_of b) (counts_of j a) (counts_of j b) (Bytes.schedule_passes short short_lawful t stop j g.1) (Bytes.schedule_passes sparing sparing_lawful t stop j g.1) in
    let mark = Bytes.mark_second (charged j a) (charged j b) in
    subst (AsPlanned t stop) g.2 (
      chosen_of (sheet_of a) (sheet_of b) (counts_of j a) (counts_of j b),
      chose,
      (mark.1, mark.0),
      length_two w (sheet_of a) (sheet_of b) ∙ sym (Bytes.chosen_two w (length (sheet_of a)) (length (sheet_of b))),
      sheet-handed t stop (sheet_of a) (sheet_of b) _ chose ∙ sym (Bytes.chosen_two w (sheet_of a) (sheet_of b)),
    )

-- After the short plan's sheet a second one is handed back exactly if it ties.
pub short-first : (t : List ℕ) (stop : ℕ) (s : List ℕ) (j : Job) (b : Counts) (c : ChosenSheet) → job_up_to t stop ≡ given j → check_answer t stop s ≡ given b
    → choose_answer t stop (sheet_of (schedule_of short j)) s ≡ given c → (c.which ≡ is_second) ↔ (b.rounds ≡ (short_counts j).rounds)
unfolding short_counts
short-first t stop s j b c e q h =
    let least = (Bytes.unbeaten t stop s j b e q).0 in
    let iff = (chosen_passes t stop (sheet_of (schedule_of short j)) s (short_counts j) b c (Bytes.schedule_passes short short_lawful t stop j e) q h).0 in
    (λ x. let l = iff.0 x in omega (arith, l, least), λ x. iff.1 (omega (arith, x)))

-- Its length needs no more than 16 bits.
pub chosen-length : (t : List ℕ) (stop : ℕ) (first second : List ℕ) (c : ChosenSheet) → choose_answer t stop first second ≡ given c → c.sheet_length < 2 ^ 16
chosen-length t stop first second c e =
    let g = chosen-given t stop first second c e in
    let h = chosen_passes t stop first second g.0 g.1 c g.2 g.3 e in
    let few = passed_16_bits t stop (of_two c.which first second) _ h.1 in
    let long = h.2 in
    omega (arith, few, long)
