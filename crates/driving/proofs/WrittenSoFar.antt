-- After each round the sheet, the fetches counted and the bit reached are those of the rounds so far. Assumes nothing.
use mathlib.Core.Path.{◌≡◌, refl, sym, ap, ap₂, ◌∙◌}
use mathlib.Core.List.{List, [], ◌∷◌, ◌++◌, append-nil, append_assoc}
use Prim.Native.Nat.{ℕ, zero, suc, ◌+◌, ◌*◌, ◌≤◌, ◌<◌}
use native.Mathlib.Omega.{arith}
use lib.Dec.{lit<}
use lib.ListN.{length, get_or, set, replicate, length-set, length-append, get_or-map}
use Rattle.std.proofs.lemmas.List.{length-map}
use lib.Seq.{ext_get_or}
use Rattle.bits.specs.Bits.{digits, leading, bytes, Below}
use Rattle.bits.specs.Fields.{put_bits, ClearFrom}
use Rattle.bits.proofs.Logic.{Each}
use Rattle.bits.proofs.Bits.{Bits, append_bits, length-bytes, length_digits}
use Rattle.bits.proofs.Fields.{put_packed, clear_packed, bytes-none}
use Rattle.model.specs.Playing.{Action as JobAction}
use Rattle.model.specs.Playing.{Schedule, fetched, total, fetches}
use Rattle.model.specs.Plans.{each}
use Rattle.model.specs.Sheet.{round_bits, rounds_bits, sheet_bits}
use Rattle.model.proofs.Charged.{total-after, total_most}
use Rattle.model.proofs.Longest.{length-rounds}
use Rattle.model.proofs.Plans.{length-each, get_d_each}
use Rattle.model.proofs.Bytes.{rounds-bits}
use Rattle.writing.specs.Heading.{headed}
use Rattle.writing.specs.Tallying.{tallied}
use Rattle.writing.specs.Writing.{action_in, actions_in, idle_action}
use Rattle.writing.specs.declared.Action.{Action}
use Rattle.writing.proofs.Headed.{headed-bytes, header_room}
use Rattle.writing.proofs.Packing.{round-bits_are}
use Rattle.writing.proofs.Tallied.{tallied-length, tallied_at}
use Rattle.driving.specs.Driving.{totals_of}

-- one round more at the end of a schedule

rounds_more : (done : Schedule) (a : List JobAction) → rounds_bits (done ++ (a ∷ [])) ≡ rounds_bits done ++ round_bits a
unfolding rounds_bits
rounds_more [] a = append-nil (round_bits a)
rounds_more (b ∷ done) a = ap (λ (l : List ℕ). round_bits b ++ l) (rounds_more done a)
    ∙ sym (append_assoc (round_bits b) (rounds_bits done) (round_bits a))

each_more : (P : List JobAction → Type 0) (done : Schedule) (a : List JobAction) → Each P done → P a → Each P (done ++ (a ∷ []))
unfolding Each
each_more P [] a h p = (p, tt)
each_more P (b ∷ done) a h p = (h.0, each_more P done a h.1 p)

zeros : (n : ℕ) → Bits (replicate n 0)
unfolding Bits Each
zeros zero = tt
zeros (suc n) = (lit< tt, zeros n)

-- What is written and counted of the rounds so far.
pub record Written (done : Schedule) (counts sheet : List ℕ) (played at : ℕ) : Type 0 where
  pub many : played ≡ length done
  pub counted : counts ≡ each (fetches done) 0 8
  pub wrote : sheet ≡ bytes 40968 (replicate 12 0 ++ rounds_bits done)
  pub place : at ≡ 12 + length (rounds_bits done)
  pub eight : Each (λ (actions : List JobAction). length actions ≤ 8) done

-- nothing so far
pub written_none : (sheet : List ℕ) → sheet ≡ replicate 40968 0 → Written [] (replicate 8 0) sheet 0 12
unfolding rounds_bits bytes leading fetches total each Each
written_none sheet e = record {
  many = refl;
  counted = refl;
  wrote = e ∙ ap (λ (l : List ℕ). 0 ∷ 0 ∷ l) (bytes-none 40966);
  place = refl;
  eight = tt;
}

module _ {done : Schedule} {counts sheet : List ℕ} {played at : ℕ} (w : Written done counts sheet played at) where
  count_at : (d : ℕ) → d < 8 → get_or counts d 0 ≡ total fetched d done
  unfolding fetches
  count_at d l = ap (λ (c : List ℕ). get_or c d 0) w.counted ∙ get_d_each (fetches done) 0 8 d 0 l
      ∙ ap (fetches done) (let e : 0 + d ≡ d = omega arith in e)

  long-counts : length counts ≡ 8
  long-counts = ap length w.counted ∙ length-each (fetches done) 0 8

  bits_are : Bits (replicate 12 0 ++ rounds_bits done)
  bits_are = append_bits (replicate 12 0) (rounds_bits done) (zeros 12) (rounds-bits done)

  at_is : at ≡ length (replicate 12 0 ++ rounds_bits done)
  at_is = w.place ∙ sym (length-append (replicate 12 0) (rounds_bits done))

  most_bits : at ≤ 12 + played * 160
  most_bits = let l = length-rounds done w.eight in let p = w.place in let m = w.many in omega (arith, l, p, m)

  pub written-long : length sheet ≡ 40968
  written-long = ap length w.wrote ∙ length-bytes 40968 (replicate 12 0 ++ rounds_bits done)

  -- there is room for one round more
  pub written_room : played < 2048 → (at + 192 ≤ length sheet * 8) × (at < 350000)
  written_room few = let m = most_bits in let l = written-long in (omega (arith, m, l, few), omega (arith, m, few))

  pub written_clear : played ≤ 2048 → ClearFrom at sheet
  written_clear few = let m = most_bits in clear_packed 40968 at (replicate 12 0 ++ rounds_bits done) sheet w.wrote at_is bits_are
      (omega (arith, m, few))

  pub written-few : played ≤ 2048 → Below 65535 counts
  written-few few d l =
      let long = long-counts in
      let c = count_at d (omega (arith, long)) in
      let t = total_most d done in
      let m = w.many in
      omega (arith, c, t, m, few)

  -- one round more
  module _ (acts : List Action) (few : length acts ≤ 8) where
    abbrev actions : List JobAction
    actions = actions_in acts

    actions_many : length actions ≡ length acts
    actions_many = length-map acts action_in

    count_more : (d : ℕ) → d < 8 → get_or (tallied counts acts) d 0 ≡ total fetched d (done ++ (actions ∷ []))
    unfolding total
    count_more d l =
        let was = count_at d l in
        let more = total-after fetched d done (actions ∷ []) in
        let long = long-counts in
        let t = tallied_at counts acts d (omega (arith, long)) in
        let a = get_or-map action_in acts d idle_action in
        omega (arith, was, more, t, ap fetched a)

    pub written_more : played < 2048 → {counts' sheet' : List ℕ} {at' : ℕ} → counts' ≡ tallied counts acts
        → sheet' ≡ put_bits sheet at (round_bits actions)
        → at' ≡ at + length (round_bits actions) → Written (done ++ (actions ∷ [])) counts' sheet' (played + 1) at'
    unfolding fetches
    written_more small {counts'} {sheet'} {at'} ec es ea =
        let bits = rounds_more done actions in
        let eight' = each_more (λ (l : List JobAction). length l ≤ 8) done actions w.eight (let m = actions_many in omega (arith, m, few)) in
        let longest = length-rounds (done ++ (actions ∷ [])) eight' in
        let many = w.many in
        let place = w.place in
        let one = length-append done (actions ∷ []) in
        let total-bits = ap length bits ∙ length-append (rounds_bits done) (round_bits actions) in
        record {
          many = omega (arith, many, one);
          counted = ec ∙ ext_get_or 0 (tallied counts acts) (each (fetches (done ++ (actions ∷ []))) 0 8)
              (tallied-length counts acts ∙ long-counts ∙ sym (length-each (fetches (done ++ (actions ∷ []))) 0 8))
              (λ d l. let n = tallied-length counts acts in let m = long-counts in let inside : d < 8 = omega (arith, l, n, m) in
              count_more d inside ∙ sym (get_d_each (fetches (done ++ (actions ∷ []))) 0 8 d 0 inside
              ∙ ap (fetches (done ++ (actions ∷ []))) (let e : 0 + d ≡ d = omega arith in e)));
          wrote = es
              ∙ put_packed 40968 at (replicate 12 0 ++ rounds_bits done) (round_bits actions) sheet w.wrote at_is bits_are (round-bits_are actions)
              (omega (arith, place, longest, many, one, total-bits, small))
              ∙ ap (bytes 40968) (append_assoc (replicate 12 0) (rounds_bits done) (round_bits actions)
              ∙ ap (λ (l : List ℕ). replicate 12 0 ++ l) (sym bits));
          place = omega (arith, ea, place, total-bits);
          eight = eight';
        }

  -- what the round count asks, and the sheet with it
  pub header_fits : played ≤ 2048 → (played ≤ 2048) × (2 ≤ length sheet) × (get_or sheet 1 0 < 16)
  header_fits few =
      let l = written-long in
      (few, omega (arith, l), (header_room 40968 (rounds_bits done) sheet (rounds-bits done) (omega arith) w.wrote).1)

  pub headed-long : (count : ℕ) → length (headed sheet count) ≡ 40968
  unfolding headed
  headed-long count = length-set (set sheet 0 _) 1 _ ∙ length-set sheet 0 _ ∙ written-long

  pub sheet-headed : played ≤ 2048 → (t : List ℕ) → t ≡ headed sheet played → t ≡ bytes 40968 (sheet_bits done)
  unfolding sheet_bits
  sheet-headed few t e =
      e ∙ ap₂ headed w.wrote w.many
      ∙ headed-bytes 40968 (length done) (rounds_bits done) (let m = w.many in omega (arith, m, few)) (rounds-bits done) (omega arith)

  pub totals_are : record { rounds = played; fetches = counts; bits = at } ≡ totals_of done
  unfolding totals_of sheet_bits
  totals_are =
      let bits : at ≡ length (digits 12 (length done) ++ rounds_bits done) =
      (let p = w.place in let d = length_digits 12 (length done) in let l = length-append (digits 12 (length done)) (rounds_bits done) in
      omega (arith, p, d, l)) in
      λ i. record { rounds = w.many i; fetches = w.counted i; bits = bits i }
