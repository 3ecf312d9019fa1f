-- What reading comes to is what the text is: a note, malformed at a place, or too deep at a place; it is one of these and no two. Assumes nothing.
use mathlib.Core.Path.{◌≡◌, refl, sym, ap, subst, ◌∙◌}
use mathlib.Core.List.{List, [], ◌∷◌, ◌++◌, append-nil}
use mathlib.Core.Option.{Option, none, some}
use Prim.Native.Nat.{ℕ, suc, ◌≤◌, ◌<◌}
use native.Mathlib.Omega.{arith}
use lib.Dec.{ltb}
use lib.ListN.{length, take, drop, length-append, take-append-drop, length-drop}
use lib.Seq.{take-length, drop-length, take-append_seam, drop-append_seam, take-append-le, append_snoc, take-take}
use borrow.Author.Tests.{ltb-true, ltb-false}
use Rattle.bits.proofs.Logic.{by_test, Each}
use Rattle.grammar.specs.Note.{Note, note_text, note_depth}
use Rattle.grammar.specs.Reading.{Before, note_with, Mode, begin, read, star, space, bar, State, state, after, Outcome, whole, stuck, end_in, scan, start}
use Rattle.grammar.specs.Places.{IsNote, Begins, opened_from, opened, ShallowTo, CannotGoOn, at_character, at_end, Malformed, TooDeep}
use Rattle.grammar.proofs.Scan.{scan_end, scan-stuck, scan-deep, scan_on}
use Rattle.grammar.proofs.Steps.{after_step}
use Rattle.grammar.proofs.SoFar.{before_text, sides_text, items_text, mode_text, outer_text, so_far, note_with_text, step_text, ProperState, note_with_proper, step_proper}
use Rattle.grammar.proofs.Complete.{through, one_reading}
use Rattle.grammar.proofs.Viable.{begins_front, state_begins, through_one, begins_through, note_leads}
use Rattle.grammar.proofs.Open.{opened_last, opened_up, step_opened, most_from, most_last, front_most, most_depth}

-- After the characters r, reading stands at s.
record Reached (r : List ℕ) (s : State) : Type 0 where
  read : so_far s ≡ r
  proper : ProperState s
  way : through (some start) r ≡ some s
  level : opened r ≡ length s.outer

reached_start : Reached [] start
unfolding so_far outer_text mode_text before_text sides_text items_text through opened_from Each
reached_start = record { read = refl; proper = record { mode = (tt, tt); outer = tt }; way = refl; level = refl }

reached_step : (r : List ℕ) (s t : State) (c : ℕ) → Reached r s → after s c ≡ some t → Reached (r ++ c ∷ []) t
reached_step r s t c h e =
    let w = after_step s t c e in
    record {
      read = step_text w ∙ ap (λ (x : List ℕ). x ++ c ∷ []) h.read;
      proper = step_proper w h.proper;
      way = through_one r s c h.way ∙ e;
      level = opened_last 0 r c ∙ (rw h.level (step_opened w));
    }

reached_begins : {r : List ℕ} {s : State} → Reached r s → Begins r
reached_begins {r} {s} h = rw h.read at (state_begins s h.proper)

-- What reading comes to, and what the text is.
pub data Met (t : List ℕ) : Outcome → Type 0 where
  taken : {n : Note} → IsNote t n → note_depth n ≤ 16 → Met t (whole n)
  malformed : {rest : List ℕ} (k : ℕ) → drop k t ≡ rest → Malformed t k → Met t (stuck 22 rest)
  deep : {rest : List ℕ} (k : ℕ) → drop k t ≡ rest → TooDeep t k → Met t (stuck 23 rest)

shallow_to : (r l : List ℕ) → most_from 0 r ≤ 16 → ShallowTo (r ++ l) (length r)
shallow_to r l m j h = rw (take-append-le j r l h) (omega (arith, front_most 0 j r))

-- at the end
end_malformed : (t : List ℕ) (s : State) → Reached t s → most_from 0 t ≤ 16 → end_in s.mode s.outer ≡ stuck 22 [] → Met t (stuck 22 [])
end_malformed t s h m e = malformed (length t) (drop-length t) record {
  begun = rw take-length (reached_begins h);
  shallow = rw append-nil at (shallow_to t [] m);
  cannot_go_on = at_end refl (λ n i. let f = note_leads t s n h.way i in let z : ◌≡◌ {A = ℕ} 0 1 = cc in omega arith);
}

end_met : (t : List ℕ) (m : Mode) (o : List Before) → Reached t (state m o) → most_from 0 t ≤ 16 → Met t (end_in m o)
unfolding end_in so_far mode_text outer_text
end_met t (begin b) o h m = end_malformed t (state (begin b) o) h m refl
end_met t (read b i) [] h m =
    let n = note_with b i in
    let written : note_text n ≡ t = note_with_text b i ∙ h.read in
    let most : most_from 0 t ≡ note_depth n = rw written at (most_depth n) in
    taken (note_with_proper b i h.proper.mode.0 h.proper.mode.1, written) (omega arith)
end_met t (read b i) (x ∷ o) h m = end_malformed t (state (read b i) (x ∷ o)) h m refl
end_met t (star b p) o h m = end_malformed t (state (star b p) o) h m refl
end_met t (space n s) o h m = end_malformed t (state (space n s) o) h m refl
end_met t (bar n) o h m = end_malformed t (state (bar n) o) h m refl

-- at a character
take_one : (r : List ℕ) (c : ℕ) (l : List ℕ) → take (suc (length r)) (r ++ c ∷ l) ≡ r ++ c ∷ []
take_one [] c l = refl
take_one (x ∷ r) c l = ap (λ (y : List ℕ). x ∷ y) (take_one r c l)

is_character : (r : List ℕ) (c : ℕ) (l : List ℕ) → length r < length (r ++ c ∷ l)
is_character r c l = omega (arith, length-append r (c ∷ l))

stuck-met : (r : List ℕ) (s : State) (c : ℕ) (l : List ℕ) → Reached r s → most_from 0 r ≤ 16 → after s c ≡ none → Met (r ++ c ∷ l) (stuck 22 (c ∷ l))
stuck-met r s c l h m e = malformed (length r) (drop-append_seam r (c ∷ l)) record {
  begun = rw take-append_seam (reached_begins h);
  shallow = shallow_to r (c ∷ l) m;
  cannot_go_on = at_character (is_character r c l) (λ b. begins_through (r ++ c ∷ []) (through_one r s c h.way ∙ e) (rw (take_one r c l) at b));
}

deep-met : (r : List ℕ) (t : State) (c : ℕ) (l : List ℕ) → Reached (r ++ c ∷ []) t → most_from 0 r ≤ 16 → 16 < length t.outer → Met (r ++ c ∷ l) (stuck 23 (c ∷ l))
deep-met r t c l h m d =
    let before : opened r ≤ most_from 0 r = rw take-length at (front_most 0 (length r) r) in
    let up : opened_from 0 (r ++ c ∷ []) ≤ suc (opened r) = rw (opened_last 0 r c) (opened_up (opened r) c) in
    deep (length r) (drop-append_seam r (c ∷ l)) record {
      within = is_character r c l;
      begun = rw (take_one r c l) (reached_begins h);
      shallow = shallow_to r (c ∷ l) m;
      deep = rw (take_one r c l) (omega (arith, h.level));
    }

-- Reading on, from anywhere.
by_option : {P : Type 0} (x : Option State) → (x ≡ none → P) → ((t : State) → x ≡ some t → P) → P
by_option none f g = f refl
by_option (some t) f g = g t refl

scan-met : (l r : List ℕ) (s : State) → Reached r s → most_from 0 r ≤ 16 → Met (r ++ l) (scan s l)
scan-met [] r s h m = rw (append-nil, scan_end) (end_met r s.mode s.outer h m)
scan-met (c ∷ l) r s h m =
    by_option (after s c)
    (λ e. rw (scan-stuck s c l e) (stuck-met r s c l h m e))
    (λ t e. let next = reached_step r s t c h e in
    by_test (ltb 16 (length t.outer))
    (λ y. let d = ltb-true 16 (length t.outer) y in rw (scan-deep s t c l e d) (deep-met r t c l next m d))
    (λ y. let d = ltb-false 16 (length t.outer) y in
    rw (scan_on s t c l e d, ← append_snoc r c l) (scan-met l (r ++ c ∷ []) t next (omega (arith, most_last 0 r c, next.level)))))

pub start-met : (t : List ℕ) → Met t (scan start t)
unfolding most_from
start-met t = scan-met t [] start reached_start (omega arith)

-- No text is two of these, nor one of them at two places.
begins_take : (t : List ℕ) (j k : ℕ) → j ≤ k → Begins (take k t) → Begins (take j t)
begins_take t j k h b =
    let split : take j t ++ drop j (take k t) ≡ take k t = ap (λ (x : List ℕ). x ++ drop j (take k t)) (sym (take-take j k t h)) ∙ take-append-drop j (take k t) in
    begins_front (take j t) (drop j (take k t)) (rw split b)

note_begins : (t : List ℕ) (n : Note) (k : ℕ) → IsNote t n → Begins (take k t)
note_begins t n k h = (n, drop k t, (h.0, h.1 ∙ sym (take-append-drop k t)))

-- where no note can go on, none begins with more
past_malformed : (t : List ℕ) (k j : ℕ) → CannotGoOn t k → k < j → j ≤ length t → Begins (take j t) → ⊥
past_malformed t k j (at_character p f) h g b = f (begins_take t (suc k) j h b)
past_malformed t k j (at_end p f) h g b = omega arith

malformed-within : (t : List ℕ) (k : ℕ) → CannotGoOn t k → k ≤ length t
malformed-within t k (at_character p f) = omega arith
malformed-within t k (at_end p f) = omega arith

note_not-malformed : (t : List ℕ) (n : Note) (k : ℕ) → IsNote t n → CannotGoOn t k → ⊥
note_not-malformed t n k h (at_character p f) = f (note_begins t n (suc k) h)
note_not-malformed t n k h (at_end p f) = f n h

note_not-deep : (t : List ℕ) (n : Note) (k : ℕ) → IsNote t n → note_depth n ≤ 16 → TooDeep t k → ⊥
note_not-deep t n k h d e =
    let most : most_from 0 t ≡ note_depth n = rw h.1 at (most_depth n) in
    omega (arith, front_most 0 (suc k) t, e.deep)

one_place : (P : ℕ → Type 0) → ((k j : ℕ) → k < j → P k → P j → ⊥) → (k j : ℕ) → P k → P j → k ≡ j
one_place P f k j p q =
    by_test (ltb k j)
    (λ y. absurd (f k j (ltb-true k j y) p q))
    (λ y. by_test (ltb j k) (λ z. absurd (f j k (ltb-true j k z) q p)) (λ z. omega (arith, ltb-false k j y, ltb-false j k z)))

malformed_one : (t : List ℕ) (k j : ℕ) → Malformed t k → Malformed t j → k ≡ j
malformed_one t = one_place (Malformed t) (λ k j h p q. past_malformed t k j p.cannot_go_on h (malformed-within t j q.cannot_go_on) q.begun)

deep_one : (t : List ℕ) (k j : ℕ) → TooDeep t k → TooDeep t j → k ≡ j
deep_one t = one_place (TooDeep t) (λ k j h p q. omega (arith, q.shallow (suc k) h, p.deep))

malformed-not-deep : (t : List ℕ) (k j : ℕ) → Malformed t k → TooDeep t j → ⊥
malformed-not-deep t k j p q =
    by_test (ltb j k)
    (λ y. omega (arith, p.shallow (suc j) (ltb-true j k y), q.deep))
    (λ y. past_malformed t k (suc j) p.cannot_go_on (omega (arith, ltb-false j k y)) q.within q.begun)

-- So what the text is says what reading comes to,
from_note : {t : List ℕ} {o : Outcome} (n : Note) → IsNote t n → note_depth n ≤ 16 → Met t o → o ≡ whole n
from_note n h d (taken {n = m} i e) = ap whole (one_reading m n i.0 h.0 (i.1 ∙ sym h.1))
from_note {t} n h d (malformed k e m) = absurd (note_not-malformed t n k h m.cannot_go_on)
from_note {t} n h d (deep k e m) = absurd (note_not-deep t n k h d m)

from_malformed : {t : List ℕ} {o : Outcome} (k : ℕ) → Malformed t k → Met t o → o ≡ stuck 22 (drop k t)
from_malformed {t} k p (taken {n = n} h d) = absurd (note_not-malformed t n k h p.cannot_go_on)
from_malformed {t} k p (malformed j e m) = ap (stuck 22) (sym e ∙ ap (λ (x : ℕ). drop x t) (malformed_one t j k m p))
from_malformed {t} k p (deep j e m) = absurd (malformed-not-deep t k j p m)

from_deep : {t : List ℕ} {o : Outcome} (k : ℕ) → TooDeep t k → Met t o → o ≡ stuck 23 (drop k t)
from_deep {t} k p (taken {n = n} h d) = absurd (note_not-deep t n k h d p)
from_deep {t} k p (malformed j e m) = absurd (malformed-not-deep t j k m p)
from_deep {t} k p (deep j e m) = ap (stuck 23) (sym e ∙ ap (λ (x : ℕ). drop x t) (deep_one t j k m p))

pub note_scan : (t : List ℕ) (n : Note) → IsNote t n → note_depth n ≤ 16 → scan start t ≡ whole n
note_scan t n h d = from_note n h d (start-met t)

pub malformed-scan : (t : List ℕ) (k : ℕ) → Malformed t k → scan start t ≡ stuck 22 (drop k t)
malformed-scan t k h = from_malformed k h (start-met t)

pub deep-scan : (t : List ℕ) (k : ℕ) → TooDeep t k → scan start t ≡ stuck 23 (drop k t)
deep-scan t k h = from_deep k h (start-met t)

-- and what reading comes to says what the text is.
to_malformed : {t rest : List ℕ} → Met t (stuck 22 rest) → (k : ℕ) × (drop k t ≡ rest) × Malformed t k
to_malformed (malformed k e m) = (k, e, m)

to_deep : {t rest : List ℕ} → Met t (stuck 23 rest) → (k : ℕ) × (drop k t ≡ rest) × TooDeep t k
to_deep (deep k e m) = (k, e, m)

-- the place from what is left
one_drop : (t : List ℕ) (k j : ℕ) → k ≤ length t → j ≤ length t → drop k t ≡ drop j t → k ≡ j
one_drop t k j p q e = omega (arith, length-drop k t, length-drop j t, ap length e)

pub scan-malformed : (t : List ℕ) (k : ℕ) → k ≤ length t → scan start t ≡ stuck 22 (drop k t) → Malformed t k
scan-malformed t k h e =
    let m = to_malformed (rw e at (start-met t)) in
    subst (Malformed t) (one_drop t m.0 k (malformed-within t m.0 m.2.cannot_go_on) h m.1) m.2

pub scan_too_deep : (t : List ℕ) (k : ℕ) → k ≤ length t → scan start t ≡ stuck 23 (drop k t) → TooDeep t k
scan_too_deep t k h e =
    let m = to_deep (rw e at (start-met t)) in
    subst (TooDeep t) (one_drop t m.0 k (omega (arith, m.2.within)) h m.1) m.2
