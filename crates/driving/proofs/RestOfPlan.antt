-- The loops of `drive`: what is written so far and what would be driven from here on are the whole plan. Assumes nothing.
use mathlib.Core.Path.{◌≡◌, refl, sym, ap, ap₂, ◌∙◌, subst}
use mathlib.Core.Logic.{◌⊎◌, ⊎_elim}
use mathlib.Core.Bool.{true, false}
use mathlib.Core.List.{List, [], ◌∷◌, ◌++◌, append-nil, append_assoc}
use Prim.Native.Nat.{ℕ, zero, suc, ◌+◌, ◌-◌, ◌*◌, ◌≤◌, ◌<◌}
use native.Mathlib.Nat.{suc-mul, zero-mul}
use native.Mathlib.Numerals.{add-one}
use native.Mathlib.Omega.{arith}
use lib.Dec.{ltb}
use lib.ListN.{length, get_or, set, take, replicate, length-append}
use Rattle.std.proofs.lemmas.List.{length-take-le}
use borrow.Author.Tests.{lt-ltb, le-ltb}
use Rattle.bits.proofs.Logic.{and_true, and_false_left, and_false_right}
use Rattle.bits.specs.Bits.{bytes, laid}
use Rattle.bits.specs.Fields.{put_bits, laid_at}
use Rattle.bits.proofs.Fields.{laid_then, length-laid}
use Rattle.model.specs.Playing.{Schedule}
use Rattle.model.specs.Sheet.{round_bits, sheet_bits}
use Rattle.lookup.specs.declared.Desk.{Desk}
use Rattle.playing.specs.Playing.{fetch_into, replace_in, consume_one}
use Rattle.playing.specs.declared.Buffers.{Buffers}
use Rattle.choosing.specs.declared.Choice.{Choice}
use Rattle.choosing.specs.declared.Choice.TheVariants.{IntoEmpty, OverMinBlock, MinBlockSooner, Waits, NoneMissing}
use Rattle.acting.specs.Acting.{noted, taken_in}
use Rattle.writing.specs.Heading.{headed}
use Rattle.writing.specs.Tallying.{tallied}
use Rattle.writing.specs.Writing.{actions_in, reasons_in}
use Rattle.writing.specs.declared.Action.{Action}
use Rattle.writing.proofs.Reasons.{reasons_length}
use Rattle.driving.specs.Driving.{PlanInput, PlanState, choice_at, buffers_after, desk_after, after_turn, turns, read_next, can_read}
use Rattle.driving.specs.Driving.{read_from, all_acted, round_acts, round_from, driven_from, reasons_from, end_from, totals_of}
use Rattle.driving.specs.Sized.{Sized, Kept}
use Rattle.driving.proofs.Input.{state_with}
use Rattle.driving.proofs.Sizes.{turn_kept, read_kept}
use Rattle.driving.proofs.WrittenSoFar.{Written, written_none, written_more, sheet-headed, totals_are}

-- one round more, and none
module _ (k : PlanInput) (p : PlanState) where
  driven_more : (most : ℕ) → p.buffers.next < length k.refs
      → driven_from k (suc most) p ≡ actions_in (round_acts k p) ∷ driven_from k most (round_from k p)
  unfolding driven_from
  driven_more most due = rw (lt-ltb p.buffers.next (length k.refs) due, driven_from)

  reasons_more : (most : ℕ) → p.buffers.next < length k.refs
      → reasons_from k (suc most) p ≡ reasons_in (round_acts k p) ++ reasons_from k most (round_from k p)
  unfolding reasons_from
  reasons_more most due = rw (lt-ltb p.buffers.next (length k.refs) due, reasons_from)

  end_more : (most : ℕ) → p.buffers.next < length k.refs → end_from k (suc most) p ≡ end_from k most (round_from k p)
  unfolding end_from
  end_more most due = rw (lt-ltb p.buffers.next (length k.refs) due, end_from)

  driven_none : (most : ℕ) → length k.refs ≤ p.buffers.next → driven_from k most p ≡ []
  unfolding driven_from
  driven_none zero over = refl
  driven_none (suc most) over = rw (le-ltb p.buffers.next (length k.refs) over, driven_from)

  reasons_none : (most : ℕ) → length k.refs ≤ p.buffers.next → reasons_from k most p ≡ []
  unfolding reasons_from
  reasons_none zero over = refl
  reasons_none (suc most) over = rw (le-ltb p.buffers.next (length k.refs) over, reasons_from)

  end_none : (most : ℕ) → length k.refs ≤ p.buffers.next → end_from k most p ≡ p
  unfolding end_from
  end_none zero over = refl
  end_none (suc most) over = rw (le-ltb p.buffers.next (length k.refs) over, end_from)

  driven_zero : driven_from k 0 p ≡ []
  unfolding driven_from
  driven_zero = refl

  reasons_zero : reasons_from k 0 p ≡ []
  unfolding reasons_from
  reasons_zero = refl

  end_zero : end_from k 0 p ≡ p
  unfolding end_from
  end_zero = refl

-- The reasons of the rounds so far are laid into their slice, which held `lent`.
pub record Laid (k : PlanInput) (most : ℕ) (p₀ p : PlanState) (lent reasons : List ℕ) (played : ℕ) : Type 0 where
  pub so_far : List ℕ
  pub bytes : reasons ≡ laid so_far lent
  pub long : length so_far ≡ played * length k.slots
  pub all : so_far ++ reasons_from k (most - played) p ≡ reasons_from k most p₀

-- Before a round: the plan from p₀ on, `most` rounds at most, has come to p.
pub record BeforeRound (k : PlanInput) (most : ℕ) (p₀ p : PlanState) (lent counts sheet reasons : List ℕ) (played at : ℕ) : Type 0 where
  pub sized : Sized k
  pub kept : Kept k p
  pub few_rounds : most ≤ 2048
  pub within : played ≤ most
  pub done : Schedule
  pub written : Written done counts sheet played at
  pub reasoned : Laid k most p₀ p lent reasons played
  pub whole : done ++ driven_from k (most - played) p ≡ driven_from k most p₀
  pub end : end_from k (most - played) p ≡ end_from k most p₀

-- Before disk d's turn: the disks below d have had theirs, from p₀ on.
pub record BeforeTurn (k : PlanInput) (p₀ : PlanState) (d : ℕ) (p : PlanState) : Type 0 where
  pub sized : Sized k
  pub kept : Kept k p
  pub within : d ≤ length k.slots
  pub turned_so : p ≡ turns k d p₀

-- Before a reference is read: what is read from p on is the rest of what is read from p₀ on.
pub record BeforeRead (k : PlanInput) (p₀ p : PlanState) : Type 0 where
  pub sized : Sized k
  pub kept : Kept k p
  pub left : ℕ
  pub enough : length k.refs ≤ p.buffers.next + left
  pub rest : read_from k left p ≡ read_from k (length k.refs) p₀

-- no reason so far, those of one round more, and those of all
module _ {k : PlanInput} {most : ℕ} {p₀ : PlanState} {lent : List ℕ} where
  laid-first : Laid k most p₀ p₀ lent lent 0
  unfolding laid
  laid-first = record {
    so_far = [];
    bytes = refl;
    long = let z = zero-mul (length k.slots) in sym z;
    all = ap (λ (n : ℕ). reasons_from k n p₀) (let e : most - 0 ≡ most = omega arith in e);
  }

  module _ {p : PlanState} {reasons : List ℕ} {played : ℕ} (h : Laid k most p₀ p lent reasons played) where
    laid_next : played < most → p.buffers.next < length k.refs → length (round_acts k p) ≡ length k.slots → {q : PlanState} → q ≡ round_from k p
        → {reasons' : List ℕ} → reasons' ≡ laid_at (played * length k.slots) (reasons_in (round_acts k p)) reasons
        → Laid k most p₀ q lent reasons' (played + 1)
    unfolding laid_at
    laid_next more due each {q} eq er =
        let disks = length k.slots in
        let round = reasons_in (round_acts k p) in
        let left : most - played ≡ suc (most - (played + 1)) = omega arith in
        let many = reasons_length (round_acts k p) in
        let sum = length-append h.so_far round in
        let long = h.long in
        let one = suc-mul played disks in
        let rest : reasons_from k (most - played) p ≡ round ++ reasons_from k (most - (played + 1)) q =
        ap (λ (n : ℕ). reasons_from k n p) left ∙ reasons_more k p (most - (played + 1)) due
        ∙ ap (λ (y : PlanState). round ++ reasons_from k (most - (played + 1)) y) (sym eq) in
        record {
          so_far = h.so_far ++ round;
          bytes = er ∙ ap (laid_at (played * disks) round) h.bytes ∙ laid_then 0 (played * disks) h.so_far round lent (omega (arith, long));
          long = rw (add-one played, one) (omega (arith, many, each, sum, long));
          all = append_assoc h.so_far round (reasons_from k (most - (played + 1)) q) ∙ ap (λ (l : List ℕ). h.so_far ++ l) (sym rest) ∙ h.all;
        }

    pub laid-long : length reasons ≡ length lent
    unfolding laid_at
    laid-long = ap length h.bytes ∙ length-laid 0 h.so_far lent

    laid_last : reasons_from k (most - played) p ≡ [] → reasons ≡ laid (reasons_from k most p₀) lent
    laid_last none =
        h.bytes ∙ ap (λ (l : List ℕ). laid l lent) (sym (append-nil h.so_far) ∙ ap (λ (l : List ℕ). h.so_far ++ l) (sym none) ∙ h.all)

module _ {k : PlanInput} {most : ℕ} {p₀ : PlanState} {lent : List ℕ} where
  pub round-first : Sized k → Kept k p₀ → most ≤ 2048 → {sheet : List ℕ} → sheet ≡ replicate 40968 0
      → BeforeRound k most p₀ p₀ lent (replicate 8 0) sheet lent 0 12
  round-first sized kept few {sheet} e =
      let all : most - 0 ≡ most = omega arith in
      record {
        sized = sized;
        kept = kept;
        few_rounds = few;
        within = omega arith;
        done = [];
        written = written_none sheet e;
        reasoned = laid-first;
        whole = ap (λ (n : ℕ). driven_from k n p₀) all;
        end = ap (λ (n : ℕ). end_from k n p₀) all;
      }

  module _ {p : PlanState} {counts sheet reasons : List ℕ} {played at : ℕ} (h : BeforeRound k most p₀ p lent counts sheet reasons played at) where
    -- the round is played, counted and written, and its reasons laid
    pub round-next : played < most → p.buffers.next < length k.refs → {q : PlanState} → Kept k q → q ≡ round_from k p
        → (acts : List Action) → acts ≡ round_acts k p → length acts ≡ length k.slots
        → {counts' sheet' reasons' : List ℕ} {at' : ℕ} → counts' ≡ tallied counts acts
        → sheet' ≡ put_bits sheet at (round_bits (actions_in acts)) → at' ≡ at + length (round_bits (actions_in acts))
        → reasons' ≡ laid_at (played * length k.slots) (reasons_in acts) reasons
        → BeforeRound k most p₀ q lent counts' sheet' reasons' (played + 1) at'
    round-next more due {q} kept eq acts ea each ec es et er =
        let few = h.few_rounds in
        let eight = h.sized.few_disks in
        let left : most - played ≡ suc (most - (played + 1)) = omega arith in
        let round = actions_in acts in
        let rest : driven_from k (most - played) p ≡ round ∷ driven_from k (most - (played + 1)) q =
        ap (λ (n : ℕ). driven_from k n p) left ∙ driven_more k p (most - (played + 1)) due
        ∙ ap₂ (λ (x : List Action) (y : PlanState). actions_in x ∷ driven_from k (most - (played + 1)) y) (sym ea) (sym eq) in
        record {
          sized = h.sized;
          kept = kept;
          few_rounds = few;
          within = omega arith;
          done = h.done ++ (round ∷ []);
          written = written_more h.written acts (omega (arith, eight, each)) (omega (arith, few)) ec es et;
          reasoned = laid_next h.reasoned more due (ap length (sym ea) ∙ each) eq (er ∙ ap (λ (x : List Action). laid_at (played * length k.slots) (reasons_in x) reasons) ea);
          whole = append_assoc h.done (round ∷ []) (driven_from k (most - (played + 1)) q)
              ∙ ap (λ (l : Schedule). h.done ++ l) (sym rest) ∙ h.whole;
          end = ap (end_from k (most - (played + 1))) eq ∙ sym (end_more k p (most - (played + 1)) due) ∙ ap (λ (n : ℕ). end_from k n p) (sym left)
              ∙ h.end;
        }

    -- No round is left: the rounds are played, or the references read.
    abbrev pub NoneLeft : Type 0
    NoneLeft = (driven_from k (most - played) p ≡ []) × (reasons_from k (most - played) p ≡ []) × (end_from k (most - played) p ≡ p)

    pub all_played : most ≤ played → NoneLeft
    all_played over =
        let none : most - played ≡ 0 = omega arith in (
          ap (λ (n : ℕ). driven_from k n p) none ∙ driven_zero k p,
          ap (λ (n : ℕ). reasons_from k n p) none ∙ reasons_zero k p,
          ap (λ (n : ℕ). end_from k n p) none ∙ end_zero k p,
        )

    pub all_read : length k.refs ≤ p.buffers.next → NoneLeft
    all_read over = (driven_none k p (most - played) over, reasons_none k p (most - played) over, end_none k p (most - played) over)

    module _ (none : NoneLeft) where
      done_is : h.done ≡ driven_from k most p₀
      done_is = sym (append-nil h.done) ∙ ap (λ (l : Schedule). h.done ++ l) (sym none.0) ∙ h.whole

      pub last_totals : record { rounds = played; fetches = counts; bits = at } ≡ totals_of (driven_from k most p₀)
      last_totals = totals_are h.written ∙ ap totals_of done_is

      pub last_sheet : {t : List ℕ} → t ≡ headed sheet played → t ≡ bytes 40968 (sheet_bits (driven_from k most p₀))
      last_sheet {t} e =
          sheet-headed h.written (let w = h.within in let f = h.few_rounds in omega (arith, w, f)) t e
          ∙ ap (λ (s : Schedule). bytes 40968 (sheet_bits s)) done_is

      pub last_desk : p.desk ≡ (end_from k most p₀).desk
      last_desk = ap (λ (x : PlanState). x.desk) (sym none.2 ∙ h.end)

      pub last_reasons : reasons ≡ laid (reasons_from k most p₀) lent
      last_reasons = laid_last h.reasoned none.1

-- one disk's turn, by its choice
module _ (k : PlanInput) (d : ℕ) (b : Buffers) (desk : Desk) (acts : List Action) (c : Choice) where
  by_case : {b' : Buffers} {desk' : Desk} {acts' : List Action} → acts' ≡ set acts d (noted desk.held c) → (x : Choice) → c ≡ x
      → b' ≡ buffers_after d desk.held b x → desk' ≡ desk_after k d (buffers_after d desk.held b x).resident desk x
      → state_with b' desk' acts' ≡ after_turn k d (state_with b desk acts) c
  by_case ea x e eb ed =
      (λ i. state_with (eb i) (ed i) ((ea ∙ ap (λ (y : Choice). set acts d (noted desk.held y)) e) i))
      ∙ ap (after_turn k d (state_with b desk acts)) (sym e)

  pub turn_into : {b' : Buffers} {desk' : Desk} {acts' : List Action} → acts' ≡ set acts d (noted desk.held c) → (u place : ℕ) → c ≡ IntoEmpty u place
      → {x : Buffers} → x ≡ fetch_into b u d → b' ≡ x → desk' ≡ taken_in k.refs x.resident k.steps d u place desk
      → state_with b' desk' acts' ≡ after_turn k d (state_with b desk acts) c
  turn_into ea u place e ex eb ed =
      by_case ea (IntoEmpty u place) e (eb ∙ ex) (ed ∙ ap (λ (y : Buffers). taken_in k.refs y.resident k.steps d u place desk) ex)

  pub turn_over : {b' : Buffers} {desk' : Desk} {acts' : List Action} → acts' ≡ set acts d (noted desk.held c) → (u place : ℕ)
      → c ≡ OverMinBlock u place → {v : ℕ} → v ≡ get_or desk.held place 0 → {x : Buffers} → x ≡ replace_in b v u d → b' ≡ x
      → desk' ≡ taken_in k.refs x.resident k.steps d u place desk
      → state_with b' desk' acts' ≡ after_turn k d (state_with b desk acts) c
  turn_over ea u place e ev ex eb ed =
      let played = ex ∙ ap (λ (y : ℕ). replace_in b y u d) ev in
      by_case ea (OverMinBlock u place) e (eb ∙ played) (ed ∙ ap (λ (y : Buffers). taken_in k.refs y.resident k.steps d u place desk) played)

  pub turn_idle : {b' : Buffers} {desk' : Desk} {acts' : List Action} → acts' ≡ set acts d (noted desk.held c)
      → (c ≡ MinBlockSooner) ⊎ ((c ≡ Waits) ⊎ (c ≡ NoneMissing))
      → b' ≡ b → desk' ≡ desk → state_with b' desk' acts' ≡ after_turn k d (state_with b desk acts) c
  turn_idle ea e eb ed =
      ⊎_elim (λ x. by_case ea MinBlockSooner x eb ed) (⊎_elim (λ x. by_case ea Waits x eb ed) (λ x. by_case ea NoneMissing x eb ed)) e

-- the disks' turns
module _ {k : PlanInput} {p₀ : PlanState} where
  pub turn_first : Sized k → Kept k p₀ → BeforeTurn k p₀ 0 p₀
  unfolding turns
  turn_first sized kept = record { sized = sized; kept = kept; within = omega arith; turned_so = refl }

  module _ {d : ℕ} {p : PlanState} (h : BeforeTurn k p₀ d p) where
    pub turn_next : d < length k.slots → {c : Choice} → c ≡ choice_at k d p → {q : PlanState} → q ≡ after_turn k d p c → BeforeTurn k p₀ (d + 1) q
    unfolding turns
    turn_next l {c} e {q} eq = rw (add-one d) (record {
      sized = h.sized;
      kept = subst (Kept k) (sym eq) (turn_kept k h.sized p h.kept d l c e);
      within = omega arith;
      turned_so = eq ∙ ap (after_turn k d p) e ∙ ap (λ (x : PlanState). after_turn k d x (choice_at k d x)) h.turned_so;
    })

    pub turn_last : length k.slots ≤ d → p ≡ all_acted k p₀
    turn_last over =
        let w = h.within in
        let all : d ≡ length k.slots = omega (arith, w) in
        h.turned_so ∙ ap (λ (n : ℕ). turns k n p₀) all

    -- the actions of the round, one for each disk
    pub turn_acts : length k.slots ≤ d → take (length k.slots) p.acts ≡ round_acts k p₀
    turn_acts over = ap (λ (x : PlanState). take (length k.slots) x.acts) (turn_last over)

    pub turn_each : length (take (length k.slots) p.acts) ≡ length k.slots
    turn_each = length-take-le (length k.slots) p.acts (omega (arith, h.sized.few_disks, h.kept.long_acts))

-- the reading
module _ (k : PlanInput) (p : PlanState) where
  read_more : (n : ℕ) → can_read k p ≡ true → read_from k (suc n) p ≡ read_from k n (read_next k p)
  unfolding read_from
  read_more n y = rw y refl

  read-stops : (n : ℕ) → can_read k p ≡ false → read_from k n p ≡ p
  unfolding read_from
  read-stops zero f = refl
  read-stops (suc n) f = rw f refl

module _ {k : PlanInput} {p₀ : PlanState} where
  pub read_first : Sized k → Kept k p₀ → BeforeRead k p₀ p₀
  read_first sized kept = record { sized = sized; kept = kept; left = length k.refs; enough = omega arith; rest = refl }

  module _ {p : PlanState} (h : BeforeRead k p₀ p) where
    abbrev i : ℕ
    i = p.buffers.next

    pub read_next_lem : i < length k.refs → get_or p.buffers.resident (get_or k.refs i 0) false ≡ true → {q : PlanState} → q ≡ read_next k p
        → BeforeRead k p₀ q
    unfolding consume_one
    read_next_lem more here {q} eq =
        let enough = h.enough in
        let some : h.left ≡ suc (h.left - 1) = omega (arith, enough, more) in
        subst (BeforeRead k p₀) (sym eq) (record {
          sized = h.sized;
          kept = read_kept k h.sized p h.kept more;
          left = h.left - 1;
          enough = omega (arith, enough, some);
          rest = sym (read_more k p (h.left - 1) (and_true (lt-ltb i (length k.refs) more) here)) ∙ ap (λ (n : ℕ). read_from k n p) (sym some)
              ∙ h.rest;
        })

    pub read-missing : get_or p.buffers.resident (get_or k.refs i 0) false ≡ false → p ≡ read_from k (length k.refs) p₀
    read-missing out = sym (read-stops k p h.left (and_false_right (ltb i (length k.refs)) out)) ∙ h.rest

    pub read_end : length k.refs ≤ i → p ≡ read_from k (length k.refs) p₀
    read_end over = sym (read-stops k p h.left (and_false_left _ (le-ltb i (length k.refs) over))) ∙ h.rest
