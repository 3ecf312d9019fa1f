-- Request L2, "A wall page of the run": the page of a plan. How long its lines are and where each stands, and that a line shows the choice that the
-- plan's rule makes. Assumes nothing.
use mathlib.Core.Path.{◌≡◌, refl, sym, ap, ◌∙◌}
use mathlib.Core.List.{List, [], ◌∷◌, ◌++◌, map, append_assoc}
use mathlib.Core.Option.{none, some}
use Prim.Native.Nat.{ℕ, zero, suc, ◌+◌, ◌*◌, ◌≤◌, ◌<◌}
use native.Mathlib.Nat.{mul-le-mul}
use native.Mathlib.Omega.{arith}
use lib.Dec.{ltb}
use lib.ListN.{length, get_or, take, drop, replicate, length-append, length-replicate, length-map}
use lib.Seq.{take_at, drop_at, get_or_at, drop-append-add, get_or-append-add, get_or-take, get_or-drop}
use Rattle.bits.specs.Bits.{Below}
use Rattle.bits.proofs.Logic.{by_test, Each, each_at, at_each, get_d_same}
use Rattle.model.specs.Job.{Sound, Job, disk_count, ref_count}
use Rattle.model.specs.Playing.{State, start, play_round, play}
use Rattle.model.specs.Rules.{Choice, into_empty, over_min_block, min_block_sooner, waits, none_missing, action, Rule}
use Rattle.model.specs.Plans.{each, choices, plan_from, plan_of, schedule_of, state_after}
use Rattle.model.specs.Text.{text, decimal, right_in}
use Rattle.model.specs.Page.{letter, block_text, fetched_block, discarded_block, line_of, round_lines, lines_from, legend, ended, page_of, reason, reasons_of}
use Rattle.model.proofs.Choosing.{nothing, into, sooner, waiting, over, RuleView, Lawful}
use Rattle.model.proofs.Carried.{ready_start}
use Rattle.model.proofs.Plans.{length-each, get_d_each, plan_few}
use Rattle.model.proofs.Text.{decimal_one, decimal-few, right_length}

-- Choices whose blocks have at most three digits, and rounds of them, with one for each disk.

abbrev pub SmallChoice : Choice → Type 0
SmallChoice (into_empty u) = u < 512
SmallChoice (over_min_block u v) = (u < 512) × (v < 512)
SmallChoice min_block_sooner = Unit {0}
SmallChoice waits = Unit {0}
SmallChoice none_missing = Unit {0}

abbrev pub SmallRounds : ℕ → List (List Choice) → Type 0
SmallRounds disks plan = Each (λ (round : List Choice). (length round ≡ disks) × Each SmallChoice round) plan

-- every plan's rounds are such
module _ (rule : Rule) (lawful : Lawful rule) (j : Job) (sound : Sound j) where
  choice_small : (s : State) (d : ℕ) (c : Choice) → RuleView j s d c → SmallChoice c
  choice_small s d c (nothing h) = tt
  choice_small s d c (into u n l) = let k = n.block.known in let f = sound.few_blocks in omega (arith, k, f)
  choice_small s d c (sooner u v n f l p) = tt
  choice_small s d c (waiting w) = tt
  choice_small s d c (over u v n f l p x) = let a = n.block.known in let b = l.block.known in let k = sound.few_blocks in omega (arith, a, b, k)

  each-small : (s : State) (d k : ℕ) → d + k ≤ disk_count j → Each SmallChoice (each (rule j s) d k)
  unfolding each Each
  each-small s d zero h = tt
  each-small s d (suc k) h = (choice_small s d (rule j s d) (lawful j s d (sound.some_slot d (omega arith))), each-small s (suc d) k (omega arith))

  pub plan_small : (most : ℕ) (s : State) → SmallRounds (disk_count j) (plan_from rule j most s)
  unfolding plan_from choices Each
  plan_small zero s = tt
  plan_small (suc most) s =
      let ih = plan_small most (play_round j s (map action (choices rule j s))) in
      by_test (ltb s.next (ref_count j))
      (λ e. rw (e, plan_from) ((length-each (rule j s) 0 (disk_count j), each-small s 0 (disk_count j) (omega arith)), ih))
      (λ e. rw (e, plan_from) tt)

-- A line has 16 columns and a line feed, and the letter is in the last column.

-- what stands before the letter
abbrev line_start : ℕ → ℕ → Choice → List ℕ
line_start round disk c =
    right_in 4 (decimal round) ++ 32 ∷ (decimal disk ++ 32 ∷ (block_text (fetched_block c) ++ 32 ∷ (block_text (discarded_block c) ++ 32 ∷ [])))

line_split : (round disk : ℕ) (c : Choice) → line_of round disk c ≡ line_start round disk c ++ letter c ∷ 10 ∷ []
unfolding line_of
line_split round disk c = simp append_assoc

block-length : (b : ℕ) → b < 512 → length (block_text (some b)) ≡ 3
unfolding block_text
block-length b h = right_length 3 (decimal b) (decimal-few 2 b (omega arith))

none-length : length (block_text none) ≡ 3
unfolding block_text
none-length = refl

fetched-length : (c : Choice) → SmallChoice c → length (block_text (fetched_block c)) ≡ 3
fetched-length (into_empty u) h = block-length u h
fetched-length (over_min_block u v) h = block-length u h.0
fetched-length min_block_sooner h = none-length
fetched-length waits h = none-length
fetched-length none_missing h = none-length

discarded-length : (c : Choice) → SmallChoice c → length (block_text (discarded_block c)) ≡ 3
discarded-length (into_empty u) h = none-length
discarded-length (over_min_block u v) h = block-length v h.1
discarded-length min_block_sooner h = none-length
discarded-length waits h = none-length
discarded-length none_missing h = none-length

start-length : (round disk : ℕ) (c : Choice) → round < 10000 → disk < 10 → SmallChoice c → length (line_start round disk c) ≡ 15
start-length round disk c p q h =
    let a = right_length 4 (decimal round) (decimal-few 3 round (omega arith)) in
    let b = ap length (decimal_one disk q) in
    let f = fetched-length c h in
    let g = discarded-length c h in
    simp length-append (omega (arith, a, b, f, g))

pub line_length : (round disk : ℕ) (c : Choice) → round < 10000 → disk < 10 → SmallChoice c → length (line_of round disk c) ≡ 17
line_length round disk c p q h =
    let e = ap length (line_split round disk c) ∙ length-append (line_start round disk c) (letter c ∷ 10 ∷ []) in
    let l = start-length round disk c p q h in
    omega (arith, e, l)

pub line_letter : (round disk : ℕ) (c : Choice) → round < 10000 → disk < 10 → SmallChoice c → get_or (line_of round disk c) 15 0 ≡ letter c
line_letter round disk c p q h =
    ap (λ (l : List ℕ). get_or l 15 0) (line_split round disk c) ∙ get_or_at (line_start round disk c) (letter c) (10 ∷ []) 0 15 (start-length round disk c p q h)

-- The lines stand one after the other, each at its place.

-- past the first of three texts
drop_past : (x y z : List ℕ) (n m : ℕ) → n ≡ length x + m → drop n (x ++ y ++ z) ≡ drop m (y ++ z)
drop_past x y z n m e = rw (e, append_assoc) (drop-append-add x (y ++ z) m)

-- in a round, from a disk on
module _ (round : ℕ) (p : round < 10000) where
  round-length : (disk : ℕ) (choices : List Choice) → disk + length choices ≤ 10 → Each SmallChoice choices → length (round_lines round disk choices) ≡ length choices * 17
  unfolding round_lines Each
  round-length disk [] q h = refl
  round-length disk (c ∷ more) q h =
      let e = length-append (line_of round disk c) (round_lines round (suc disk) more) in
      let l = line_length round disk c p (omega arith) h.0 in
      let ih = round-length (suc disk) more (omega arith) h.1 in
      omega (arith, e, l, ih)

  round_at : (disk : ℕ) (choices : List Choice) → disk + length choices ≤ 10 → Each SmallChoice choices → (d : ℕ) → d < length choices → (rest : List ℕ)
      → take 17 (drop (d * 17) (round_lines round disk choices ++ rest)) ≡ line_of round (disk + d) (get_or choices d none_missing)
  unfolding round_lines Each
  round_at disk [] q h d k rest = absurd (omega arith)
  round_at disk (c ∷ more) q h zero k rest =
      let e : disk + 0 ≡ disk = omega arith in
      rw (append_assoc (line_of round disk c) (round_lines round (suc disk) more) rest, e)
      (take_at (line_of round disk c) (round_lines round (suc disk) more ++ rest) 17 (line_length round disk c p (omega arith) h.0))
  round_at disk (c ∷ more) q h (suc d) k rest =
      let e : disk + suc d ≡ suc disk + d = omega arith in
      let l = line_length round disk c p (omega arith) h.0 in
      rw e (ap (take 17) (drop_past (line_of round disk c) (round_lines round (suc disk) more) rest (suc d * 17) (d * 17) (omega (arith, l)))
      ∙ round_at (suc disk) more (omega arith) h.1 d (omega arith) rest)

-- the choice of a round and a disk, counted from 0
abbrev pub choice_at : List (List Choice) → ℕ → ℕ → Choice
choice_at plan r d = get_or (get_or plan r []) d none_missing

-- in a plan, from a round on, with some text after its lines
module _ (disks : ℕ) (few : disks ≤ 8) where
  pub lines_length : (from : ℕ) (plan : List (List Choice)) → SmallRounds disks plan → from + length plan ≤ 10000 → length (lines_from from plan) ≡ length plan * disks * 17
  unfolding lines_from Each
  lines_length from [] h p = omega arith
  lines_length from (first ∷ more) h p =
      let n = h.0.0 in
      let e = length-append (round_lines from 0 first) (lines_from (suc from) more) in
      let l = round-length from (omega arith) 0 first (omega (arith, n)) h.0.1 in
      let ih = lines_length (suc from) more h.1 (omega arith) in
      omega (arith, e, l, ih, n)

  pub lines_then : (from : ℕ) (plan : List (List Choice)) → SmallRounds disks plan → from + length plan ≤ 10000 → (rest : List ℕ)
      → drop (length plan * disks * 17) (lines_from from plan ++ rest) ≡ rest
  lines_then from plan h p rest = drop_at (lines_from from plan) rest _ (lines_length from plan h p)

  pub lines_at : (from : ℕ) (plan : List (List Choice)) → SmallRounds disks plan → from + length plan ≤ 10000 → (r d : ℕ) → r < length plan → d < disks → (rest : List ℕ)
      → take 17 (drop ((r * disks + d) * 17) (lines_from from plan ++ rest)) ≡ line_of (from + r) d (choice_at plan r d)
  unfolding lines_from Each
  lines_at from [] h p r d k l rest = absurd (omega arith)
  lines_at from (first ∷ more) h p zero d k l rest =
      let n = h.0.0 in
      let e : (0 * disks + d) * 17 ≡ d * 17 = omega arith in
      let f : from + 0 ≡ from = omega arith in
      let g : 0 + d ≡ d = omega arith in
      rw (e, f, append_assoc (round_lines from 0 first) (lines_from (suc from) more) rest)
      (round_at from (omega arith) 0 first (omega (arith, n)) h.0.1 d (omega (arith, n)) (lines_from (suc from) more ++ rest)
      ∙ ap (λ (m : ℕ). line_of from m (get_or first d none_missing)) g)
  lines_at from (first ∷ more) h p (suc r) d k l rest =
      let n = h.0.0 in
      let e : from + suc r ≡ suc from + r = omega arith in
      let m = round-length from (omega arith) 0 first (omega (arith, n)) h.0.1 in
      rw e (ap (take 17) (drop_past (round_lines from 0 first) (lines_from (suc from) more) rest ((suc r * disks + d) * 17) ((r * disks + d) * 17) (omega (arith, m, n)))
      ∙ lines_at (suc from) more h.1 (omega arith) r d (omega arith) l rest)

  choice_at_small : (plan : List (List Choice)) → SmallRounds disks plan → (r d : ℕ) → r < length plan → d < disks → SmallChoice (choice_at plan r d)
  choice_at_small plan h r d k l =
      let round = each_at _ plan h r [] k in
      let n = round.0 in
      each_at SmallChoice (get_or plan r []) round.1 d none_missing (omega (arith, n))

  -- and with it its letter
  pub lines_letter : (from : ℕ) (plan : List (List Choice)) → SmallRounds disks plan → from + length plan ≤ 10000 → (r d : ℕ) → r < length plan → d < disks → (rest : List ℕ)
      → get_or (lines_from from plan ++ rest) ((r * disks + d) * 17 + 15) 0 ≡ letter (choice_at plan r d)
  lines_letter from plan h p r d k l rest =
      let n = (r * disks + d) * 17 in
      let text = lines_from from plan ++ rest in
      sym (get_or-take 17 (drop n text) 15 0 (omega arith) ∙ get_or-drop n text 15 0)
      ∙ ap (λ (line : List ℕ). get_or line 15 0) (lines_at from plan h p r d k l rest)
      ∙ line_letter (from + r) d (choice_at plan r d) (omega arith) (omega arith) (choice_at_small plan h r d k l)

-- The choice of a line is the rule's, from the state at the start of its round.

pub round-choices : (rule : Rule) (j : Job) (most : ℕ) (s : State) (r : ℕ) → r < length (plan_from rule j most s)
    → get_or (plan_from rule j most s) r [] ≡ choices rule j (play j s (take r (map (map action) (plan_from rule j most s))))
unfolding plan_from play
round-choices rule j zero s r l = absurd (omega arith)
round-choices rule j (suc most) s r l =
    by_test (ltb s.next (ref_count j))
    (λ e. rw (e, plan_from) (step (round-choices rule j most t) r (rw (e, plan_from) at l)))
    (λ e. let m = rw (e, plan_from) at l in absurd (omega (arith, m)))
  where
    t : State
    t = play_round j s (map action (choices rule j s))

    rest : List (List Choice)
    rest = plan_from rule j most t

    step : ((k : ℕ) → k < length rest → get_or rest k [] ≡ choices rule j (play j t (take k (map (map action) rest)))) → (k : ℕ) → k < suc (length rest)
        → get_or (choices rule j s ∷ rest) k [] ≡ choices rule j (play j s (take k (map action (choices rule j s) ∷ map (map action) rest)))
    step ih zero k = refl
    step ih (suc r) k = ih r (omega arith)

pub plan_choice : (rule : Rule) (j : Job) (r d : ℕ) → r < length (plan_of rule j) → d < disk_count j → choice_at (plan_of rule j) r d ≡ rule j (state_after rule j r) d
unfolding plan_of state_after schedule_of choices
plan_choice rule j r d k l =
    ap (λ (round : List Choice). get_or round d none_missing) (round-choices rule j (ref_count j) (start j) r k)
    ∙ get_d_each (rule j _) 0 (disk_count j) d none_missing l
    ∙ ap (rule j _) (let e : 0 + d ≡ d = omega arith in e)

-- The legend, and the reasons as places of its lines.

pub legend-length : length (ended legend) ≡ 85
unfolding ended legend
legend-length = refl

pub reason-letter : (c : Choice) → get_or (get_or legend (reason c) []) 0 0 ≡ letter c
unfolding legend
reason-letter (into_empty u) = refl
reason-letter (over_min_block u v) = refl
reason-letter min_block_sooner = refl
reason-letter waits = refl
reason-letter none_missing = refl

pub reasons_length : (disks : ℕ) (plan : List (List Choice)) → SmallRounds disks plan → length (reasons_of plan) ≡ length plan * disks
unfolding reasons_of Each
reasons_length disks [] h = omega arith
reasons_length disks (first ∷ more) h =
    let e = length-append (map reason first) (reasons_of more) in
    let m = length-map first reason in
    let n = h.0.0 in
    let ih = reasons_length disks more h.1 in
    omega (arith, e, m, n, ih)

-- each stands at its place, round by round and disk by disk
round-reason : (round : List Choice) (rest : List ℕ) (d : ℕ) → d < length round → get_or (map reason round ++ rest) d 0 ≡ reason (get_or round d none_missing)
round-reason [] rest d l = absurd (omega arith)
round-reason (c ∷ more) rest zero l = refl
round-reason (c ∷ more) rest (suc d) l = round-reason more rest d (omega arith)

pub reasons_at : (disks : ℕ) (plan : List (List Choice)) → SmallRounds disks plan → (r d : ℕ) → r < length plan → d < disks
    → get_or (reasons_of plan) (r * disks + d) 0 ≡ reason (choice_at plan r d)
unfolding reasons_of Each
reasons_at disks [] h r d k l = absurd (omega arith)
reasons_at disks (first ∷ more) h zero d k l =
    let n = h.0.0 in
    let e : 0 * disks + d ≡ d = omega arith in
    rw e (round-reason first (reasons_of more) d (omega (arith, n)))
reasons_at disks (first ∷ more) h (suc r) d k l =
    let n = h.0.0 in
    let m = length-map first reason in
    let e : suc r * disks + d ≡ length (map reason first) + (r * disks + d) = omega (arith, m, n) in
    rw e (get_or-append-add (map reason first) (reasons_of more) (r * disks + d) 0 ∙ reasons_at disks more h.1 r d (omega arith) l)

-- no reason is past the legend's five lines
below_five : (c : Choice) → reason c < 5
below_five (into_empty u) = omega arith
below_five (over_min_block u v) = omega arith
below_five min_block_sooner = omega arith
below_five waits = omega arith
below_five none_missing = omega arith

round_below : (round : List Choice) (rest : List ℕ) → Each (λ (n : ℕ). n < 5) rest → Each (λ (n : ℕ). n < 5) (map reason round ++ rest)
unfolding Each
round_below [] rest h = h
round_below (c ∷ more) rest h = (below_five c, round_below more rest h)

all_below : (plan : List (List Choice)) → Each (λ (n : ℕ). n < 5) (reasons_of plan)
unfolding reasons_of Each
all_below [] = tt
all_below (first ∷ more) = round_below first (reasons_of more) (all_below more)

pub reasons_below : (plan : List (List Choice)) → Below 5 (reasons_of plan)
reasons_below plan i l = each_at (λ (n : ℕ). n < 5) (reasons_of plan) (all_below plan) i 0 l

-- The page of a plan: its lines, then the legend.

pub page_size : (disks : ℕ) → disks ≤ 8 → (plan : List (List Choice)) → SmallRounds disks plan → length plan ≤ 2048 → length (page_of plan) ≡ length plan * disks * 17 + 85
unfolding page_of
page_size disks few plan h p =
    let e = length-append (lines_from 1 plan) (ended legend) in
    let l = lines_length disks few 1 plan h (omega arith) in
    omega (arith, e, l, legend-length)

each_same : {A : Type 0} (Q : A → Type 0) (n : ℕ) (a : A) → Q a → Each Q (replicate n a)
each_same Q n a h = at_each Q (replicate n a) a λ i p. rw (get_d_same n i a) h

pub widest_line : line_of 2048 7 (over_min_block 511 0) ≡ text "2048 7 511   0 M" ++ 10 ∷ []
unfolding line_of decimal right_in block_text text each
widest_line = refl

pub page_longest : length (page_of (replicate 2048 (replicate 8 (over_min_block 1 0)))) ≡ 278613
page_longest =
    let round = replicate 8 (over_min_block 1 0) in
    let n = length-replicate 2048 round in
    let small : SmallRounds 8 (replicate 2048 round) = each_same _ 2048 round (refl, each_same SmallChoice 8 (over_min_block 1 0) (omega arith)) in
    let size = page_size 8 (omega arith) (replicate 2048 round) small (omega (arith, n)) in
    omega (arith, n, size)

module _ (rule : Rule) (lawful : Lawful rule) (j : Job) (sound : Sound j) where
  plan_is_small : SmallRounds (disk_count j) (plan_of rule j)
  unfolding plan_of
  plan_is_small = plan_small rule lawful j sound (ref_count j) (start j)

  plan_most : length (plan_of rule j) ≤ 2048
  unfolding plan_of
  plan_most =
      let f = plan_few rule lawful j sound (ref_count j) (start j) (ready_start j sound) in
      let n = sound.few_refs in
      omega (arith, f, n)

  pub page_line : (r d : ℕ) → r < length (plan_of rule j) → d < disk_count j
      → take 17 (drop ((r * disk_count j + d) * 17) (page_of (plan_of rule j))) ≡ line_of (suc r) d (rule j (state_after rule j r) d)
  unfolding page_of
  page_line r d k l =
      let few = plan_most in
      let e : 1 + r ≡ suc r = omega arith in
      lines_at (disk_count j) sound.few_disks 1 (plan_of rule j) plan_is_small (omega (arith, few)) r d k l (ended legend)
      ∙ rw (e, plan_choice rule j r d k l)

  pub page-letter : (r d : ℕ) → r < length (plan_of rule j) → d < disk_count j
      → get_or (page_of (plan_of rule j)) ((r * disk_count j + d) * 17 + 15) 0 ≡ letter (rule j (state_after rule j r) d)
  unfolding page_of
  page-letter r d k l =
      let few = plan_most in
      lines_letter (disk_count j) sound.few_disks 1 (plan_of rule j) plan_is_small (omega (arith, few)) r d k l (ended legend)
      ∙ ap letter (plan_choice rule j r d k l)

  pub page_then : drop (length (plan_of rule j) * disk_count j * 17) (page_of (plan_of rule j)) ≡ ended legend
  unfolding page_of
  page_then = let few = plan_most in lines_then (disk_count j) sound.few_disks 1 (plan_of rule j) plan_is_small (omega (arith, few)) (ended legend)

  pub page-long : length (page_of (plan_of rule j)) ≡ length (plan_of rule j) * disk_count j * 17 + 85
  page-long = page_size (disk_count j) sound.few_disks (plan_of rule j) plan_is_small plan_most

  pub page_most : length (page_of (plan_of rule j)) ≤ 278613
  page_most =
      let e = page-long in
      let most = mul-le-mul plan_most sound.few_disks in
      omega (arith, e, most)
