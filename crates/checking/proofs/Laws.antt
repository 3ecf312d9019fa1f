-- What the rest of a round and of a sheet gives is what the readers of the model give, so that the check answers as the model does.
-- Assumes nothing.
use mathlib.Core.Path.{◌≡◌, refl, sym, ap, ◌∙◌}
use mathlib.Core.Logic.{◌≢◌}
use mathlib.Core.Bool.{Bool, true, false, cond}
use mathlib.Core.List.{List, [], ◌∷◌}
use Prim.Native.Nat.{ℕ, zero, suc, ◌+◌, ◌≤◌, ◌<◌}
use native.Mathlib.Omega.{arith}
use lib.Dec.{ltb}
use lib.ListN.{length, get_or, drop, replicate, length-set, get_or-replicate}
use lib.Seq.{get_or-set_same, get_or-set_other}
use borrow.Author.Tests.{lt-ltb, le-ltb, ltb-false}
use Rattle.std.specs.Prelude.{Option, Some, None}
use Rattle.bits.specs.Bits.{bits}
use Rattle.bits.specs.Reading.{Answer, given, refused, Read, got, stop, Reader, bind, ◌>>=◌, ◌>>◌, give, field, refuse_if, is_closed, closing, answer, read_all}
use Rattle.bits.proofs.Reading.{closing_is}
use Rattle.bits.specs.Fields.{field_at, read_of}
use Rattle.bits.proofs.Logic.{by_test}
use Rattle.bits.proofs.Fields.{field_reads}
use Rattle.model.specs.Job.{Job, disk_count, ref_count}
use Rattle.model.specs.Playing.{Action, idle, fetch, replace, Schedule, State, start, act, act_all, play_round, play, charged_from, charged, fetched, fetches, total}
use Rattle.model.specs.Plans.{each}
use Rattle.model.specs.Sheet.{action_reader, round_reader, rounds_reader, sheet_reader, schedule_read}
use Rattle.model.specs.Calls.{Counts, counts_of, pass_of}
use Rattle.checking.specs.Checking.{counted, go_on, end_of, disks_from, charged_after, rounds_from, played}

-- Going on after a reading.

go_on_same : {A B : Type 0} (r : Read A) (f g : A → List ℕ → Answer B)
    → ((a : A) (rest : List ℕ) → r ≡ got a rest → f a rest ≡ g a rest) → go_on r f ≡ go_on r g
unfolding go_on
go_on_same (got a rest) f g h = h a rest refl
go_on_same (stop n) f g h = refl

go_on-bind : {A B C : Type 0} (r : Read A) (f : A → Reader B) (g : B → List ℕ → Answer C) → go_on (bind r f) g ≡ go_on r (λ a rest. go_on (f a rest) g)
unfolding go_on bind
go_on-bind (got a rest) f g = refl
go_on-bind (stop n) f g = refl

-- one value more in front of those that were read
go_on_cons : {A B : Type 0} (m : Reader (List A)) (a : A) (l : List ℕ) (g : List A → List ℕ → Answer B)
    → go_on ((m >>= λ more. give (a ∷ more)) l) g ≡ go_on (m l) (λ more rest. g (a ∷ more) rest)
unfolding ◌>>=◌ give go_on
go_on_cons m a l g = go_on-bind (m l) (λ more. give (a ∷ more)) g

-- The fetches of each disk after the actions from disk d on, and after all rounds.
counted_round : List ℕ → ℕ → List Action → List ℕ
counted_round f d [] = f
counted_round f d (a ∷ more) = counted_round (counted f d a) (suc d) more

counted_all : List ℕ → Schedule → List ℕ
counted_all f [] = f
counted_all f (actions ∷ more) = counted_all (counted_round f 0 actions) more

-- The rounds charged after all rounds, from a state and the rounds charged before it.
charged_all : Job → State → ℕ → Schedule → ℕ
charged_all j s n [] = n
charged_all j s n (actions ∷ more) = charged_all j (play_round j s actions) (charged_after j s.next (suc s.round) n) more

-- The rest of a round.
disks_read : (j : Job) (next : List Bool → List ℕ → List ℕ → Answer Counts) (k : ℕ) (marks : List Bool) (f : List ℕ) (d : ℕ) (l : List ℕ)
    → disks_from j next k marks f d l ≡ go_on (round_reader j k marks d l) (λ actions. next (act_all marks actions) (counted_round f d actions))
unfolding disks_from round_reader go_on give act_all counted_round bind ◌>>=◌
disks_read j next zero marks f d l = refl
disks_read j next (suc k) marks f d l =
    go_on_same (action_reader j marks d l) _ _ (λ a rest e.
    disks_read j next k (act marks a) (counted f d a) (suc d) rest
    ∙ sym (go_on_cons (round_reader j k (act marks a) (suc d)) a rest (λ actions. next (act_all marks actions) (counted_round f d actions))))
    ∙ sym (go_on-bind (action_reader j marks d l) _ _)

-- The rest of a sheet.
rounds-played : (j : Job) (k : ℕ) (s : State) (n : ℕ) (f l : List ℕ)
    → rounds_from j k s n f l ≡ go_on (rounds_reader j k s l) (λ schedule. end_of (ltb (play j s schedule).next (ref_count j)) (charged_all j s n schedule) (counted_all f schedule))
unfolding rounds_from rounds_reader go_on give play play_round charged_all counted_all bind ◌>>=◌
rounds-played j zero s n f l = refl
rounds-played j (suc k) s n f l =
    disks_read j _ (disk_count j) s.resident f 0 l
    ∙ go_on_same (round_reader j (disk_count j) s.resident 0 l) _ _ (λ actions rest e.
    rounds-played j k (play_round j s actions) (charged_after j s.next (suc s.round) n) (counted_round f 0 actions) rest
    ∙ sym (go_on_cons (rounds_reader j k (play_round j s actions)) actions rest _))
    ∙ sym (go_on-bind (round_reader j (disk_count j) s.resident 0 l) _ _)

-- The fetches that are counted are those of the schedule.

counted-length : (f : List ℕ) (d : ℕ) (a : Action) → length (counted f d a) ≡ length f
unfolding counted
counted-length f d idle = refl
counted-length f d (fetch x) = length-set f d _
counted-length f d (replace x z) = length-set f d _

counted_own : (f : List ℕ) (d : ℕ) (a : Action) → d < length f → get_or (counted f d a) d 0 ≡ get_or f d 0 + fetched a
unfolding counted
counted_own f d idle p = omega arith
counted_own f d (fetch x) p = get_or-set_same f d _ 0 p
counted_own f d (replace x z) p = get_or-set_same f d _ 0 p

counted_other : (f : List ℕ) (d : ℕ) (a : Action) (e : ℕ) → e ≢ d → get_or (counted f d a) e 0 ≡ get_or f e 0
unfolding counted
counted_other f d idle e p = refl
counted_other f d (fetch x) e p = get_or-set_other f d e _ 0 p
counted_other f d (replace x z) e p = get_or-set_other f d e _ 0 p

round-length : (f : List ℕ) (d : ℕ) (actions : List Action) → length (counted_round f d actions) ≡ length f
unfolding counted_round
round-length f d [] = refl
round-length f d (a ∷ more) = round-length (counted f d a) (suc d) more ∙ counted-length f d a

round_before : (f : List ℕ) (d : ℕ) (actions : List Action) (e : ℕ) → e < d → get_or (counted_round f d actions) e 0 ≡ get_or f e 0
unfolding counted_round
round_before f d [] e p = refl
round_before f d (a ∷ more) e p =
    round_before (counted f d a) (suc d) more e (omega arith) ∙ counted_other f d a e (λ q. absurd (omega arith))

round_at : (f : List ℕ) (d : ℕ) (actions : List Action) (e k : ℕ) → e ≡ d + k → e < length f
    → get_or (counted_round f d actions) e 0 ≡ get_or f e 0 + fetched (get_or actions k idle)
unfolding counted_round
round_at f d [] e k q p = omega arith
round_at f d (a ∷ more) e zero q p =
    let same : e ≡ d = omega arith in
    rw same (round_before (counted f d a) (suc d) more d (omega arith) ∙ counted_own f d a (omega arith))
round_at f d (a ∷ more) e (suc k) q p =
    let l = counted-length f d a in
    let rest = round_at (counted f d a) (suc d) more e k (omega arith) (omega arith) in
    let own = counted_other f d a e (λ r. absurd (omega arith)) in
    omega (arith, rest, own)

all_length : (f : List ℕ) (schedule : Schedule) → length (counted_all f schedule) ≡ length f
unfolding counted_all
all_length f [] = refl
all_length f (actions ∷ more) = all_length (counted_round f 0 actions) more ∙ round-length f 0 actions

all_at : (f : List ℕ) (schedule : Schedule) (e : ℕ) → e < length f → get_or (counted_all f schedule) e 0 ≡ get_or f e 0 + total fetched e schedule
unfolding counted_all total
all_at f [] e p = omega arith
all_at f (actions ∷ more) e p =
    let l = round-length f 0 actions in
    let rest = all_at (counted_round f 0 actions) more e (omega arith) in
    let one = round_at f 0 actions e e (omega arith) p in
    omega (arith, rest, one)

-- a list that has the values of f from i on
each_is : (f : ℕ → ℕ) (i n : ℕ) (l : List ℕ) → length l ≡ n → ((k m : ℕ) → k < n → m ≡ i + k → get_or l k 0 ≡ f m) → l ≡ each f i n
unfolding each
each_is f i zero [] e h = refl
each_is f i zero (x ∷ l) e h = absurd (omega arith)
each_is f i (suc n) [] e h = absurd (omega arith)
each_is f i (suc n) (x ∷ l) e h =
    let head = h 0 i (omega arith) (omega arith) in
    let tail = each_is f (suc i) n l (omega arith) (λ k m p q. h (suc k) m (omega arith) (omega arith)) in
    λ t. head t ∷ tail t

counted-fetches : (schedule : Schedule) → counted_all (replicate 8 0) schedule ≡ each (fetches schedule) 0 8
unfolding fetches
counted-fetches schedule =
    each_is (fetches schedule) 0 8 (counted_all (replicate 8 0) schedule) (all_length (replicate 8 0) schedule) λ k m p e.
    let same : m ≡ k = omega arith in
    let zeros = get_or-replicate {A = ℕ} 8 k 0 0 p in
    rw same (all_at (replicate 8 0) schedule k p ∙ omega (arith, zeros))

-- The rounds that are charged are those of the schedule: from where references remain, as many as are charged before and from there; where none
-- remains, those before.

charged-over : (j : Job) (s : State) (n : ℕ) (schedule : Schedule) → ref_count j ≤ s.next → charged_all j s n schedule ≡ n
unfolding charged_all play_round
charged-over j s n [] l = refl
charged-over j s n (actions ∷ more) l =
    rw (le-ltb s.next (ref_count j) l) (charged-over j (play_round j s actions) n more (omega arith))

charged-all : (j : Job) (s : State) (schedule : Schedule) → charged_all j s s.round schedule ≡ s.round + charged_from j s schedule
unfolding charged_all charged_from play_round
charged-all j s [] = omega arith
charged-all j s (actions ∷ more) =
    let ih = charged-all j (play_round j s actions) more in
    by_test (ltb s.next (ref_count j))
    (λ e. rw (e, charged_from) (omega (arith, ih)))
    (λ e. let l = ltb-false s.next (ref_count j) e in
    let over = charged-over j (play_round j s actions) s.round more (omega (arith, l)) in
    rw (e, charged_from) (omega (arith, over)))

charged-start : (j : Job) (schedule : Schedule) → charged_all j (start j) 0 schedule ≡ charged j schedule
unfolding charged start
charged-start j schedule = let e = charged-all j (start j) schedule in omega (arith, e)

-- The check.

-- a pass over what was read
passed : Job → Schedule → List ℕ → Answer Counts
unfolding counts_of
passed j schedule rest = given (counts_of j schedule)

pass_goes : (j : Job) (r : Read Schedule) → pass_of j (answer r) ≡ go_on r (passed j)
unfolding pass_of answer go_on passed
pass_goes j (got schedule rest) = refl
pass_goes j (stop n) = refl

-- what follows the last round
module _ (j : Job) (schedule : Schedule) (n : ℕ) (f : List ℕ) (e : n ≡ charged j schedule) (p : f ≡ each (fetches schedule) 0 8) where
  closed_goes : (t : Bool) → go_on (bind {A = Unit {0}} (cond t (got tt []) (stop 16)) (λ a. give schedule)) (passed j)
      ≡ cond t (given (record { rounds = n; fetches = f })) (refused 16)
  unfolding go_on bind give passed
  closed_goes true = rw (e, p)
  closed_goes false = refl

  end_goes : (t : Bool) (l : List ℕ) → go_on ((refuse_if 15 t >> (closing 16 >> give schedule)) l) (passed j) ≡ end_of t n f l
  unfolding go_on bind ◌>>◌ refuse_if end_of
  end_goes true l = refl
  end_goes false l = ap (λ (r : Read (Unit {0})). go_on (bind r (λ a. give schedule)) (passed j)) (closing_is 16 l) ∙ closed_goes (is_closed l)

-- what follows the round count, and the test of 10
rounds_rest : Job → ℕ → Reader Schedule
rounds_rest j r = do
  schedule ← rounds_reader j r (start j)
  refuse_if 15 (ltb (play j (start j) schedule).next (ref_count j))
  closing 16
  give schedule

rest_goes : (j : Job) (r : ℕ) (s : List ℕ) → go_on (rounds_rest j r (drop 12 (bits s))) (passed j) ≡ played j r s
unfolding rounds_rest played ◌>>=◌
rest_goes j r s =
    let l = drop 12 (bits s) in
    go_on-bind (rounds_reader j r (start j) l) _ (passed j)
    ∙ go_on_same (rounds_reader j r (start j) l) _ _ (λ schedule rest e.
    end_goes j schedule (charged_all j (start j) 0 schedule) (counted_all (replicate 8 0) schedule) (charged-start j schedule) (counted-fetches schedule)
    (ltb (play j (start j) schedule).next (ref_count j)) rest)
    ∙ sym (rounds-played j r (start j) 0 (replicate 8 0) l)

-- The answer to a sheet whose round count was read.
answered : Job → List ℕ → Option ℕ → Answer Counts
unfolding played
answered j s (Some r) = cond (ltb 2048 r) (refused 10) (played j r s)
answered j s None = refused 9

count_goes : (j : Job) (s : List ℕ) (f : Option ℕ)
    → go_on (read_of 9 (drop 12 (bits s)) f) (λ r rest. go_on ((refuse_if 10 (ltb 2048 r) >> rounds_rest j r) rest) (passed j)) ≡ answered j s f
unfolding go_on read_of ◌>>◌ bind refuse_if answered
count_goes j s (Some r) = by_test (ltb 2048 r) (λ t. rw t) (λ t. rw t (rest_goes j r s))
count_goes j s None = refl

check_answers : (j : Job) (s : List ℕ) → pass_of j (schedule_read j s) ≡ answered j s (field_at s 0 12)
unfolding schedule_read read_all sheet_reader ◌>>=◌ rounds_rest
check_answers j s =
    pass_goes j (sheet_reader j (start j) (bits s))
    ∙ go_on-bind (field 9 12 (bits s)) _ (passed j)
    ∙ ap (λ (x : Read ℕ). go_on x (λ r rest. go_on ((refuse_if 10 (ltb 2048 r) >> rounds_rest j r) rest) (passed j))) (field_reads 9 12 0 s (omega arith))
    ∙ count_goes j s (field_at s 0 12)

-- The three ways from the round count on.
module _ (j : Job) (s : List ℕ) where
  pub check_ended : field_at s 0 12 ≡ None → pass_of j (schedule_read j s) ≡ refused 9
  unfolding answered
  check_ended e = check_answers j s ∙ ap (answered j s) e

  pub check_long : (r : ℕ) → field_at s 0 12 ≡ Some r → 2048 < r → pass_of j (schedule_read j s) ≡ refused 10
  unfolding answered
  check_long r e l = check_answers j s ∙ ap (answered j s) e ∙ rw (lt-ltb 2048 r l)

  pub check_plays : (r : ℕ) → field_at s 0 12 ≡ Some r → r ≤ 2048 → pass_of j (schedule_read j s) ≡ played j r s
  unfolding answered
  check_plays r e l = check_answers j s ∙ ap (answered j s) e ∙ rw (le-ltb 2048 r l)
