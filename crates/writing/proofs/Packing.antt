-- An action's bits are one field, and actions put one after the other on a clear sheet are their round's bits. Assumes nothing.
use mathlib.Core.Path.{◌≡◌, refl, sym, ap, ap₂, ◌∙◌}
use mathlib.Core.List.{List, [], ◌∷◌, ◌++◌, append_assoc, append-nil}
use Prim.Native.Nat.{ℕ, zero, suc, ◌+◌, ◌-◌, ◌*◌, ◌/◌, ◌%◌, ◌^◌, ◌≤◌, ◌<◌}
use native.Mathlib.Nat.{zero-add, suc-add, zero-mul, add_comm}
use native.Mathlib.Numerals.{add-one}
use native.Mathlib.Omega.{arith}
use lib.Dec.{lit<}
use lib.ListN.{length, take, get_or, set, length-append}
use lib.Pow.{high, shr-shr}
use lib.Seq.{set-get_or, take-suc}
use Rattle.std.specs.Prelude.{Option, Some, None}
use Rattle.std.specs.List.{All}
use Rattle.std.proofs.lemmas.List.{length-map, length-take-le, map-append}
use Rattle.bits.specs.Bits.{digits, bits, bytes}
use Rattle.bits.specs.Fields.{put_bit, put_bits, ClearFrom}
use Rattle.bits.proofs.Bits.{Bits, digits_low, length-bytes, bits_are, append_bits, take-bits, length-bits}
use Rattle.bits.proofs.Fields.{put_packed, clear_packed}
use Rattle.model.specs.Playing.{idle, fetch, replace}
use Rattle.model.specs.Playing.{Action as JobAction}
use Rattle.model.specs.Sheet.{action_bits, round_bits}
use Rattle.model.proofs.Bytes.{action-bits, round-bits}
use Rattle.model.proofs.Longest.{length-action, length-round}
use Rattle.writing.specs.declared.Action.{Action}
use Rattle.writing.specs.Writing.{Small, action_of, action_in, actions_in}

-- two fields side by side are one
pub digits_join : (a b x y : ℕ) → y < 2 ^ b → digits (a + b) (x * 2 ^ b + y) ≡ digits a x ++ digits b y
unfolding digits
digits_join zero b x y h = ap (λ (w : ℕ). digits w (x * 2 ^ b + y)) (zero-add b) ∙ digits_low b x y
digits_join (suc a) b x y h =
    let v = x * 2 ^ b + y in
    let e : suc a + b ≡ suc (a + b) = suc-add a b in
    let top : v / 2 ^ (a + b) % 2 ≡ x / 2 ^ a % 2 =
    ap (λ (k : ℕ). v / 2 ^ k % 2) (add_comm a b) ∙ ap (λ (k : ℕ). k % 2) (sym (shr-shr v b a) ∙ ap (λ (k : ℕ). k / 2 ^ a) (high x b h)) in
    ap (λ (w : ℕ). digits w v) e ∙ ap₂ (λ (z : ℕ) (l : List ℕ). z ∷ l) top (digits_join a b x y h)

none-bits : Bits []
unfolding Bits Rattle.bits.proofs.Logic.Each
none-bits = tt

-- an action's bits as one field

one : digits 1 1 ≡ 1 ∷ []
unfolding digits
one = refl

nought : digits 1 0 ≡ 0 ∷ []
unfolding digits
nought = refl

fetch-bits : (x : ℕ) → 1 ∷ (digits 9 x ++ 0 ∷ []) ≡ action_bits (fetch x)
unfolding action_bits
fetch-bits x = refl

replace-bits : (x z : ℕ) → 1 ∷ (digits 9 x ++ 1 ∷ digits 9 z) ≡ action_bits (replace x z)
unfolding action_bits
replace-bits x z = refl

pub fetch-field : (x : ℕ) → x < 512 → digits 11 (1024 + x * 2) ≡ action_bits (fetch x)
fetch-field x h =
    let e : 1024 + x * 2 ≡ 1 * 2 ^ 10 + (x * 2 ^ 1 + 0) = omega arith in
    ap (digits 11) e ∙ digits_join 1 10 1 (x * 2 ^ 1 + 0) (omega arith)
    ∙ ap₂ (λ (a b : List ℕ). a ++ b) one (digits_join 9 1 x 0 (lit< tt) ∙ ap (λ (b : List ℕ). digits 9 x ++ b) nought)
    ∙ fetch-bits x

pub replace-field : (x z : ℕ) → x < 512 → z < 512 → digits 20 (524288 + x * 1024 + 512 + z) ≡ action_bits (replace x z)
replace-field x z h k =
    let e : 524288 + x * 1024 + 512 + z ≡ 1 * 2 ^ 19 + (x * 2 ^ 10 + (1 * 2 ^ 9 + z)) = omega arith in
    ap (digits 20) e ∙ digits_join 1 19 1 (x * 2 ^ 10 + (1 * 2 ^ 9 + z)) (omega arith)
    ∙ ap₂ (λ (a b : List ℕ). a ++ b) one (digits_join 9 10 x (1 * 2 ^ 9 + z) (omega arith)
    ∙ ap (λ (b : List ℕ). digits 9 x ++ b) (digits_join 1 9 1 z k ∙ ap (λ (a : List ℕ). a ++ digits 9 z) one))
    ∙ replace-bits x z

-- an idle action's bit changes nothing
pub idle_put : (s : List ℕ) (at : ℕ) → s ≡ put_bits s at (action_bits idle)
unfolding put_bits put_bit action_bits
idle_put s at =
    let e : get_or s (at / 8) 0 + 0 * 2 ^ (7 - at % 8) ≡ get_or s (at / 8) 0 = (let z = zero-mul (2 ^ (7 - at % 8)) in omega (arith, z)) in
    sym (ap (set s (at / 8)) e ∙ set-get_or s (at / 8) 0)

-- What an action is, by its blocks: with none fetched it is idle, whatever the discarded one is.

pub action-idle : (f d : Option ℕ) → f ≡ None → action_of f d ≡ idle
action-idle f d e = rw e refl

pub action-fetch : (f d : Option ℕ) {u : ℕ} → f ≡ Some u → d ≡ None → action_of f d ≡ fetch u
action-fetch f d e n = rw (e, n) refl

pub action-replace : (f d : Option ℕ) {u v : ℕ} → f ≡ Some u → d ≡ Some v → action_of f d ≡ replace u v
action-replace f d e m = rw (e, m) refl

-- A sheet that is clear from a bit on is the bytes of the bits before it, and stays so as bits are added.
module _ (s : List ℕ) (at : ℕ) (clear : ClearFrom at s) (room : at ≤ length s * 8) where
  abbrev before : List ℕ
  before = take at (bits s)

  is_bytes : s ≡ bytes (length s) before
  unfolding ClearFrom
  is_bytes = clear

  before_bits : Bits before
  before_bits = take-bits at (bits s) (bits_are s)

  before_length : at ≡ length before
  before_length = sym (lib.Seq.length-take-le at (bits s) (let l = length-bits s in omega (arith, l)))

  put_adds : (m : List ℕ) → Bits m → at + length m ≤ length s * 8 → put_bits s at m ≡ bytes (length s) (before ++ m)
  put_adds m h l = put_packed (length s) at before m s is_bytes before_length before_bits h l

  pub put_length : (m : List ℕ) → Bits m → at + length m ≤ length s * 8 → length (put_bits s at m) ≡ length s
  put_length m h l = ap length (put_adds m h l) ∙ length-bytes (length s) (before ++ m)

  pub put_clear : (m : List ℕ) → Bits m → at + length m ≤ length s * 8 → ClearFrom (at + length m) (put_bits s at m)
  put_clear m h l =
      clear_packed (length s) (at + length m) (before ++ m) (put_bits s at m) (put_adds m h l)
      (ap (λ (k : ℕ). k + length m) before_length ∙ sym (length-append before m)) (append_bits before m before_bits h) l

  pub put_twice : (m o : List ℕ) → Bits m → Bits o → at + length m + length o ≤ length s * 8
      → put_bits (put_bits s at m) (at + length m) o ≡ put_bits s at (m ++ o)
  put_twice m o h k l =
      put_packed (length s) (at + length m) (before ++ m) o (put_bits s at m) (put_adds m h (omega arith))
      (ap (λ (k : ℕ). k + length m) before_length ∙ sym (length-append before m)) (append_bits before m before_bits h) k l
      ∙ ap (bytes (length s)) (append_assoc before m o)
      ∙ sym (put_adds (m ++ o) (append_bits m o h k) (let e = length-append m o in omega (arith, e)))

-- their bits are bits, and there are few of them
pub round-bits_are : (actions : List JobAction) → Bits (round_bits actions)
round-bits_are actions = rw append-nil at (round-bits actions [] none-bits)

pub action-bits_are : (a : JobAction) → Bits (action_bits a)
action-bits_are a = rw append-nil at (action-bits a [] none-bits)

-- one more disk's action

round_append : (l m : List JobAction) → round_bits (l ++ m) ≡ round_bits l ++ round_bits m
unfolding round_bits
round_append [] m = refl
round_append (a ∷ l) m = ap (λ (x : List ℕ). action_bits a ++ x) (round_append l m) ∙ sym (append_assoc (action_bits a) (round_bits l) (round_bits m))

round_one : (a : JobAction) → round_bits (a ∷ []) ≡ action_bits a
unfolding round_bits
round_one a = append-nil (action_bits a)

-- What a round is written with: actions of few disks with blocks of the 512, and a sheet that is clear from `start` on and has room there.
pub record Ready (s : List ℕ) (start : ℕ) (acts : List Action) : Type 0 where
  pub few : length acts ≤ 8
  pub small : All Small acts
  pub room : start + 192 ≤ length s * 8
  pub near : start < 350000
  pub clear : ClearFrom start s

-- The sheet and the bit after it, once the actions of the disks below d are written from `start` on.
pub record Wrote (s : List ℕ) (start : ℕ) (acts : List Action) (d : ℕ) (sheet : List ℕ) (at : ℕ) : Type 0 where
  pub ready : Ready s start acts
  pub bits : sheet ≡ put_bits s start (round_bits (actions_in (take d acts)))
  pub place : at ≡ start + length (round_bits (actions_in (take d acts)))

module _ (acts : List Action) (d : ℕ) (l : d < length acts) where
  -- the bits of d disks are few, and those of the next disk's action come after them
  most : length (round_bits (actions_in (take d acts))) ≤ d * 20
  most =
      let some = length-map (take d acts) action_in in
      let many = length-take-le d acts (omega arith) in
      omega (arith, length-round (actions_in (take d acts)))

  one_more : (x : Action) → round_bits (actions_in (take d acts)) ++ action_bits (action_in (get_or acts d x))
      ≡ round_bits (actions_in (take (d + 1) acts))
  one_more x = rw (add-one d, take-suc acts d x l, map-append, round_append, round_one) refl

pub wrote_start : {s : List ℕ} {start : ℕ} {acts : List Action} → Ready s start acts → Wrote s start acts 0 s start
unfolding round_bits put_bits
wrote_start r = record { ready = r; bits = refl; place = omega arith }

module _ {s : List ℕ} {start : ℕ} {acts : List Action} {d : ℕ} {sheet : List ℕ} {at : ℕ} (w : Wrote s start acts d sheet at) (l : d < length acts) where
  -- the place for the next disk's bits
  pub wrote_clear : ClearFrom at sheet
  wrote_clear =
      let before = round_bits (actions_in (take d acts)) in
      let few = w.ready.few in
      let room = w.ready.room in
      rw (w.bits, w.place) (put_clear s start w.ready.clear (omega arith) before (round-bits_are _) (omega (arith, most acts d l)))

  pub wrote_room : (at + 32 ≤ length sheet * 8) × (at < 400000)
  wrote_room =
      let before = round_bits (actions_in (take d acts)) in
      let few = w.ready.few in
      let room = w.ready.room in
      let near = w.ready.near in
      let place = w.place in
      let long = ap length w.bits ∙ put_length s start w.ready.clear (omega arith) before (round-bits_are _) (omega (arith, most acts d l)) in
      (omega (arith, most acts d l), omega (arith, most acts d l))

  -- one more disk's action
  pub wrote_more : (x : Action) {after : List ℕ} {next : ℕ} → let a = action_in (get_or acts d x) in
      next ≡ at + length (action_bits a) → after ≡ put_bits sheet at (action_bits a) → Wrote s start acts (d + 1) after next
  wrote_more x p q =
      let a = action_in (get_or acts d x) in
      let before = round_bits (actions_in (take d acts)) in
      let joined : before ++ action_bits a ≡ round_bits (actions_in (take (d + 1) acts)) = one_more acts d l x in
      let few = w.ready.few in
      let room = w.ready.room in
      let place = w.place in
      let twice = put_twice s start w.ready.clear (omega arith) before (action_bits a) (round-bits_are _) (action-bits_are a)
      (omega (arith, most acts d l, length-action a)) in
      record {
        ready = w.ready;
        bits = q ∙ ap₂ (λ (x : List ℕ) (n : ℕ). put_bits x n (action_bits a)) w.bits w.place ∙ twice ∙ ap (put_bits s start) joined;
        place = omega (arith, ap length joined, length-append before (action_bits a));
      }
