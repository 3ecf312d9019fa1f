-- A sheet read and played action by action, as the code does it: what the rest of a round and of a sheet gives, and what the check answers. Document
-- 01, "Playing a round", and 15 and 16 of "Numbers of a refused call"; request L7. Assumes nothing.
use Rattle.std.specs.Prelude.{Bool, cond, Result, Ok, Err, List, ℕ, zero, suc, ◌+◌, ltb, get_or, set, drop, replicate}
use Rattle.bits.specs.Bits.{bits}
use Rattle.bits.specs.Reading.{Answer, given, refused, Read, got, stop, is_closed}
use Rattle.model.specs.Job.{Job, disk_count, ref_count}
use Rattle.model.specs.Playing.{Action, idle, fetch, replace, State, start, act, consumed}
use Rattle.model.specs.Sheet.{action_reader}
use Rattle.model.specs.Calls.{Counts}
use Rattle.playing.specs.declared.Counts.{Counts as Taken}
use Rattle.refusal.specs.declared.Refusal.{Refusal}
use Rattle.refusal.specs.Refusals.{refusal_of}

-- "A pass by the check gives the sheet's rounds and fetches per disk." "A refused call returns its number with all counts 0."
unfoldable pub checked_of : Answer Counts → Result Taken Refusal
unfolding refusal_of
checked_of (given c) = Ok (record { rounds = c.rounds; fetches = c.fetches })
checked_of (refused n) = Err (refusal_of n)

-- The fetches of each disk after one more action of disk d.
unfoldable pub counted : List ℕ → ℕ → Action → List ℕ
counted f d idle = f
counted f d (fetch x) = set f d (get_or f d 0 + 1)
counted f d (replace x z) = set f d (get_or f d 0 + 1)

-- What a value that was read leads to. The first refusal counts.
unfoldable pub go_on : {A B : Type 0} → Read A → (A → List ℕ → Answer B) → Answer B
go_on (got a rest) f = f a rest
go_on (stop n) f = refused n

-- After the last round: 15 where references are left, 16 where the sheet is not closed, or a pass with the charged rounds and the fetches.
unfoldable pub end_of : Bool → ℕ → List ℕ → List ℕ → Answer Counts
unfolding is_closed
end_of left charged f l = cond left (refused 15) (cond (is_closed l) (given (record { rounds = charged; fetches = f })) (refused 16))

-- What the rest of a round gives: the actions of k disks from disk d on, with the marks and fetches so far and the bits that are left; `next` is
-- what follows the round.
unfoldable pub disks_from : Job → (List Bool → List ℕ → List ℕ → Answer Counts) → ℕ → List Bool → List ℕ → ℕ → List ℕ → Answer Counts
disks_from j next zero marks f d l = next marks f l
disks_from j next (suc k) marks f d l = go_on (action_reader j marks d l) λ a rest. disks_from j next k (act marks a) (counted f d a) (suc d) rest

-- The state after the reading of a round: the marks that its actions left, and the next read.
abbrev pub after_reading : Job → List Bool → ℕ → ℕ → State
after_reading j marks next round = record { resident = marks; next = next + consumed marks (drop next j.refs); round = round }

-- L7: the rounds charged after one that starts at the next read: that round, where references remain, and otherwise those charged before it.
abbrev pub charged_after : Job → ℕ → ℕ → ℕ → ℕ
charged_after j next round charged = cond (ltb next (ref_count j)) round charged

-- What the rest of a sheet gives: `left` rounds from the state s on, with the rounds charged and the fetches so far and the bits that are left.
unfoldable pub rounds_from : Job → ℕ → State → ℕ → List ℕ → List ℕ → Answer Counts
unfolding disks_from end_of
rounds_from j zero s charged f l = end_of (ltb s.next (ref_count j)) charged f l
rounds_from j (suc left) s charged f l =
    let round = suc s.round in
    disks_from j (λ marks. rounds_from j left (after_reading j marks s.next round) (charged_after j s.next round charged)) (disk_count j) s.resident f 0 l

-- What R rounds give from the start.
unfoldable pub played : Job → ℕ → List ℕ → Answer Counts
unfolding rounds_from start
played j rounds s = rounds_from j rounds (start j) 0 (replicate 8 0) (drop 12 (bits s))
