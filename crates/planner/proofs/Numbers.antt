-- A refused call gives the refusal that has its number: `refusal_of` is asked for no other. Assumes nothing.
use Rattle.std.proofs.Common.{◌≡◌, ◌≤◌, ℕ, List, arith}
use Rattle.refusal.specs.Refusals.{number, refusal_of}
use Rattle.refusal.proofs.Numbers.{number-refusal_of}
use Rattle.bits.specs.Reading.{refused}
use Rattle.model.specs.Calls.{check_answer, choose_answer}
use Rattle.model.proofs.Numbers.{check_within, plan_within, page-within}
use Rattle.model.proofs.TwoSheets.{choose_within}
use Rattle.slot_counts.proofs.Calls.{slots-within}
use Rattle.planner.specs.Planner.{plan_into, page_into, slots_into}

one_of : {n most : ℕ} → most ≤ 27 → (1 ≤ n) × (n ≤ most) → number (refusal_of n) ≡ n
one_of {n} few w = let some = w.0 in let most = w.1 in number-refusal_of n some (omega (arith, few, most))

module _ (t : List ℕ) (stop : ℕ) {n : ℕ} where
  pub plan-number : (short sparing : List ℕ) → plan_into t stop short sparing ≡ refused n → number (refusal_of n) ≡ n
  plan-number short sparing e = one_of (omega arith) (plan_within t stop _ _ n e)

  pub page-number : (short sparing page : List ℕ) → page_into t stop short sparing page ≡ refused n → number (refusal_of n) ≡ n
  page-number short sparing page e = one_of (omega arith) (page-within t stop _ _ _ n e)

  pub check-number : (sheet : List ℕ) → check_answer t stop sheet ≡ refused n → number (refusal_of n) ≡ n
  check-number sheet e = one_of (omega arith) (check_within t stop sheet n e)

  pub choose-number : (first second : List ℕ) → choose_answer t stop first second ≡ refused n → number (refusal_of n) ≡ n
  choose-number first second e = one_of (omega arith) (choose_within t stop first second n e)

  pub slots-number : (d wanted : ℕ) (short : List ℕ) → slots_into t stop d wanted short ≡ refused n → number (refusal_of n) ≡ n
  slots-number d wanted short e = one_of (omega arith) (slots-within t stop d wanted _ n e)
