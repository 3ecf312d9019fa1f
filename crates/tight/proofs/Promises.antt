-- What is promised of the bound of request L8: on two and on three disks no smaller factor than D will do for all jobs. Theorem 8 of document 000,
-- "The bound of Theorem 7 is tight", by its own jobs (specs/Family.antt) with two and with three slots on each disk, for every number n of
-- repetitions. The bound itself is `sparing_bound` of crates/model/proofs/Promises.antt. Each promise is closed by one citation. Assumes nothing.
use mathlib.Core.Path.{◌≡◌}
use mathlib.Core.List.{List}
use Prim.Native.Nat.{ℕ, ◌+◌, ◌*◌, ◌≤◌, ◌<◌}
use Rattle.bits.specs.Reading.{given}
use Rattle.model.specs.Calls.{job_up_to, short_counts, sparing_counts}
use Rattle.tight.specs.Family.{family}
use Rattle.tight.proofs.Family

-- On two disks the short plan takes 4n + 2 rounds and the sparing plan 8n − 2: twice as many, less 6, for every n.
pub two_disks : (n : ℕ) → 1 ≤ n → ((short_counts (family 2 2 n)).rounds ≡ 4 * n + 2) × ((sparing_counts (family 2 2 n)).rounds + 2 ≡ 8 * n)
two_disks = Family.two_disks

-- On three disks it is 6n + 3 and 18n − 9: three times as many, less 18.
pub three_disks : (n : ℕ) → 1 ≤ n → ((short_counts (family 3 3 n)).rounds ≡ 6 * n + 3) × ((sparing_counts (family 3 3 n)).rounds + 9 ≡ 18 * n)
three_disks = Family.three_disks

-- So for every factor a / b below D there is a number of repetitions for which the sparing plan takes more than so many times the short plan's
-- rounds.
pub no_less_2 : (a b : ℕ) → a < 2 * b → (n : ℕ) × (1 ≤ n) × (a * (short_counts (family 2 2 n)).rounds < b * (sparing_counts (family 2 2 n)).rounds)
no_less_2 = Family.no_less_2

pub no_less_3 : (a b : ℕ) → a < 3 * b → (n : ℕ) × (1 ≤ n) × (a * (short_counts (family 3 3 n)).rounds < b * (sparing_counts (family 3 3 n)).rounds)
no_less_3 = Family.no_less_3

-- These are jobs of tickets: up to 2,048 references, so up to 128 repetitions on two disks, with 514 and 1,022 rounds, and up to 56 on three, with
-- 339 and 999.
pub two_disks_ticket : (n : ℕ) → n ≤ 128 → (t : List ℕ) × (stop : ℕ) × (job_up_to t stop ≡ given (family 2 2 n))
two_disks_ticket = Family.ticket_2

pub three_disks_ticket : (n : ℕ) → n ≤ 56 → (t : List ℕ) × (stop : ℕ) × (job_up_to t stop ≡ given (family 3 3 n))
three_disks_ticket = Family.ticket_3
