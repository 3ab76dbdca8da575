-- How many seconds are left, and that their number fits.
use Rattle.std.proofs.Common.{◌≡◌, ℕ, zero, suc, ◌+◌, ◌<◌, ◌≤◌, ◌^◌, ℤ, pos, negsuc, ◌+ℤ◌, ◌-ℤ◌, ◌≤ℤ◌, ◌<ℤ◌, Bool, true, false, cond, arith}
use Rattle.std.specs.Prelude.{nat_eq}
use Rattle.std.proofs.lemmas.Int.{ints}
use Rattle.cron_stretches.specs.Fires.{IsInstant}
use Rattle.cron_stretches.specs.Stretches.{count_between, count_seconds, seconds_from}
use Rattle.cron_stretches.proofs.StretchLemmas.{seconds_from-is}
use Rattle.cron_rotas.specs.Rotas.{Duty, person_at}

count-le : (test : ℤ → Bool) (k : ℕ) (n : ℤ) → count_seconds test n k ≤ k
unfolding count_seconds
count-le test zero n = omega arith
count-le test (suc k) n = let rest = count-le test k (n +ℤ pos 1) in one_at_most (test n) rest
  where
    one_at_most : (b : Bool) → count_seconds test (n +ℤ pos 1) k ≤ k → cond b 1 0 + count_seconds test (n +ℤ pos 1) k ≤ suc k
    one_at_most true le = omega arith
    one_at_most false le = omega arith

few_seconds : (z : ℤ) → z ≤ℤ pos 631_107_230_401 → seconds_from z ≤ 631_107_230_401
few_seconds (pos n) h = omega (arith, ints)
few_seconds (negsuc n) h = omega arith

pub count-fits : (test : ℤ → Bool) (a b : ℤ) → IsInstant a → IsInstant b → count_between test a b < 2 ^ 63
count-fits test a b one other =
    let le = count-le test (seconds_from (b -ℤ a)) a in
    let length = few_seconds (b -ℤ a) (omega (arith, ints)) in
    omega arith

pub fewer : (a b c : ℤ) → a <ℤ b → b ≤ℤ c → seconds_from (c -ℤ b) < seconds_from (c -ℤ a)
fewer a b c less le =
    let rest : pos (seconds_from (c -ℤ b)) ≡ c -ℤ b = seconds_from-is (c -ℤ b) (omega (arith, ints)) in
    let whole : pos (seconds_from (c -ℤ a)) ≡ c -ℤ a = seconds_from-is (c -ℤ a) (omega (arith, ints)) in
    omega (arith, ints)
