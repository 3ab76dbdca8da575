use Rattle.std.proofs.Common.{ℕ, ◌≤◌, ◌&&◌, nat_le, arith}
use Rattle.std.specs.Bool.{IsTrue}
use Rattle.std.proofs.lemmas.Bool.Decides.{nat_tests}
use Rattle.cron_clocks.proofs.RuleDays.{julian_one_among, julian_zero_among}
use Rattle.cron_clocks.proofs.transitions.days_of.Goals as goal

from_one : (n : ℕ) → IsTrue (nat_le 1 n && nat_le n 365) → 1 ≤ n
from_one n h = grind (arith, nat_tests)

pub returns-in-JulianOne-clause-among : goal.returns-in-JulianOne-clause-among
returns-in-JulianOne-clause-among c =
    λ short y year.
    let first : 1 ≤ c.in-JulianOne.number = from_one c.in-JulianOne.number (rw c.in-JulianOne.is at c.requires) in
    rw c.in-JulianOne.is (julian_one_among y c.in-JulianOne.number first)

pub returns-in-JulianZero-clause-among : goal.returns-in-JulianZero-clause-among
returns-in-JulianZero-clause-among c = λ short y year. rw c.in-JulianZero.is (julian_zero_among y c.in-JulianZero.number short)
