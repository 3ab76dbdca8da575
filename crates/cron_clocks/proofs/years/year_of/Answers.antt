use Rattle.std.proofs.Common.{◌≡◌, ℕ, ◌+◌, ◌<◌, pos, ◌+ℤ◌, arith, to_z, of_z, w16}
use Rattle.jiff_core.proofs.SignedLemmas.{signed_casts}
use Rattle.cron_clocks.proofs.SeasonLemmas.{first_of, year_has}
use Rattle.cron_clocks.proofs.years.year_of.Goals as goal

-- the number of a year comes back from its bits as it was
number : (k : ℕ) → k < 131 → to_z w16 (of_z w16 (pos 1970 +ℤ to_z w16 k)) ≡ pos (1970 + k)
number k h = omega (arith, signed_casts)

pub returns-clause-year : goal.returns-clause-year
returns-clause-year c =
    let k = c.years_before-years.result in
    let is = c.years_before-years.ensures in
    rw (number k (omega (arith, is, c.requires))) (year_has c.args.second k c.requires is)

pub returns-clause-new_year : goal.returns-clause-new_year
returns-clause-new_year c =
    let k = c.years_before-years.result in
    let is = c.years_before-years.ensures in
    let few : k < 131 = omega (arith, is, c.requires) in
    rw (number k few) (omega (arith, signed_casts, first_of k few, c.days_of.ensures, few))
