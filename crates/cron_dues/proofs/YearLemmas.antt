-- The year of an instant, from the date of its day.
use Rattle.std.proofs.Common.{◌≡◌, ℤ, pos, ◌+ℤ◌, ◌*ℤ◌, ◌≤ℤ◌, ◌<ℤ◌, int_le, false, w16, to_z, of_z, refl, sym, ◌∙◌, arith}
use Rattle.std.specs.Int.{int_div_euclid}
use Rattle.jiff_core.specs.Calendar.{IsYear}
use Rattle.jiff_core.specs.Date.{epoch_day}
use Rattle.jiff_core.specs.declared.civil.date.Date.{Date}
use Rattle.jiff_core.proofs.CalendarLemmas.{day_of_year_bound}
use Rattle.jiff_core.proofs.DateLemmas.{civil as civil_date, epoch_day-ordinal}
use Rattle.jiff_core.proofs.SignedLemmas.{signed_arith}
use Rattle.jiff_tz.specs.PosixRule.{first_day}
use Rattle.jiff_tz.proofs.YearLemmas.{back_year}
use Rattle.cron_clocks.specs.Transitions.{year_start}
use Rattle.cron_clocks.proofs.RuleYears.{first_day-next, year_of_nanos-is}
use Rattle.cron_seconds.proofs.IntLemmas.{int_le-false}
use Rattle.cron_dues.specs.Steady.{IsOneYear}

-- a second of UTC lies in the year of its date
record InYear (n y : ℤ) : Type 0 where
  pub from : year_start y ≤ℤ n
  pub to : n <ℤ year_start (y +ℤ pos 1)

in_year : (n : ℤ) (d : Date) → epoch_day d ≡ int_div_euclid n (pos 86_400) → InYear n d.year
in_year n d day =
    let place = epoch_day-ordinal d in
    let bound = day_of_year_bound d.year d.month d.day (civil_date d) in
    let first = d.day_in in
    let next = first_day-next d.year (d.year +ℤ pos 1) d.year_in refl in
    let one = first.0 in
    record {
      from = omega (arith, signed_arith);
      to = omega (arith, signed_arith);
    }

pub to_year_end : (n end : ℤ) (d : Date) → epoch_day d ≡ int_div_euclid n (pos 86_400) → end ≡ first_day (d.year +ℤ pos 1) *ℤ pos 86_400
    → IsOneYear n end × (n <ℤ end)
to_year_end n end d day e =
    let here = in_year n d day in
    let from = here.from in
    let to = here.to in (
      λ k low high. year_of_nanos-is d.year (d.year +ℤ pos 1) k d.year_in refl (omega (arith, signed_arith)) (omega (arith, signed_arith))
          ∙ sym (year_of_nanos-is d.year (d.year +ℤ pos 1) n d.year_in refl from to),
      omega (arith, signed_arith),
    )

pub one_second : (n end : ℤ) → end ≡ n +ℤ pos 1 → IsOneYear n end
one_second n end e k low high = let same : k ≡ n = omega (arith, signed_arith) in rw same refl

-- the number of the next year, where there is one
pub next_year : (y : ℤ) → IsYear y → int_le (pos 9999) (to_z w16 (of_z w16 y)) ≡ false
    → to_z w16 (of_z w16 (to_z w16 (of_z w16 y) +ℤ pos 1)) ≡ y +ℤ pos 1
next_year y year h =
    let back = back_year y year in
    let h1 = rw back at h in
    let less = int_le-false (pos 9999) y h1 in
    rw back (back_year (y +ℤ pos 1) (omega (arith, signed_arith), omega (arith, signed_arith)))
