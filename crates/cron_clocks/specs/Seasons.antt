-- Seasons: the times of the year when a rule shows one offset, in every year.
use Rattle.std.specs.Prelude.{◌≡◌, ℕ, ◌+◌, ◌<◌, ◌≤◌, ℤ, pos, ◌+ℤ◌, ◌≤ℤ◌, ◌<ℤ◌}
use Rattle.jiff_core.specs.Calendar.{IsYear}
use Rattle.jiff_core.specs.declared.Offset.{Offset}
use Rattle.jiff_tz.specs.declared.posix.TimeZone.{TimeZone}
use Rattle.jiff_tz.specs.declared.timezone.TimeZone.TheVariants.{Posix}
use Rattle.jiff_tz.specs.declared.ambiguous.AmbiguousOffset.TheVariants.{Unambiguous}
use Rattle.jiff_tz.specs.PosixRule.{ambiguous_at}
use Rattle.cron_moments.specs.Civil.{civil, seconds_in_range}
use Rattle.cron_clocks.specs.Clocks.{IsShown}
use Rattle.cron_clocks.specs.Spans.{year_end}
use Rattle.cron_clocks.specs.Transitions.{year_start, week, common_year}

-- the second n of the range, counted from 1970-01-01 00:00:00 in UTC or in civil time, lies in the
-- year y
pub record IsYearAt (y : ℤ) (n : ℕ) : Type 0 where
  pub in_range : n < seconds_in_range
  pub year : IsYear y
  pub low : year_start y ≤ℤ pos n
  pub high : pos n <ℤ year_end y

-- the year of the second n begins at the second `first`, and its first 365 days are in the range
pub record IsYearOf (first n : ℕ) : Type 0 where
  pub number : ℤ
  pub low_year : pos 1970 ≤ℤ number
  pub high_year : number ≤ℤ pos 2100
  pub from : pos first ≡ year_start number
  pub has : IsYearAt number n
  pub room : first + 31_536_000 ≤ seconds_in_range

-- the rule gives the civil second n only this offset, and a clock shows the offset in second n of
-- UTC
pub record TellsOne (rule : TimeZone) (n : ℕ) (o : Offset) : Type 0 where
  pub told : ambiguous_at rule (civil n) ≡ Unambiguous o
  pub shown : IsShown (Posix rule) (pos n) o.seconds

-- seconds of a year from a to b, and later ones from e to f, are a week or more from each other and
-- from the year's edges
pub record AreInOrder (a b e f : ℤ) : Type 0 where
  pub low : week ≤ℤ a
  pub one : a ≤ℤ b
  pub apart : (b +ℤ week) ≤ℤ e
  pub other : e ≤ℤ f
  pub high : (f +ℤ week) ≤ℤ common_year

-- In every year the rule tells `outer` up to the year's second `outer_end` and from `outer_first`
-- on, and `inner` between `inner_first` and `inner_end`.
pub record IsSeasonBounds (rule : TimeZone) (outer_end inner_first inner_end outer_first : ℕ) (outer inner : Offset) : Type 0 where
  pub before : (y : ℤ) (n : ℕ) → IsYearAt y n → pos n <ℤ (year_start y +ℤ pos outer_end) → TellsOne rule n outer
  pub between : (y : ℤ) (n : ℕ) → IsYearAt y n → (year_start y +ℤ pos inner_first) ≤ℤ pos n
      → pos n <ℤ (year_start y +ℤ pos inner_end) → TellsOne rule n inner
  pub after : (y : ℤ) (n : ℕ) → IsYearAt y n → (year_start y +ℤ pos outer_first) ≤ℤ pos n → TellsOne rule n outer

-- these seconds of a year follow one another, a day or more from its beginning
pub record AreOrdered (outer_end inner_first inner_end outer_first : ℕ) : Type 0 where
  pub low : 86_400 ≤ outer_end
  pub one : outer_end ≤ inner_first
  pub apart : inner_first ≤ inner_end
  pub other : inner_end ≤ outer_first
  pub high : outer_first ≤ 31_536_000

-- the second n lies from `first` up to `end`, in the range, and the rule tells only this offset of
-- each second there
pub record IsSeason (rule : TimeZone) (n first end : ℕ) (o : Offset) : Type 0 where
  pub low : first ≤ n
  pub high : n < end
  pub range : end ≤ seconds_in_range
  pub tells : (k : ℕ) → first ≤ k → k < end → TellsOne rule k o
