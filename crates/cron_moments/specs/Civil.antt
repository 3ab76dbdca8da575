-- Civil seconds by number.
use Rattle.std.specs.Prelude.{ℕ, ◌/◌, ◌%◌, ◌<◌}
use Rattle.std.proofs.Common.{arith}
use Rattle.jiff_core.specs.declared.civil.time.Time.{Time}
use Rattle.jiff_core.specs.declared.civil.datetime.DateTime.{DateTime}
use Rattle.cron_moments.specs.CivilDates.{date_numbered}

-- how many days the range has, 1970-01-01 to 2100-12-31; `seconds_in_range` is how many civil
-- seconds
abbrev pub days_in_range : ℕ
days_in_range = 47_847

-- how many years the range has: 1970 to 2100
abbrev pub years_in_range : ℕ
years_in_range = 131

abbrev pub seconds_in_range : ℕ
seconds_in_range = 4_133_980_800

pub hour_fits : (s : ℕ) → s % 86_400 / 3600 < 24
hour_fits s = omega arith

pub minute_fits : (s : ℕ) → s % 3600 / 60 < 60
minute_fits s = omega arith

pub second_fits : (s : ℕ) → s % 60 < 60
second_fits s = omega arith

pub no_fraction : 0 < 1_000_000_000
no_fraction = omega arith

-- the time of day s seconds after a midnight
unfoldable pub time_numbered : ℕ → Time
time_numbered s = record {
  hour = s % 86_400 / 3600;
  minute = s % 3600 / 60;
  second = s % 60;
  subsec_nanosecond = 0;
  hour_in = hour_fits s;
  minute_in = minute_fits s;
  second_in = second_fits s;
  subsec_in = no_fraction;
}

-- the civil second with this number, counted from 1970-01-01 00:00:00
unfoldable pub civil : ℕ → DateTime
civil c = record { date = (date_numbered (c / 86_400)).0; time = time_numbered c }
