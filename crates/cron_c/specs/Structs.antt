-- What the structs of numbers mean.
use Rattle.std.specs.Prelude.{not, cond, ◌==◌, ◌≡◌, ◌<◌, ℕ, ◌+◌, ◌-◌, List, replicate}
use Rattle.cron_units.specs.Sets.{Sets}
use Rattle.cron_units.specs.Units.{TimeUnit, contains, set_of, with_mark}
use Rattle.cron_units.specs.Units as units
use Rattle.cron_bits.specs.Words.{has_bit, bit_of_three}
use Rattle.cron_moments.specs.Civil.{seconds_in_range}
use Rattle.cron_moments.specs.Readings.{Reading, instant}
use Rattle.cron_time.specs.Seconds.{Seconds}
use Rattle.cron_time.specs.Timeline.{seconds_of}
use Rattle.cron_c.specs.declared.schedule.CronSchedule.{CronSchedule}
use Rattle.cron_c.specs.declared.item.CronItem.{CronItem}

-- the ordinals of a unit whose bits are 1: bit i is the least ordinal plus i, and a bit past the
-- greatest means nothing
abbrev pub set_in : TimeUnit → ℕ → List ℕ
set_in u word = set_of u (λ x. has_bit word (x - u.least))

-- the sets that a struct means; the last day of the month is marked by any number but 0
abbrev pub sets_of : CronSchedule → Sets
sets_of s = record {
  seconds = set_in units.seconds s.seconds;
  minutes = set_in units.minutes s.minutes;
  hours = set_in units.hours s.hours;
  days_of_month = with_mark (set_in units.days_of_month s.days_of_month) (not (s.last_day == 0));
  months = set_in units.months s.months;
  days_of_week = set_in units.days_of_week s.days_of_week;
  years = set_of units.years (λ x. bit_of_three s.years_from_1970 s.years_from_2034 s.years_from_2098 (x - units.years.least));
}

-- the civil seconds that match the sets of a struct
abbrev pub seconds_of_struct : CronSchedule → Seconds
seconds_of_struct c = seconds_of (sets_of c)

-- the bits of the word that are 1 are those of the list's members, and no others
abbrev pub IsWordOf : TimeUnit → List ℕ → ℕ → Type 0
IsWordOf u xs word = (k : ℕ) → has_bit word k ≡ contains xs (u.least + k)

-- the struct is the one that is written for these sets: it has no other bits, and its last day is 0
-- or 1
pub record IsStructOf (sets : Sets) (s : CronSchedule) : Type 0 where
  pub seconds : IsWordOf units.seconds sets.seconds s.seconds
  pub minutes : IsWordOf units.minutes sets.minutes s.minutes
  pub hours : IsWordOf units.hours sets.hours s.hours
  pub days_of_month : IsWordOf units.days_of_month sets.days_of_month.ordinals s.days_of_month
  pub last_day : s.last_day ≡ cond sets.days_of_month.last_day 1 0
  pub months : IsWordOf units.months sets.months s.months
  pub days_of_week : IsWordOf units.days_of_week sets.days_of_week s.days_of_week
  pub years : (k : ℕ) → bit_of_three s.years_from_1970 s.years_from_2034 s.years_from_2098 k ≡ contains sets.years (units.years.least + k)
  pub reserved : s.reserved ≡ replicate 6 0

-- the struct holds the reading as an item: its instant in seconds since 1970-01-01T00:00:00Z, and
-- how many seconds its clock is ahead of UTC
pub record IsItem (r : Reading) (item : CronItem) : Type 0 where
  pub instant_is : item.instant ≡ instant r
  pub offset_is : item.offset ≡ r.offset.seconds
  pub reserved_is : item.reserved ≡ 0

-- the struct holds the reading as an item, and its civil second is in the range, 1970 to 2100
abbrev pub IsItemInRange : Reading → CronItem → Type 0
IsItemInRange r item = IsItem r item × (r.second < seconds_in_range)

-- the struct holds some reading of the range as an item
abbrev pub IsSomeItem : CronItem → Type 0
IsSomeItem item = (r : Reading) × IsItemInRange r item

-- the struct holds no reading of the range
abbrev pub IsNoItem : CronItem → Type 0
IsNoItem item = (r : Reading) → IsItem r item → r.second < seconds_in_range → ⊥
