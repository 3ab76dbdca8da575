-- The days of a month whose dates match, and the days of the range whose dates do. A month is bare
-- if none of its dates matches.
use Rattle.std.specs.Prelude.{◌≡◌, ℕ, ◌+◌, ◌/◌, ◌%◌, ◌⊎◌, ℤ, pos, Bool, true, false, ◌&&◌, nat_le, nat_lt, Option, MatchOption}
use Rattle.cron_bits.specs.Words.{has_bit}
use Rattle.cron_units.specs.declared.way.Way.{Way}
use Rattle.cron_units.specs.Nearest.{LiesFrom, Precedes}
use Rattle.cron_units.specs.Sets.{Sets}
use Rattle.cron_units.specs.Units.{contains}
use Rattle.cron_moments.specs.Calendar.{day_number, weekday_number}
use Rattle.cron_moments.specs.Civil.{days_in_range}
use Rattle.cron_moments.specs.CivilDates.{date_numbered}
use Rattle.cron_time.specs.Matches.{matches_date}
use Rattle.cron_time.specs.Search.Inner.Numbers.{beyond, matches_day, matches_month}
use Rattle.cron_time.specs.declared.search.month_days.MonthDays.{MonthDays}

-- the day of the week of a day of a month lies in its set
abbrev pub matches_weekday : Sets → ℕ → ℕ → Bool
matches_weekday s month day = contains s.days_of_week (weekday_number (date_numbered (day_number month day)).0)

-- the month has the day, its number or its being the last lies in the set of days, and its weekday
-- in its set
abbrev pub has_matching : Sets → ℕ → ℕ → Bool
has_matching s month day = nat_le 1 day && (matches_day s month day && matches_weekday s month day)

-- the date with this rank matches: the rank is 100 times the month plus the day
abbrev pub matches_ranked : Sets → ℕ → Bool
matches_ranked s p = matches_month s (p / 100) && has_matching s (p / 100) (p % 100)

-- a day in range whose date matches
abbrev pub matching_day : Sets → ℕ → Bool
matching_day s day = nat_lt day days_in_range && matches_date s (date_numbered day).0

-- each bit says whether `has_matching` is true of a day of the month; the first bit is for day 1
abbrev pub AreDaysOf : Sets → MonthDays → Type 0
AreDaysOf s m = (k : ℕ) → has_bit m.days k ≡ has_matching s m.month (k + 1)

-- each bit says whether `has_matching` is true of its day, or none is 1, as before the days are
-- looked up
abbrev pub KnowsDays : Sets → MonthDays → Type 0
KnowsDays s m = (m.days ≡ 0) ⊎ AreDaysOf s m

-- no day of the month has a date that matches
abbrev pub IsBare : Sets → ℕ → Type 0
IsBare s month = (day : ℕ) → (matches_month s month && has_matching s month day) ≡ false

-- the next month past another that lies in the sets; those between them are bare
pub record IsNextMonth (way : Way) (s : Sets) (month next : ℕ) : Type 0 where
  pub wanted : matches_month s next ≡ true
  pub lies : LiesFrom way (beyond way month) next
  pub between : (k : ℕ) → LiesFrom way (beyond way month) k → Precedes way k next → IsBare s k

-- the next month past another that lies in the sets, with bare ones between; `None` only if all
-- past the other are bare
abbrev pub LeadsOn : Way → Sets → ℕ → Option ℕ → Type 0
LeadsOn way s month next = MatchOption next ((k : ℕ) → LiesFrom way (beyond way month) k → IsBare s k) (IsNextMonth way s month)

-- each bit says whether a month of a year lies in the set; the first bit is for January
abbrev pub AreMonths : Sets → ℕ → Type 0
AreMonths s months = (k : ℕ) → has_bit months k ≡ (nat_lt k 12 && contains s.months (k + 1))

-- each month of the year from a start on is bare
abbrev pub IsRestBare : Way → Sets → ℤ → ℕ → Type 0
IsRestBare way s start year = (k : ℕ) → LiesFrom way start k → k / 12 ≡ year → IsBare s k

-- a search from a month on has come to another that lies in the sets, and those before it are bare
pub record ComesTo (way : Way) (s : Sets) (from next : ℕ) : Type 0 where
  pub wanted : matches_month s next ≡ true
  pub lies : LiesFrom way (pos from) next
  pub between : (k : ℕ) → LiesFrom way (pos from) k → Precedes way k next → IsBare s k
