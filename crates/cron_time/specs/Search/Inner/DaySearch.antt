-- What the search of one day finds, and which readings it looks up. A civil second stands if it is
-- on the timeline: it matches and has a reading.
use Rattle.std.specs.Prelude.{◌≡◌, ℕ, ◌+◌, ◌*◌, ◌/◌, ◌%◌, ℤ, pos, Bool, false, ◌&&◌, nat_lt, List, Option, MatchOption, option_map}
use Rattle.jiff_tz.specs.declared.timezone.TimeZone.{TimeZone}
use Rattle.cron_units.specs.declared.way.Way.{Way}
use Rattle.cron_units.specs.Nearest.{LiesFrom, IsNearestAt}
use Rattle.cron_time.specs.Search.Inner.Blocks.{AllFail, Enters}
use Rattle.cron_moments.specs.Civil.{civil, days_in_range, seconds_in_range}
use Rattle.cron_moments.specs.CivilDates.{date_numbered}
use Rattle.cron_time.specs.Search.Inner.Numbers.{beyond, beyond_day, stands_at}
use Rattle.cron_moments.specs.Readings.{Reading}
use Rattle.cron_time.specs.Search.{IsFound, items_of, stands}
use Rattle.cron_units.specs.Sets.{Sets}
use Rattle.cron_time.specs.Matches.{is_candidate, matches}
use Rattle.cron_time.specs.Search.Inner.Tally.{Adds, Before, NotPast, IsPassed, IsPassedTo}
use Rattle.cron_time.specs.Search.Inner.Inquired.{Inquired, IsSame}
use Rattle.cron_moments.specs.Found.{found_items, second_of}
use Rattle.cron_moments.specs.declared.readings.Found.{Found}

-- the time of day that was found, in seconds since midnight
abbrev pub time_of : Option Found → Option ℕ
time_of found = option_map (λ f. f.first.second % 86_400) found

-- the day that was found, counted from 1970-01-01
abbrev pub day_of : Option Found → Option ℕ
day_of found = option_map (λ f. f.first.second / 86_400) found

-- a day in range whose date is a candidate
abbrev pub candidate_day : Sets → ℕ → Bool
candidate_day s day = nat_lt day days_in_range && is_candidate s (date_numbered day).0

-- what is found are the readings of the nearest time of the day that stands, from a time on
pub record FindsTime (way : Way) (s : Sets) (z : TimeZone) (day from : ℕ) (found : List Reading) : Type 0 where
  pub time : ℕ
  pub nearest : IsNearestAt way (stands_at s z day) (pos from) time
  pub items : items_of s z (day * 86_400 + time) ≡ found

-- what is found are the readings of the nearest time of the day that stands, past another time
pub record FindsTimePast (way : Way) (s : Sets) (z : TimeZone) (day before : ℕ) (found : List Reading) : Type 0 where
  pub time : ℕ
  pub nearest : IsNearestAt way (stands_at s z day) (beyond way before) time
  pub items : items_of s z (day * 86_400 + time) ≡ found

-- what a search finds in a day from a time on: nothing exactly if no time of the day stands there
abbrev pub FindsInDay : Way → Sets → TimeZone → ℕ → ℕ → Option (List Reading) → Type 0
FindsInDay way s z day from found =
    MatchOption found (AllFail way (stands_at s z day) (pos from)) (FindsTime way s z day from)

-- what is found are the readings of the nearest time of the day that stands, from `from` on, where
-- a search from the civil second `start` enters the day
pub record FindsFrom (way : Way) (s : Sets) (z : TimeZone) (start : ℤ) (day : ℕ) (found : List Reading) : Type 0 where
  pub from : ℕ
  pub enters : Enters way 86_400 start day from
  pub finds : FindsTime way s z day from found

-- what a search from a civil second finds in a day: nothing exactly if nothing of the day stands
-- there
abbrev pub Finds : Way → Sets → TimeZone → ℤ → ℕ → Option (List Reading) → Type 0
Finds way s z start day found =
    MatchOption found ((c : ℕ) → LiesFrom way start c → c / 86_400 ≡ day → stands s z c ≡ false) (FindsFrom way s z start day)

-- a civil second that matches, from the start on, as far as `Until` allows
abbrev pub IsMatch : Way → Sets → ℤ → (ℕ → Type 0) → ℕ → Type 0
IsMatch way s = IsPassed way (λ k. matches s (civil k))

-- the civil second is one of the day whose readings are looked up: it matches, and isn't past the
-- answer
abbrev pub IsAskedIn : Way → Sets → ℤ → ℕ → Option ℕ → ℕ → Type 0
IsAskedIn way s start day answer = IsMatch way s start (λ k. (k / 86_400 ≡ day) × NotPast way k answer)

-- the civil second is one whose readings are looked up: it matches, and isn't past the answer
abbrev pub IsAsked : Way → Sets → ℤ → Option ℕ → ℕ → Type 0
IsAsked way s start answer = IsMatch way s start (λ k. NotPast way k answer)

-- the civil second is a match of the days before `next`, or of all days if there is none
abbrev pub IsAskedBefore : Way → Sets → ℤ → Option ℕ → ℕ → Type 0
IsAskedBefore way s start next = IsMatch way s start (λ k. Before way (k / 86_400) next)

-- a search of the days from a civil second on: what it found is the nearest that stands, and its counts went up by what it passed
pub record Searches (way : Way) (start : ℕ) (answer : Option Found) (old new : Inquired) : Type 0 where
  pub found : IsFound way old.sets old.zone (pos start) (option_map found_items answer)
  pub same : IsSame old new
  pub days : Adds days_in_range (IsPassedTo way (candidate_day old.sets) (pos (start / 86_400)) (day_of answer)) old.days new.days
  pub conversions : Adds seconds_in_range (IsAsked way old.sets (pos start) (second_of answer)) old.conversions new.conversions

-- what a search of the days past this one finds
abbrev pub FindsPastDay : Way → Sets → TimeZone → ℕ → Option Found → Type 0
FindsPastDay way s z day found = IsFound way s z (beyond_day way day) (option_map found_items found)
