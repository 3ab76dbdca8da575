-- The words of schedules.
use Rattle.std.specs.Prelude.{ℕ, ◌==◌, ◌+◌, ◌/◌, ◌%◌, Bool, true, false, ◌&&◌, ◌||◌, List, [], ◌∷◌, ◌++◌, codes, length, map, nat_lt, slice_index, if◌then◌else◌}
use Rattle.std.specs.Fmt.{decimal}
use Rattle.cron_units.specs.Sets.{Sets}
use Rattle.cron_units.specs.Units.{TimeUnit, FieldSet}
use Rattle.cron_units.specs.Units as units
use Rattle.cron_words.specs.Lists.{is_whole, items_of, list_text, name_text, weekday_text}
use Rattle.cron_words.specs.Clocks.{clock_text}
use Rattle.cron_words.specs.Progressions.{first, follow_on, goes_round, is_progression, last, progression, step}
use Rattle.cron_words.specs.declared.items.Item.{Item}
use Rattle.cron_words.specs.declared.items.Item.TheVariants.{One}
use Rattle.cron_words.specs.declared.lists.Naming.{Naming}
use Rattle.cron_words.specs.declared.lists.Naming.TheVariants.{Numbers, Ordinals, Weekdays, Months, Clocks}
use Rattle.cron_words.specs.declared.progressions.Progression.{Progression}

-- ---- times

-- a schedule's words begin with a capital letter or a small one
abbrev pub at_text : Bool → List ℕ
at_text capital = if capital then codes "At " else codes "at "

abbrev pub every_text : Bool → List ℕ
every_text capital = if capital then codes "Every " else codes "every "

-- the one number of a list
abbrev pub only : List ℕ → ℕ
only ns = slice_index ns 0

abbrev pub is_one : List ℕ → Bool
is_one ns = length ns == 1

-- the numbers of a unit: `minute 5`, `minutes 5 and 10`, `no minute`
abbrev pub counted_text : List ℕ → List ℕ → List ℕ
counted_text noun ns =
    if length ns == 0 then codes "no " ++ noun
    else noun ++ ((if is_one ns then codes " " else codes "s ") ++ list_text Numbers (items_of ns))

-- what stands after `every`: a noun alone, or behind a step, as `5 minutes` and `5th minute`
abbrev pub steps_text : List ℕ → ℕ → List ℕ
steps_text noun k = if k == 1 then noun else decimal k ++ 32 ∷ (noun ++ codes "s")

abbrev pub nth_text : List ℕ → ℕ → List ℕ
nth_text noun k = if k == 1 then noun else name_text Ordinals k ++ 32 ∷ noun

-- the first unit of a schedule's words: `every minute`, `every 5 minutes`, or `at minutes 5 and 10`
abbrev pub first_unit : Bool → List ℕ → TimeUnit → List ℕ → List ℕ
first_unit capital noun u ns =
    if goes_round u ns then every_text capital ++ steps_text noun (step ns) else at_text capital ++ counted_text noun ns

-- A unit after a smaller one: `of every hour`, `of every 2nd hour`, or `of hours 9 and 17`. Nothing
-- is said of a unit that has all its numbers, if the smaller one goes round.
abbrev pub next_unit : Bool → List ℕ → TimeUnit → List ℕ → List ℕ
next_unit round noun u ns =
    if goes_round u ns then (if round && step ns == 1 then [] else codes " of every " ++ nth_text noun (step ns))
    else codes " of " ++ counted_text noun ns

abbrev pub is_on_the_minute : Sets → Bool
is_on_the_minute s = is_one s.seconds && only s.seconds == 0

-- minutes that go round, in one hour or in hours that follow one another, but not in all
abbrev pub is_stretch : Sets → Bool
is_stretch s = is_on_the_minute s && (goes_round units.minutes s.minutes && (follow_on s.hours && nat_lt (length s.hours) 24))

-- ` from 09:00 to 17:45`: from the first minute of a first hour to the last minute of a last hour
abbrev pub stretch_text : ℕ → ℕ → ℕ → List ℕ
stretch_text first last minute = codes " from " ++ (clock_text first 0 0 ++ (codes " to " ++ clock_text last minute 0))

-- the seconds or the minutes go round, so that nothing is said of hours that are all
abbrev pub goes_on : Sets → Bool
goes_on s = goes_round units.seconds s.seconds || goes_round units.minutes s.minutes

abbrev pub hours_text : Sets → List ℕ
hours_text s =
    if is_stretch s then stretch_text (first s.hours) (last s.hours) (last s.minutes)
    else next_unit (goes_on s) (codes "hour") units.hours s.hours

-- the seconds and minutes; the seconds are left out if second 0 is the only one
abbrev pub minutes_text : Bool → Sets → List ℕ
minutes_text capital s =
    if is_on_the_minute s then first_unit capital (codes "minute") units.minutes s.minutes
    else first_unit capital (codes "second") units.seconds s.seconds
    ++ next_unit (goes_round units.seconds s.seconds) (codes "minute") units.minutes s.minutes

abbrev pub units_text : Bool → Sets → List ℕ
units_text capital s = minutes_text capital s ++ hours_text s

-- The hours are told as those from a first to a last: three or more that follow one another, or five
-- or more by a longer step. All hours aren't.
abbrev pub is_span : List ℕ → Bool
is_span ns = is_progression ns && (nat_lt (length ns) 24 && (nat_lt 4 (length ns) || (step ns == 1 && nat_lt 2 (length ns))))

-- `every 2 hours from 09:30 to 19:30`: each of these hours, at minute m and second x
abbrev pub span_text : Bool → ℕ → ℕ → Progression → List ℕ
span_text capital m x p =
    every_text capital
    ++ (steps_text (codes "hour") p.step ++ (codes " from " ++ (clock_text p.first m x ++ (codes " to " ++ clock_text p.last m x))))

-- each hour on the hour, perhaps by a step
abbrev pub is_hourly : ℕ → ℕ → List ℕ → Bool
is_hourly m x ns = m == 0 && (x == 0 && goes_round units.hours ns)

-- each is told: one to six
abbrev pub are_few : List ℕ → Bool
are_few ns = nat_lt 0 (length ns) && nat_lt (length ns) 7

-- one minute m and one second x: `every 2 hours`, `every hour from 09:30 to 17:30`, or `at 09:30 and 12:30`
abbrev pub clocked_text : Bool → ℕ → ℕ → Sets → List ℕ
clocked_text capital m x s =
    if is_hourly m x s.hours then every_text capital ++ steps_text (codes "hour") (step s.hours)
    else if is_span s.hours then span_text capital m x (progression s.hours)
    else if are_few s.hours then at_text capital ++ list_text (Clocks m x) (map One s.hours)
    else units_text capital s

-- times of day if there is one minute and one second, or else seconds, minutes and hours
abbrev pub times_text : Bool → Sets → List ℕ
times_text capital s =
    if is_one s.minutes && is_one s.seconds then clocked_text capital (only s.minutes) (only s.seconds) s else units_text capital s

-- ---- days

abbrev pub begins_alone : List Item → Bool
begins_alone (One n ∷ is) = true
begins_alone is = false

-- a list after the word `one` if it begins with a single number, and after `range` if it begins
-- with a range
abbrev pub led_text : List ℕ → List ℕ → Naming → List ℕ → List ℕ
led_text one range w ns = (if begins_alone (items_of ns) then one else range) ++ list_text w (items_of ns)

-- the days of the week; a set with all its numbers is left out here, and so for days, months and
-- years below
abbrev pub weekdays_text : List ℕ → List ℕ
weekdays_text ns =
    if is_whole units.days_of_week ns then [] else if length ns == 0 then codes ", on no weekday"
    else led_text (codes ", on ") (codes ", ") Weekdays ns

abbrev pub last_day_text : Bool → List ℕ
last_day_text last_day = if last_day then codes " and on the last day of the month" else []

abbrev pub days_text : FieldSet → List ℕ
days_text s =
    if length s.ordinals == 0 then (if s.last_day then codes ", on the last day of the month" else codes ", on no day")
    else if is_whole units.days_of_month s.ordinals && (if s.last_day then false else true) then []
    else codes ", on the " ++ (list_text Ordinals (items_of s.ordinals) ++ last_day_text s.last_day)

-- The days of the month among which each day of the week comes for the first time, for the second and
-- so on: 1 to 7, 8 to 14, 15 to 21, 22 to 28, or 29 to 31.
abbrev pub is_week : List ℕ → Bool
is_week ns =
    is_progression ns && (step ns == 1 && (first ns % 7 == 1 && last ns == (if nat_lt (first ns) 29 then first ns + 6 else 31)))

-- which week of the month begins with this day
abbrev pub place : ℕ → ℕ
place first = first / 7 + 1

abbrev pub place_text : ℕ → List ℕ
place_text n =
    if n == 1 then codes "first" else if n == 2 then codes "second" else if n == 3 then codes "third" else if n == 4 then codes "fourth"
    else codes "fifth"

-- the n-th such day of the week in a month: `on the third Friday of the month`
abbrev pub nth_weekday_text : ℕ → ℕ → List ℕ
nth_weekday_text n weekday = codes ", on the " ++ (place_text n ++ 32 ∷ (weekday_text weekday ++ codes " of the month"))

-- one day of the week, in one week of the month
abbrev pub is_nth_weekday : Sets → Bool
is_nth_weekday s =
    is_one s.days_of_week && (is_week s.days_of_month.ordinals && (if s.days_of_month.last_day then false else true))

-- the days of the week and of the month
abbrev pub dates_text : Sets → List ℕ
dates_text s =
    if is_nth_weekday s then nth_weekday_text (place (first s.days_of_month.ordinals)) (only s.days_of_week)
    else weekdays_text s.days_of_week ++ days_text s.days_of_month

abbrev pub months_text : List ℕ → List ℕ
months_text ns =
    if is_whole units.months ns then [] else if length ns == 0 then codes ", in no month"
    else led_text (codes ", in ") (codes ", from ") Months ns

abbrev pub years_text : List ℕ → List ℕ
years_text ns =
    if is_whole units.years ns then [] else if length ns == 0 then codes ", in no year"
    else led_text (codes ", in ") (codes ", from ") Numbers ns

abbrev pub later_text : Sets → List ℕ
later_text s = months_text s.months ++ years_text s.years

-- ---- schedules

unfoldable pub schedule_text : Bool → Sets → List ℕ
schedule_text capital s =
    times_text capital s ++ (dates_text s ++ later_text s)

-- the schedules after the first one
abbrev pub others_text : List Sets → List ℕ
others_text [] = []
others_text (s ∷ ss) = codes "; or " ++ (schedule_text false s ++ others_text ss)

-- the words of a union, in the order of its schedules
abbrev pub union_text : List Sets → List ℕ
union_text [] = codes "Never"
union_text (s ∷ ss) = schedule_text true s ++ others_text ss
