-- How systemd 252 reads a line of OnCalendar, and the civil datetimes that match it. Only some of
-- the forms that it reads are defined here.
use Rattle.std.specs.Prelude.{ℕ, ℤ, pos, negsuc, ◌+◌, ◌-◌, Bool, true, false, ◌&&◌, List, [], ◌∷◌, Option, Some, None, codes, length, nat_eq, nat_le, nat_lt, if◌then◌else◌}
use Rattle.std.specs.Char.{is_ascii_digit}
use Rattle.std.specs.List.{list_all, list_any, slice_split}
use Rattle.std.specs.Option.{option_map, option_map_or}
use Rattle.std.specs.Str.{bytes_eq}
use Rattle.std.specs.Str.Parse.{digits_value}
use Rattle.jiff_core.specs.Calendar.{days_in_month}
use Rattle.jiff_core.specs.Date.{weekday_of}
use Rattle.jiff_core.specs.declared.civil.date.Date.{Date}
use Rattle.jiff_core.specs.declared.civil.datetime.DateTime.{DateTime}
use Rattle.jiff_core.specs.declared.civil.time.Time.{Time}
use Rattle.cron_units.specs.Units.{named_in}

-- ---- calendars

-- what a component means: any number, or one within these ranges, each given by its first number
-- and its last
pub data Component : Type 0 where
  any : Component
  ranges : List (ℕ × ℕ) → Component

abbrev pub lies_in : ℕ → ℕ × ℕ → Bool
lies_in n r = nat_le r.0 n && nat_le n r.1

abbrev pub admits : Component → ℕ → Bool
admits any n = true
admits (ranges rs) n = list_any (lies_in n) rs

-- whether a component admits a year; systemd has no year before 1970
abbrev pub admits_year : Component → ℤ → Bool
admits_year k (pos y) = admits k y
admits_year k (negsuc y) = false

-- years, months and days of the month, which count from its first day, or back from its last if
-- `from_end` is true
pub record Dates : Type 0 where
  pub years : Component
  pub months : Component
  pub from_end : Bool
  pub days : Component

pub record Times : Type 0 where
  pub hours : Component
  pub minutes : Component
  pub seconds : Component

pub record Calendar : Type 0 where
  pub weekdays : Component
  pub dates : Dates
  pub times : Times

-- the number of a date's day of the month; if the flag is true it counts back from the month's last
-- day, which is 1
abbrev pub counted_day : Bool → Date → ℕ
counted_day false d = d.day
counted_day true d = days_in_month d.year d.month + 1 - d.day

-- the number of a date's day of the week: Monday is 1, and Sunday is 7
abbrev pub counted_weekday : Date → ℕ
counted_weekday d = weekday_of d + 1

abbrev pub dates_match : Dates → Date → Bool
dates_match k d = admits_year k.years d.year && admits k.months d.month && admits k.days (counted_day k.from_end d)

abbrev pub times_match : Times → Time → Bool
times_match k t = admits k.hours t.hour && admits k.minutes t.minute && admits k.seconds t.second

abbrev pub calendar_matches : Calendar → DateTime → Bool
calendar_matches k dt = admits k.weekdays (counted_weekday dt.date) && dates_match k.dates dt.date && times_match k.times dt.time

-- ---- how a line is read

-- the parts of a text between bytes of one kind
abbrev pub parts : ℕ → List ℕ → List (List ℕ)
parts byte text = slice_split (nat_eq byte) text

-- the number that a text of digits writes; none if it isn't within these bounds, or the text has
-- another byte
abbrev pub number_of : ℕ → ℕ → List ℕ → Option ℕ
number_of least greatest text =
    let n = digits_value 10 text in
    if nat_lt 0 (length text) && list_all is_ascii_digit text && nat_le least n && nat_le n greatest then Some n else None

-- the number of a day of the week by its short name, in any case of its letters; none for another
-- text
abbrev pub weekday_named : List ℕ → Option ℕ
weekday_named =
    named_in ((codes "Mon", 1) ∷ (codes "Tue", 2) ∷ (codes "Wed", 3) ∷ (codes "Thu", 4) ∷ (codes "Fri", 5) ∷ (codes "Sat", 6) ∷ (codes "Sun", 7) ∷ [])

abbrev pub range_between : Option ℕ → Option ℕ → Option (ℕ × ℕ)
range_between (Some first) (Some last) = if nat_lt first last then Some (first, last) else None
range_between _ _ = None

-- a range, from its parts between dots: one word alone, or a first one and a later one with two
-- dots between
abbrev pub range_of : (List ℕ → Option ℕ) → List (List ℕ) → Option (ℕ × ℕ)
range_of word (only ∷ []) = option_map (λ n. (n, n)) (word only)
range_of word (first ∷ [] ∷ last ∷ []) = range_between (word first) (word last)
range_of word _ = None

abbrev pub with_range : Option (ℕ × ℕ) → Option (List (ℕ × ℕ)) → Option (List (ℕ × ℕ))
with_range (Some r) (Some rs) = Some (r ∷ rs)
with_range _ _ = None

-- the ranges of these texts; none if one of the texts is no range
abbrev pub ranges_of : (List ℕ → Option ℕ) → List (List ℕ) → Option (List (ℕ × ℕ))
ranges_of word [] = Some []
ranges_of word (text ∷ texts) = with_range (range_of word (parts 46 text)) (ranges_of word texts)

-- a component of ranges with commas between; systemd takes at most 240
abbrev pub ranges_in : (List ℕ → Option ℕ) → List ℕ → Option Component
ranges_in word text = if nat_le (length (parts 44 text)) 240 then option_map ranges (ranges_of word (parts 44 text)) else None

-- a component of numbers within these bounds: a star for any of them, or ranges
abbrev pub component_of : ℕ → ℕ → List ℕ → Option Component
component_of least greatest text = if bytes_eq text (codes "*") then Some any else ranges_in (number_of least greatest) text

abbrev pub dates_by : Bool → Option Component → Option Component → Option Component → Option Dates
dates_by back (Some ys) (Some ms) (Some ds) = Some (record { years = ys; months = ms; from_end = back; days = ds })
dates_by back _ _ _ = None

-- dates of a month and one day that counts back from the month's end; no month is sure to have more
-- than 28
abbrev pub back_from_end : List ℕ → List (List ℕ) → Option Dates
back_from_end year (month ∷ day ∷ []) =
    dates_by true (component_of 1970 2199 year) (component_of 1 12 month) (option_map (λ n. ranges ((n, n) ∷ [])) (number_of 1 28 day))
back_from_end year _ = None

-- dates, from their parts between hyphens; a tilde in place of the second hyphen counts days back
-- from the month's end
abbrev pub dates_of : List (List ℕ) → Option Dates
dates_of (year ∷ month ∷ day ∷ []) = dates_by false (component_of 1970 2199 year) (component_of 1 12 month) (component_of 1 31 day)
dates_of (year ∷ rest ∷ []) = back_from_end year (parts 126 rest)
dates_of _ = None

abbrev pub times_by : Option Component → Option Component → Option Component → Option Times
times_by (Some hs) (Some ms) (Some ss) = Some (record { hours = hs; minutes = ms; seconds = ss })
times_by _ _ _ = None

-- times of day, from their parts between colons
abbrev pub times_of : List (List ℕ) → Option Times
times_of (hour ∷ minute ∷ second ∷ []) = times_by (component_of 0 23 hour) (component_of 0 59 minute) (component_of 0 59 second)
times_of _ = None

abbrev pub calendar_by : Option Component → Option Dates → Option Times → Option Calendar
calendar_by (Some ws) (Some ds) (Some ts) = Some (record { weekdays = ws; dates = ds; times = ts })
calendar_by _ _ _ = None

-- the calendar, from the parts of a line between spaces; days of the week may be left out, which
-- admits all of them
abbrev pub calendar_in : List (List ℕ) → Option Calendar
calendar_in (date ∷ time ∷ []) = calendar_by (Some any) (dates_of (parts 45 date)) (times_of (parts 58 time))
calendar_in (days ∷ date ∷ time ∷ []) = calendar_by (ranges_in weekday_named days) (dates_of (parts 45 date)) (times_of (parts 58 time))
calendar_in _ = None

-- the calendar that a line means, none if systemd may refuse the line
unfoldable pub calendar_of : List ℕ → Option Calendar
calendar_of line = calendar_in (parts 32 line)

-- whether a civil datetime matches a line; false if systemd may refuse the line
abbrev pub line_matches : DateTime → List ℕ → Bool
line_matches dt line = option_map_or (λ k. calendar_matches k dt) (calendar_of line) false
