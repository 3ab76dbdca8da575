-- A time of UTC as calendars write it, as `20220313T080000Z`.
use Rattle.std.specs.Prelude.{ℕ, List, ◌++◌, codes, unsigned_abs}
use Rattle.jiff_core.specs.declared.civil.date.Date.{Date}
use Rattle.jiff_core.specs.declared.civil.datetime.DateTime.{DateTime}
use Rattle.jiff_core.specs.declared.civil.time.Time.{Time}
use Rattle.cron_moments.specs.MomentText.{four_digits, two_digits}

-- a date, as `20220313`
unfoldable pub date_digits : Date → List ℕ
date_digits d = four_digits (unsigned_abs d.year) ++ (two_digits d.month ++ two_digits d.day)

-- a time of day, as `080000`
unfoldable pub time_digits : Time → List ℕ
time_digits t = two_digits t.hour ++ (two_digits t.minute ++ two_digits t.second)

-- a date and time of UTC, as `20220313T080000Z`
abbrev pub stamp_text : DateTime → List ℕ
stamp_text dt = date_digits dt.date ++ codes "T" ++ time_digits dt.time ++ codes "Z"
