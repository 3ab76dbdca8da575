-- The text of a moment.
use Rattle.std.specs.Prelude.{ℕ, ◌+◌, ◌/◌, ◌%◌, ◌==◌, ℤ, pos, negsuc, List, [], ◌∷◌, ◌++◌, codes, if◌then◌else◌}
use Rattle.jiff_core.specs.declared.civil.date.Date.{Date}
use Rattle.jiff_core.specs.declared.civil.time.Time.{Time}
use Rattle.cron_moments.specs.Civil.{civil}
use Rattle.cron_moments.specs.Readings.{Reading}

-- the last two digits of a number; `four_digits` is the last four
abbrev pub two_digits : ℕ → List ℕ
two_digits n = (48 + n / 10 % 10) ∷ (48 + n % 10) ∷ []

abbrev pub four_digits : ℕ → List ℕ
four_digits n = two_digits (n / 100) ++ two_digits n

-- a year without its sign
abbrev pub size_of : ℤ → ℕ
size_of (pos n) = n
size_of (negsuc n) = n + 1

-- `2022-11-06`
abbrev pub date_text : Date → List ℕ
date_text d = four_digits (size_of d.year) ++ (codes "-" ++ (two_digits d.month ++ (codes "-" ++ two_digits d.day)))

-- `01:00:00`
abbrev pub time_text : Time → List ℕ
time_text t = two_digits t.hour ++ (codes ":" ++ (two_digits t.minute ++ (codes ":" ++ two_digits t.second)))

-- the sign of an offset: `-` if it is below zero, else `+`
abbrev pub sign_text : ℤ → List ℕ
sign_text (pos n) = codes "+"
sign_text (negsuc n) = codes "-"

-- the seconds of an offset as `:SS`, or nothing if they are zero
abbrev pub seconds_text : ℕ → List ℕ
seconds_text n = if n == 0 then [] else codes ":" ++ two_digits n

-- `-05:00`, or `-05:50:36`
abbrev pub offset_text : ℤ → List ℕ
offset_text o =
    sign_text o ++ (two_digits (size_of o / 3600) ++ (codes ":" ++ (two_digits (size_of o / 60 % 60) ++ seconds_text (size_of o % 60))))

-- `2022-11-06 01:00:00 -05:00`
unfoldable pub moment_text : Reading → List ℕ
moment_text r =
    date_text (civil r.second).date ++ (codes " " ++ (time_text (civil r.second).time ++ (codes " " ++ offset_text r.offset.seconds)))

-- the line of a moment: its text and a line feed
abbrev pub item_line : Reading → List ℕ
item_line r = moment_text r ++ 10 ∷ []
