-- The rows of the table of days in a year's page, and the texts of entries as they are escaped.
use Rattle.std.specs.Prelude.{ℕ, ◌+◌, ◌*◌, ◌==◌, List, [], ◌∷◌, ◌++◌, codes, length, slice_index, unsigned_abs, if◌then◌else◌}
use Rattle.std.specs.Fmt.{decimal}
use Rattle.std.specs.List.{flat_map}
use Rattle.jiff_core.specs.declared.civil.date.Date.{Date}
use Rattle.cron_moments.specs.Civil.{civil}
use Rattle.cron_moments.specs.MomentText.{four_digits, two_digits}
use Rattle.cron_calendar.specs.Grids.{from_to}

-- a byte of a text, spelled out if HTML gives it a meaning
abbrev pub escaped_byte : ℕ → List ℕ
escaped_byte byte =
    if byte == 60 then codes "&lt;"
    else (if byte == 62 then codes "&gt;"
    else (if byte == 38 then codes "&amp;"
    else (if byte == 34 then codes "&quot;" else (if byte == 39 then codes "&#39;" else byte ∷ []))))

abbrev pub escaped : List ℕ → List ℕ
escaped text = flat_map escaped_byte text

-- a date, as `2024-02-29`
unfoldable pub day_text : Date → List ℕ
day_text d = four_digits (unsigned_abs d.year) ++ (codes "-" ++ (two_digits d.month ++ (codes "-" ++ two_digits d.day)))

-- the row of a day, numbered from 1970-01-01, with its number of fires
abbrev pub day_row : ℕ → ℕ → List ℕ
day_row day count =
    codes "<tr><th scope=\"row\">" ++ (day_text (civil (day * 86_400)).date ++ (codes "</th><td>" ++ (decimal count ++ codes "</td></tr>\n")))

-- the rows of the days from `first` on, one for each count
abbrev pub day_rows : ℕ → List ℕ → List ℕ
day_rows first counts = from_to (λ place. day_row (first + place) (slice_index counts place)) 0 (length counts)
