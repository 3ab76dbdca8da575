-- The grids of months: where their days are, and their lines. Months are numbered from January of
-- the year 0, and places of a grid from 0, seven a week.
use Rattle.std.specs.Prelude.{ℕ, ◌+◌, ◌-◌, ◌*◌, ◌/◌, ◌%◌, ◌==◌, List, [], ◌++◌, Option, Some, None, codes, min, nat_lt, option_map, slice_index, if◌then◌else◌}
use Rattle.std.specs.List.{flat_map, range_with_len}
use Rattle.cron_moments.specs.Calendar.{day_number, length_of}
use Rattle.cron_calendar.specs.Cells.{count_cell, day_cell, four_columns}
use Rattle.cron_calendar.specs.declared.months.Months.{Months}

-- ---- days

-- How many places of a month's first week are empty, before its first day. Weeks begin with Monday,
-- and 1970-01-01 was a Thursday.
abbrev pub lead : ℕ → ℕ
lead month = (day_number month 1 + 3) % 7

-- the day of the month at a place of its grid, none if the place is empty
abbrev pub day_at : ℕ → ℕ → Option ℕ
day_at month place =
    if nat_lt place (lead month) then None
    else (if nat_lt (place - lead month) (length_of month) then Some (place - lead month + 1) else None)

-- the number of fires of a day of a month, by the counts of consecutive days from `first_day` on
abbrev pub count_of : Months → ℕ → ℕ → ℕ
count_of ms month day = slice_index ms.counts.now (day_number month 1 + day - 1 - ms.first_day)

abbrev pub count_at : Months → ℕ → ℕ → Option ℕ
count_at ms month place = option_map (count_of ms month) (day_at month place)

-- ---- lines

-- the texts of the columns, months or lines from `first` up to but without `end`, one after another
abbrev pub from_to : (ℕ → List ℕ) → ℕ → ℕ → List ℕ
from_to f first end = flat_map f (range_with_len first (end - first))

abbrev pub month_name : ℕ → List ℕ
month_name n = if n == 0 then codes "          January " else (if n == 1 then codes "         February " else (if n == 2 then codes "            March " else (if n == 3 then codes "            April " else (if n == 4 then codes "              May " else (if n == 5 then codes "             June " else (if n == 6 then codes "             July " else (if n == 7 then codes "           August " else (if n == 8 then codes "        September " else (if n == 9 then codes "          October " else (if n == 10 then codes "         November " else codes "         December "))))))))))

abbrev pub title : ℕ → List ℕ
title month = month_name (month % 12) ++ (four_columns (month / 12) ++ codes "             ")

abbrev pub days_line : ℕ → ℕ → List ℕ
days_line month week = from_to (λ column. day_cell (day_at month (week * 7 + column))) 0 7

abbrev pub counts_line : Months → ℕ → ℕ → List ℕ
counts_line ms month week = from_to (λ column. count_cell ms.colour (count_at ms month (week * 7 + column))) 0 7

abbrev pub week_line : Months → ℕ → ℕ → List ℕ
week_line ms month line = if line % 2 == 0 then days_line month (line / 2) else counts_line ms month (line / 2)

abbrev pub heads : List ℕ
heads = codes "   Mo   Tu   We   Th   Fr   Sa   Su"

-- line `line` of a month: 0 is its name, 1 the names of the weekdays, and then come two lines for
-- each of six weeks
abbrev pub own_line : Months → ℕ → ℕ → List ℕ
own_line ms month line = if line == 0 then title month else (if line == 1 then heads else week_line ms month (line - 2))

abbrev pub month_line : Months → ℕ → ℕ → List ℕ
month_line ms month line = own_line ms month line ++ codes "   "

-- ---- months side by side

abbrev pub line_text : Months → ℕ → ℕ → ℕ → List ℕ
line_text ms first end line = from_to (λ month. month_line ms month line) first end ++ codes "\n"

abbrev pub row_text : Months → ℕ → ℕ → List ℕ
row_text ms first end = from_to (line_text ms first end) 0 14 ++ codes "\n"

-- the row of months that begins with `month`; nothing if `month` isn't the first of a row
abbrev pub row_from : Months → ℕ → ℕ → ℕ → ℕ → List ℕ
row_from ms first end across month = if (month - first) % across == 0 then row_text ms month (min end (month + across)) else []

abbrev pub grid_text : Months → ℕ → ℕ → ℕ → List ℕ
grid_text ms first end across = from_to (row_from ms first end across) first end
