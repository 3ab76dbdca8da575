-- What pages hold: the HTML page of a year, and the page of months as text.
use Rattle.std.specs.Prelude.{◌≡◌, ℕ, ◌+◌, ◌-◌, ◌*◌, ◌/◌, ◌%◌, ◌==◌, List, [], ◌∷◌, ◌++◌, Option, Some, None, codes, fold, length, map, min, nat_lt, if◌then◌else◌}
use Rattle.std.specs.Fmt.{decimal}
use Rattle.std.specs.List.{flat_map, range_with_len}
use Rattle.jiff_core.specs.declared.civil.datetime.DateTime.{DateTime}
use Rattle.jiff_tz.specs.declared.timezone.TimeZone.{TimeZone}
use Rattle.cron_moments.specs.Calendar.{day_number, months_end}
use Rattle.cron_moments.specs.Civil.{civil, days_in_range}
use Rattle.cron_moments.specs.MomentText.{time_text}
use Rattle.cron_calendar.specs.Changes.{AreChanges}
use Rattle.cron_calendar.specs.DayLists.{day_list, entry_item}
use Rattle.cron_calendar.specs.Grids.{day_at, from_to, grid_text, lead}
use Rattle.cron_calendar.specs.Html.{day_rows, day_text, escaped}
use Rattle.cron_calendar.specs.Plans.{counts_of, hour_counts_of, shades_of, totals}
use Rattle.cron_calendar.specs.Shapes.{drawing, most_of, squares_of, word_bytes}
use Rattle.cron_calendar.specs.declared.changes.Change.{Change}
use Rattle.cron_calendar.specs.declared.html.Entry.{Entry}
use Rattle.cron_calendar.specs.declared.html.Year.{Year}
use Rattle.cron_calendar.specs.declared.html.frames.TheConstants.{CLOCK_END, CLOCK_START, DAYS_END, DAYS_SCALE, DAYS_START, ENTRIES_END, ENTRIES_START, ENTRY_END, ENTRY_NAME, ENTRY_START, ENTRY_STRIP, ENTRY_TOTAL, HEAD_END, HEAD_START, HEAD_STYLE, HEAD_TITLE, HEAD_ZONE, HOURS_END, HOURS_START, MONTH_END, MONTH_START, PAGE_END, SHADES_END, SHADES_START, TABLE_END, TABLE_START}
use Rattle.cron_calendar.specs.declared.html.shapes.Shape.{Shape}
use Rattle.cron_calendar.specs.declared.html.shapes.Word.TheVariants.{Month}
use Rattle.cron_calendar.specs.declared.html.style.TheConstants.{STYLE}
use Rattle.cron_calendar.specs.declared.months.Months.{Months}
use Rattle.cron_calendar.specs.declared.pages.Shown.{Shown}
use Rattle.cron_calendar.specs.declared.plans.Plan.{Plan}

-- ---- the page of a year. Its fixed texts are constants

-- the beginning of a page, by what it shows, as `2024`, and its zone
abbrev pub head_text : List ℕ → List ℕ → List ℕ
head_text shown zone =
    HEAD_START.now ++ (shown ++ (HEAD_STYLE.now ++ (STYLE.now ++ (HEAD_TITLE.now ++ (shown
    ++ (HEAD_ZONE.now ++ (escaped zone ++ HEAD_END.now)))))))

-- the sum of an entry's numbers of fires, at most 4,294,967,295
abbrev pub total_of : List ℕ → ℕ
total_of counts = fold (λ total count. min (total + count) 4_294_967_295) 0 counts

-- the row of an entry in a page: its colour by its place, its name, its number of fires, and a
-- drawing
abbrev pub entry_row : ℕ → Entry → List Shape → List ℕ
entry_row place e strip =
    ENTRY_START.now ++ (decimal (min place 12) ++ (codes "\"" ++ (ENTRY_NAME.now ++ (escaped e.name.now ++ (ENTRY_TOTAL.now
    ++ (decimal (total_of e.counts.now) ++ (ENTRY_STRIP.now ++ (drawing strip ++ ENTRY_END.now))))))))

-- the text has a row for each entry, and the first entry has this place
abbrev pub AreRows : ℕ → List Entry → List ℕ → Type 0
AreRows place [] rows = rows ≡ []
AreRows place (e ∷ es) rows = (strip : List Shape) × (rest : List ℕ) × (rows ≡ entry_row place e strip ++ rest) × AreRows (place + 1) es rest

abbrev pub entries_text : List ℕ → List ℕ
entries_text rows = ENTRIES_START.now ++ (rows ++ ENTRIES_END.now)

-- the texts around the map of days: of one entry it shows fires, else entries
abbrev pub days_start : List Entry → List ℕ
days_start es = if length es == 1 then DAYS_START.now else SHADES_START.now

abbrev pub scale_end : List Entry → List ℕ
scale_end es = if length es == 1 then DAYS_END.now else SHADES_END.now

-- the map of days: labels, and then a square for each day with its shade
abbrev pub days_text : Year → List Shape → List ℕ
days_text y labels =
    days_start y.entries.now ++ (drawing (labels ++ squares_of (lead (y.year * 12)) y.shades.now) ++ (DAYS_SCALE.now
    ++ (decimal (most_of y.shades.now) ++ scale_end y.entries.now)))

abbrev pub hours_text : List Shape → List ℕ
hours_text hours = HOURS_START.now ++ (drawing hours ++ HOURS_END.now)

abbrev pub clock_text : List ℕ → List ℕ
clock_text changes = CLOCK_START.now ++ (escaped changes ++ CLOCK_END.now)

abbrev pub table_text : Year → List ℕ
table_text y = TABLE_START.now ++ (day_rows y.first y.days.now ++ TABLE_END.now)

-- The page of a year: a row for each entry and a row for each day, with names and other given texts
-- escaped. The labels of the map of days, the strips and the table of hours may be any, but they
-- hold no such text.
pub record IsPage (y : Year) (text : List ℕ) : Type 0 where
  pub rows : List ℕ
  pub entries : AreRows 0 y.entries.now rows
  pub labels : List Shape
  pub hours : List Shape
  pub is : text ≡ head_text (decimal y.year) y.zone.now ++ (entries_text rows ++ (days_text y labels ++ (hours_text hours
      ++ (clock_text y.changes.now ++ (table_text y ++ PAGE_END.now)))))

-- ---- months as text

-- the number of the day after the months before `end`, counted from 1970-01-01
abbrev pub days_end : ℕ → ℕ
days_end end = if nat_lt end months_end then day_number end 1 else days_in_range

abbrev pub day_count : ℕ → ℕ → ℕ
day_count first end = days_end end - day_number first 1

-- a date and time, as `2024-03-10T02:00:00`
abbrev pub time_of : DateTime → List ℕ
time_of dt = day_text dt.date ++ (codes "T" ++ time_text dt.time)

-- the end of the line of civil seconds that a clock shows this often
abbrev pub told_of : ℕ → List ℕ
told_of times = if times == 0 then codes ": the clock skips these times\n" else codes ": the clock shows these times twice\n"

-- the line of a change: civil seconds that a clock skips, or shows twice
abbrev pub change_line : Change → List ℕ
change_line change =
    time_of (civil change.first) ++ (codes " to " ++ (time_of (civil change.end) ++ told_of change.times))

-- what fires on each day, if one month is shown
abbrev pub named_text : Shown → TimeZone → List Plan → List ℕ
named_text shown z plans =
    if shown.end == shown.first + 1 then flat_map (day_list shown.controls z plans) (range_with_len (day_number shown.first 1) (day_count shown.first shown.end))
    else []

-- the text has the lines of all changes of the zone's clock on `days` days from day `first` on,
-- counted from 1970-01-01
pub record TellsClock (z : TimeZone) (first days : ℕ) (text : List ℕ) : Type 0 where
  pub changes : List Change
  pub all : AreChanges z ((first + days) * 86_400) (first * 86_400) changes
  pub told : text ≡ flat_map change_line changes

-- The page of months as text: their grid with the totals of the plans, and the lines of the clock's
-- changes. Of one month it then names what fires on each day.
pub record IsTextPage (plans : List Plan) (shown : Shown) (z : TimeZone) (text : List ℕ) : Type 0 where
  pub months : Months
  pub first : months.first_day ≡ day_number shown.first 1
  pub counts : months.counts.now ≡ totals (counts_of z months.first_day (day_count shown.first shown.end)) (day_count shown.first shown.end) plans
  pub colour : months.colour ≡ shown.colour
  pub clock : List ℕ
  pub told : TellsClock z months.first_day (day_count shown.first shown.end) clock
  pub is : text ≡ grid_text months shown.first shown.end shown.across ++ (clock ++ named_text shown z plans)

-- ---- the page of a month, of plans

-- the cell of a place of a month's grid: its day, and the entries that fire on it
abbrev pub month_cell : TimeZone → List Plan → ℕ → Option ℕ → List ℕ
month_cell z plans month None = codes "<td></td>"
month_cell z plans month (Some day) =
    codes "<td><b>" ++ (decimal day ++ (codes "</b>" ++ (flat_map (entry_item z (day_number month 1 + day - 1)) plans ++ codes "</td>")))

abbrev pub week_cells : TimeZone → List Plan → ℕ → ℕ → List ℕ
week_cells z plans month week =
    codes "<tr>" ++ (from_to (λ column. month_cell z plans month (day_at month (week * 7 + column))) 0 7 ++ codes "</tr>\n")

abbrev pub month_table : TimeZone → List Plan → ℕ → List ℕ
month_table z plans month = MONTH_START.now ++ (from_to (week_cells z plans month) 0 6 ++ MONTH_END.now)

-- a month, as `Mar 2024`
abbrev pub month_words : ℕ → List ℕ
month_words month = word_bytes (Month (month % 12)) ++ (codes " " ++ decimal (month / 12))

-- the page of a month: its table of days, and the lines of the clock's changes
pub record IsMonthPage (plans : List Plan) (month : ℕ) (z : TimeZone) (zone : List ℕ) (text : List ℕ) : Type 0 where
  pub clock : List ℕ
  pub told : TellsClock z (day_number month 1) (day_count month (month + 1)) clock
  pub is : text ≡ head_text (month_words month) zone ++ (month_table z plans month ++ (clock_text clock ++ PAGE_END.now))

-- ---- the page of a year, of plans

-- the page of a year, with an entry for each plan: its name, and its numbers of fires by day
pub record IsYearPage (plans : List Plan) (year : ℕ) (z : TimeZone) (zone : List ℕ) (text : List ℕ) : Type 0 where
  pub shown : Year
  pub year_is : shown.year ≡ year
  pub zone_is : shown.zone.now ≡ zone
  pub first : shown.first ≡ day_number (year * 12) 1
  pub days : shown.days.now ≡ totals (counts_of z shown.first (day_count (year * 12) (year * 12 + 12))) (day_count (year * 12) (year * 12 + 12)) plans
  pub shades : shown.shades.now ≡ shades_of (day_count (year * 12) (year * 12 + 12)) (map (counts_of z shown.first (day_count (year * 12) (year * 12 + 12))) plans)
  pub hours : shown.hours.now ≡ totals (hour_counts_of z shown.first (day_count (year * 12) (year * 12 + 12))) (day_count (year * 12) (year * 12 + 12) * 24) plans
  pub names : map (λ (e : Entry). e.name.now) shown.entries.now ≡ map (λ (p : Plan). p.name.now) plans
  pub counts : map (λ (e : Entry). e.counts.now) shown.entries.now ≡ map (counts_of z shown.first (day_count (year * 12) (year * 12 + 12))) plans
  pub clock : TellsClock z shown.first (day_count (year * 12) (year * 12 + 12)) shown.changes.now
  pub is : IsPage shown text
