-- What fires on a civil day, as pages name it: the entries with their times. Days are numbered from
-- 1970-01-01, and civil seconds from 1970-01-01 00:00:00.
use Rattle.std.specs.Prelude.{ℕ, ◌+◌, ◌-◌, ◌*◌, ◌%◌, ◌==◌, List, [], ◌++◌, codes, length, map, nat_lt, take, if◌then◌else◌}
use Rattle.std.specs.Fmt.{decimal}
use Rattle.std.specs.List.{flat_map}
use Rattle.jiff_tz.specs.declared.timezone.TimeZone.{TimeZone}
use Rattle.cron_controls.specs.Controls.{shown_by}
use Rattle.cron_controls.specs.declared.Controls.{Controls}
use Rattle.cron_counting.specs.Counts.{items_on_day}
use Rattle.cron_moments.specs.Civil.{civil}
use Rattle.cron_moments.specs.MomentText.{time_text}
use Rattle.cron_calendar.specs.Html.{day_text, escaped}
use Rattle.cron_calendar.specs.Plans.{matches_of, zone_by}
use Rattle.cron_calendar.specs.Shapes.{word_bytes}
use Rattle.cron_calendar.specs.declared.html.shapes.Word.TheVariants.{Weekday}
use Rattle.cron_calendar.specs.declared.plans.Plan.{Plan}

-- the civil seconds of a plan's fires on a day, in order
abbrev pub seconds_on : TimeZone → ℕ → Plan → List ℕ
seconds_on z day plan = map (λ r. r.second) (items_on_day (matches_of plan) (zone_by plan.once z) day)

-- the time of day of a civil second, as `03:00`, or as `03:00:30` if it has seconds
abbrev pub short_time : ℕ → List ℕ
short_time c = if c % 60 == 0 then take 5 (time_text (civil c).time) else time_text (civil c).time

-- how many of so many times are named: all of up to six, else the first three
abbrev pub named_count : ℕ → ℕ
named_count count = if nat_lt 6 count then 3 else 6

-- how many times are left out, with a space after it
abbrev pub rest_text : ℕ → List ℕ
rest_text count = if nat_lt 6 count then codes "and " ++ (decimal (count - 3) ++ codes " more ") else []

-- the times of some fires, each with a space after it: `03:00 12:00 `, or
-- `00:00 00:15 00:30 and 93 more `
abbrev pub times_text : List ℕ → List ℕ
times_text cs = flat_map (λ c. short_time c ++ codes " ") (take (named_count (length cs)) cs) ++ rest_text (length cs)

-- a text, if there are some of what it tells
abbrev pub if_some : ℕ → List ℕ → List ℕ
if_some count text = if nat_lt 0 count then text else []

-- the line of an entry that fires on a day: its times and its name
abbrev pub entry_line : Controls → TimeZone → ℕ → Plan → List ℕ
entry_line controls z day plan =
    if_some (length (seconds_on z day plan))
    (codes "  " ++ (times_text (seconds_on z day plan) ++ (codes " " ++ (shown_by controls plan.name.now ++ codes "\n"))))

-- a day, as `Fri 2024-03-01`
abbrev pub day_head : ℕ → List ℕ
day_head day = word_bytes (Weekday ((day + 3) % 7)) ++ (codes " " ++ (day_text (civil (day * 86_400)).date ++ codes "\n"))

-- the lines of the entries that fire on a day, below the day; nothing if none fires
abbrev pub day_list : Controls → TimeZone → List Plan → ℕ → List ℕ
day_list controls z plans day =
    if_some (length (flat_map (entry_line controls z day) plans)) (day_head day ++ flat_map (entry_line controls z day) plans)

-- an entry in a page of HTML: its times on a day and its name
abbrev pub item_text : TimeZone → ℕ → Plan → List ℕ
item_text z day plan = codes "<p>" ++ (times_text (seconds_on z day plan) ++ (codes "<code>" ++ (escaped plan.name.now ++ codes "</code></p>")))

-- an entry that fires on a day, in a page of HTML
abbrev pub entry_item : TimeZone → ℕ → Plan → List ℕ
entry_item z day plan = if_some (length (seconds_on z day plan)) (item_text z day plan)
