-- Days with their numbers of fires, as rows of JSON. Days are numbered from 1970-01-01.
use Rattle.std.specs.Prelude.{ℕ, ◌+◌, ◌*◌, List, ◌++◌, codes, length, slice_index}
use Rattle.std.specs.Fmt.{decimal}
use Rattle.cron_moments.specs.Civil.{civil}
use Rattle.cron_calendar.specs.Grids.{from_to}
use Rattle.cron_calendar.specs.Html.{day_text}

-- the row of a day: `{"day":"2024-03-01","fires":2}`
abbrev pub day_object : ℕ → ℕ → List ℕ
day_object day count =
    codes "{\"day\":\"" ++ (day_text (civil (day * 86_400)).date ++ (codes "\",\"fires\":" ++ (decimal count ++ codes "}\n")))

-- the rows of the days from `first` on, one for each count
abbrev pub day_objects : ℕ → List ℕ → List ℕ
day_objects first counts = from_to (λ place. day_object (first + place) (slice_index counts place)) 0 (length counts)
