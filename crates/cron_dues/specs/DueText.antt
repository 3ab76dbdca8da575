-- The text of a due fire.
use Rattle.std.specs.Prelude.{ℕ, ◌+◌, ◌/◌, ◌==◌, List, [], ◌++◌, codes, if◌then◌else◌}
use Rattle.cron_moments.specs.Civil.{civil}
use Rattle.cron_moments.specs.MomentText.{date_text, moment_text, time_text}
use Rattle.cron_moments.specs.Readings.{Reading, reading}
use Rattle.cron_dues.specs.Clock.Due.{Due}

-- what the clock shows at the due instant
abbrev pub shown : Due → Reading
shown d = reading (d.second + d.past) d.offset

-- the nominal time, `02:30:00`; with its date, `2011-12-30 02:30:00`, if the clock shows another
-- day at the due instant
abbrev pub nominal_text : Due → List ℕ
nominal_text d =
    if d.second / 86_400 == (d.second + d.past) / 86_400 then time_text (civil d.second).time
    else date_text (civil d.second).date ++ (codes " " ++ time_text (civil d.second).time)

-- the text of the moment that the clock shows and, if that isn't the nominal second, the nominal
-- time too: `2022-03-13 03:00:00 -05:00 for 02:30:00`
unfoldable pub due_text : Due → List ℕ
due_text d = moment_text (shown d) ++ (if d.past == 0 then [] else codes " for " ++ nominal_text d)
