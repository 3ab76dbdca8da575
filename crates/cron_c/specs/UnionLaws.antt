-- What holds of several schedules as one.
use Rattle.std.specs.Prelude.{◌≡◌, ◌↔◌, List, [], ◌∷◌, Any}
use Rattle.cron_moments.specs.Readings.{Reading}
use Rattle.cron_c.specs.Histories.{IsHistoryItem}
use Rattle.cron_c.specs.Structs.{seconds_of_struct}
use Rattle.cron_c.specs.Unions.{seconds_of_any}
use Rattle.cron_c.specs.declared.era.CronEra.{CronEra}
use Rattle.cron_c.specs.declared.schedule.CronSchedule.{CronSchedule}

-- One schedule is its own union: it has the same civil seconds. The contracts of calls know
-- schedules by their civil seconds only. So the calls over several schedules answer for one
-- schedule what the calls over one schedule answer.
abbrev pub OneIsItsUnion : Type 0
OneIsItsUnion = (c : CronSchedule) → seconds_of_any (c ∷ []) ≡ seconds_of_struct c

-- a history has an item of several schedules exactly if it is an item of at least one of them
abbrev pub ItemsAreOfTheSchedules : Type 0
ItemsAreOfTheSchedules =
    (cs : List CronSchedule) (eras : List CronEra) (r : Reading)
    → IsHistoryItem (seconds_of_any cs) eras r ↔ Any (λ c. IsHistoryItem (seconds_of_struct c) eras r) cs
