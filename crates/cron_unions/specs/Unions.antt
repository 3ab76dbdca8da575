-- The civil seconds that match one of several schedules, as one set.
use Rattle.std.specs.Prelude.{Bool, List}
use Rattle.std.specs.List.{list_any}
use Rattle.jiff_core.specs.declared.civil.datetime.DateTime.{DateTime}
use Rattle.cron_units.specs.Sets.{Sets}
use Rattle.cron_time.specs.Matches.{matches}
use Rattle.cron_time.specs.Seconds.{Seconds}
use Rattle.cron_time.specs.Timeline.{seconds_of}

-- the civil seconds that one of several sets has
abbrev pub any_in : {A : Type 0} → (A → Seconds) → List A → Seconds
any_in has sets = λ c. list_any (λ set. has set c) sets

-- the civil seconds that match one of several schedules
abbrev pub any_of : List Sets → Seconds
any_of ss = any_in seconds_of ss

-- a civil datetime matches one of several schedules
abbrev pub matches_any : List Sets → DateTime → Bool
matches_any ss dt = list_any (λ s. matches s dt) ss
