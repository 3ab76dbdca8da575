-- What holds of the union of every list of schedules in every zone.
use Rattle.std.specs.Prelude.{◌≡◌, ◌↔◌, ℕ, true, List, [], ◌∷◌, Any, Contains}
use Rattle.cron_units.specs.Sets.{Sets}
use Rattle.cron_time.specs.Matches.{is_match}
use Rattle.cron_time.specs.Seconds.{matching_seconds}
use Rattle.cron_time.specs.Timeline.{seconds_of}
use Rattle.cron_seconds.specs.Rules.{IsAmong}
use Rattle.cron_unions.specs.Unions.{any_of}

-- the civil seconds of the union are those that match one of the schedules, no more and no fewer
abbrev pub SecondsAreOfTheSchedules : Type 0
SecondsAreOfTheSchedules =
    (ss : List Sets) (c : ℕ) → IsAmong (matching_seconds (any_of ss)) c ↔ Any (λ s. is_match s c ≡ true) ss

-- one schedule is its own union
abbrev pub OneIsItsUnion : Type 0
OneIsItsUnion = (s : Sets) → any_of (s ∷ []) ≡ seconds_of s

-- two lists that have the same schedules, in whatever order and however often, are one union
abbrev pub OrderDoesNotMatter : Type 0
OrderDoesNotMatter = (ss ts : List Sets) → ((s : Sets) → Contains ss s ↔ Contains ts s) → any_of ss ≡ any_of ts
