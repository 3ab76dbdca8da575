-- The nearest civil second that matches one of several schedules.
use Rattle.std.specs.Prelude.{ℕ, Bool, nat_lt, if◌then◌else◌, List, Option, Some, None}
use Rattle.cron_units.specs.declared.way.Way.{Way}
use Rattle.cron_units.specs.declared.way.Way.TheVariants.{Ahead, Back}
use Rattle.cron_units.specs.Sets.{Sets}
use Rattle.cron_time.specs.Seconds.{is_match}
use Rattle.cron_unions.specs.Unions.{any_of}

-- a civil second of the range that matches one of several schedules, by its number
abbrev pub is_match_any : List Sets → ℕ → Bool
is_match_any ss c = is_match (any_of ss) c

-- a number comes before another, in this direction
abbrev pub is_before : Way → ℕ → ℕ → Bool
is_before Ahead a b = nat_lt a b
is_before Back a b = nat_lt b a

-- the nearer of two civil seconds, or the only one
abbrev pub nearer_second : Way → Option ℕ → Option ℕ → Option ℕ
nearer_second way None other = other
nearer_second way (Some a) None = Some a
nearer_second way (Some a) (Some b) = if is_before way b a then Some b else Some a
