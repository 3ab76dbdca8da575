-- The due fires of a set of civil seconds by a clock.
use Rattle.std.specs.Prelude.{ℤ, Bool, nat_lt, List, map}
use Rattle.cron_time.specs.Seconds.{Seconds, matching_seconds}
use Rattle.cron_seconds.specs.Rules as rules
use Rattle.cron_dues.specs.Clock.Due.{Clock, Due, due, instant}

-- each civil second of the set with its due instant, in ascending order
abbrev pub dues : Seconds → Clock → List Due
dues s clock = map (due clock) (matching_seconds s)

-- the due instant comes after the instant t, which is in nanoseconds since 1970
abbrev pub is_due_after : ℤ → Due → Bool
is_due_after t d = rules.is_after instant t d

-- the due instant is t, which is in nanoseconds since 1970, or comes before it
abbrev pub is_due_by : ℤ → Due → Bool
is_due_by t d = rules.is_by instant t d

-- d's nominal civil second comes after that of `fire`
abbrev pub is_past : Due → Due → Bool
is_past fire d = nat_lt fire.second d.second

-- the due fires whose instant comes after t
abbrev pub dues_after : Seconds → Clock → ℤ → List Due
dues_after s clock t = rules.all_after instant (dues s clock) t

-- the due fires past a due fire, of which some may share its instant
abbrev pub dues_past : Seconds → Clock → Due → List Due
dues_past s clock fire = rules.all_past is_past (dues s clock) fire

-- the due fires after one instant and up to and with another
abbrev pub dues_between : Seconds → Clock → ℤ → ℤ → List Due
dues_between s clock last now = rules.all_between instant (dues s clock) last now

-- the due fires past a due fire and up to and with an instant
abbrev pub dues_past_by : Seconds → Clock → Due → ℤ → List Due
dues_past_by s clock fire now = rules.all_past_by instant is_past (dues s clock) fire now

-- the due fires whose instant is t or comes before it, the last one first
abbrev pub dues_back : Seconds → Clock → ℤ → List Due
dues_back s clock t = rules.all_back instant (dues s clock) t

-- the due fires before a due fire, by their nominal times, the last one first
abbrev pub dues_before : Seconds → Clock → Due → List Due
dues_before s clock fire = rules.all_before is_past (dues s clock) fire
