-- The due fires that a run has left: those from a civil second on.
use Rattle.std.specs.Prelude.{ℤ, pos, Bool, int_le, List, filter}
use Rattle.cron_time.specs.Seconds.{Seconds}
use Rattle.cron_dues.specs.Clock.Due.{Clock, Due}
use Rattle.cron_dues.specs.Clock.Dues.{dues}

-- the nominal second is this one or a later one
abbrev pub is_from : ℤ → Due → Bool
is_from from d = int_le from (pos d.second)

abbrev pub left_from : Seconds → Clock → ℤ → List Due
left_from s clock from = filter (is_from from) (dues s clock)
