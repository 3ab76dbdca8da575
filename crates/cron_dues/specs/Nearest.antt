-- The due fire of the nearest civil second that passes a test, such as whether it matches.
use Rattle.std.specs.Prelude.{◌≡◌, ℕ, ℤ, Bool, false, Option, MatchOption}
use Rattle.cron_units.specs.declared.way.Way.{Way}
use Rattle.cron_units.specs.Nearest.{IsNearestAt, LiesFrom}
use Rattle.cron_dues.specs.Clock.Due.{Clock, Due, due}

-- the due fire of the nearest civil second from a number on that passes the test
pub record IsNearestDueAt (way : Way) (test : ℕ → Bool) (clock : Clock) (start : ℤ) (d : Due) : Type 0 where
  pub nearest : IsNearestAt way test start d.second
  pub own : d ≡ due clock d.second

-- the due fire of the nearest civil second from a number on that passes the test; `None` exactly if
-- none passes it
abbrev pub IsNearestDue : Way → (ℕ → Bool) → Clock → ℤ → Option Due → Type 0
IsNearestDue way test clock start answer =
    MatchOption answer ((k : ℕ) → LiesFrom way start k → test k ≡ false) (IsNearestDueAt way test clock start)
