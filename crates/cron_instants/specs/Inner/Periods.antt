-- While a clock keeps one offset, and nothing else is read.
use Rattle.std.specs.Prelude.{◌≡◌, ℕ, ◌-◌, ◌<◌, ℤ, pos, ◌-ℤ◌, ◌≤ℤ◌, ◌<ℤ◌}
use Rattle.jiff_core.specs.declared.Offset.{Offset}
use Rattle.jiff_tz.specs.declared.timezone.TimeZone.{TimeZone}
use Rattle.jiff_tz.specs.declared.tzif.Tzif.{Tzif}
use Rattle.jiff_tz.specs.Tzif.{transition_at}
use Rattle.cron_moments.specs.Civil.{seconds_in_range}
use Rattle.cron_moments.specs.Readings.{Reading, instant, reading}
use Rattle.cron_instants.specs.OffsetRange.{IsRead}

-- from the instant a up to `end`, which is left out, all civil seconds of the range are read at one
-- offset, and none at another
pub record IsPeriod (z : TimeZone) (a end : ℤ) (o : Offset) : Type 0 where
  pub only : (r : Reading) → IsRead z r → a ≤ℤ instant r → instant r <ℤ end → r.offset.seconds ≡ o.seconds
  pub all : (c : ℕ) → c < seconds_in_range → a ≤ℤ (pos c -ℤ o.seconds) → (pos c -ℤ o.seconds) <ℤ end → IsRead z (reading c o)

-- from an instant on no civil second before this one is read
abbrev pub IsReadFrom : TimeZone → ℤ → ℤ → Type 0
IsReadFrom z a from = (r : Reading) → IsRead z r → a ≤ℤ instant r → from ≤ℤ pos r.second

-- the first n transitions of a table don't come after an instant
abbrev pub ArePassed : Tzif → ℕ → ℤ → Type 0
ArePassed z n a = 0 < n → (transition_at z (n - 1)).second ≤ℤ a

-- the instant is that of the table's transition n, counted from 1
pub record IsLastOf (z : Tzif) (n : ℕ) (a : ℤ) : Type 0 where
  pub some : 0 < n
  pub is : (transition_at z (n - 1)).second ≡ a
