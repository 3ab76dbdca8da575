-- What is known after a due fire.
use Rattle.std.specs.Prelude.{◌≡◌, ◌⊎◌, ℕ, ◌-◌, ◌<◌, ℤ, pos, ◌+ℤ◌, ◌≤ℤ◌, true, Option, Some, None}
use Rattle.cron_time.specs.Seconds.{Seconds, is_match}
use Rattle.cron_units.specs.declared.way.Way.TheVariants.{Ahead}
use Rattle.cron_dues.specs.Clock.Due.{Clock, Due, due, parts}
use Rattle.cron_dues.specs.Nearest.{IsNearestDue}
use Rattle.cron_dues.specs.declared.ahead.Known.{Known}

-- each civil second from a number on, up to the end, is due at this offset: when the clock shows it, or the first one if that is later
abbrev pub AreDueFrom : Clock → ℤ → Known → Type 0
AreDueFrom clock from known = (k : ℕ) → from ≤ℤ pos k → k < known.end → due clock k ≡ parts k (known.first - k) known.offset

-- the number comes right after a civil second of the range that matches
pub record IsPast (s : Seconds) (from : ℤ) : Type 0 where
  pub second : ℕ
  pub matching : is_match s second ≡ true
  pub next : from ≡ pos second +ℤ pos 1

-- nothing is known, or the number comes right after a civil second that matches
abbrev pub IsPastIfKnown : Seconds → ℤ → Known → Type 0
IsPastIfKnown s from known = (known.end ≡ 0) ⊎ IsPast s from

-- what is known at a number: how civil seconds from it on are due, and that a match comes right
-- before it
abbrev pub IsKnown : Seconds → Clock → ℤ → Known → Type 0
IsKnown s clock from known = AreDueFrom clock from known × IsPastIfKnown s from known

-- what is known after a due fire, at the number after it; without a due fire, what was known before
abbrev pub IsKnownAfter : Seconds → Clock → ℤ → Option Due → Known → Type 0
IsKnownAfter s clock from None known = IsKnown s clock from known
IsKnownAfter s clock from (Some d) known = IsKnown s clock (pos d.second +ℤ pos 1) known

-- the first due fire from a number on, and what is known after it
pub record IsNextDue (s : Seconds) (clock : Clock) (from : ℤ) (next : Option Due) (known : Known) : Type 0 where
  pub nearest : IsNearestDue Ahead (is_match s) clock from next
  pub after : IsKnownAfter s clock from next known
