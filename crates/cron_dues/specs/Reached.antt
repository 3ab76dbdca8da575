-- How far a clock has come.
use Rattle.std.specs.Prelude.{◌≡◌, ◌↔◌, ◌⊎◌, ℕ, ◌<◌, ℤ, pos, ◌+ℤ◌, ◌-ℤ◌, ◌≤ℤ◌, ◌<ℤ◌, Bool, int_le, unsigned_abs, Option, IfSome}
use Rattle.cron_moments.specs.Civil.{seconds_in_range}
use Rattle.cron_dues.specs.Clock.Due.{Clock, due_instant, shows}
use Rattle.cron_dues.specs.Steady.{IsKept}
use Rattle.cron_dues.specs.declared.steady.Steady.{Steady}
use Rattle.cron_dues.specs.declared.steady.DueSpan.{DueSpan}

-- no instant before n shows the civil second c or a later one
abbrev pub IsUnreachedBefore : Clock → ℕ → ℤ → Type 0
IsUnreachedBefore clock c n = (m : ℤ) → m <ℤ n → shows clock m <ℤ pos c

-- up to n the clock has shown the second m
pub record IsShownBy (clock : Clock) (n m : ℤ) : Type 0 where
  pub at : ℤ
  pub by : at ≤ℤ n
  pub shown : shows clock at ≡ m

-- m is the greatest civil second that the clock has shown up to n
pub record IsGreatestBy (clock : Clock) (n m : ℤ) : Type 0 where
  pub shown : IsShownBy clock n m
  pub greatest : (k : ℤ) → k ≤ℤ n → shows clock k ≤ℤ m

-- the civil seconds that are due up to n are those up to m
abbrev pub IsReachedBy : Clock → ℤ → ℤ → Type 0
IsReachedBy clock n m = (c : ℕ) → c < seconds_in_range → (pos c ≤ℤ m) ↔ (due_instant clock c ≤ℤ n)

-- from an instant on, up to an end, the clock keeps this offset; before it the civil second c isn't reached
pub record IsOnTheWay (clock : Clock) (c : ℕ) (from : ℤ) (steady : Steady) : Type 0 where
  pub unreached : IsUnreachedBefore clock c from
  pub low : (pos c -ℤ pos 93_599) ≤ℤ from
  pub high : from ≤ℤ (pos c +ℤ pos 93_599)
  pub kept : IsKept clock from steady.end steady.offset.seconds
  pub later : from <ℤ steady.end

-- from an instant on, up to an end, the clock keeps this offset; before it, and it may be long
-- before, the civil second c isn't reached
pub record IsAhead (clock : Clock) (c : ℕ) (from : ℤ) (steady : Steady) : Type 0 where
  pub unreached : IsUnreachedBefore clock c from
  pub high : from ≤ℤ (pos c +ℤ pos 93_599)
  pub kept : IsKept clock from steady.end steady.offset.seconds
  pub later : from <ℤ steady.end

-- how many instants are left at which c may be due
abbrev pub left_until : ℕ → ℤ → ℕ
left_until c from = unsigned_abs (pos c +ℤ pos 93_600 -ℤ from)

-- the clock comes to the end of the steady instants before it shows the civil second c or a later one
abbrev pub ends_before : Steady → ℕ → Bool
ends_before steady c = int_le (steady.end +ℤ steady.offset.seconds) (pos c)

-- a search for the greatest civil second shown up to n has come to `from`: before it the clock has
-- shown nothing later than `greatest`. That was shown up to n, or is earlier than what the clock
-- shows at n
pub record IsGathered (clock : Clock) (n from greatest : ℤ) (steady : Steady) : Type 0 where
  pub most : (k : ℤ) → k <ℤ from → shows clock k ≤ℤ greatest
  pub reached : (greatest ≡ n -ℤ pos 93_600) ⊎ IsShownBy clock n greatest
  pub low : (n -ℤ pos 187_198) ≤ℤ from
  pub high : from ≤ℤ n
  pub kept : IsKept clock from steady.end steady.offset.seconds
  pub later : from <ℤ steady.end
  pub low_greatest : (n -ℤ pos 93_600) ≤ℤ greatest
  pub high_greatest : greatest ≤ℤ (n +ℤ pos 93_600)

-- how many instants are left from `from` up to n
abbrev pub left_to : ℤ → ℤ → ℕ
left_to n from = unsigned_abs (n +ℤ pos 1 -ℤ from)

-- the civil seconds after m are due from the start of the span on, if the span is known
abbrev pub LeadsOn : Clock → ℤ → Option DueSpan → Type 0
LeadsOn clock m span = IfSome span (λ s. (c : ℕ) → m <ℤ pos c → IsAhead clock c s.from s.steady)
