-- The nearest number, ahead or back, at which a test is true.
use Rattle.std.specs.Prelude.{◌≡◌, ℕ, ◌<◌, ℤ, pos, ◌≤ℤ◌, Bool, true, false, Option, MatchOption}
use Rattle.cron_units.specs.declared.way.Way.{Way}
use Rattle.cron_units.specs.declared.way.Way.TheVariants.{Ahead, Back}

-- k is at the start or lies past it, in this direction
abbrev pub LiesFrom : Way → ℤ → ℕ → Type 0
LiesFrom Ahead start k = start ≤ℤ pos k
LiesFrom Back start k = pos k ≤ℤ start

-- j comes before k, in this direction
abbrev pub Precedes : Way → ℕ → ℕ → Type 0
Precedes Ahead j k = j < k
Precedes Back j k = k < j

-- n passes the test, and no number from the start to it does
pub record IsNearestAt (way : Way) (test : ℕ → Bool) (start : ℤ) (n : ℕ) : Type 0 where
  pub passes : test n ≡ true
  pub lies : LiesFrom way start n
  pub nearest : (k : ℕ) → LiesFrom way start k → Precedes way k n → test k ≡ false

-- the nearest number from the start on that passes the test: the least ahead, the greatest back;
-- `None` if none passes
abbrev pub IsNearest : Way → (ℕ → Bool) → ℤ → Option ℕ → Type 0
IsNearest way test start found =
    MatchOption found ((k : ℕ) → LiesFrom way start k → test k ≡ false) (IsNearestAt way test start)
