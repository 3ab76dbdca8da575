-- How far a search has come.
use Rattle.std.specs.Prelude.{◌≡◌, ℕ, ◌+◌, ◌-◌, ℤ, Bool, true, false, Option, Some, None, MatchOption}
use Rattle.cron_units.specs.declared.way.Way.{Way}
use Rattle.cron_units.specs.declared.way.Way.TheVariants.{Ahead, Back}
use Rattle.cron_units.specs.Nearest.{LiesFrom, Precedes}

-- the number passes one test, and none from the start to it passes another
pub record IsReachedAt (way : Way) (m t : ℕ → Bool) (start : ℤ) (n : ℕ) : Type 0 where
  pub passes : m n ≡ true
  pub lies : LiesFrom way start n
  pub before : (k : ℕ) → LiesFrom way start k → Precedes way k n → t k ≡ false

-- or none from the start on passes the second test
abbrev pub IsReached : Way → (ℕ → Bool) → (ℕ → Bool) → ℤ → Option ℕ → Type 0
IsReached way m t start next =
    MatchOption next ((k : ℕ) → LiesFrom way start k → t k ≡ false) (IsReachedAt way m t start)

-- how many numbers below a limit are left to go through
abbrev pub left_to_pass : Way → ℕ → Option ℕ → ℕ
left_to_pass way limit None = 0
left_to_pass Ahead limit (Some n) = limit - n
left_to_pass Back limit (Some n) = n + 1
