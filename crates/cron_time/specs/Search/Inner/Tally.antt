-- How many numbers below a limit there are of a kind.
use Rattle.std.specs.Prelude.{◌≡◌, ℕ, ◌+◌, ◌<◌, ℤ, Bool, true, ◌↔◌, ◌⊎◌, Option, Some, None, count_by}
use Rattle.cron_units.specs.declared.way.Way.{Way}
use Rattle.cron_units.specs.Nearest.{LiesFrom, Precedes}
use Rattle.cron_time.specs.Seconds.{numbers_below}

-- `count` numbers below the limit are of this kind
pub record IsTally (limit : ℕ) (Kind : ℕ → Type 0) (count : ℕ) : Type 0 where
  pub test : ℕ → Bool
  pub tells : (k : ℕ) → k < limit → (test k ≡ true) ↔ Kind k
  pub total : count ≡ count_by test (numbers_below limit)

-- a count went up by how many numbers below the limit are of this kind
pub record Adds (limit : ℕ) (Kind : ℕ → Type 0) (old new : ℕ) : Type 0 where
  pub count : ℕ
  pub is : new ≡ old + count
  pub tally : IsTally limit Kind count

-- k comes before the number, if there is one
abbrev pub Before : Way → ℕ → Option ℕ → Type 0
Before way k None = Unit {0}
Before way k (Some n) = Precedes way k n

-- k comes before the number or is it, if there is one
abbrev pub NotPast : Way → ℕ → Option ℕ → Type 0
NotPast way k None = Unit {0}
NotPast way k (Some n) = Precedes way k n ⊎ (k ≡ n)

-- a number that passes, from the start on, as far as `Until` allows
pub record IsPassed (way : Way) (test : ℕ → Bool) (start : ℤ) (Until : ℕ → Type 0) (k : ℕ) : Type 0 where
  pub passes : test k ≡ true
  pub lies : LiesFrom way start k
  pub until : Until k

-- a number that passes, from the start on and before the next one that the search comes to
abbrev pub IsPassedBefore : Way → (ℕ → Bool) → ℤ → Option ℕ → ℕ → Type 0
IsPassedBefore way test start next = IsPassed way test start (λ k. Before way k next)

-- a number that passes, from the start on as far as the answer
abbrev pub IsPassedTo : Way → (ℕ → Bool) → ℤ → Option ℕ → ℕ → Type 0
IsPassedTo way test start answer = IsPassed way test start (λ k. NotPast way k answer)
