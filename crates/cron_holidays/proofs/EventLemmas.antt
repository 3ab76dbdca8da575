-- Days in a row.
use Rattle.std.proofs.Common.{◌≡◌, ℕ, ◌+◌, [], ◌∷◌, ◌++◌, refl, add-one}
use Rattle.cron_holidays.specs.Events.{days_from}

-- one day more
pub more_days : (first n : ℕ) → days_from first (n + 1) ≡ days_from first n ++ (first + n) ∷ []
more_days first n = rw add-one refl
