-- Where days, weeks and months start.
use Rattle.std.specs.Prelude.{ℕ, ◌<◌, ◌≤◌}
use Rattle.cron_moments.specs.Civil.{days_in_range}
use Rattle.cron_days.specs.Rules.{place_of}
use Rattle.cron_days.specs.declared.period.Period.{Period}

-- the days of the range before the first one are those of earlier days, weeks or months
pub record IsStart (period : Period) (place first : ℕ) : Type 0 where
  pub earlier : (k : ℕ) → k < days_in_range → k < first → place_of period k < place
  pub later : (k : ℕ) → k < days_in_range → first ≤ k → place ≤ place_of period k
