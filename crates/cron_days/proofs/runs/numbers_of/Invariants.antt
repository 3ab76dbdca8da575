use Rattle.std.proofs.Common.{◌≡◌, ◌<◌, ◌==◌, ℕ, All, take}
use Rattle.std.specs.List.{list_any}
use Rattle.cron_moments.specs.Civil.{days_in_range}
use Rattle.cron_days.specs.Rules.{is_listed}
use Rattle.cron_days.proofs.runs.numbers_of.Given as goal

abbrev pub invariant-loop-date : goal.invariant-loop-date
invariant-loop-date l = record {
  in_range : All (λ n. n < days_in_range) l.numbers.items;
  same : (n : ℕ) → list_any (λ m. m == n) l.numbers.items ≡ is_listed (take l.date-index l.dates) n;
}
