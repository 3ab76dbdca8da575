-- Which days rules of any kind allow.
use Rattle.std.specs.Prelude.{ℕ, Bool, ◌&&◌, nat_le, not}
use Rattle.cron_days.specs.declared.every.Every.{Every}
use Rattle.cron_days.specs.declared.span.Span.{Span}
use Rattle.cron_days.specs.declared.rule.Rule.{Rule}
use Rattle.cron_days.specs.declared.rule.Rule.TheVariants.{Dates, Every as OneIn, NotEvery, Span as Between, NotSpan}
use Rattle.cron_days.specs.Inner.Runs.{allows_listed}
use Rattle.cron_days.specs.Rules.{is_steps_apart, place_of}

-- one day, week or month in so many
abbrev pub allows_every : Every → ℕ → Bool
allows_every rule n = is_steps_apart rule.count rule.place (place_of rule.period n)

-- the days of a span
abbrev pub allows_span : Span → ℕ → Bool
allows_span span n = nat_le span.first n && nat_le n span.last

abbrev pub allows_rule : Rule → ℕ → Bool
allows_rule (Dates rule) = allows_listed rule
allows_rule (OneIn rule) = allows_every rule
allows_rule (NotEvery other) = λ n. not (allows_every other.rule n)
allows_rule (Between rule) = allows_span rule
allows_rule (NotSpan other) = λ n. not (allows_span other.rule n)
