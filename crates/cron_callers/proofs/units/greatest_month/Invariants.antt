use Rattle.std.proofs.Common.{◌≡◌, ◌++◌, max, filter}
use Rattle.std.specs.declared.ops.Bound.TheVariants.{Included}
use Rattle.std.specs.List.{reduce}
use Rattle.cron.specs.Words.{is_within}
use Rattle.cron_callers.proofs.units.greatest_month.Given as goal

abbrev pub invariant-loop-month : goal.invariant-loop-month
invariant-loop-month l = record {
  taken : l.yielded ++ l.month-iterator ≡ filter (is_within (Included l.first) (Included l.last)) l.schedule.sets.months;
  greatest : l.greatest ≡ reduce max l.yielded;
}
