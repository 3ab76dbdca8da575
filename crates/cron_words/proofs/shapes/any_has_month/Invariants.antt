-- the schedules so far lack it
use Rattle.std.proofs.Common.{◌≡◌, drop}
use Rattle.std.specs.List.{list_any}
use Rattle.cron_units.specs.Units.{contains}
use Rattle.cron_words.proofs.shapes.any_has_month.Given as goal

abbrev pub invariant-loop-fields : goal.invariant-loop-fields
invariant-loop-fields l =
    list_any (λ s. contains s.months l.month) (drop l.fields-index l.schedules) ≡ list_any (λ s. contains s.months l.month) l.schedules
