use Rattle.std.proofs.Common.{sym, ◌∙◌, ap, ◌+◌}
use Rattle.cron_units.specs.Units.{FieldSet, contains, days_of_month}
use Rattle.cron_units.proofs.SetLemmas.{set_without}
use Rattle.cron_units.proofs.time_unit.layout.bits_of_days.Goals as goal

pub returns-clause-bits : goal.returns-clause-bits
returns-clause-bits c = λ k. c.bits.ensures.bits k ∙ ap (λ (s : FieldSet). contains s.ordinals (days_of_month.least + k)) c.days.view_is

pub returns-clause-set : goal.returns-clause-set
returns-clause-set c = sym (set_without days_of_month _) ∙ (c.bits.ensures.set ∙ ap (λ (s : FieldSet). s.ordinals) c.days.view_is)
