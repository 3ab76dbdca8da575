-- What is told of a text that is no expression.
use Rattle.std.specs.Prelude.{ℕ, List}
use Rattle.cron_crontab.specs.Refusals as tabs
use Rattle.cron_crontab.specs.Views.{fault_view}
use Rattle.cron_quartz.specs.Refusals as quartz
use Rattle.cron_quartz.specs.Views.{fault_view as quartz_fault}
use Rattle.cron_text.specs.FaultText.{fault_text}
use Rattle.cron_answers.specs.declared.refusal.Refusal.{Refusal}
use Rattle.cron_answers.specs.declared.refusal.Refusal.TheVariants.{Crontab, Own, Quartz}

abbrev pub refusal_text : Refusal → List ℕ
refusal_text (Crontab fault) = tabs.fault_text (fault_view fault)
refusal_text (Own fault) = fault_text fault
refusal_text (Quartz fault) = quartz.fault_text (quartz_fault fault)
