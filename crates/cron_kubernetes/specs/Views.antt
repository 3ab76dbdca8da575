-- What contracts see of the values of the code.
use Rattle.std.specs.Prelude.{ℕ, List}
use Rattle.cron_kubernetes.specs.Refusals as refusals
use Rattle.cron_kubernetes.specs.Refusals.{missing, no_number, too_large, negative, outside, backward, second_dash, second_step, zero_step, refused, no_field, sixth_field, zone, no_descriptor, no_duration}
use Rattle.cron_kubernetes.specs.Kubernetes as kubernetes
use Rattle.cron_kubernetes.specs.Kubernetes.{schedules, every}
use Rattle.cron_kubernetes.specs.declared.faults.Reason.{Reason}
use Rattle.cron_kubernetes.specs.declared.faults.Reason.TheVariants.{Missing, NoNumber, TooLarge, Negative, Outside, Backward, SecondDash, SecondStep, ZeroStep}
use Rattle.cron_kubernetes.specs.declared.faults.Fault.{Fault}
use Rattle.cron_kubernetes.specs.declared.faults.Fault.TheVariants.{Refused, NoField, SixthField, Zone, NoDescriptor, NoDuration}
use Rattle.cron_kubernetes.specs.declared.texts.Expression.{Expression}
use Rattle.cron_kubernetes.specs.declared.texts.Expression.TheVariants.{Fires, Every}

abbrev pub reason_view : Reason → refusals.Reason
reason_view Missing = missing
reason_view (NoNumber text) = no_number text.now
reason_view (TooLarge text) = too_large text.now
reason_view (Negative text) = negative text.now
reason_view (Outside n) = outside n
reason_view (Backward n m) = backward n m
reason_view SecondDash = second_dash
reason_view SecondStep = second_step
reason_view ZeroStep = zero_step

abbrev pub fault_view : Fault → refusals.Fault
fault_view (Refused x) = refused x.field x.item.now (reason_view x.reason)
fault_view (NoField field) = no_field field
fault_view (SixthField word) = sixth_field word.now
fault_view (Zone word) = zone word.now
fault_view (NoDescriptor text) = no_descriptor text.now
fault_view (NoDuration text) = no_duration text.now

abbrev pub expression_view : Expression → kubernetes.Meaning
expression_view (Fires some) = schedules some
expression_view (Every text) = every text.now
