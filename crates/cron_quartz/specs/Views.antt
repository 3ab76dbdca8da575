-- What contracts see of the values of the code.
use Rattle.cron_units.specs.Steps.{Progression}
use Rattle.cron_quartz.specs.Fields.{unit_of}
use Rattle.cron_quartz.specs.Refusals as refusals
use Rattle.cron_quartz.specs.Refusals.{missing, no_number, long_number, outside, outside_step, ignored, named_step, mixed, backward, no_form, refused, no_field, eighth_field, no_days, both_days}
use Rattle.cron_quartz.specs.Items as items
use Rattle.cron_quartz.specs.Items.{all, one, range}
use Rattle.cron_quartz.specs.declared.faults.Reason.{Reason}
use Rattle.cron_quartz.specs.declared.faults.Reason.TheVariants.{Missing, NoNumber, LongNumber, Outside, OutsideStep, Ignored, NamedStep, Mixed, Backward, NoForm}
use Rattle.cron_quartz.specs.declared.faults.Fault.{Fault}
use Rattle.cron_quartz.specs.declared.faults.Fault.TheVariants.{Refused, NoField, EighthField, NoDays, BothDays}
use Rattle.cron_quartz.specs.declared.numbers.End.{End}
use Rattle.cron_quartz.specs.declared.items.Base.{Base}
use Rattle.cron_quartz.specs.declared.items.Base.TheVariants.{All, One, Range}
use Rattle.cron_quartz.specs.declared.items.Item.{Item}

abbrev pub reason_view : Reason → refusals.Reason
reason_view Missing = missing
reason_view (NoNumber text) = no_number text.now
reason_view LongNumber = long_number
reason_view (Outside n low high) = outside n low high
reason_view (OutsideStep n high) = outside_step n high
reason_view (Ignored text) = ignored text.now
reason_view NamedStep = named_step
reason_view Mixed = mixed
reason_view Backward = backward
reason_view NoForm = no_form

abbrev pub fault_view : Fault → refusals.Fault
fault_view (Refused x) = refused (unit_of x.field) x.item.now (reason_view x.reason)
fault_view (NoField field) = no_field (unit_of field)
fault_view (EighthField word) = eighth_field word.now
fault_view NoDays = no_days
fault_view BothDays = both_days

abbrev pub end_view : End → items.End
end_view e = record { number = e.number; named = e.named }

abbrev pub base_view : Base → items.Base
base_view All = all
base_view (One a) = one (end_view a)
base_view (Range a b) = range (end_view a) (end_view b)

abbrev pub item_view : Item → Progression
item_view i = record { first = i.first; last = i.last; every = i.every }
