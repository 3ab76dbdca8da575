-- What contracts see of the values of the code.
use Rattle.std.specs.Prelude.{ℕ, List, map}
use Rattle.std.specs.Borrow.{Bor}
use Rattle.cron_units.specs.Steps.{Progression}
use Rattle.cron_crontab.specs.Refusals as refusals
use Rattle.cron_crontab.specs.Refusals.{missing, no_number, long_number, outside, ignored, lone_step, no_step, zero_step, refused, no_field, sixth_field, no_nickname, capital_nickname, behind_nickname, second_line}
use Rattle.cron_crontab.specs.Crontab as crontab
use Rattle.cron_crontab.specs.Crontab.{schedules, reboot}
use Rattle.cron_crontab.specs.declared.steps.Item.{Item}
use Rattle.cron_crontab.specs.declared.faults.Reason.{Reason}
use Rattle.cron_crontab.specs.declared.faults.Reason.TheVariants.{Missing, NoNumber, LongNumber, Outside, Ignored, LoneStep, NoStep, ZeroStep}
use Rattle.cron_crontab.specs.declared.faults.Fault.{Fault}
use Rattle.cron_crontab.specs.declared.faults.Fault.TheVariants.{Refused, NoField, SixthField, NoNickname, CapitalNickname, BehindNickname, SecondLine}
use Rattle.cron_crontab.specs.declared.texts.Expression.{Expression}
use Rattle.cron_crontab.specs.declared.texts.Expression.TheVariants.{Fires, Reboot}

abbrev pub reason_view : Reason → refusals.Reason
reason_view Missing = missing
reason_view (NoNumber text) = no_number text.now
reason_view LongNumber = long_number
reason_view (Outside n) = outside n
reason_view (Ignored text) = ignored text.now
reason_view LoneStep = lone_step
reason_view (NoStep text) = no_step text.now
reason_view ZeroStep = zero_step

abbrev pub fault_view : Fault → refusals.Fault
fault_view (Refused x) = refused x.field x.item.now (reason_view x.reason)
fault_view (NoField field) = no_field field
fault_view (SixthField word) = sixth_field word.now
fault_view (NoNickname word) = no_nickname word.now
fault_view (CapitalNickname word) = capital_nickname word.now
fault_view (BehindNickname word) = behind_nickname word.now
fault_view (SecondLine word) = second_line word.now

abbrev pub expression_view : Expression → crontab.Meaning
expression_view (Fires some) = schedules some
expression_view Reboot = reboot

abbrev pub table_view : List (Bor (List ℕ) × Bor (List ℕ)) → List (List ℕ × List ℕ)
table_view = map (λ e. (e.0.now, e.1.now))

-- an item by its numbers
abbrev pub item_view : Item → Progression
item_view i = record { first = i.first; last = i.last; every = i.every }
