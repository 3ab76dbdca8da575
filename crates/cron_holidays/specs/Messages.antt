-- The messages about files that aren't files of holidays.
use Rattle.std.specs.Prelude.{ℕ, List, ◌++◌, codes}
use Rattle.std.specs.Fmt.{decimal}
use Rattle.cron_holidays.specs.declared.fault.Reason.{Reason}
use Rattle.cron_holidays.specs.declared.fault.Reason.TheVariants.{NoDate, OutOfRange, HasTime, Twice, NotAfterStart, HasDuration, Repeats, NoStart, OutsideCalendar, OtherEnd, NotClosed}
use Rattle.cron_holidays.specs.declared.fault.HolidayFault.{HolidayFault}
use Rattle.cron_holidays.specs.declared.fault.HolidayFault.TheVariants.{Refused as OfLine, OutOfMemory}

abbrev pub reason_text : Reason → List ℕ
reason_text NoDate = codes "it is not a date"
reason_text OutOfRange = codes "the date is not from 1970-01-01 to 2100-12-31"
reason_text HasTime = codes "the event is not of whole days"
reason_text Twice = codes "the event has this property already"
reason_text NotAfterStart = codes "the event does not end after its start"
reason_text HasDuration = codes "durations are not read: DTEND says when an event ends"
reason_text Repeats = codes "rules of repetition are not read"
reason_text NoStart = codes "the event has no DTSTART"
reason_text OutsideCalendar = codes "only a calendar can begin here"
reason_text OtherEnd = codes "it ends another component than the open one"
reason_text NotClosed = codes "the component is not ended"

abbrev pub fault_text : HolidayFault → List ℕ
fault_text (OfLine refused) = codes "line " ++ (decimal refused.line ++ (codes ": " ++ reason_text refused.reason))
fault_text OutOfMemory = codes "out of memory"
