-- Why an answer about a file can't be given.
use Rattle.std.specs.Prelude.{◌≡◌, Result, Err}
use Rattle.cron_holidays.specs.declared.fault.Refused.{Refused}
use Rattle.cron_holidays.specs.declared.fault.HolidayFault.{HolidayFault}
use Rattle.cron_holidays.specs.declared.fault.HolidayFault.TheVariants.{Refused as OfLine, OutOfMemory}

-- the fault says which line is refused, and why, or that memory ran out
abbrev pub Refuses : {A : Type 0} → Result A Refused → HolidayFault → Type 0
Refuses answer (OfLine refused) = answer ≡ Err refused
Refuses answer OutOfMemory = Unit {0}
