-- Why a schedule of a CronJob is refused, and with which message.
use Rattle.std.specs.Prelude.{ℕ, List, ◌==◌, ◌++◌, codes, if◌then◌else◌}
use Rattle.std.specs.Fmt.{decimal}
use Rattle.cron_crontab.specs.Fields as crontab
use Rattle.cron_crontab.specs.Fields.{title, least}
use Rattle.cron_crontab.specs.Refusals.{no_number_text}
use Rattle.cron_crontab.specs.declared.field.Field.{Field}
use Rattle.cron_crontab.specs.declared.field.Field.TheVariants.{DayOfWeek}

-- the greatest number of a field; Sunday is 0 alone
abbrev pub greatest : Field → ℕ
greatest DayOfWeek = 6
greatest f = crontab.greatest f

-- why an item is refused
pub data Reason : Type 0 where
  missing : Reason
  no_number : List ℕ → Reason
  too_large : List ℕ → Reason
  negative : List ℕ → Reason
  outside : ℕ → Reason
  backward : ℕ → ℕ → Reason
  second_dash : Reason
  second_step : Reason
  zero_step : Reason

-- Why a text is refused. An item of a field is refused, a field is missing, or a word follows the
-- fifth. Or the text begins with a zone, or with `@` and is no descriptor, or with `@every` and no
-- duration follows.
pub data Fault : Type 0 where
  refused : Field → List ℕ → Reason → Fault
  no_field : Field → Fault
  sixth_field : List ℕ → Fault
  zone : List ℕ → Fault
  no_descriptor : List ℕ → Fault
  no_duration : List ℕ → Fault

-- what a message about a number that is none of the field adds
abbrev pub sunday : Field → ℕ → List ℕ
sunday DayOfWeek n = if n == 7 then codes ", and Sunday is 0" else codes ""
sunday _ n = codes ""

abbrev pub reason_text : Field → Reason → List ℕ
reason_text f missing = codes "a number is missing"
reason_text f (no_number text) = codes "'" ++ (text ++ no_number_text f)
reason_text f (too_large text) = codes "'" ++ (text ++ codes "' is too large a number")
reason_text f (negative text) = codes "'" ++ (text ++ codes "' is less than 0")
reason_text f (outside n) = decimal n ++ (codes " is not one of " ++ (decimal (least f) ++ (codes " to " ++ (decimal (greatest f) ++ sunday f n))))
reason_text f (backward n m) = codes "the range from " ++ (decimal n ++ (codes " to " ++ (decimal m ++ codes " is the wrong way round")))
reason_text f second_dash = codes "a range has two numbers"
reason_text f second_step = codes "an item has one step"
reason_text f zero_step = codes "a step is 1 at least"

abbrev pub fault_text : Fault → List ℕ
fault_text (refused f item reason) = title f ++ (codes ": '" ++ (item ++ (codes "': " ++ reason_text f reason)))
fault_text (no_field f) = title f ++ codes ": a schedule has five fields, and this one is missing"
fault_text (sixth_field word) = codes "'" ++ (word ++ codes "' is a sixth field: a schedule has five, none of seconds and none of years")
fault_text (zone word) = codes "'" ++ (word ++ codes "': the zone of a CronJob stands at its key timeZone, and not in the schedule")
fault_text (no_descriptor text) =
    codes "'" ++ (text ++ codes "' is none of @yearly, @annually, @monthly, @weekly, @daily, @midnight, @hourly and @every with a duration")
fault_text (no_duration text) = codes "'" ++ (text ++ codes "' is no duration such as 90m or 1h30m")
