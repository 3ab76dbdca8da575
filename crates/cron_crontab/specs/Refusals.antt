-- Why an expression is refused, and with which message.
use Rattle.std.specs.Prelude.{ℕ, List, ◌++◌, codes}
use Rattle.std.specs.Fmt.{decimal}
use Rattle.cron_crontab.specs.Fields.{title, least, greatest}
use Rattle.cron_crontab.specs.declared.field.Field.{Field}
use Rattle.cron_crontab.specs.declared.field.Field.TheVariants.{Month, DayOfWeek}

-- why an item is refused
pub data Reason : Type 0 where
  missing : Reason
  no_number : List ℕ → Reason
  long_number : Reason
  outside : ℕ → Reason
  ignored : List ℕ → Reason
  lone_step : Reason
  no_step : List ℕ → Reason
  zero_step : Reason

-- Why a text is refused. An item of a field is refused, or a field is missing. A word follows the
-- fifth field, a nickname or a line break. Or a word that begins with `@` is no nickname, or is one
-- in capital letters.
pub data Fault : Type 0 where
  refused : Field → List ℕ → Reason → Fault
  no_field : Field → Fault
  sixth_field : List ℕ → Fault
  no_nickname : List ℕ → Fault
  capital_nickname : List ℕ → Fault
  behind_nickname : List ℕ → Fault
  second_line : List ℕ → Fault

-- the end of the message about a text that is no number, after the text itself
abbrev pub no_number_text : Field → List ℕ
no_number_text Month = codes "' is no number and no name of a month in three letters"
no_number_text DayOfWeek = codes "' is no number and no name of a day in three letters"
no_number_text _ = codes "' is no number"

abbrev pub reason_text : Field → Reason → List ℕ
reason_text f missing = codes "a number is missing"
reason_text f (no_number text) = codes "'" ++ (text ++ no_number_text f)
reason_text f long_number = codes "a number has nine digits at most"
reason_text f (outside n) = decimal n ++ (codes " is not one of " ++ (decimal (least f) ++ (codes " to " ++ decimal (greatest f))))
reason_text f (ignored text) = codes "cron ignores what follows the " ++ text
reason_text f lone_step = codes "a step stands only behind a star or a range"
reason_text f (no_step text) = codes "the step '" ++ (text ++ codes "' is no number")
reason_text f zero_step = codes "a step is 1 at least"

abbrev pub fault_text : Fault → List ℕ
fault_text (refused f item reason) = title f ++ (codes ": '" ++ (item ++ (codes "': " ++ reason_text f reason)))
fault_text (no_field f) = title f ++ codes ": an expression has five fields, and this one is missing"
fault_text (sixth_field word) = codes "'" ++ (word ++ codes "' is a sixth field: an expression has five, none of seconds and none of years")
fault_text (no_nickname word) = codes "'" ++ (word ++ codes "' is no nickname")
fault_text (capital_nickname word) = codes "'" ++ (word ++ codes "': nicknames are written in small letters")
fault_text (behind_nickname word) = codes "'" ++ (word ++ codes "' stands behind a nickname")
fault_text (second_line word) = codes "'" ++ (word ++ codes "' stands behind a line break: an expression is one line")
