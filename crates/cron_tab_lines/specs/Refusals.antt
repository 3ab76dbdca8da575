-- Why a line is refused, and with which message.
use Rattle.std.specs.Prelude.{ℕ, List, codes}
use Rattle.cron_crontab.specs.Refusals as crontab
use Rattle.cron_crontab.specs.Refusals.{fault_text}

pub data Refusal : Type 0 where
  nul : Refusal
  byte_order_mark : Refusal
  second_line : Refusal
  lone_return : Refusal
  no_value : Refusal
  open_quote : Refusal
  behind_quote : Refusal
  strange_byte : Refusal
  expression : crontab.Fault → Refusal
  sixth_field : Refusal
  no_user : Refusal
  no_command : Refusal

abbrev pub refusal_text : Refusal → List ℕ
refusal_text nul = codes "the line has a NUL"
refusal_text byte_order_mark = codes "a byte order mark stands at the front of the file"
refusal_text second_line = codes "a line feed stands within the line: each line is read by itself"
refusal_text lone_return = codes "the line is a carriage return alone"
refusal_text no_value = codes "no value stands behind the =; an empty one is written \"\""
refusal_text open_quote = codes "the quotation mark in front of the value is not closed"
refusal_text behind_quote = codes "something stands behind the closing quotation mark"
refusal_text strange_byte = codes "the fields have a byte that is no printable ASCII"
refusal_text (expression fault) = fault_text fault
refusal_text sixth_field = codes "a * stands behind the fields: an expression has five, none of seconds and none of years"
refusal_text no_user = codes "no user stands behind the fields"
refusal_text no_command = codes "no command stands behind the fields"
