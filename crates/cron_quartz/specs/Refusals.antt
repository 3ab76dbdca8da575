-- Why an expression of Quartz is refused, and with which message.
use Rattle.std.specs.Prelude.{ℕ, List, ◌++◌, codes}
use Rattle.std.specs.Fmt.{decimal}
use Rattle.cron_units.specs.Units.{TimeUnit}

-- why an item of a field is refused
pub data Reason : Type 0 where
  missing : Reason
  no_number : List ℕ → Reason
  long_number : Reason
  outside : ℕ → ℕ → ℕ → Reason
  outside_step : ℕ → ℕ → Reason
  ignored : List ℕ → Reason
  named_step : Reason
  mixed : Reason
  backward : Reason
  no_form : Reason

-- Why a text is refused: an item of a field, a field that is missing, a word after the seventh
-- field, or fields of days of which none or both are `?`. Each field is named by its unit.
pub data Fault : Type 0 where
  refused : TimeUnit → List ℕ → Reason → Fault
  no_field : TimeUnit → Fault
  eighth_field : List ℕ → Fault
  no_days : Fault
  both_days : Fault

abbrev pub reason_text : Reason → List ℕ
reason_text missing = codes "a number is missing"
reason_text (no_number text) = codes "'" ++ (text ++ codes "' is no number and no name of three letters")
reason_text long_number = codes "a number has nine digits at most"
reason_text (outside n low high) = decimal n ++ (codes " is not one of " ++ (decimal low ++ (codes " to " ++ decimal high)))
reason_text (outside_step n high) = codes "the step " ++ (decimal n ++ (codes " is not one of 1 to " ++ decimal high))
reason_text (ignored text) = codes "Quartz ignores what follows the " ++ text
reason_text named_step = codes "Quartz ignores a step behind a name"
reason_text mixed = codes "a range is of two numbers or of two names"
reason_text backward = codes "years are in ascending order"
reason_text no_form = codes "it is none of L, L-3, LW and L-3W"

abbrev pub fault_text : Fault → List ℕ
fault_text (refused u item reason) = u.title ++ (codes ": '" ++ (item ++ (codes "': " ++ reason_text reason)))
fault_text (no_field u) = u.title ++ codes ": an expression has six fields or seven, and this one is missing"
fault_text (eighth_field word) = codes "'" ++ (word ++ codes "' is an eighth field: an expression has seven at most")
fault_text no_days = codes "both kinds of day are '?', and one of them must not be"
fault_text both_days = codes "one of the two kinds of day must be '?'"
