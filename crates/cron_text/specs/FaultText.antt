-- The message of a `Fault` of the code.
use Rattle.std.specs.Prelude.{ℕ, List}
use Rattle.cron_units.specs.Refusals.{message}
use Rattle.cron_units.specs.Tables.{definition_view}
use Rattle.cron_units.specs.Views.{refusal_view}
use Rattle.cron_text.specs.Fault.{syntax_text}
use Rattle.cron_text.specs.declared.faults.Fault.{Fault}
use Rattle.cron_text.specs.declared.faults.Fault.TheVariants.{Syntax, Refused}

abbrev pub fault_text : Fault → List ℕ
fault_text Syntax = syntax_text
fault_text (Refused x) = message (definition_view x.definition) (refusal_view x.refusal)
