-- What the code tells of a field: words of the reader's inner functions, which no public contract cites.
use Rattle.std.specs.Prelude.{◌≡◌, List}
use Rattle.cron_units.specs.Items.{Item}
use Rattle.cron_units.specs.Refusals.{IsRefusedFor}
use Rattle.cron_units.specs.Tables.{definition_view}
use Rattle.cron_units.specs.Units.{TimeUnit}
use Rattle.cron_units.specs.Views.{refusal_view}
use Rattle.cron_text.specs.Fault.{NoField, RefusesField}
use Rattle.cron_text.specs.FaultText.{fault_text}
use Rattle.cron_text.specs.Tokens.{Token}
use Rattle.cron_text.specs.declared.faults.Fault.{Fault}
use Rattle.cron_text.specs.declared.faults.Fault.TheVariants.{Syntax, Refused}

-- an item is refused, and the fault tells why
abbrev pub TellsItem : TimeUnit → Item → Fault → Type 0
TellsItem u item Syntax = ⊥
TellsItem u item (Refused x) = (definition_view x.definition ≡ u) × IsRefusedFor u item (refusal_view x.refusal)

-- no field is read, and the fault tells why
abbrev pub IsUnread : TimeUnit → List Token → Fault → Type 0
IsUnread u ts Syntax = NoField u ts
IsUnread u ts (Refused x) = RefusesField u ts (fault_text (Refused x))
