-- Schedules as JSON values.
use Rattle.std.specs.Prelude.{◌≡◌, ℕ, List, codes}
use Rattle.cron_text.specs.Fault.{IsRefusal}
use Rattle.serde_json.specs.Data.{Data, string}

-- the message for a value that isn't read: the fault of a string's text, or that it is no string
abbrev pub IsValueRefusal : Data → List ℕ → Type 0
IsValueRefusal (string text) fault = IsRefusal text fault
IsValueRefusal _ fault = fault ≡ codes "invalid type, expected a valid cron expression"
