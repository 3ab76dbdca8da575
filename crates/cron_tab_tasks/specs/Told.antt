-- The messages about lines that are refused.
use Rattle.std.specs.Prelude.{◌++◌, ℕ, Bool, true, false, List, [], ◌∷◌, Result, Ok, Err, codes}
use Rattle.std.specs.Fmt.{decimal}
use Rattle.cron_tab_lines.specs.Files.{FileLine}
use Rattle.cron_tab_lines.specs.Lines.{Meaning}
use Rattle.cron_tab_lines.specs.Refusals.{Refusal, refusal_text}
use Rattle.cron_tab_lines.specs.Zones.{names_no_zone, no_zone_text}
use Rattle.cron_tab_lines.specs.declared.zones.NamedZone.{NamedZone}

-- a message as a line: `NAME:NUMBER: ` and the text
abbrev pub told_as : List ℕ → ℕ → List ℕ → List ℕ
told_as name number text = name ++ (codes ":" ++ (decimal number ++ (codes ": " ++ (text ++ 10 ∷ []))))

-- the message about a line that is refused, or, if `lost` is true, that sets `CRON_TZ` to no zone
abbrev pub told_by : List ℕ → ℕ → Bool → Result Meaning Refusal → List ℕ
told_by name number lost (Err refusal) = told_as name number (refusal_text refusal)
told_by name number true (Ok meaning) = told_as name number no_zone_text
told_by name number false (Ok meaning) = []

abbrev pub told_line : List ℕ → List NamedZone → FileLine → List ℕ
told_line name names line = told_by name line.number (names_no_zone names line.outcome) line.outcome

-- the messages about the lines of a file
abbrev pub told_lines : List ℕ → List NamedZone → List FileLine → List ℕ
told_lines name names [] = []
told_lines name names (line ∷ lines) = told_line name names line ++ told_lines name names lines
