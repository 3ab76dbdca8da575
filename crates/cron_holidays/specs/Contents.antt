-- Lines of iCalendar files, unfolded.
use Rattle.std.specs.Prelude.{Bool, List, [], ◌∷◌, ◌++◌, drop, if◌then◌else◌}
use Rattle.cron_tab_lines.specs.Bytes.{first, is_blank}
use Rattle.cron_holidays.specs.Lines.{Line}

-- the line continues the one before: it begins with a space or a tab
abbrev pub continues : Line → Bool
continues line = is_blank (first line.text)

-- a line with one that continues it, whose first byte is dropped
abbrev pub joined : Line → Line → Line
joined line next = record { number = line.number; text = line.text ++ drop 1 next.text }

-- a line, and those after it, unfolded
abbrev pub unfolded_from : Line → List Line → List Line
unfolded_from line [] = line ∷ []
unfolded_from line (next ∷ more) = if continues next then unfolded_from (joined line next) more else line ∷ unfolded_from next more

-- Lines, unfolded: each that continues the one before is a part of it. The number is that of the
-- first part.
abbrev pub unfolded : List Line → List Line
unfolded [] = []
unfolded (line ∷ lines) = unfolded_from line lines
