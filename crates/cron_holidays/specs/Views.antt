-- What contracts see of the values of the code.
use Rattle.std.specs.Prelude.{map}
use Rattle.cron_holidays.specs.Calendars as calendars
use Rattle.cron_holidays.specs.Lines as lines
use Rattle.cron_holidays.specs.declared.calendar.Open.{Open}
use Rattle.cron_holidays.specs.declared.calendar.Reading.{Reading}
use Rattle.cron_holidays.specs.declared.lines.Line.{Line}

abbrev pub line_view : Line → lines.Line
line_view line = record { number = line.number; text = line.text.now }

abbrev pub open_view : Open → calendars.Open
open_view one = record { line = one.line; name = one.name.items }

abbrev pub reading_view : Reading → calendars.Reading
reading_view reading = record { open_ones = map open_view reading.open_ones.items; event = reading.event; days = reading.days.items }
