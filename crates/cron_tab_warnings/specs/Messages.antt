-- The messages of warnings.
use Rattle.std.specs.Prelude.{ℕ, List, ◌++◌, codes}
use Rattle.cron_crontab.specs.Fields.{title}
use Rattle.cron_crontab.specs.declared.field.Field.{Field}
use Rattle.cron_crontab.specs.declared.field.Field.TheVariants.{Minute, Hour, DayOfMonth, Month, DayOfWeek}
use Rattle.cron_tab_warnings.specs.declared.files.LineWarning.{LineWarning}
use Rattle.cron_tab_warnings.specs.declared.files.LineWarning.TheVariants.{IgnoredZone, LongCommand, ReturnAtEnd, TwoBackslashes, DashInFront, PercentSign, ShortenedValue, LongSetting, ManyLines, NoLineFeed}
use Rattle.cron_tab_warnings.specs.declared.warnings.Warning.{Warning}
use Rattle.cron_tab_warnings.specs.declared.warnings.Warning.TheVariants.{NeverFires, Backward, StepPastEnd, UnevenStep, StarStep, LeftOutDays, EitherDays, EachMinute, SixFields, SevenFields}

-- when the numbers of a field begin anew
abbrev pub round_text : Field → List ℕ
round_text Minute = codes "each hour"
round_text Hour = codes "each day"
round_text DayOfMonth = codes "each month"
round_text Month = codes "each year"
round_text DayOfWeek = codes "each week"

abbrev pub warning_text : Warning → List ℕ
warning_text NeverFires = codes "it never fires"
warning_text (Backward f) = title f ++ codes ": a range that goes from a greater number to a lesser one has none"
warning_text (StepPastEnd f) = title f ++ codes ": a step past the end of its range leaves the first number alone"
warning_text (UnevenStep f) = title f ++ (codes ": the step doesn't divide the field, so it begins anew " ++ round_text f)
warning_text (StarStep f) = title f ++ codes ": it begins with a star, so both kinds of day must match"
warning_text LeftOutDays = codes "day of month: months that lack a day are passed over"
warning_text EitherDays = codes "day of month and day of week: a match of one suffices, so test one in the command if both must match"
warning_text EachMinute = codes "minute: a star is all 60 minutes of each hour that is named, where a number is one"
warning_text SixFields = codes "the command begins with a sixth field: an expression has five, none of seconds"
warning_text SevenFields = codes "the command begins with a sixth and a seventh field: an expression has five, none of seconds and none of years"

abbrev pub line_warning_text : LineWarning → List ℕ
line_warning_text IgnoredZone = codes "Debian's cron ignores CRON_TZ"
line_warning_text LongCommand = codes "Debian's cron refuses a command of 999 bytes or more"
line_warning_text ReturnAtEnd = codes "a carriage return stays at the end of the command or of its input"
line_warning_text TwoBackslashes = codes "of two backslashes in a command Debian's cron leaves one"
line_warning_text DashInFront = codes "cronie takes a - in front of a command as an option"
line_warning_text PercentSign = codes "an unescaped % ends the command, and the rest is its input: write \\% for a percent sign"
line_warning_text ShortenedValue = codes "Debian's cron takes white space or a second pair of quotation marks from the value"
line_warning_text LongSetting = codes "Debian's cron cuts a setting off after 998 bytes"
line_warning_text ManyLines = codes "Debian's cron refuses a file of more than 10000 lines"
line_warning_text NoLineFeed = codes "no line feed ends the last line: Debian's cron refuses the file, and cronie the line"
