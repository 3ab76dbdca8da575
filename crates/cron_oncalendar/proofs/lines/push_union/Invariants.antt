use Rattle.std.proofs.Common.{sum_by, take}
use Rattle.std.specs.String.{string_bytes}
use Rattle.cron_unions.specs.Unions.{matches_any}
use Rattle.cron_oncalendar.specs.Unions.{line_count}
use Rattle.cron_oncalendar.specs.Inner.Pieces.{AreLines}
use Rattle.cron_oncalendar.specs.Inner.Written.{Pushes}
use Rattle.cron_oncalendar.proofs.lines.push_union.Given as goal

abbrev pub invariant-loop-fields : goal.invariant-loop-fields
invariant-loop-fields l =
    Pushes (AreLines l.after (sum_by line_count (take l.fields-index l.schedules)) (matches_any (take l.fields-index l.schedules))) (string_bytes l.initial.text) (string_bytes l.text)
