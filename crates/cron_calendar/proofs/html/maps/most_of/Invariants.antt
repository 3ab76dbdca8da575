use Rattle.std.proofs.Common.{◌≡◌, take}
use Rattle.cron_calendar.specs.Shapes.{most_of}
use Rattle.cron_calendar.proofs.html.maps.most_of.Given as goal

abbrev pub invariant-loop-count : goal.invariant-loop-count
invariant-loop-count l = l.most ≡ most_of (take l.count-index l.counts)
