-- the ended ranges were pushed, and one is open
use Rattle.std.proofs.Common.{◌∷◌}
use Rattle.std.specs.String.{string_bytes}
use Rattle.cron_oncalendar.proofs.RangeLemmas.{AreOpen}
use Rattle.cron_oncalendar.proofs.components.push_ranges.Given as goal

abbrev pub invariant-loop-ordinal : goal.invariant-loop-ordinal
invariant-loop-ordinal l =
    AreOpen l.spelling (string_bytes l.initial.text) (string_bytes l.text) l.first l.last (l.start ∷ l.initial.ordinal-iterator) l.ordinal-iterator
