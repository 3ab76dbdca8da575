use Rattle.cron_c.specs.ZoneFiles.{AreErasIn}
use Rattle.cron_c.proofs.era_table.fill.Given as goal

-- so many eras are written
abbrev pub invariant-loop-at : goal.invariant-loop-at
invariant-loop-at l = AreErasIn l.table l.at l.initial.eras l.eras
