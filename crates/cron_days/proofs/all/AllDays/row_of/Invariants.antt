use Rattle.cron_days.specs.Days.{IsRow}
use Rattle.cron_days.proofs.RowLemmas.{first_rules}
use Rattle.cron_days.proofs.all.AllDays.row_of.Given as goal

abbrev pub invariant-loop-rule : goal.invariant-loop-rule
invariant-loop-rule g l = IsRow (first_rules g.D.Days.allows l.self.rules.now l.rule-index) l.day l.row
