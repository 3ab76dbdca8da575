use Rattle.std.proofs.Common.{arith}
use Rattle.cron_days.proofs.RowLemmas.{first_rules, rows-end, rows-more}
use Rattle.cron_days.proofs.all.AllDays.row_of.Goals as goal

pub loop-rule-preserved : goal.loop-rule-preserved
loop-rule-preserved g c =
    let allows = g.D.Days.allows in
    let rules = c.args.self.now.rules.now in
    let rule = c.rule-item.result in
    rows-more allows rules c.loop-rule.rule-index rule c.args.day c.shared-row.result c.loop-rule-test.true c.rule-item.is
    (c.shared-row.ensures c.args.day (first_rules allows rules c.loop-rule.rule-index) (allows rule) c.loop-rule.invariant c.row_of.ensures)

pub returns : goal.returns
returns g c =
    rows-end g.D.Days.allows c.args.self.now.rules.now c.loop-rule.rule-index c.args.day c.loop-rule.row (omega arith) c.loop-rule.invariant
