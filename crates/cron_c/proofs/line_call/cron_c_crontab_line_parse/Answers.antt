use Rattle.std.proofs.Common.{subst}
use Rattle.cron_tab_lines.specs.declared.kinds.Crontab.{Crontab}
use Rattle.cron_c.specs.CrontabLines.{ParsesLine}
use Rattle.cron_c.proofs.line_call.cron_c_crontab_line_parse.Goals as goal

pub returns : goal.returns
returns c =
    let says = subst (λ (kind : Crontab). ParsesLine kind c.args.line.now c.args.schedules.now c.parse.new.schedules c.parse.new.count c.args.message.now
    c.parse.new.message c.parse.new.message_length c.parse.result) c.kind_of-kind.ensures c.parse.ensures in
    (c.parse.result, says, c.code.ensures)
