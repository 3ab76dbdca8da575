use Rattle.cron_tab_lines.specs.Views.{line_view, refusal_view}
use Rattle.cron_c.proofs.LineLemmas.{line_says, refusal_says}
use Rattle.cron_c.proofs.line_call.parse.Goals as goal

pub returns-in-Ok : goal.returns-in-Ok
returns-in-Ok c =
    line_says c.args.kind c.args.line.now (line_view c.in-Ok.read) c.args.schedules.now c.write_line.new.schedules c.write_line.new.count c.args.message.now
    c.write_line.result c.in-Ok.ensures c.write_line.ensures

pub returns : goal.returns
returns c =
    refusal_says c.args.kind c.args.line.now (refusal_view c.in-Err.refusal) c.args.schedules.now c.args.message.now c.refuse.new.message
    c.refuse.new.message_length c.refuse.result c.in-Err.ensures c.refuse.ensures
