use Rattle.std.proofs.Common.{List, ℕ, subst}
use Rattle.cron_crontab.specs.Crontab.{Means, Refuses}
use Rattle.cron_crontab.specs.Views.{expression_view, fault_view}
use Rattle.cron_crontab.specs.Refusals.{fault_text}
use Rattle.cron_c.specs.Crontabs.{schedules_meant}
use Rattle.cron_c.proofs.ReadingLemmas.{fault_says, written_says}
use Rattle.cron_c.proofs.crontab_call.parse.Goals as goal

pub returns-in-Ok-read : goal.returns-in-Ok-read
returns-in-Ok-read c =
    let meaning = expression_view c.in-Ok-read.meaning in
    let means = subst (λ (t : List ℕ). Means t meaning) c.in-Ok.ensures.cases.0 c.in-Ok-read.ensures in
    written_says Means schedules_meant Refuses fault_text c.args.text.now meaning c.args.schedules.now c.write_meaning.new.schedules c.write_meaning.new.count c.args.message.now
    c.write_meaning.result c.in-Ok.ensures.cases.1 means c.write_meaning.ensures

pub returns : goal.returns
returns c =
    let fault = fault_view c.in-Err.fault in
    let refuses = subst (λ (t : List ℕ). Refuses t fault) c.in-Ok.ensures.cases.0 c.in-Err.ensures in
    fault_says Means schedules_meant Refuses fault_text c.args.text.now fault c.args.schedules.now c.args.message.now c.refuse.new.message
    c.refuse.new.message_length c.refuse.result c.in-Ok.ensures.cases.1 refuses c.refuse.ensures
