use Rattle.std.proofs.Common.{List, ℕ, subst}
use Rattle.cron_units.specs.Sets.{Sets}
use Rattle.cron_quartz.specs.Quartz.{Means, Refuses}
use Rattle.cron_quartz.specs.Refusals.{fault_text}
use Rattle.cron_quartz.specs.Views.{fault_view}
use Rattle.cron_c.specs.Crontabs.{WritesSchedules}
use Rattle.cron_c.proofs.ReadingLemmas.{fault_says, written_says}
use Rattle.cron_c.proofs.quartz_call.parse.Goals as goal

pub returns-in-Ok-read : goal.returns-in-Ok-read
returns-in-Ok-read c =
    let meaning = c.in-Ok-read.meaning in
    let old = c.args.schedules.now in
    let new = c.write_schedules.new.schedules in
    let count = c.write_schedules.new.count in
    let status = c.write_schedules.result in
    let means = subst (λ (t : List ℕ). Means t meaning) c.in-Ok.ensures.cases.0 c.in-Ok-read.ensures in
    let written = subst (λ (ss : List Sets). WritesSchedules ss old new count status) c.as_slice.ensures.list c.write_schedules.ensures in
    written_says Means (λ (ss : List Sets). ss) Refuses fault_text c.args.text.now meaning old new count c.args.message.now status
    c.in-Ok.ensures.cases.1 means written

pub returns : goal.returns
returns c =
    let fault = fault_view c.in-Err.fault in
    let refuses = subst (λ (t : List ℕ). Refuses t fault) c.in-Ok.ensures.cases.0 c.in-Err.ensures in
    fault_says Means (λ (ss : List Sets). ss) Refuses fault_text c.args.text.now fault c.args.schedules.now c.args.message.now c.refuse.new.message
    c.refuse.new.message_length c.refuse.result c.in-Ok.ensures.cases.1 refuses c.refuse.ensures
