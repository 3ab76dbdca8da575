use Rattle.cron_quartz.specs.Views.{end_view}
use Rattle.cron_quartz.proofs.FormLemmas.{second_place}
use Rattle.cron_quartz.proofs.days.read_nth.Goals as goal

pub returns-in-Some-clause-days : goal.returns-in-Some-clause-days
returns-in-Some-clause-days c =
    let cut = rw c.in-Some.is at c.cut_at.ensures.pieces in
    second_place c.args.day.now c.args.rest.now c.cut_at.result.0.now c.in-Some.field-0.now (end_view c.in_ok-weekday.weekday) c.in_ok-number.number cut
    c.in_ok-weekday.ensures.end c.in_ok-number.ensures.number
