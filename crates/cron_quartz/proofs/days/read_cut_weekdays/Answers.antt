use Rattle.std.proofs.Common.{◌∙◌, sym, ap}
use Rattle.std.specs.Prelude.{Ok, Err}
use Rattle.cron_quartz.specs.FormViews.{days_view}
use Rattle.cron_quartz.specs.Views.{reason_view}
use Rattle.cron_quartz.proofs.FormLemmas.{cut_form}
use Rattle.cron_quartz.proofs.days.read_cut_weekdays.Goals as goal

pub returns-in-Ok-clause-days : goal.returns-in-Ok-clause-days
returns-in-Ok-clause-days c =
    let cut = rw c.in-Some.is at c.cut_at.ensures.pieces in
    cut_form c.args.word.now c.cut_at.result.0.now c.in-Some.rest.now (Ok (days_view c.in-Ok.days)) cut c.in-Ok.ensures.days

pub returns-in-Err-clause-days : goal.returns-in-Err-clause-days
returns-in-Err-clause-days c =
    let cut = rw c.in-Some.is at c.cut_at.ensures.pieces in
    cut_form c.args.word.now c.cut_at.result.0.now c.in-Some.rest.now (Err (reason_view c.in-Err.reason)) cut c.in-Err.ensures.days
    ∙ ap Err (sym c.refused.ensures)
