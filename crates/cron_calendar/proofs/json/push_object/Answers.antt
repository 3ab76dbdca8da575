use Rattle.std.proofs.Common.{ap, ◌∙◌}
use Rattle.jiff_core.specs.declared.civil.datetime.DateTime.{DateTime}
use Rattle.cron_calendar.specs.Html.{day_text}
use Rattle.cron_calendar.proofs.RowLemmas.{five_texts}
use Rattle.cron_calendar.proofs.json.push_object.Goals as goal

pub returns : goal.returns
returns c =
    five_texts _ _ _ _ _ _ _ _ _ _ _ _ c.in_ok-push_text.ensures c.in_ok-push_date.ensures
    (ap day_text (c.date.ensures ∙ ap (λ (d : DateTime). d.date) c.civil_of.ensures)) c.in_ok-push_text-2.ensures c.in_ok-push_number.ensures
    c.in_ok-push_text-3.ensures
