use Rattle.std.proofs.Common.{◌∙◌, ap}
use Rattle.cron_quartz.specs.Days.{schedules_of}
use Rattle.cron_quartz.specs.FormViews.{days_view}
use Rattle.cron_units.specs.Sets.{Sets}
use Rattle.cron_words.proofs.ShapeLemmas.{shape_by}
use Rattle.cron_words.proofs.shapes.have_shape.Goals as goal

pub returns : goal.returns
returns c =
    shape_by c.args.shape c.args.first.now c.args.schedules.now c.as_slice.result.now (days_view c.days.result) c.have_same_sets.result c.have_same_sets.ensures
    (c.as_slice.ensures.list ∙ (c.schedules_of-expression.ensures ∙ ap (λ (o : Sets). schedules_of (days_view c.days.result) o) c.base.ensures)) c.days.ensures.days
