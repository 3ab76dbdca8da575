use Rattle.std.proofs.Common.{◌∙◌}
use Rattle.cron_quartz.proofs.FormLemmas.{days_from}
use Rattle.cron_quartz.proofs.forms.from_to.Goals as goal

pub returns : goal.returns
returns c =
    let members = rw c.empty-days.ensures.members at c.insert_range.ensures.members in
    days_from c.insert_range.new.self c.args.first c.args.last c.clipped.result c.clipped.ensures.same members (c.insert_range.ensures.mark ∙ c.empty-days.ensures.mark)
