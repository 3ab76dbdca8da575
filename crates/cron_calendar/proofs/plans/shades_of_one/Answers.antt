use Rattle.std.proofs.Common.{◌∙◌}
use Rattle.cron_calendar.proofs.ShadeLemmas.{one_plan}
use Rattle.cron_calendar.proofs.plans.shades_of_one.Goals as goal

pub returns : goal.returns
returns c = λ days. c.in_ok-shades.ensures ∙ one_plan (λ counts. counts.items) c.args.each.now days c.requires
