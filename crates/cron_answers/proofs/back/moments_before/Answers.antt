use Rattle.std.proofs.Common.{◌∙◌}
use Rattle.jiff.specs.Words.{plain_zone}
use Rattle.cron_answers.proofs.BackLemmas.{moments-just_before}
use Rattle.cron_answers.proofs.back.moments_before.Goals as goal

pub returns : goal.returns
returns g c =
    c.by.ensures
    ∙ moments-just_before (g.S.CivilSeconds.has c.args.table) (plain_zone c.args.zone.now) c.args.end.nanosecond c.just_before.result.nanosecond c.just_before.ensures
