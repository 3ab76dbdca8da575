use Rattle.std.proofs.Common.{◌∙◌}
use Rattle.cron_unions.proofs.ApartLemmas.{own_or}
use Rattle.cron_unions.proofs.CoverLemmas.{match_in}
use Rattle.cron_unions.proofs.apart.own_part.Goals as goal

pub returns-then-covers : goal.returns-then-covers
returns-then-covers c = λ dt. own_or _ _ _ _ (c.outside.ensures.matches dt)
    (λ both. match_in c.args.other.now c.inside.result (c.covers.ensures c.if-covers.true) dt (c.inside.ensures.matches dt ∙ both))
