use Rattle.std.proofs.Common.{refl}
use Rattle.cron_writer.proofs.Gathering.{kept_on}
use Rattle.cron_writer.proofs.gathered.Gathered.push_short.Goals as goal

pub returns-clause-gathered : goal.returns-clause-gathered
returns-clause-gathered g c =
    λ origin before gathered. kept_on origin _ _ _ _ _ before _ refl c.push_front.ensures (c.make_room.ensures.gathered origin before gathered)
