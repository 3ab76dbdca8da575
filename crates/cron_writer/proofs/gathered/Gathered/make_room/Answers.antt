use Rattle.cron_writer.proofs.Gathering.{sent_all}
use Rattle.cron_writer.proofs.gathered.Gathered.make_room.Goals as goal

pub returns-then-not-has_room-clause-gathered : goal.returns-then-not-has_room-clause-gathered
returns-then-not-has_room-clause-gathered g c =
    λ origin text gathered. sent_all origin _ _ _ text c.send.ensures.empty (c.send.ensures.sent origin text gathered)
