use Rattle.std.proofs.Common.{◌∙◌, ap, rules}
use Rattle.cron_writer.specs.Watching.{has_failed, writer_of}
use Rattle.cron_writer.proofs.Gathering.{rest_sent}
use Rattle.cron_writer.proofs.gathered.Gathered.send.Goals as goal

pub returns-clause-sent : goal.returns-clause-sent
returns-clause-sent g c =
    λ origin text gathered.
    rest_sent origin _ _ _ _ _ _ text c.as_slice.ensures gathered
    (λ off. (ap (λ w. g.W.Write.contents (writer_of w)) (c.send.ensures.untouched off), ap has_failed (c.send.ensures.untouched off) ∙ off))
    (c.send.ensures.sent origin)

pub returns-clause-empty : goal.returns-clause-empty
returns-clause-empty c = search rules

pub returns-clause-untouched : goal.returns-clause-untouched
returns-clause-untouched c = search rules
