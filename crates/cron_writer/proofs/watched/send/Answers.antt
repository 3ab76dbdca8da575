use Rattle.std.proofs.lemmas.Grind.{common_steps}
use Rattle.std.proofs.Common.{sym, ◌∙◌, arith, rules}
use Rattle.cron_writer.proofs.Calling.{nothing_handed}
use Rattle.cron_writer.proofs.Sending.{sent_on}
use Rattle.cron_writer.proofs.watched.send.Goals as goal

pub returns-then-not-has_failed-clause-sent : goal.returns-then-not-has_failed-clause-sent
returns-then-not-has_failed-clause-sent g c =
    λ origin before s. sent_on origin _ _ _ before c.args.text.now (s.whole (sym c.has_failed.ensures ∙ c.if-not-has_failed.true)) c.send_whole.ensures.sent

pub returns-then-not-has_failed-clause-untouched : goal.returns-then-not-has_failed-clause-untouched
returns-then-not-has_failed-clause-untouched c = search rules

pub returns-else-not-has_failed-clause-sent : goal.returns-else-not-has_failed-clause-sent
returns-else-not-has_failed-clause-sent c = grind (arith, common_steps)

pub returns-else-not-has_failed-clause-untouched : goal.returns-else-not-has_failed-clause-untouched
returns-else-not-has_failed-clause-untouched c = search rules

pub returns-else-not-has_failed-clause-calls : goal.returns-else-not-has_failed-clause-calls
returns-else-not-has_failed-clause-calls g c = nothing_handed _ _ _ _ (search rules)
