use Rattle.std.proofs.Common.{sym, ◌∙◌}
use Rattle.cron_writer.proofs.Sending.{sent_off, sent_on}
use Rattle.cron_answers.proofs.explain.send_more.Goals as goal

pub returns-then-not-has_failed-clause-sent : goal.returns-then-not-has_failed-clause-sent
returns-then-not-has_failed-clause-sent g c =
    λ origin before s. sent_on origin _ _ _ before _ (s.whole (sym c.has_failed.ensures ∙ c.if-not-has_failed.true)) c.send_fires.ensures.rows

pub returns-else-not-has_failed-clause-sent : goal.returns-else-not-has_failed-clause-sent
returns-else-not-has_failed-clause-sent g c =
    λ origin before s. sent_off origin _ _ before _ (sym c.has_failed.ensures ∙ c.if-not-has_failed.false) s
