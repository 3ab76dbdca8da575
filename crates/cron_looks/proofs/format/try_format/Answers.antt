use Rattle.cron_looks.proofs.FormatLemmas.{tried_err, tried_ok}
use Rattle.cron_looks.proofs.format.try_format.Goals as goal

pub returns-clause-ok : goal.returns-clause-ok
returns-clause-ok c = tried_ok _ c.epoch.result (λ v. v.items) c.formatted.result c.epoch.ensures c.formatted.ensures.ok

pub returns-clause-err : goal.returns-clause-err
returns-clause-err c = tried_err _ c.epoch.result c.formatted.result c.epoch.ensures c.formatted.ensures.err
