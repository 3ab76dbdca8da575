use Rattle.std.proofs.Common.{sym, ◌∙◌}
use Rattle.std.proofs.lemmas.Result.{err_from_is_err_and}
use Rattle.cron_holidays.proofs.ListLemmas.{first-listed, first-refused, refuses-same}
use Rattle.cron_holidays.proofs.list.days_listed.Goals as goal

pub loop-line-preserved : goal.loop-line-preserved
loop-line-preserved c = sym (first-listed _ _ c.args.lines.now c.loop-line.line-index _ c.loop-line-test.true c.in_ok-push_listed.ensures) ∙ c.loop-line.invariant

pub returns-in_err-push_listed : goal.returns-in_err-push_listed
returns-in_err-push_listed c =
    let p = err_from_is_err_and c.from_residual.result c.from_residual.ensures.1 in
    rw (p.1, p.2) (refuses-same _ _ _ c.loop-line.invariant (first-refused _ c.args.lines.now c.loop-line.line-index _ _ c.loop-line-test.true c.in_err-push_listed.ensures))
