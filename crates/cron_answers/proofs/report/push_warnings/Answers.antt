use Rattle.std.proofs.Common.{[], append-nil, inl, inr, refl, sym}
use Rattle.cron_crontab.specs.Views.{expression_view}
use Rattle.cron_words.proofs.ListLemmas.{if_ok}
use Rattle.cron_answers.proofs.report.push_warnings.Goals as goal

pub returns-in-Some : goal.returns-in-Some
returns-in-Some c =
    if_ok c.push_those_due.result _ _ (λ told. (told.0, told.1, inl (expression_view c.in-Some.tab, c.in-Some.ensures, told.2))) c.push_those_due.ensures

pub returns-in-None : goal.returns-in-None
returns-in-None c = ([], sym (append-nil _), inr (c.in-None.ensures, refl))
