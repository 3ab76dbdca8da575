use Rattle.std.proofs.Common.{rules, tests, ◌==◌, not, sym, ◌∙◌}
use Rattle.std.proofs.lemmas.Iterator.{YieldsList-from_slice}
use Rattle.std.proofs.lemmas.Iterator.Search.{any_from_yields_List}
use Rattle.cron_tab_missed.proofs.ReportLemmas.{any_viewed}
use Rattle.cron_tab_missed.proofs.report.has_missed.Goals as goal

pub returns : goal.returns
returns c =
    let found = any_from_yields_List (λ e. not (e.count == 0)) _ _ _ c.any.ensures.ran (YieldsList-from_slice c.args.entries.now cc) (λ x b q k. search (rules, tests)) in
    found ∙ sym (any_viewed c.args.entries.now)
