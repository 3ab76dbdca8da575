use Rattle.std.proofs.Common.{rules, tests, ◌≡◌, sym, ◌∙◌}
use Rattle.std.specs.List.{position}
use Rattle.std.proofs.lemmas.Iterator.{YieldsList-from_slice}
use Rattle.std.proofs.lemmas.Iterator.Search.{position_from_yields_List}
use Rattle.std.proofs.lemmas.Option.{none-some}
use Rattle.cron_tab_running.proofs.NoteTexts.{cut, ends, is_feed}
use Rattle.cron_tab_running.proofs.noted.cut_instant.Goals as goal
use Rattle.cron_tab_running.proofs.noted.cut_instant.Goals.{After-position}

found : (c : After-position) → c.position.result ≡ position is_feed c.args.bytes.now
found c = position_from_yields_List is_feed _ _ _ c.position.ensures.ran (YieldsList-from_slice c.args.bytes.now cc) (λ x b q k. search (rules, tests))

pub returns-in_err-end : goal.returns-in_err-end
returns-in_err-end c = λ s rest h is.
    absurd (none-some _ (sym c.in_err-end.was ∙ found (goal.at.returns-in_err-end c).After-position ∙ ends c.args.bytes.now rest s h is))

pub returns-in_err-instant_of : goal.returns-in_err-instant_of
returns-in_err-instant_of c = λ s rest h is.
    absurd (c.in_err-instant_of.ensures s h (cut c.args.bytes.now rest s c.in_ok-end.end h is (sym (found (goal.at.returns-in_err-instant_of c).After-position) ∙ c.in_ok-end.was)).0)

pub returns : goal.returns
returns c = λ s rest h is.
    let parts = cut c.args.bytes.now rest s c.in_ok-end.end h is (sym (found (goal.at.returns c).After-position) ∙ c.in_ok-end.was) in
    (c.in_ok-instant_of.ensures s h parts.0, parts.1)
