use Rattle.std.proofs.Common.{ap, sym, ◌∙◌}
use Rattle.jiff_core.specs.declared.civil.datetime.DateTime.{DateTime}
use Rattle.cron_time.specs.Matches.{matches}
use Rattle.cron_time.proofs.Walks.ResumeLemmas.{no_items, all_items}
use Rattle.cron_time.proofs.walk.resume.items_at.Goals as goal

pub returns-then-not-includes : goal.returns-then-not-includes
returns-then-not-includes c =
    let shown = ap (λ (d : DateTime). matches c.args.fields.now d) c.civil_of.ensures in
    no_items _ _ _ (sym shown ∙ (sym c.includes.ensures ∙ c.if-not-includes.true))

pub returns : goal.returns
returns c =
    let shown = ap (λ (d : DateTime). matches c.args.fields.now d) c.civil_of.ensures in
    c.readings_within.ensures.readings ∙ all_items _ _ _ (sym shown ∙ (sym c.includes.ensures ∙ c.if-not-includes.false))
