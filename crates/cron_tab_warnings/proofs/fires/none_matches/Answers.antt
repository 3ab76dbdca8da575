use Rattle.std.proofs.Common.{sym, ◌∙◌}
use Rattle.std.proofs.lemmas.Bool.{true≢false}
use Rattle.cron_tab_warnings.proofs.FireLemmas.{none-at}
use Rattle.cron_tab_warnings.proofs.fires.none_matches.Goals as goal

pub returns-then-not-never_matches : goal.returns-then-not-never_matches
returns-then-not-never_matches c = (
  λ yes. absurd (true≢false (sym yes)),
  λ none.
      let never = none-at c.args.schedules.now c.loop-fields.fields-index c.fields-item.result c.loop-fields-test.true c.fields-item.is c.loop-fields.invariant none in
      absurd (true≢false (sym (c.never_matches.ensures.1 never) ∙ c.if-not-never_matches.true)),
)
