use Rattle.std.proofs.Common.{[], ◌∷◌, ◌++◌, map, subst, ap, ◌∙◌}
use Rattle.std.specs.Prelude.{Ok}
use Rattle.jiff.specs.Words.{plain_zone}
use Rattle.cron_tab_agenda.specs.Listing.{TakesTab}
use Rattle.cron_tab_agenda.proofs.listing.push_next.Goals as goal

pub returns-in-Ok-clause-pushed : goal.returns-in-Ok-clause-pushed
returns-in-Ok-clause-pushed c =
    let takes = subst (λ o. TakesTab (map plain_zone c.args.zones.now) c.args.until.nanosecond c.args.agenda.now (Ok o) c.next_fire.new.agenda)
    c.in-Ok-Some.field-0-is c.in-Ok-Some.ensures in
    (c.in-Ok-Some.fire, takes, c.in-Ok.ensures.items ∙ ap (λ l. l ++ c.in-Ok-Some.fire ∷ []) c.try_reserve.ensures.items)
