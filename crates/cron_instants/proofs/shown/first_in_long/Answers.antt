use Rattle.std.proofs.Common.{Some, sym, ap, ◌∙◌}
use Rattle.jiff.specs.Words.{plain_zone}
use Rattle.cron_instants.proofs.ShownLemmas.{best_far}
use Rattle.cron_instants.proofs.PeriodLemmas.{best_in, period_kept}
use Rattle.cron_instants.proofs.shown.first_in_long.Goals as goal

pub returns-in-Some : goal.returns-in-Some
returns-in-Some c =
    λ s at agree keeps long nearest. best_in s (plain_zone c.args.zone.now) at c.args.kept.now
    (period_kept (plain_zone c.args.zone.now) at c.args.kept.now agree keeps) c.args.next nearest c.in-Some.item c.in-Some.ensures

pub returns : goal.returns
returns c =
    λ s at agree keeps long nearest.
    best_far s (plain_zone c.args.zone.now) agree at c.args.kept.now keeps c.args.next nearest long c.in_ok-item_at.field-0
    (c.in-Some-next.is ∙ ap Some (sym c.in_ok-item_at.ensures.0)) c.in_default.ensures c.in_ok-item_at.ensures.1
