use Rattle.std.proofs.Common.{sym, ◌∙◌}
use Rattle.std.proofs.lemmas.Option.{slice_get-get_or}
use Rattle.jiff.specs.Words.{plain_zone}
use Rattle.cron_c.proofs.Eras.{not_in_order, zone_told}
use Rattle.cron_c.proofs.era.zone_at.Goals as goal

pub returns-then-meets_next : goal.returns-then-meets_next
returns-then-meets_next c = λ history. not_in_order c.args.eras.now c.args.at (sym c.meets_next.ensures ∙ c.if-meets_next.true) history

pub returns : goal.returns
returns c = zone_told c.args.eras.now c.args.at _ plain_zone c.zone_in.result (slice_get-get_or c.args.eras.now c.args.at _ c.requires) c.zone_in.ensures
