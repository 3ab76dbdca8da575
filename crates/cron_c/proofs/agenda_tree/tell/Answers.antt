use Rattle.std.proofs.Common.{ap, set, ◌∙◌}
use Rattle.std.proofs.lemmas.List.{map-set}
use Rattle.std.proofs.Math.Seq.{map-set_same}
use Rattle.std.specs.Prelude.{map}
use Rattle.cron_c.specs.Agendas.{bare, soonest}
use Rattle.cron_c.proofs.agenda_tree.tell.Goals as goal

pub returns-clause-same : goal.returns-clause-same
returns-clause-same c = map-set_same bare c.args.entries.now c.args.at c.telling-entry.result _ c.telling-entry.ensures.same

pub returns-clause-keys : goal.returns-clause-keys
returns-clause-keys c =
    map-set soonest c.args.entries.now c.args.at c.telling-entry.result
    ∙ ap (set (map soonest c.args.entries.now) c.args.at) c.telling-entry.ensures.key
