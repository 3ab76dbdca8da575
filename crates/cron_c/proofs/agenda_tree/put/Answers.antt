use Rattle.cron_c.proofs.AgendaLemmas.{put-but, put-same}
use Rattle.cron_c.proofs.agenda_tree.put.Goals as goal

pub returns-clause-same : goal.returns-clause-same
returns-clause-same c =
    put-same c.args.entries.now c.repair.new.entries c.args.at c.in_place_of-entry.result c.args.entry.now c.repair.ensures.same c.in_place_of-entry.ensures.same

pub returns-clause-tree : goal.returns-clause-tree
returns-clause-tree c = λ agenda.
    c.repair.ensures.tree (put-but c.args.entries.now c.args.at c.in_place_of-entry.result _ c.requires c.in_place_of-entry.ensures.key agenda)
