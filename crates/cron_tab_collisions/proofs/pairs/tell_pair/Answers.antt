use Rattle.std.proofs.Common.{map, ap, ◌∙◌}
use Rattle.cron_agenda.specs.Fires.{instant}
use Rattle.cron_tab_fires.specs.Entries.{view}
use Rattle.cron_tab_collisions.proofs.TellLemmas.{pair_told}
use Rattle.cron_tab_collisions.proofs.pairs.tell_pair.Goals as goal

pub returns : goal.returns
returns c =
    pair_told c.args.form c.args.length (view c.args.first.now) (view c.args.second.now) c.as_slice-3.result.now c.as_slice-4.result.now c.in-Some.found c.index.result.now
    c.index-2.result.now c.later-fire.result c.args.report.now.items c.push_row.new.report.items c.in-Some.ensures
    (c.as_slice-3.ensures.value ∙ (c.in_ok-starts.ensures ∙ ap (map instant) c.as_slice.ensures.value))
    (c.as_slice-4.ensures.value ∙ (c.in_ok-others.ensures ∙ ap (map instant) c.as_slice-2.ensures.value)) c.index.ensures c.index-2.ensures c.later-fire.ensures
    c.in_ok-push_row.ensures
