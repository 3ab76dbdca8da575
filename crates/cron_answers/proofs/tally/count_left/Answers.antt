use Rattle.std.proofs.Common.{ap, map, rules}
use Rattle.cron_answers.proofs.TallyLemmas.{all_counted, counted_on, none_so_far}
use Rattle.cron_answers.proofs.tally.count_left.Goals as goal

pub fires-init : goal.fires-init
fires-init g c = none_so_far _

pub fires-preserved : goal.fires-preserved
fires-preserved g c =
    counted_on _ _ _ _ _ _ _ _ (search (rules, c.second-second.ensures.value)) (ap (map g.F.Told.second) c.in-Some.ensures) c.with_fire-tally.ensures c.fires.invariant

pub returns : goal.returns
returns g c = all_counted _ _ _ _ (ap (map g.F.Told.second) c.in_default.ensures.0) c.fires.invariant
