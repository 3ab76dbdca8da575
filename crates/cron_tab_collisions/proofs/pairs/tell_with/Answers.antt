use Rattle.std.proofs.Common.{map, refl}
use Rattle.cron_tab_fires.specs.Entries.{view}
use Rattle.cron_tab_collisions.specs.Collisions.{TellsWith}
use Rattle.cron_tab_collisions.proofs.TellLemmas.{first_ascends, left_ascend, left_from, none_left, told_all, told_with}
use Rattle.cron_tab_collisions.proofs.pairs.tell_with.Goals as goal

pub tell_pair-requires-clause-second : goal.tell_pair-requires-clause-second
tell_pair-requires-clause-second c =
    let others = c.args.others.now in
    let place = c.loop-other.other-index in
    (first_ascends _ _ (view c.other-item.result) (left_from others place c.other-item.result c.loop-other-test.true c.other-item.is)
    (left_ascend place others c.requires.others)).0

pub loop-other-preserved : goal.loop-other-preserved
loop-other-preserved c =
    told_with c.args.form c.args.length (view c.args.first.now) (view c.other-item.result) (map view c.args.others.now) _ _ _ _ _ c.loop-other.invariant
    (left_from c.args.others.now c.loop-other.other-index c.other-item.result c.loop-other-test.true c.other-item.is) c.in_ok-tell_pair.ensures

pub returns : goal.returns
returns c =
    told_all (TellsWith c.args.form c.args.length (view c.args.first.now)) (map view c.args.others.now) _ _ _ c.loop-other.invariant
    (none_left c.args.others.now c.loop-other.other-index c.loop-other-test.false) refl
