use Rattle.std.proofs.Common.{◌+◌, pos, sym, subst}
use Rattle.jiff.specs.Words.{plain_zone}
use Rattle.cron_units.specs.declared.way.Way.TheVariants.{Ahead}
use Rattle.cron_units.specs.Nearest.{IsNearest}
use Rattle.cron_moments.specs.Civil.{seconds_in_range}
use Rattle.cron_time.specs.Seconds.{is_match}
use Rattle.cron_counting.proofs.WalkLemmas.{next-part, part-room, parts-more}
use Rattle.cron_counting.proofs.walk.count_parts.Goals as goal

pub count_part-count-requires-clause-end : goal.count_part-count-requires-clause-end
count_part-count-requires-clause-end g c =
    part-room c.args.size c.loop-part.part (c.args.first + c.args.parts) seconds_in_range c.loop-part-test.true c.requires.range

pub loop-part-preserved : goal.loop-part-preserved
loop-part-preserved g c = (
  parts-more (g.S.CivilSeconds.has c.args.set.now) (plain_zone c.args.zone.now) c.args.size c.args.first c.loop-part.part _ _ _
      c.loop-part.auto.part c.loop-part.invariant.0 c.count_part-count.ensures.value c.in_ok-push.ensures.items,
  c.count_part-count.ensures.known,
  subst (λ n. IsNearest Ahead (is_match (g.S.CivilSeconds.has c.args.set.now)) (pos n) c.count_part-count.new.next)
      (sym (next-part c.args.size c.loop-part.part)) c.count_part-count.ensures.next,
)
