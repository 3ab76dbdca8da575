use Rattle.std.proofs.Common.{◌≡◌, ◌+◌, ◌+ℤ◌, pos, of_z, to_z, w64, sym, ap, ◌∙◌, length, arith}
use Rattle.jiff.specs.Words.{plain_zone}
use Rattle.jiff_core.proofs.SignedLemmas.{signed_casts}
use Rattle.cron_counting.proofs.WalkLemmas.{walk-end, walk-few, walk-more, walk-start}
use Rattle.cron_counting.proofs.walk.count_part.Goals as goal

pub seconds-init : goal.seconds-init
seconds-init g c = (
  walk-start (g.S.CivilSeconds.has c.args.set.now) (plain_zone c.args.zone.now) c.args.first (c.args.first + c.args.size) c.args.next.now (omega arith) c.requires.next,
  c.requires.known,
)

pub overflow_add-count : goal.overflow_add-count
overflow_add-count g c =
    let few = walk-few (g.S.CivilSeconds.has c.args.set.now) (plain_zone c.args.zone.now) c.args.first (c.args.first + c.args.size) c.seconds.count c.seconds.next
    c.requires.end c.seconds.invariant.0 in
    omega (arith, few, c.requires.size, c.readings_of-count.ensures.few)

pub seconds-preserved : goal.seconds-preserved
seconds-preserved g c =
    let (is, less) = c.in-Some.ensures in
    let n = c.in-Some.second in
    let from : to_z w64 (of_z w64 (to_z w64 (of_z w64 c.from.result) +ℤ pos 1)) ≡ pos (c.in-Some.second + 1) =
    omega (arith, signed_casts, c.from.ensures, less, c.requires.end) in (
      walk-more (g.S.CivilSeconds.has c.args.set.now) (plain_zone c.args.zone.now) c.args.first (c.args.first + c.args.size) n c.seconds.count
          c.readings_of-count.result c.seconds.next c.nearest.result c.requires.end is less
          (c.readings_of-count.ensures.value n ∙ sym (ap length (c.move_to.ensures.known n c.move_to.ensures.low c.move_to.ensures.high)))
          (rw from at c.nearest.ensures.nearest) c.seconds.invariant.0,
      c.move_to.ensures.known,
    )

pub returns-clause-value : goal.returns-clause-value
returns-clause-value g c =
    walk-end (g.S.CivilSeconds.has c.args.set.now) (plain_zone c.args.zone.now) c.args.first (c.args.first + c.args.size) c.seconds.count c.seconds.next
    c.requires.end c.in_default.ensures c.seconds.invariant.0
