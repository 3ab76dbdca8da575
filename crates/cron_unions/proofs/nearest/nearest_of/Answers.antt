use Rattle.std.proofs.Common.{rules, arith, FitsSigned, w64, to_z-of_z}
use Rattle.cron_unions.specs.Unions.{any_in}
use Rattle.cron_unions.proofs.NearestLemmas.{nearest-none, nearest-step, nearest-end, nearest-range}
use Rattle.cron_unions.proofs.nearest.nearest_of.Goals as goal

pub loop-set-init : goal.loop-set-init
loop-set-init g c =
    let fits : FitsSigned w64 c.args.from = search rules in
    rw (to_z-of_z fits) (nearest-none g.S.CivilSeconds.has c.args.way c.args.from)

pub loop-set-preserved : goal.loop-set-preserved
loop-set-preserved g c =
    let fits : FitsSigned w64 c.args.from = search rules in
    rw (to_z-of_z fits) (nearest-step g.S.CivilSeconds.has c.args.way c.args.from c.args.sets.now c.loop-set.set-index c.set-item.result
    c.loop-set.nearest c.nearest.result c.nearer_second-nearest.result c.loop-set-test.true c.set-item.is
    c.nearer_second-nearest.ensures (rw (to_z-of_z fits) at c.loop-set.invariant) (rw (to_z-of_z fits) at c.nearest.ensures.nearest))

pub returns-clause-nearest : goal.returns-clause-nearest
returns-clause-nearest g c =
    let fits : FitsSigned w64 c.args.from = search rules in
    nearest-end g.S.CivilSeconds.has c.args.way c.args.from c.args.sets.now c.loop-set.set-index c.loop-set.nearest (omega arith)
    (rw (to_z-of_z fits) at c.loop-set.invariant)

pub returns-clause-bound : goal.returns-clause-bound
returns-clause-bound g c =
    let fits : FitsSigned w64 c.args.from = search rules in
    nearest-range c.args.way c.args.from (any_in g.S.CivilSeconds.has c.args.sets.now) c.loop-set.nearest
    (nearest-end g.S.CivilSeconds.has c.args.way c.args.from c.args.sets.now c.loop-set.set-index c.loop-set.nearest (omega arith)
    (rw (to_z-of_z fits) at c.loop-set.invariant))
