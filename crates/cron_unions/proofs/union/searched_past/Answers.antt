use Rattle.std.proofs.Common.{ℕ, pos, ◌+ℤ◌, subst}
use Rattle.cron_units.specs.Nearest.{IsNearest}
use Rattle.cron_units.specs.declared.way.Way.TheVariants.{Ahead}
use Rattle.cron_unions.specs.Inner.Merges.{schedules_of}
use Rattle.cron_unions.specs.Nearest.{is_match_any}
use Rattle.cron_unions.proofs.HeadLemmas.{nearest-kept}
use Rattle.cron_unions.proofs.union.searched_past.Goals as goal

pub returns-clause-nearest : goal.returns-clause-nearest
returns-clause-nearest c =
    let kept = schedules_of c.from-merge.result in
    nearest-kept c.args.schedules.now kept (pos c.args.second +ℤ pos 1) c.pass-next.result c.from-merge.ensures.union
    (subst (λ (n : ℕ). IsNearest Ahead (is_match_any kept) (pos n +ℤ pos 1) c.pass-next.result) c.from-merge.ensures.same.here c.pass-next.ensures.nearest)
