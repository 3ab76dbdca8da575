use Rattle.std.proofs.Common.{ℕ, pos, ◌+ℤ◌, subst}
use Rattle.cron_units.specs.Nearest.{IsNearest}
use Rattle.cron_units.specs.declared.way.Way.TheVariants.{Ahead}
use Rattle.cron_unions.specs.Inner.Merges.{schedules_of}
use Rattle.cron_unions.specs.Nearest.{is_match_any}
use Rattle.cron_unions.proofs.HeadLemmas.{nearest-kept}
use Rattle.cron_unions.proofs.union.next_past.Goals as goal

pub returns-then-merge-second-clause-nearest : goal.returns-then-merge-second-clause-nearest
returns-then-merge-second-clause-nearest c =
    let kept = schedules_of c.in-Some.merge in
    let known = rw c.in-Some.is at c.requires.knows.merge in
    nearest-kept c.args.schedules.now kept (pos c.args.second +ℤ pos 1) c.pass.result known.same
    (subst (λ (n : ℕ). IsNearest Ahead (is_match_any kept) (pos n +ℤ pos 1) c.pass.result) c.if-merge-second.true c.pass.ensures.nearest)
