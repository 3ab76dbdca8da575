use Rattle.std.proofs.Common.{rules, subst}
use Rattle.cron_units.specs.Nearest.{IsNearest}
use Rattle.cron_time.specs.Seconds.{Seconds, is_match}
use Rattle.cron_unions.specs.Unions.{any_of}
use Rattle.cron_plans.proofs.rest.RestCivilSeconds.nearest.Goals as goal

pub returns-in-Some-clause-nearest : goal.returns-in-Some-clause-nearest
returns-in-Some-clause-nearest c =
    let near : IsNearest c.args.way (is_match (any_of c.in-Some.parts)) c.args.from c.nearest.result = search (rules, c.nearest.ensures.nearest) in
    subst (λ (set : Seconds). IsNearest c.args.way (is_match set) c.args.from c.nearest.result) (c.args.self.now.same c.in-Some.parts c.in-Some.is) near
