use Rattle.std.proofs.Common.{rules, ℕ, Option, subst, sym, FitsSigned, w64, to_z-of_z}
use Rattle.cron_units.specs.Nearest.{IsNearest}
use Rattle.cron_units.specs.declared.way.Way.TheVariants.{Ahead}
use Rattle.cron_time.specs.Matches.{is_match}
use Rattle.cron_unions.proofs.heads.Head.of.Goals as goal

pub returns : goal.returns
returns c =
    let fits : FitsSigned w64 c.args.from = search rules in
    let near = rw (to_z-of_z fits) at c.nearest_match.ensures.nearest in
    record {
      nearest = subst (λ (o : Option ℕ). IsNearest Ahead (is_match c.args.fields.now) c.args.from o) (sym c.number_of.ensures) near;
      days = c.unknown.ensures c.args.fields.now;
    }
