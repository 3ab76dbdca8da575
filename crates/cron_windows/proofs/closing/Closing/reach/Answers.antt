use Rattle.std.proofs.Common.{rules, FitsSigned, w64, to_z-of_z, arith}
use Rattle.std.proofs.lemmas.Int.{ints}
use Rattle.cron_windows.proofs.ClosingLemmas.{reach-after, reach-at}
use Rattle.cron_windows.proofs.closing.Closing.reach.Goals as goal

pub returns-in-After : goal.returns-in-After
returns-in-After g c = λ f le. reach-after g.R.Rule.at (λ set. g.R.Rule.fires (g.C.CivilSeconds.has set) c.args.clock.now) c.args.self.now c.in-After.length c.in-After.is c.args.second _ (omega (arith, ints, c.from.ensures)) f

pub returns-in-AtFires : goal.returns-in-AtFires
returns-in-AtFires g c =
    let fits : FitsSigned w64 c.args.second = search rules in
    reach-at g.R.Rule.at (λ set. g.R.Rule.fires (g.C.CivilSeconds.has set) c.args.clock.now) c.args.self.now c.in-AtFires.closes c.in-AtFires.is c.args.second c.last_fire.result (rw (to_z-of_z fits) at c.last_fire.ensures)
