use Rattle.std.proofs.Common.{rules, FitsSigned, w64, to_z-of_z, arith}
use Rattle.std.proofs.lemmas.Int.{ints}
use Rattle.cron_windows.proofs.ClosingLemmas.{end-after, end-at, end-none}
use Rattle.cron_windows.proofs.closing.Closing.end.Goals as goal

pub returns-in-After : goal.returns-in-After
returns-in-After g c =
    let fits : FitsSigned w64 c.earlier.result = search rules in
    let fits-to : FitsSigned w64 c.args.to = search rules in
    let fits-opened : FitsSigned w64 c.args.opened = search rules in
    let fits-passed : FitsSigned w64 c.passed.result = search rules in
    let passed = rw (to_z-of_z fits-opened) at c.passed.ensures in
    let which = rw (to_z-of_z fits-to, to_z-of_z fits-passed, passed) at c.earlier.ensures.is in
    rw (to_z-of_z fits)
    (end-after g.R.Rule.at (λ set. g.R.Rule.fires (g.C.CivilSeconds.has set) c.args.clock.now) c.args.self.now c.in-After.length c.in-After.is c.args.opened c.args.second c.args.to c.earlier.result c.requires.later c.requires.unclosed
    which (omega (arith, ints, c.earlier.ensures.first)) (omega (arith, ints, passed, c.earlier.ensures.second)))

pub returns-in-Some : goal.returns-in-Some
returns-in-Some g c =
    let fits : FitsSigned w64 c.earlier-in-Some.result = search rules in
    let fits-to : FitsSigned w64 c.args.to = search rules in
    let fits-close : FitsSigned w64 c.in-Some.close = search rules in
    let fits-second : FitsSigned w64 c.args.second = search rules in
    let which = rw (to_z-of_z fits-to, to_z-of_z fits-close) at c.earlier-in-Some.ensures.is in
    rw (to_z-of_z fits)
    (end-at g.R.Rule.at (λ set. g.R.Rule.fires (g.C.CivilSeconds.has set) c.args.clock.now) c.args.self.now c.in-AtFires.closes c.in-AtFires.is c.args.opened c.args.second c.args.to c.in-Some.close c.earlier-in-Some.result c.requires.later c.requires.opened
    c.requires.unclosed (rw (to_z-of_z fits-second) at c.in-Some.ensures) which (omega (arith, ints, c.earlier-in-Some.ensures.first)) (omega (arith, ints, c.earlier-in-Some.ensures.second)))

pub returns-in-None : goal.returns-in-None
returns-in-None g c =
    let fits : FitsSigned w64 c.args.to = search rules in
    let fits-second : FitsSigned w64 c.args.second = search rules in
    rw (to_z-of_z fits)
    (end-none g.R.Rule.at (λ set. g.R.Rule.fires (g.C.CivilSeconds.has set) c.args.clock.now) c.args.self.now c.in-AtFires.closes c.in-AtFires.is c.args.opened c.args.second c.args.to c.requires.later c.requires.unclosed
    (rw (to_z-of_z fits-second) at c.in-None.ensures))
