use Rattle.std.proofs.Common.{rules, arith, rules, FitsSigned, w64, to_z-of_z}
use Rattle.cron_instants.proofs.StretchLemmas.{none_entered, found_here}
use Rattle.cron_instants.proofs.nearest.item_at.Goals as goal

pub returns-in_default : goal.returns-in_default
returns-in_default g c =
    let fits : FitsSigned w64 c.entry.result = search rules in
    none_entered c.args.way (g.S.CivilSeconds.has c.args.set.now) c.args.mark.instant c.args.mark.second c.args.stretch.now.first c.args.stretch.now.end c.args.offset
    (rw (to_z-of_z fits, c.entry.ensures) at c.in_default.ensures)

pub returns : goal.returns
returns g c =
    let fits : FitsSigned w64 c.entry.result = search rules in
    let fits-from : FitsSigned w64 c.in-Some.from = search rules in
    let near = rw (to_z-of_z fits-from) at c.in-Some-nearest.ensures.nearest in
    let start = rw (to_z-of_z fits, c.entry.ensures) at c.in-Some.ensures in
    rw c.moment_numbered.ensures (found_here c.args.way (g.S.CivilSeconds.has c.args.set.now) c.args.mark.instant c.args.mark.second c.args.stretch.now.first
    c.args.stretch.now.end c.args.offset
    c.in-Some.from start c.in-Some-nearest.second near (omega arith) (omega arith))
