use Rattle.std.proofs.Common.{◌∙◌, ◌<◌, FitsSigned, arith, rules, sym, to_z-of_z, w64}
use Rattle.cron_c.proofs.TableEras.{start_past_is}
use Rattle.cron_c.proofs.era_table.start_past.Goals as goal

pub returns-else-count-eq0 : goal.returns-else-count-eq0
returns-else-count-eq0 c =
    let some : 0 < c.args.count = omega (arith, c.if-count-eq0.false) in
    let fits : FitsSigned w64 c.second_of.result = search rules in
    to_z-of_z fits ∙ c.second_of.ensures ∙ sym (start_past_is c.args.table.now c.args.count some)
