use Rattle.std.proofs.Common.{rules, FitsSigned, w64, to_z-of_z}
use Rattle.cron_rotas.proofs.SwapLemmas.{edge-both}
use Rattle.cron_rotas.proofs.swap.Swap.edge_after.Goals as goal

pub returns-clause-none : goal.returns-clause-none
returns-clause-none c =
    let fits-from : FitsSigned w64 c.args.self.now.from = search rules in
    let fits-until : FitsSigned w64 c.args.self.now.until = search rules in
    let fits-second : FitsSigned w64 c.args.second = search rules in
    let fits-end : FitsSigned w64 c.earlier_edge-end.result = search rules in
    let fits : FitsSigned w64 c.earlier_edge.result = search rules in
    rw (to_z-of_z fits)
    (edge-both c.args.self.now.from c.args.self.now.until c.args.second c.earlier_edge-end.result c.earlier_edge.result
    (rw (to_z-of_z fits-from, to_z-of_z fits-second) at c.earlier_edge-end.ensures.none)
    (rw (to_z-of_z fits-end) at c.earlier_edge.ensures.within)
    (rw (to_z-of_z fits-until, to_z-of_z fits-second) at c.earlier_edge.ensures.none))
