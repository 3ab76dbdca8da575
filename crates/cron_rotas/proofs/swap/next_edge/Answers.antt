use Rattle.std.proofs.Common.{rules, ◌<◌, length, FitsSigned, w64, to_z, of_z, to_z-of_z, arith}
use Rattle.std.proofs.lemmas.Int.{ints}
use Rattle.std.proofs.lemmas.Option.{slice_get_within}
use Rattle.cron_rotas.proofs.SwapLemmas.{step-edge}
use Rattle.cron_rotas.proofs.swap.next_edge.Goals as goal

pub loop-swap-preserved : goal.loop-swap-preserved
loop-swap-preserved c =
    let fits : FitsSigned w64 c.edge_after-end.result = search rules in
    rw (to_z-of_z fits) (
      c.edge_after-end.ensures.later,
      omega (arith, ints, c.edge_after-end.ensures.within, c.loop-swap.invariant.1),
      λ k s below get. step-edge c.args.swaps.now c.loop-swap.swap-index k _ (to_z w64 (of_z w64 c.args.second)) (to_z w64 c.loop-swap.end-bits) c.edge_after-end.result
          below c.edge_after-end.ensures.within c.loop-swap.invariant.2 c.edge_after-end.ensures.none s get,
    )

pub returns : goal.returns
returns c =
    let fits-second : FitsSigned w64 c.args.second = search rules in
    let fits-to : FitsSigned w64 c.args.to = search rules in
    let inv = rw (to_z-of_z fits-second, to_z-of_z fits-to) at c.loop-swap.invariant in
    (inv.0, inv.1, λ k s get. let within = slice_get_within c.args.swaps.now k s get in inv.2 k s (omega (arith, within, c.loop-swap-test.false)) get)
