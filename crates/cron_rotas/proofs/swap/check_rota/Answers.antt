use Rattle.std.proofs.Common.{◌<◌, sym, ap, ◌∙◌, arith}
use Rattle.std.specs.Prelude.{◌&&◌}
use Rattle.std.specs.List.{list_all}
use Rattle.std.proofs.lemmas.Bool.{lt-ltb}
use Rattle.cron_rotas.specs.Rotas.{is_swap_of}
use Rattle.cron_rotas.proofs.SwapLemmas.{none_fails}
use Rattle.cron_rotas.proofs.swap.check_rota.Goals as goal

pub returns-in-None : goal.returns-in-None
returns-in-None c =
    let some : 0 < c.args.people = omega arith in
    ap (λ b. b && list_all (is_swap_of c.args.people) c.args.swaps.now) (lt-ltb 0 c.args.people some)
    ∙ none_fails (is_swap_of c.args.people) c.args.swaps.now (sym c.in-None.ensures)
