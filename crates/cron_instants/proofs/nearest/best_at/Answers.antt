use Rattle.std.proofs.Common.{◌≡◌, Bool, true, IsTrue, rules}
use Rattle.cron_instants.specs.Beyond.{IsMatchAt}
use Rattle.cron_instants.proofs.BestLemmas.{best_found, best_kept}
use Rattle.cron_instants.proofs.nearest.best_at.Goals as goal

is_true : (b : Bool) → b ≡ true → IsTrue b
is_true b h = search rules

pub returns-then-is_too_late : goal.returns-then-is_too_late
returns-then-is_too_late g c =
    best_kept c.args.way
    (IsMatchAt c.args.way (g.S.CivilSeconds.has c.args.set.now) c.args.mark.instant c.args.mark.second c.args.stretch.now.first c.args.stretch.now.end c.args.offset)
    c.args.best.now
    (λ r m. c.is_too_late.ensures (is_true c.is_too_late.result c.if-is_too_late.true) r m.from m.to m.at)

pub returns : goal.returns
returns g c =
    rw c.nearer.ensures (best_found c.args.way
    (IsMatchAt c.args.way (g.S.CivilSeconds.has c.args.set.now) c.args.mark.instant c.args.mark.second c.args.stretch.now.first c.args.stretch.now.end c.args.offset)
    c.args.best.now c.item_at.result c.item_at.ensures)
