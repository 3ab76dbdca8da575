use Rattle.std.proofs.Common.{rules, FitsSigned, w64, to_z-of_z, ◌∙◌}
use Rattle.cron_dues.proofs.WayLemmas.{fire_is}
use Rattle.cron_dues.proofs.way_to.fire_in.Goals as goal

pub returns : goal.returns
returns g c =
    let fits-from : FitsSigned w64 c.args.span.now.from = search rules in
    let fits : FitsSigned w64 c.shown.result = search rules in
    let most = rw (to_z-of_z fits, c.shown.ensures.value, to_z-of_z fits-from) at c.seconds_past-past.ensures.most in
    let either = rw (to_z-of_z fits, c.shown.ensures.value, to_z-of_z fits-from) at c.seconds_past-past.ensures.either in
    c.due_fire.ensures
    ∙ fire_is (g.C.Clock.offsets c.args._clock.now) c.args.second c.seconds_past-past.result c.args.span.now.from c.args.span.now.steady c.requires.ahead c.requires.shown most either
