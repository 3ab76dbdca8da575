use Rattle.std.proofs.Common.{subst, sym, ◌∙◌, arith}
use Rattle.jiff_core.proofs.SignedLemmas.{signed_arith}
use Rattle.cron_dues.specs.Clock.Due.{CanBeDue}
use Rattle.cron_dues.proofs.AheadLemmas.{due_can_be}
use Rattle.cron_dues.proofs.ahead.known_due.Goals as goal

pub due_fire-requires : goal.due_fire-requires
due_fire-requires g c =
    let here = c.requires.known c.args.second (omega (arith, signed_arith)) c.requires.own in
    rw c.saturating_sub.ensures (subst CanBeDue here (due_can_be (g.C.Clock.offsets c.args._clock.now) c.args.second c.requires.range))

pub returns : goal.returns
returns g c =
    let here = c.requires.known c.args.second (omega (arith, signed_arith)) c.requires.own in
    (rw c.saturating_sub.ensures at c.due_fire.ensures) ∙ sym here
