use Rattle.std.proofs.Common.{refl}
use Rattle.cron_text.proofs.PlainItems.{star_stepped}
use Rattle.cron_text.proofs.plain.star_at.Goals as goal

pub returns : goal.returns
returns c = λ u.
    let here = c.if-not-stands.ensures refl in
    star_stepped u c.args.text.now c.args.at c.in_ok-step.step c.in_ok-step.end here.0 here.1 c.in_ok-step.ensures
