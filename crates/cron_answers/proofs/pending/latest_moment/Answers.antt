use Rattle.std.proofs.Common.{◌≡◌, true, false, sym}
use Rattle.cron_units.specs.declared.way.Way.TheVariants.{Back}
use Rattle.cron_instants.specs.Order.{is_earlier}
use Rattle.cron_instants.proofs.OrderLemmas.{nearer-through}
use Rattle.cron_answers.proofs.pending.latest_moment.Goals as goal

-- none is later than the last, which isn't later than the noted one
pub returns-else-is_earlier : goal.returns-else-is_earlier
returns-else-is_earlier c = λ r is.
    let no_later : is_earlier c.in_ok-last.last r ≡ false = c.in_ok-last.ensures.1 r (is.0, is.2) in
    let not_past : is_earlier c.args.noted.now c.in_ok-last.last ≡ false = sym c.if-is_earlier.ensures in
    let not : is_earlier c.args.noted.now r ≡ false = nearer-through Back r c.in_ok-last.last c.args.noted.now no_later not_past in
    let is_past : is_earlier c.args.noted.now r ≡ true = is.1 in absurd (cc)
