use Rattle.std.proofs.Common.{◌≡◌, ◌∙◌, pos, arith}
use Rattle.jiff_core.specs.Date.{epoch_day}
use Rattle.jiff_core.proofs.SignedLemmas.{signed_arith}
use Rattle.cron_moments.proofs.CivilLemmas.{is_date_numbered}
use Rattle.cron_holidays.proofs.dates.date_at.Goals as goal

pub returns : goal.returns
returns c =
    let day : epoch_day c.from_days_since_min.result ≡ pos c.args.day = omega (arith, signed_arith) in
    c.from_plain.ensures ∙ is_date_numbered c.from_days_since_min.result c.args.day (omega arith) day
