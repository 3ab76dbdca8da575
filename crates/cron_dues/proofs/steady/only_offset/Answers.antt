use Rattle.jiff.specs.Words.{plain_zone}
use Rattle.cron_dues.proofs.ZoneLemmas.{fixed_kept, utc_kept}
use Rattle.cron_dues.proofs.steady.only_offset.Goals as goal

pub returns-in-UTC : goal.returns-in-UTC
returns-in-UTC c = utc_kept (plain_zone c.args.zone.now) (rw c.to_plain.ensures at c.in-UTC.is)

pub returns-in-Fixed : goal.returns-in-Fixed
returns-in-Fixed c = rw c.from_plain.ensures (fixed_kept (plain_zone c.args.zone.now) c.in-Fixed.offset (rw c.to_plain.ensures at c.in-Fixed.is))
