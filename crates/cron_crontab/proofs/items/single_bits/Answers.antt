use Rattle.cron_crontab.proofs.ItemLemmas.{one_number}
use Rattle.cron_crontab.proofs.items.single_bits.Goals as goal

pub returns : goal.returns
returns c = (one_number c.args.field c.args.text.now c.in_ok-number.number c.numbers_of.result c.in_ok-number.ensures c.numbers_of.ensures.bits, c.numbers_of.ensures.fit)
