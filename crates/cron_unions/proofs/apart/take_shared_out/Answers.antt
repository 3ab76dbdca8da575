use Rattle.cron_unions.proofs.ApartLemmas.{parts_same}
use Rattle.cron_unions.proofs.apart.take_shared_out.Goals as goal

pub returns : goal.returns
returns c = parts_same c.args.one.now c.args.other.now _ _ c.own_part-own.ensures c.own_part.ensures
