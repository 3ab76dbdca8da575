use Rattle.cron_comparing.proofs.DifferenceLemmas.{first_of_either}
use Rattle.cron_comparing.proofs.difference.first_difference.Goals as goal

pub returns : goal.returns
returns c =
    first_of_either c.args.union.now c.args.other.now c.first_alone.result c.first_alone-2.result _ c.earlier.ensures c.first_alone.ensures
    c.first_alone-2.ensures
