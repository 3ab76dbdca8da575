use Rattle.std.proofs.Common.{rules}
use Rattle.jiff.specs.Words.{plain_zone, IsFixed}
use Rattle.cron_test_vectors.proofs.laws.at_one_offset.Goals as goal

pub first_instants-requires : goal.first_instants-requires
first_instants-requires c =
    let fixed : IsFixed (plain_zone c.args.zone.now) = search rules in
    c.one_offset.ensures.zones (plain_zone c.args.zone.now) fixed
