use Rattle.std.proofs.Common.{◌∙◌, rules, FitsSigned, w32, to_z-of_z}
use Rattle.jiff.specs.Words.{plain_zone}
use Rattle.cron_instants.proofs.OffsetRangeLemmas.{offset_range_utc, offset_range_fixed, offset_range_rule}
use Rattle.cron_instants.proofs.offset_range.offset_range_of.Goals as goal

pub returns-in-UTC : goal.returns-in-UTC
returns-in-UTC c =
    let one = c.at_one_offset.ensures in
    offset_range_utc c.to_plain.result (plain_zone c.args.zone.now) c.at_one_offset.result c.to_plain.ensures c.in-UTC.is one.edge one.least one.greatest

pub returns-in-Fixed : goal.returns-in-Fixed
returns-in-Fixed c =
    let one = c.at_one_offset-in-Fixed.ensures in
    let fits : FitsSigned w32 c.in-Fixed.offset.seconds = search rules in
    offset_range_fixed c.to_plain.result (plain_zone c.args.zone.now) c.at_one_offset-in-Fixed.result c.in-Fixed.offset c.to_plain.ensures c.in-Fixed.is one.edge
    (one.least ∙ to_z-of_z fits) (one.greatest ∙ to_z-of_z fits)

pub returns-in-Posix : goal.returns-in-Posix
returns-in-Posix c =
    offset_range_rule c.to_plain.result (plain_zone c.args.zone.now) c.in-Posix.rule c.offsets_with.result c.to_plain.ensures c.in-Posix.is
    c.offsets_with.ensures.edge c.offsets_with.ensures.rule
