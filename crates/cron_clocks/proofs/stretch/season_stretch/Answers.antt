use Rattle.std.proofs.Common.{ap}
use Rattle.jiff_tz.specs.Zone.{ambiguous_at}
use Rattle.cron_moments.specs.Readings.{readings, readings_by}
use Rattle.cron_clocks.proofs.stretch.season_stretch.Goals as goal

pub returns : goal.returns
unfolding readings ambiguous_at
returns c rule n season k low high = ap (readings_by k) (season.tells k low high).told
