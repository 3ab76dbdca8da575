use Rattle.std.proofs.Common.{sym, ap, ◌∙◌}
use Rattle.cron_clocks.proofs.RuleSeasons.{shown_plain}
use Rattle.cron_clocks.proofs.clock.offset_by.Goals as goal

pub returns-in_default-clause-shown : goal.returns-in_default-clause-shown
returns-in_default-clause-shown c = λ t e. shown_plain c.args.rule t c.in_default.is ∙ sym (ap (λ o. o.seconds) c.from_plain.ensures)

pub returns-in-Some-season_at-clause-shown : goal.returns-in-Some-season_at-clause-shown
returns-in-Some-season_at-clause-shown c =
    let season = c.in-Some-season_at.ensures in
    (season.tells c.args.second season.low season.high).shown

pub returns-in-Some-season_at-clause-known : goal.returns-in-Some-season_at-clause-known
returns-in-Some-season_at-clause-known c = c.season_stretch.ensures c.args.rule c.args.second c.in-Some-season_at.ensures
