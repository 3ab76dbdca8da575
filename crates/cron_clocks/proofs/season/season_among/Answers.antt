use Rattle.cron_clocks.proofs.SeasonLemmas.{early, between, late}
use Rattle.cron_clocks.proofs.season.season_among.Goals as goal
use Rattle.cron_clocks.proofs.season.season_among.Goals.{then-second-outer_end, else-second-outer_end+then-inner_first-second+then-second-inner_end, else-second-outer_end+else-inner_first-second+then-outer_first-second}

pub returns : goal.returns
returns c rule season_bounds =
    let order = c.args.season_bounds.order in
    let of = c.requires in
    elim c.if-second-outer_end.branch [
      | then-second-outer_end w ↦ rw (w.first-is, w.saturating_sub.ensures)
          (early rule _ _ _ _ _ _ season_bounds order c.args.year_start c.args.second of w.if-second-outer_end.true)
      | else-second-outer_end+then-inner_first-second+then-second-inner_end w ↦ rw w.first-is
          (between rule _ _ _ _ _ _ season_bounds order c.args.year_start c.args.second of w.if-inner_first-second.true w.if-second-inner_end.true)
      | else-second-outer_end+else-inner_first-second+then-outer_first-second w ↦ rw (w.first-is, w.min.ensures)
          (late rule _ _ _ _ _ _ season_bounds order c.args.year_start c.args.second of w.if-outer_first-second.true)
    ]
