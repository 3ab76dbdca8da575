use Rattle.cron_days.proofs.both.BothDays.row_of.Goals as goal

pub returns : goal.returns
returns g c =
    c.shared.ensures c.args.day (g.D.Days.allows c.args.self.now.one) (g.E.Days.allows c.args.self.now.other) c.row_of.ensures c.row_of-2.ensures
