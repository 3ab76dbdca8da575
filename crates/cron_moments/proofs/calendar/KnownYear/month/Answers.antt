use Rattle.cron_moments.proofs.MarchLemmas.{of_year}
use Rattle.cron_moments.proofs.calendar.KnownYear.month.Goals as goal

pub invariant_of-result : goal.invariant_of-result
invariant_of-result c =
    let year = c.self.invariant in
    let days = c.days_before.ensures in
    let made = of_year c.self.inside.year c.args.place c.days_before.result year.0 year.1 c.requires days.early (rw year.3 at days.late) in
    (made.0, made.1, rw year.2 made.2)
