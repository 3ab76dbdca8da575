use Rattle.std.proofs.Common.{ap, refl}
use Rattle.std.specs.Prelude.{Ok}
use Rattle.cron_tab_running.proofs.run_clock.RunClockAlarmClock.now.Goals as goal

pub returns-in-Ok : goal.returns-in-Ok
returns-in-Ok g c =
    (Ok c.in-Ok.now, c.in-Ok.ensures, (refl, ap (λ u. record c.args.self.now.noted { until = u }) c.later-self.ensures), refl, refl, refl, refl)
