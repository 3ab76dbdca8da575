use Rattle.std.proofs.Common.{inr, map, subst, sym}
use Rattle.jiff.specs.Words.{plain_zone}
use Rattle.cron_tab_running.specs.Looks.{AreFound}
use Rattle.cron_tab_running.proofs.looks.run_found.Goals as goal

pub returns : goal.returns
returns g c =
    inr (
      c.as_slice.result.now,
      map plain_zone c.as_slice-2.result.now,
      c.as_slice-3.result.now,
      subst (λ files. AreFound c.args.tabs.now files) (sym c.as_slice-3.ensures.value) c.in-Ok-Ok-Ok.ensures'',
      c.run_zoned.ensures,
    )
