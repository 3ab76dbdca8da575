use Rattle.std.proofs.Common.{◌+◌, ap, length}
use Rattle.cron_c.specs.ZoneFiles.{HasDoubleTransition}
use Rattle.cron_c.proofs.EraFilling.{all_in}
use Rattle.cron_c.proofs.TableEras.{transitions_told}
use Rattle.cron_c.proofs.Eras.{clash}
use Rattle.cron_c.proofs.era_table.write_eras.Goals as goal

pub returns : goal.returns
returns c =
    let rows = transitions_told c.args.table.now c.transitions.result.now c.transitions.ensures in
    let apart : ¬ (HasDoubleTransition c.args.table.now) = λ double. clash c.has_double_transition.result (c.has_double_transition.ensures.1 double) c.if-has_double_transition.false in
    all_in c.args.table.now (length c.transitions.result.now + 1) c.args.eras.now c.fill.new.eras apart (ap (λ n. n + 1) rows)
    c.if-eras-needed.false c.fill.ensures
