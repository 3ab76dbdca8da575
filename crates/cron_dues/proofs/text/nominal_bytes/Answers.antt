use Rattle.std.proofs.Common.{◌∙◌, ap}
use Rattle.std.specs.Prelude.{slice_range}
use Rattle.cron_dues.proofs.TextLemmas.{nominal-at}
use Rattle.cron_dues.proofs.text.nominal_bytes.Goals as goal

pub returns-clause-value : goal.returns-clause-value
returns-clause-value c =
    ap (λ l. slice_range l c.nominal_start.result 19) (c.as_slice.ensures.value ∙ c.requires.text)
    ∙ nominal-at c.args.fire.now c.nominal_start.result c.nominal_start.ensures
