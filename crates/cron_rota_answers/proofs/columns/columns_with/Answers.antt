use Rattle.cron_rota_answers.proofs.CellLemmas.{too_many}
use Rattle.cron_rota_answers.proofs.columns.columns_with.Goals as goal

pub returns-in-Some : goal.returns-in-Some
returns-in-Some c = too_many c.args.from.now c.args.until.now c.args.name.now c.args.left _ c.in-Some.is
