use Rattle.std.proofs.Common.{rules}
use Rattle.cron_units.proofs.error.ErrorFromErrorKind.from.Goals as goal

pub returns : goal.returns
returns c = search rules
