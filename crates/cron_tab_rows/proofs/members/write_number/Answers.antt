use Rattle.std.proofs.Common.{arith}
use Rattle.cron_tab_rows.proofs.NumberLemmas.{IsNumber-decimal_wide}
use Rattle.cron_tab_rows.proofs.members.write_number.Goals as goal

pub number-requires : goal.number-requires
number-requires c = rw c.format.ensures.text (IsNumber-decimal_wide c.args.number (omega arith))
