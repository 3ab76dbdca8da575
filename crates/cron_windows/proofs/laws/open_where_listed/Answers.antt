use Rattle.cron_windows.proofs.LawLemmas.{listed, listed_open}
use Rattle.cron_windows.proofs.laws.open_where_listed.Goals as goal

pub returns : goal.returns
returns c = λ test from to t low high. (listed test from to t low high, listed_open test from to t low high)
