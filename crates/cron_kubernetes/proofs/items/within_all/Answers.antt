use Rattle.std.proofs.Common.{arith}
use Rattle.cron_kubernetes.proofs.ItemLemmas.{past_all}
use Rattle.cron_kubernetes.proofs.items.within_all.Goals as goal

pub returns-else-every-lt-PAST_ALL-clause-same : goal.returns-else-every-lt-PAST_ALL-clause-same
returns-else-every-lt-PAST_ALL-clause-same c = λ n low. past_all n 64 c.args.every low (omega arith) (omega arith)
