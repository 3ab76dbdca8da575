use Rattle.std.proofs.Common.{arith}
use Rattle.cron_time.proofs.walk.state.State.starting.Goals as goal

pub returns-clause-known : goal.returns-clause-known
returns-clause-known c = λ s z. (c.unknown.ensures s, λ k low high. absurd (omega (arith, high, c.empty.ensures)))
