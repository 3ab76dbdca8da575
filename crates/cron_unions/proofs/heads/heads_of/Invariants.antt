use Rattle.std.proofs.Common.{◌≡◌, length}
use Rattle.cron_unions.specs.Inner.Heads.{AreHeads}
use Rattle.cron_unions.proofs.heads.heads_of.Given as goal

abbrev pub invariant-loop-fields : goal.invariant-loop-fields
invariant-loop-fields g l = AreHeads l.schedules l.from l.heads.items × (length l.heads.items ≡ l.fields-index)
