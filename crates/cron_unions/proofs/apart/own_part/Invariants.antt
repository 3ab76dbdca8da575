use Rattle.std.specs.Prelude.{⊤}
use Rattle.cron_unions.proofs.apart.own_part.Given as goal

abbrev pub invariant-loop-unit : goal.invariant-loop-unit
invariant-loop-unit l = ⊤
