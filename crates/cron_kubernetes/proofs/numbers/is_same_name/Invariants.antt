use Rattle.std.proofs.Common.{◌≡◌, drop}
use Rattle.std.specs.Str.{str_eq_ignore_ascii_case}
use Rattle.cron_kubernetes.proofs.numbers.is_same_name.Given as goal

abbrev pub invariant-loop-at : goal.invariant-loop-at
invariant-loop-at l = str_eq_ignore_ascii_case (drop l.at l.name) (drop l.at l.other) ≡ str_eq_ignore_ascii_case l.name l.other
