use Rattle.std.proofs.Common.{◌≡◌, length}
use Rattle.std.specs.Prelude.{Some}
use Rattle.std.specs.Str.{IsUtf8}
use Rattle.cron_kubernetes.specs.Durations.{parts, plus, span_of}
use Rattle.cron_kubernetes.proofs.durations.are_parts.Given as goal

abbrev pub decreases-loop-rest : goal.decreases-loop-rest
decreases-loop-rest l = length l.rest

abbrev pub invariant-loop-rest : goal.invariant-loop-rest
invariant-loop-rest l = record { span : span_of (parts l.text) ≡ plus (Some l.total) (span_of (parts l.rest)); text : IsUtf8 l.rest }
