use Rattle.std.proofs.Common.{◌≡◌, length}
use Rattle.cron_text.specs.Meaning.{trimmed_end}
use Rattle.cron_text.proofs.tokens.trimmed_end.Given as goal

abbrev pub invariant-loop-last : goal.invariant-loop-last
invariant-loop-last l = trimmed_end l.fn.text ≡ trimmed_end l.rest

abbrev pub decreases-loop-last : goal.decreases-loop-last
decreases-loop-last l = length l.rest
