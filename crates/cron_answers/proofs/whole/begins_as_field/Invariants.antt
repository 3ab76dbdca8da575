use Rattle.std.proofs.Common.{◌≡◌, drop}
use Rattle.cron_answers.specs.Wholes.{begins_as_field}
use Rattle.cron_answers.proofs.whole.begins_as_field.Given as goal

-- the signs so far decide nothing
abbrev pub invariant-loop-byte : goal.invariant-loop-byte
invariant-loop-byte l = begins_as_field (drop l.byte-index l.command) ≡ begins_as_field l.command
