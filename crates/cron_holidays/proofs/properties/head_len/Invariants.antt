use Rattle.std.proofs.Common.{◌≡◌, ◌+◌, drop, false}
use Rattle.cron_holidays.specs.Properties.{head_len}
use Rattle.cron_holidays.proofs.properties.head_len.Given as goal

abbrev pub invariant-loop-at : goal.invariant-loop-at
invariant-loop-at l = l.at + head_len l.quoted (drop l.at l.text) ≡ head_len false l.text
