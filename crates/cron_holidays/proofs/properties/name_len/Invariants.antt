use Rattle.std.proofs.Common.{◌≡◌, ◌+◌, drop}
use Rattle.std.specs.List.{prefix_len}
use Rattle.cron_holidays.specs.Properties.{in_name}
use Rattle.cron_holidays.proofs.properties.name_len.Given as goal

abbrev pub invariant-loop-at : goal.invariant-loop-at
invariant-loop-at l = l.at + prefix_len in_name (drop l.at l.text) ≡ prefix_len in_name l.text
