use Rattle.std.proofs.Common.{◌≡◌, drop}
use Rattle.std.specs.List.{list_all}
use Rattle.cron_holidays.specs.Dates.{is_digit}
use Rattle.cron_holidays.proofs.dates.are_digits.Given as goal

abbrev pub invariant-loop-byte : goal.invariant-loop-byte
invariant-loop-byte l = list_all is_digit (drop l.byte-index l.text) ≡ list_all is_digit l.text
