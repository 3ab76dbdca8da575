use Rattle.std.proofs.Common.{◌≡◌, drop}
use Rattle.std.specs.List.{list_all}
use Rattle.cron_tab_warnings.specs.Warnings.{in_numbers}
use Rattle.cron_tab_warnings.proofs.warnings.is_numbers.Given as goal

abbrev pub invariant-loop-byte : goal.invariant-loop-byte
invariant-loop-byte l = list_all in_numbers (drop l.byte-index l.word) ≡ list_all in_numbers l.word
