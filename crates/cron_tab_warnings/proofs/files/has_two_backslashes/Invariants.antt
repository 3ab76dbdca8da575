use Rattle.std.proofs.Common.{◌≡◌, drop}
use Rattle.cron_tab_warnings.specs.Files.{has_two_backslashes}
use Rattle.cron_tab_warnings.proofs.files.has_two_backslashes.Given as goal

abbrev pub invariant-loop-byte : goal.invariant-loop-byte
invariant-loop-byte l = has_two_backslashes l.before (drop l.byte-index l.command) ≡ has_two_backslashes 0 l.command
