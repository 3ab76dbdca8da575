-- what stood before is white space
use Rattle.std.proofs.Common.{◌≡◌, drop}
use Rattle.cron_checking.specs.Lines.{is_passed_over}
use Rattle.cron_checking.proofs.line.is_passed_over.Given as goal

abbrev pub invariant-loop-byte : goal.invariant-loop-byte
invariant-loop-byte l = is_passed_over l.line ≡ is_passed_over (drop l.byte-index l.line)
