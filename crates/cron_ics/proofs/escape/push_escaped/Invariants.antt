use Rattle.std.proofs.Common.{◌≡◌, ◌++◌, take}
use Rattle.cron_ics.specs.Texts.{escaped}
use Rattle.cron_ics.proofs.escape.push_escaped.Given as goal

abbrev pub invariant-loop-byte : goal.invariant-loop-byte
invariant-loop-byte l = l.line.items ≡ l.fn.line.items ++ escaped (take l.byte-index l.text)
