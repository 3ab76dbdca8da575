use Rattle.std.proofs.Common.{◌≡◌, take}
use Rattle.cron_ics.specs.Texts.{shown}
use Rattle.cron_ics.proofs.escape.shown.Given as goal

abbrev pub invariant-loop-byte : goal.invariant-loop-byte
invariant-loop-byte l = l.list.items ≡ shown (take l.byte-index l.text)
