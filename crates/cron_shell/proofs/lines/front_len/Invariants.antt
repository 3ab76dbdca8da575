use Rattle.std.proofs.Common.{◌≡◌, ◌+◌, drop}
use Rattle.cron_shell.specs.Inner.Cuts.{front_len}
use Rattle.cron_shell.proofs.lines.front_len.Given as goal

abbrev pub invariant-loop-at : goal.invariant-loop-at
invariant-loop-at l = l.at + front_len (drop l.at l.text) ≡ front_len l.text
