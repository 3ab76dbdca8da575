use Rattle.std.proofs.Common.{◌≡◌, ◌++◌, take}
use Rattle.std.specs.List.{flat_map}
use Rattle.cron_shell.specs.Quoted.{escaped}
use Rattle.cron_shell.proofs.words.push_bytes.Given as goal

-- the bytes up to here were pushed
abbrev pub invariant-loop-byte : goal.invariant-loop-byte
invariant-loop-byte l = l.line.items ≡ l.initial.line.items ++ flat_map escaped (take l.byte-index l.text)
