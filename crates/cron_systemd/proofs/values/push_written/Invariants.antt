use Rattle.std.proofs.Common.{◌≡◌, ◌++◌, take}
use Rattle.cron_systemd.specs.Texts.{written}
use Rattle.cron_systemd.proofs.values.push_written.Given as goal

-- the bytes up to here were pushed
abbrev pub invariant-loop-byte : goal.invariant-loop-byte
invariant-loop-byte l = l.text.items ≡ l.initial.text.items ++ written l.form (take l.byte-index l.bytes)
