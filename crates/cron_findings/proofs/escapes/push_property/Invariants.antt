use Rattle.std.proofs.Common.{◌≡◌, ◌++◌, take}
use Rattle.std.specs.List.{flat_map}
use Rattle.cron_findings.specs.Escapes.{property_byte}
use Rattle.cron_findings.proofs.escapes.push_property.Given as goal

-- the bytes up to here were pushed
abbrev pub invariant-loop-byte : goal.invariant-loop-byte
invariant-loop-byte l = l.text.items ≡ l.initial.text.items ++ flat_map property_byte (take l.byte-index l.byte-items)
