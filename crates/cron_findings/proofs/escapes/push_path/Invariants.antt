use Rattle.std.proofs.Common.{◌≡◌, ◌++◌, take}
use Rattle.std.specs.List.{flat_map}
use Rattle.std.specs.String.{string_bytes}
use Rattle.cron_findings.specs.Escapes.{path_byte}
use Rattle.cron_findings.proofs.escapes.push_path.Given as goal

-- the bytes up to here were pushed
abbrev pub invariant-loop-byte : goal.invariant-loop-byte
invariant-loop-byte l = string_bytes l.path ≡ string_bytes l.initial.path ++ flat_map path_byte (take l.byte-index l.file)
