use Rattle.std.proofs.Common.{◌≡◌, ◌==◌, drop}
use Rattle.std.specs.List.{list_any}
use Rattle.cron_tab_lines.proofs.lines.has_byte.Given as goal

abbrev pub invariant-loop-byte : goal.invariant-loop-byte
invariant-loop-byte l = list_any (λ c. c == l.sought) (drop l.byte-index l.line) ≡ list_any (λ c. c == l.sought) l.line
