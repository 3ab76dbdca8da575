use Rattle.std.proofs.Common.{◌≡◌, ◌≤◌, ◌++◌, drop}
use Rattle.cron_ics.specs.Folding.{folded, folded_from}
use Rattle.cron_ics.proofs.fold.push_line.Given as goal

abbrev pub invariant-loop-byte : goal.invariant-loop-byte
invariant-loop-byte l = record {
  text : l.page.items ++ folded_from l.column (drop l.byte-index l.line) ≡ l.fn.page.items ++ folded l.line;
  column : l.column ≤ l.byte-index;
}
