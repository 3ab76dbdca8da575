use Rattle.std.proofs.Common.{◌≡◌, ◌≤◌, take}
use Rattle.cron_tab_lines.specs.Settings.{trimmed}
use Rattle.cron_tab_lines.proofs.settings.trim_end.Given as goal

abbrev pub invariant-loop-at : goal.invariant-loop-at
invariant-loop-at l = record {
  within : l.end ≤ l.at;
  kept : trimmed (take l.at l.text) ≡ take l.end l.text;
}
