use Rattle.std.proofs.Common.{◌≡◌, ◌++◌, map, take}
use Rattle.cron_tab_tasks.specs.Names.{kept}
use Rattle.cron_tab_tasks.proofs.names.push_kept.Given as goal

-- what stands for the bytes up to here was pushed
abbrev pub invariant-loop-byte : goal.invariant-loop-byte
invariant-loop-byte l = l.name.items ≡ l.initial.name.items ++ map kept (take l.byte-index l.text)
