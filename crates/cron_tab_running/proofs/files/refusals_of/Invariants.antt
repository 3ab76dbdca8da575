use Rattle.std.proofs.Common.{◌≡◌, take}
use Rattle.std.specs.String.{string_bytes}
use Rattle.cron_tab_running.specs.Loading.{told_files}
use Rattle.cron_tab_running.proofs.files.refusals_of.Given as goal

abbrev pub invariant-loop-file : goal.invariant-loop-file
invariant-loop-file l = string_bytes l.told ≡ told_files l.tasks.kind l.tasks.names.now (take l.file-index l.files)
