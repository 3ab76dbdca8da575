use Rattle.std.proofs.Common.{◌≡◌, ◌++◌, drop}
use Rattle.cron_controls.specs.Controls.{shown_after}
use Rattle.cron_controls.proofs.shown.Given as goal

-- after what is made stand the bytes that are left
abbrev pub invariant-loop-byte : goal.invariant-loop-byte
invariant-loop-byte l = l.made.items ++ shown_after l.before (drop l.byte-index l.bytes) ≡ shown_after 0 l.bytes
