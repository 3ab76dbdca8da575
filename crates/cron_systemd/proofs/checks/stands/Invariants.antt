use Rattle.std.proofs.Common.{◌≡◌, drop}
use Rattle.cron_systemd.specs.Units.{stands}
use Rattle.cron_systemd.specs.declared.checks.End.TheVariants.{Plain}
use Rattle.cron_systemd.proofs.checks.stands.Given as goal

-- the bytes that are left decide
abbrev pub invariant-loop-byte : goal.invariant-loop-byte
invariant-loop-byte l = stands l.value Plain ≡ stands (drop l.byte-index l.value) l.end
