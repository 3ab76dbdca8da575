use Rattle.std.proofs.Common.{◌≡◌, drop}
use Rattle.cron_zones.specs.Names.{pieces_fit}
use Rattle.cron_zones.proofs.names.pieces_fit.Given as goal

abbrev pub invariant-loop-byte : goal.invariant-loop-byte
invariant-loop-byte l = pieces_fit 47 l.name ≡ pieces_fit l.before (drop l.byte-index l.name)
