use Rattle.std.proofs.Common.{◌≡◌, ◌<◌, ◌%◌, take}
use Rattle.cron_spread.specs.Places.{number_of}
use Rattle.cron_spread.proofs.places.remainder.Given as goal

-- the remainder of the bytes up to here
abbrev pub invariant-loop-byte : goal.invariant-loop-byte
invariant-loop-byte l = (l.left ≡ number_of (take l.byte-index l.bytes) % l.count) × (l.left < l.count)
