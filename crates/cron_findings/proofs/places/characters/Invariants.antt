use Rattle.std.proofs.Common.{◌≡◌, ◌≤◌, ◌+◌, drop}
use Rattle.cron_findings.specs.Places.{characters_from}
use Rattle.cron_findings.proofs.places.characters.Given as goal

-- the characters so far, with those that begin in the bytes that are left, are all of them
abbrev pub invariant-loop-at : goal.invariant-loop-at
invariant-loop-at l = (l.count + characters_from l.left (drop l.at l.bytes) ≡ characters_from 0 l.bytes) × (l.count ≤ l.at)
