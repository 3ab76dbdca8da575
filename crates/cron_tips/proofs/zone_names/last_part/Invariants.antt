use Rattle.std.proofs.Common.{◌≡◌, length}
use Rattle.std.specs.Str.{IsUtf8}
use Rattle.cron_tips.specs.ZoneNames.{last_part}
use Rattle.cron_tips.proofs.zone_names.last_part.Given as goal

abbrev pub invariant-loop-behind : goal.invariant-loop-behind
invariant-loop-behind l = record {
  part : last_part l.last ≡ last_part l.name;
  text : IsUtf8 l.last;
}

abbrev pub decreases-loop-behind : goal.decreases-loop-behind
decreases-loop-behind l = length l.last
