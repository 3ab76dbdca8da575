use Rattle.std.proofs.Common.{◌≡◌, ◌++◌, map, IfSome}
use Rattle.std.specs.Str.{IsUtf8}
use Rattle.cron_tips.specs.ZoneNames.{names_in}
use Rattle.cron_tips.proofs.ZoneLemmas.{length_left, names_left}
use Rattle.cron_tips.proofs.zone_names.names_of.Given as goal

-- the names so far and those of the text that is left are the names of the list
abbrev pub invariant-loop-left : goal.invariant-loop-left
invariant-loop-left l = record {
  names : map (λ n. n.now) l.names.items ++ names_left l.left ≡ names_in l.list;
  text : IfSome l.left (λ t. IsUtf8 t.now);
}

abbrev pub decreases-loop-left : goal.decreases-loop-left
decreases-loop-left l = length_left l.left
