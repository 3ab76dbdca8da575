use Rattle.std.proofs.Common.{◌≡◌, length}
use Rattle.std.specs.Str.{IsUtf8}
use Rattle.cron_tab_warnings.specs.Written.{is_field}
use Rattle.cron_tab_warnings.proofs.items.is_field.Given as goal

abbrev pub decreases-loop-behind : goal.decreases-loop-behind
decreases-loop-behind l = length l.rest

abbrev pub invariant-loop-behind : goal.invariant-loop-behind
invariant-loop-behind l = record {
  left : is_field l.field l.rest ≡ is_field l.field l.word;
  text : IsUtf8 l.rest;
}
