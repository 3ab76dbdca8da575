use Rattle.std.proofs.Common.{◌≡◌, length}
use Rattle.std.specs.Str.{IsUtf8}
use Rattle.cron_tab_warnings.specs.Tests.{test_of}
use Rattle.cron_tab_warnings.specs.Written.{has_item}
use Rattle.cron_tab_warnings.proofs.items.has_item.Given as goal

abbrev pub decreases-loop-behind : goal.decreases-loop-behind
decreases-loop-behind l = length l.rest

abbrev pub invariant-loop-behind : goal.invariant-loop-behind
invariant-loop-behind l = record {
  left : has_item (test_of l.test l.field) l.field l.rest ≡ has_item (test_of l.test l.field) l.field l.word;
  text : IsUtf8 l.rest;
}
