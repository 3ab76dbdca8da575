use Rattle.std.proofs.Common.{length}
use Rattle.std.specs.Str.{IsUtf8}
use Rattle.cron_kubernetes.specs.Inner.Reading.{AreReadBefore}
use Rattle.cron_kubernetes.proofs.fields.read_items.Given as goal

abbrev pub decreases-loop-more : goal.decreases-loop-more
decreases-loop-more l = length l.rest

abbrev pub invariant-loop-more : goal.invariant-loop-more
invariant-loop-more l = record { read : AreReadBefore l.field l.word l.rest l.numbers; text : IsUtf8 l.rest }
