use Rattle.std.proofs.Common.{◌≡◌}
use Rattle.std.specs.Prelude.{length}
use Rattle.jiff.specs.Words.{plain_zone}
use Rattle.cron_time.specs.Walk.Inner.Placed.{Knows, stand_of}
use Rattle.cron_c.proofs.Filling.{IsFilling}
use Rattle.cron_c.proofs.listing.fill.Given as goal

-- the items so far are written, and the array has its length
abbrev pub invariant-loop-count : goal.invariant-loop-count
invariant-loop-count l =
    IsFilling l.way l.fields (plain_zone l.zone) (stand_of l.initial.state) l.initial.items l.items (stand_of l.state) l.count
    × (length l.items ≡ length l.initial.items)
    × Knows l.fields (plain_zone l.zone) l.state
