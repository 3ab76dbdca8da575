use Rattle.std.proofs.Common.{◌≡◌, ◌-◌, ◌*◌, pos}
use Rattle.jiff.specs.Words.{plain_zone}
use Rattle.cron_clocks.specs.Steady.{IsKnown}
use Rattle.cron_units.specs.declared.way.Way.TheVariants.{Ahead}
use Rattle.cron_units.specs.Nearest.{IsNearest}
use Rattle.cron_time.specs.Seconds.{is_match}
use Rattle.cron_counting.specs.Inner.Parts.{counts_by}
use Rattle.cron_counting.proofs.walk.count_parts.Given as goal

abbrev pub invariant-loop-part : goal.invariant-loop-part
invariant-loop-part g l =
    (l.counts.items ≡ counts_by l.size (g.S.CivilSeconds.has l.set) (plain_zone l.zone) l.first (l.part - l.first))
    × IsKnown (plain_zone l.zone) l.stretch × IsNearest Ahead (is_match (g.S.CivilSeconds.has l.set)) (pos (l.part * l.size)) l.next
