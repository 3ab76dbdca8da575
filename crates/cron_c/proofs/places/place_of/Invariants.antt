use Rattle.std.proofs.Common.{◌≡◌, ◌⊎◌, ◌+◌, ◌-◌, ◌<◌, ◌≤◌, length, true, false}
use Rattle.cron_c.specs.Histories.{has_started}
use Rattle.cron_c.proofs.places.place_of.Given as goal

-- the era at the place has started, or is the first one, and the one at the end hasn't
abbrev pub invariant-loop-place : goal.invariant-loop-place
invariant-loop-place l =
    ((l.place ≡ 0) ⊎ (has_started l.eras l.place l.second ≡ true)) × (has_started l.eras l.end l.second ≡ false) × (l.place < l.end)
    × (l.end ≤ length l.eras + 1)

abbrev pub decreases-loop-place : goal.decreases-loop-place
decreases-loop-place l = l.end - l.place
