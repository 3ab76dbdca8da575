use Rattle.std.proofs.Common.{◌<◌, ◌≤◌, ◌-◌, ℕ, length}
use Rattle.cron_agenda.specs.Inner.Slots.{HasEntry, IdsAscend}
use Rattle.cron_agenda.proofs.agenda.place_of.Given as goal

-- the slot with the id stands between the two places, if there is one
abbrev pub invariant-loop-low : goal.invariant-loop-low
invariant-loop-low g l =
    (l.low ≤ l.high) × (l.high ≤ length l.slots)
    × ((top : ℕ) → IdsAscend 0 l.slots top → (p : ℕ) → HasEntry l.slots l.id p → (l.low ≤ p) × (p < l.high))

abbrev pub decreases-loop-low : goal.decreases-loop-low
decreases-loop-low g l = l.high - l.low
