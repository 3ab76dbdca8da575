use Rattle.std.proofs.Common.{◌≡◌, ◌+◌, ◌<◌, ℕ, ◌<ℤ◌, Some}
use Rattle.std.specs.Prelude.{slice_get}
use Rattle.cron_c.specs.Zones.{IsSomeZone}
use Rattle.cron_c.specs.declared.era.CronEra.{CronEra}
use Rattle.cron_c.proofs.era.is_history.Given as goal

-- each of the eras so far says a zone, and starts later than the one before it
abbrev pub invariant-loop-at : goal.invariant-loop-at
invariant-loop-at l =
    ((i : ℕ) (e : CronEra) → i < l.at → slice_get l.eras i ≡ Some e → IsSomeZone e.zone)
    × ((i : ℕ) (a b : CronEra) → i < l.at → slice_get l.eras i ≡ Some a → slice_get l.eras (i + 1) ≡ Some b → a.starts <ℤ b.starts)
