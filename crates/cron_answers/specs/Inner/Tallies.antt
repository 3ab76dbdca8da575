-- A tally with one fire more.
use Rattle.std.specs.Prelude.{ℕ, ℤ, ◌+◌, Option, Some, None, max, min}
use Rattle.cron_answers.specs.Tallies.{wait_between}
use Rattle.cron_answers.specs.declared.tally.Tally.{Tally}
use Rattle.cron_answers.specs.declared.tally.Waits.{Waits}

abbrev pub with_wait : Option Waits → ℕ → Waits
with_wait None wait = record { shortest = wait; longest = wait }
with_wait (Some w) wait = record { shortest = min w.shortest wait; longest = max w.longest wait }

abbrev pub with_fire : Tally → Option ℤ → ℤ → Tally
with_fire t None second = record { fires = min (t.fires + 1) 18_446_744_073_709_551_615; waits = t.waits }
with_fire t (Some last) second =
    record { fires = min (t.fires + 1) 18_446_744_073_709_551_615; waits = Some (with_wait t.waits (wait_between last second)) }
