-- What a run that is cut and begun again loses: nothing.
use Rattle.std.specs.Prelude.{◌≡◌, ◌⊎◌, ◌++◌, ℕ, ℤ, pos, ◌*ℤ◌, ◌≤ℤ◌, Bool, false, int_le, List, [], filter, map}
use Rattle.jiff_core.specs.declared.Timestamp.{Timestamp}
use Rattle.jiff_tz.specs.declared.timezone.TimeZone.{TimeZone}
use Rattle.cron_agenda.specs.Entries.{ComesFirst, Listed}
use Rattle.cron_agenda.specs.Fires.{fires_after, instant}
use Rattle.cron_agenda.specs.Merged.{AllAscend, merged, own_of}
use Rattle.cron_agenda.specs.declared.entry.Entry.{Entry}
use Rattle.cron_agenda.specs.declared.fire.EntryFire.{EntryFire}
use Rattle.cron_agenda_scheduler.specs.Late.{Tables}
use Rattle.cron_agenda_scheduler.specs.Laws.{LeavesAgenda, is_due}
use Rattle.cron_agenda_scheduler.specs.Turns.{AreTurns, Deed, JobCalls, all_taken}
use Rattle.cron_fires.specs.declared.changes.ClockChanges.{ClockChanges}
use Rattle.cron_tab_running.specs.Clocks.{is_settled}
use Rattle.cron_tab_running.specs.declared.run_clock.RunClock.{RunClock}
use Rattle.cron_scheduler.specs.Runs.{ClockCalls}
use Rattle.cron_time.specs.Seconds.{Seconds}

-- whether the instant of a fire is at or before t, in nanoseconds since 1970
abbrev pub is_by : ℤ → EntryFire → Bool
is_by t fire = int_le (instant fire *ℤ pos 1_000_000_000) t

-- The fires of an entry after `start` are those up to a noted instant, up to which all were run,
-- followed by those after it, where the entry goes on.
abbrev pub NotesLoseNothing : Type 0
NotesLoseNothing =
    (s : Seconds) (z : TimeZone) (changes : ClockChanges) (start noted : ℤ) → start ≤ℤ noted
    → fires_after s z changes start ≡ filter (is_by noted) (fires_after s z changes start) ++ fires_after s z changes noted

-- The clock may note a run whose entries are `es`. No entry fires any more; or the clock is about
-- to wait for the first fire, and there is something to note.
abbrev pub MayNote : {T C F S : Type 0} → RunClock C F S → List (Entry T) → Type 0
MayNote {T} clock es =
    (es ≡ [])
    ⊎ ((e : Entry T) × (t : Timestamp) × ComesFirst es e × (t.nanosecond ≡ instant e.fire *ℤ pos 1_000_000_000) × (is_settled clock t ≡ false))

-- At each note, the entries' fires up to the noted instant are those that the turns before it took,
-- in order, each once. The job must leave the agenda unchanged.
abbrev pub NotesAreTrue : {T C F S J E G : Type 0} → Tables T → ClockCalls (RunClock C F S) E → JobCalls T J G → Type 0
NotesAreTrue {T} {C} {F} {S} {J} ts cs js =
    (turns : List (List Deed)) (most left : ℕ) (c : RunClock C F S) (a : Listed T) (j : J) (c' : RunClock C F S) (b : Listed T) (k : J)
    → LeavesAgenda js
    → AllAscend ts.has ts.zones a.entries
    → AreTurns ts cs js turns most c a j left c' b k
    → MayNote c' b.entries
    → filter (is_due c'.noted.until.nanosecond) (merged ts.has ts.zones a.entries)
    ≡ filter (is_due c'.noted.until.nanosecond) (map own_of (all_taken turns))
