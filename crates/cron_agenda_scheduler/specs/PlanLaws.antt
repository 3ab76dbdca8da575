-- A plan is the case of one entry: its fires are those that the entry has, and its runs are those of the loop.
use Rattle.std.specs.Prelude.{◌≡◌, ◌<◌, ◌-◌, ◌^◌, ℕ, Option, Some, List, [], ◌∷◌, Result, Ok, Err, ⊤, map, slice_get, take}
use Rattle.jiff_core.specs.declared.Timestamp.{Timestamp}
use Rattle.jiff_tz.specs.declared.timezone.TimeZone.{TimeZone}
use Rattle.cron_time.specs.Seconds.{Seconds}
use Rattle.cron_instants.specs.Fires as shown
use Rattle.cron_dues.specs.Dues.{dues_after, dues_past}
use Rattle.cron_fires.specs.declared.changes.ClockChanges.{ClockChanges}
use Rattle.cron_fires.specs.declared.changes.ClockChanges.TheVariants as rule
use Rattle.cron_agenda.specs.declared.entry.Entry.{Entry}
use Rattle.cron_agenda.specs.declared.fire.AgendaFire.{AgendaFire}
use Rattle.cron_agenda.specs.declared.fire.EntryFire.{EntryFire}
use Rattle.cron_agenda.specs.declared.fire.EntryFire.TheVariants.{AsShown, Once}
use Rattle.cron_agenda.specs.Entries.{Adds, Listed, entry, listed}
use Rattle.cron_agenda.specs.Fires.{fires_after, fires_past, instant}
use Rattle.cron_agenda.specs.Merged.{Ascend, left, own, own_of}
use Rattle.cron_scheduler.specs.declared.plan.Start.TheVariants.{After, Past}
use Rattle.cron_scheduler.specs.declared.stop.Stop.{Stop}
use Rattle.cron_scheduler.specs.declared.stop.Stop.TheVariants as plan
use Rattle.cron_scheduler.specs.Plans.{first_of, planned}
use Rattle.cron_scheduler.specs.Runs.{ClockCalls, IsRun}
use Rattle.cron_agenda_scheduler.specs.declared.lateness.Lateness.TheVariants.{Each}
use Rattle.cron_agenda_scheduler.specs.declared.stop.AgendaStop.{AgendaStop}
use Rattle.cron_agenda_scheduler.specs.declared.stop.AgendaStop.TheVariants.{Clock, Job}
use Rattle.cron_agenda_scheduler.specs.Late.{Tables}
use Rattle.cron_agenda_scheduler.specs.Laws.{LeavesAgenda}
use Rattle.cron_agenda_scheduler.specs.Turns.{JobCalls, RunsLoop}

-- the fires of a plan that begins after an instant, by a rule, as an entry has them
abbrev pub plan_after : ClockChanges → Timestamp → Seconds → TimeZone → Option ℕ → List EntryFire
plan_after rule.AsShown now ss z most = map AsShown (planned shown.fires_after shown.fires_past ss z (After now) most)
plan_after rule.Once now ss z most = map Once (planned dues_after dues_past ss z (After now) most)

-- the fires of a plan that begins past a fire, by the rule that this fire has
abbrev pub plan_past : EntryFire → Seconds → TimeZone → Option ℕ → List EntryFire
plan_past (AsShown last) ss z most = map AsShown (planned shown.fires_after shown.fires_past ss z (Past last) most)
plan_past (Once last) ss z most = map Once (planned dues_after dues_past ss z (Past last) most)

-- the agenda has one entry, and what that has left in its zone are these fires of its table: all of
-- them, or the first `most`
abbrev pub HasAlone : {T : Type 0} → (T → Seconds) → List TimeZone → T → ℕ → ℕ → (Seconds → TimeZone → Option ℕ → List EntryFire) → Listed T → Type 0
HasAlone has zones table zone id fires new =
    (z : TimeZone) × (fire : EntryFire) × (slice_get zones zone ≡ Some z) × (new.entries ≡ entry id table zone fire ∷ [])
    × ((most : Option ℕ) → first_of most (left has zones (entry id table zone fire)) ≡ fires (has table) z most)

-- An entry that is added alone has the fires of a plan of the same table, zone and start, with or
-- without a greatest number of fires.
pub record OneEntryHasAPlansFires {T : Type 0} (has : T → Seconds) : Type 0 where
  pub after :
      (zones : List TimeZone) (table : T) (zone added room id : ℕ) (changes : ClockChanges) (now : Timestamp) (new : Listed T)
      → Adds has zones table zone (λ z. fires_after (has table) z changes now.nanosecond) (listed [] added room) (Ok id) new
      → HasAlone has zones table zone id (plan_after changes now) new
  pub past :
      (zones : List TimeZone) (table : T) (zone added room id : ℕ) (last : EntryFire) (new : Listed T)
      → Adds has zones table zone (λ z. fires_past (has table) z last) (listed [] added room) (Ok id) new
      → HasAlone has zones table zone id (plan_past last) new

-- No entry has more than 2^64 - 1 fires left, so a loop with that many runs is a plan without a
-- greatest number of fires.
abbrev pub NoneIsCut : {T : Type 0} → (T → Seconds) → Type 0
NoneIsCut {T} has = (zones : List TimeZone) (e : Entry T) → take (2 ^ 64 - 1) (left has zones e) ≡ left has zones e

-- a run of the job for a fire of the entry with this id; the agenda isn't shown, and stays
-- unchanged
abbrev pub runs_of : {T J F : Type 0} → JobCalls T J F → ℕ → J → EntryFire → Result ⊤ F → J → Type 0
runs_of {T} js id j fire answer j' = (f : AgendaFire) × (a : Listed T) × (own_of f ≡ own id fire) × js.runs j f a answer j' a

-- what a plan's run answers, as the loop says it
abbrev pub as_loop : {E F : Type 0} → Result ⊤ (Stop E F) → Result ⊤ (AgendaStop E F)
as_loop (Ok done) = Ok done
as_loop (Err (plan.Clock e)) = Err (Clock e)
as_loop (Err (plan.Job f)) = Err (Job f)

-- Where one entry's fires are run however late, and the job leaves the agenda as it is, a run of the loop is a plan's run. Its fires
-- are what the entry has left, up to the number of runs. Its answer is one that a plan has, since a zone that is lent isn't missing.
abbrev pub LoopIsAPlansRun : {T C J E F : Type 0} → (ts : Tables T) → ClockCalls C E → JobCalls T J F → Type 0
LoopIsAPlansRun {T} {C} {J} {E} {F} ts cs js =
    (most : ℕ) (e : Entry T) (z : TimeZone) (c : C) (a : Listed T) (j : J) (answer : Result ⊤ (AgendaStop E F)) (c' : C) (a' : Listed T) (j' : J)
    → LeavesAgenda js
    → a.entries ≡ e ∷ []
    → ts.lateness e.table ≡ Each
    → slice_get ts.zones e.zone ≡ Some z
    → Ascend (left ts.has ts.zones e)
    → most < 2 ^ 64
    → RunsLoop ts cs js most c a j answer c' a' j'
    → (told : Result ⊤ (Stop E F)) × (answer ≡ as_loop told)
    × IsRun cs (runs_of js e.id) instant (take most (left ts.has ts.zones e)) (c, j) told (c', j')
