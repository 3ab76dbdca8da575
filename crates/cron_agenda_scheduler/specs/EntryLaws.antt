-- Which fires of one entry the deeds of turns and of whole runs are, while jobs add and remove
-- other entries. A deed is a fire that was taken, and run or passed over.
use Rattle.std.specs.Prelude.{◌≡◌, ◌⊎◌, ◌<◌, ◌≤◌, ◌-◌, ◌^◌, ◌==◌, ℕ, ℤ, List, [], ◌∷◌, ◌++◌, Result, Ok, Err, ⊤, filter, flat_map, length, map}
use Rattle.jiff_core.specs.declared.Timestamp.{Timestamp}
use Rattle.jiff_tz.specs.declared.timezone.TimeZone.{TimeZone}
use Rattle.cron_time.specs.Seconds.{Seconds}
use Rattle.cron_agenda.specs.declared.entry.Entry.{Entry}
use Rattle.cron_agenda.specs.declared.error.AddError.{AddError}
use Rattle.cron_agenda.specs.declared.fire.AgendaFire.{AgendaFire}
use Rattle.cron_agenda.specs.declared.fire.EntryFire.{EntryFire}
use Rattle.cron_agenda.specs.Entries.{Adds, HaveIds, Listed, without}
use Rattle.cron_agenda.specs.Fires.{instant}
use Rattle.cron_agenda.specs.Merged.{AllAscend, Ascend, left}
use Rattle.cron_agenda_scheduler.specs.declared.stop.AgendaStop.TheVariants.{Job}
use Rattle.cron_agenda_scheduler.specs.Late.{Tables}
use Rattle.cron_agenda_scheduler.specs.Laws.{FailsFor}
use Rattle.cron_agenda_scheduler.specs.Turns.{AreDone, AreTurns, Deed, JobCalls, RunsDue, TakeFewer, all_taken, job_calls, shown_in, taken}
use Rattle.cron_seconds.specs.Rules.{is_by}
use Rattle.cron_scheduler.specs.Runs.{ClockCalls, is_due}

-- the entry with this id, if it is there
abbrev pub with_id : {T : Type 0} → ℕ → List (Entry T) → List (Entry T)
with_id id es = filter (λ e. e.id == id) es

-- one entry at the most has this id
abbrev pub IsOneAtMost : {T : Type 0} → ℕ → List (Entry T) → Type 0
IsOneAtMost id es = length (with_id id es) ≤ 1

-- a job's calls, without the runs that change the entry with this id; they may add and remove
-- others
abbrev pub keeping : {T J F : Type 0} → ℕ → JobCalls T J F → JobCalls T J F
keeping id js = job_calls (λ j f a answer j' a'. js.runs j f a answer j' a' × (with_id id a'.entries ≡ with_id id a.entries)) js.passes

-- the fires of the entry with this id among some that were taken, in order
abbrev pub fires_with : ℕ → List AgendaFire → List EntryFire
fires_with id fires = map (λ f. f.fire) (filter (λ f. f.id == id) fires)

-- what the entry with this id has left; nothing if it isn't there
abbrev pub left_with : {T : Type 0} → Tables T → ℕ → List (Entry T) → List EntryFire
left_with ts id es = flat_map (left ts.has ts.zones) (with_id id es)

-- Where ids ascend, as in each agenda, at most one entry has an id. Where the fires of all entries
-- ascend, so do the fires of that one.
pub record OneAmongAll {T : Type 0} (ts : Tables T) (id : ℕ) : Type 0 where
  pub one : (es : List (Entry T)) (low high : ℕ) → HaveIds low es high → IsOneAtMost id es
  pub ascends : (es : List (Entry T)) → IsOneAtMost id es → AllAscend ts.has ts.zones es → Ascend (left_with ts id es)

-- The fires of an entry that stays, as far as they were run or passed over, are the first of its
-- fires, in order, each once. It has the others left.
abbrev pub EntryDeedsAreItsFires : {T J F : Type 0} → Tables T → JobCalls T J F → ℕ → Type 0
EntryDeedsAreItsFires {T} {J} ts js id =
    (t : ℤ) (deeds : List Deed) (a : Listed T) (j : J) (a' : Listed T) (j' : J)
    → IsOneAtMost id a.entries
    → AreDone ts (keeping id js) t deeds a j a' j'
    → left_with ts id a.entries ≡ fires_with id (taken deeds) ++ left_with ts id a'.entries

-- Where the job failed for a fire, that one was taken too, after the deeds. The entry's fires among
-- them are the first of its fires, and of those that were due.
abbrev pub EntryFailureIsTaken : {T J F : Type 0} → Tables T → JobCalls T J F → ℕ → Type 0 → Type 0
EntryFailureIsTaken {T} {J} {F} ts js id E =
    (t : ℤ) (most : ℕ) (deeds : List Deed) (a : Listed T) (j : J) (e : F) (a' : Listed T) (j' : J)
    → IsOneAtMost id a.entries
    → RunsDue {E = E} ts (keeping id js) t most deeds a j (Err (Job e)) a' j'
    → (f : AgendaFire) × (left_with ts id a.entries ≡ fires_with id (taken deeds ++ f ∷ []) ++ left_with ts id a'.entries)
    × (filter (is_by instant t) (left_with ts id a.entries) ≡ fires_with id (taken deeds ++ f ∷ []) ++ filter (is_by instant t) (left_with ts id a'.entries))
    × FailsFor js f e a' j'

-- The entry's fires that were run or passed over are all that was due of it, if runs were left and
-- fewer than 2^64 - 1 fires were taken.
abbrev pub EntryDeedsAreAllDue : {T J F : Type 0} → Tables T → JobCalls T J F → ℕ → Type 0 → Type 0
EntryDeedsAreAllDue {T} {J} {F} ts js id E =
    (t : ℤ) (most left : ℕ) (deeds : List Deed) (a : Listed T) (j : J) (a' : Listed T) (j' : J)
    → IsOneAtMost id a.entries
    → Ascend (left_with ts id a.entries)
    → RunsDue {E = E} ts (keeping id js) t most deeds a j (Ok left) a' j'
    → 0 < left
    → length deeds < 2 ^ 64 - 1
    → fires_with id (taken deeds) ≡ filter (is_by instant t) (left_with ts id a.entries)

-- However a turn ends, what was due of the entry begins with its fires that were run or passed
-- over. What it still has due comes after them.
abbrev pub EntryDeedsBeginThat : {T J F : Type 0} → Tables T → JobCalls T J F → ℕ → Type 0
EntryDeedsBeginThat {T} {J} ts js id =
    (t : ℤ) (deeds : List Deed) (a : Listed T) (j : J) (a' : Listed T) (j' : J)
    → IsOneAtMost id a.entries
    → AreDone ts (keeping id js) t deeds a j a' j'
    → filter (is_by instant t) (left_with ts id a.entries) ≡ fires_with id (taken deeds) ++ filter (is_by instant t) (left_with ts id a'.entries)

-- a run of the job leaves the entry with this id unchanged or removes it, if that id was given
-- before, and the id stays given
abbrev pub MayRemove : {T J F : Type 0} → ℕ → JobCalls T J F → Type 0
MayRemove {T} {J} {F} id js =
    (j : J) (f : AgendaFire) (a : Listed T) (answer : Result ⊤ F) (j' : J) (a' : Listed T)
    → id < a.added
    → js.runs j f a answer j' a'
    → ((with_id id a'.entries ≡ with_id id a.entries) ⊎ (with_id id a'.entries ≡ [])) × (id < a'.added)

-- Of an entry that a run of the job may remove, the fires that were run or passed over are the
-- first that were due.
abbrev pub RemovalCutsThat : {T J F : Type 0} → Tables T → JobCalls T J F → ℕ → Type 0
RemovalCutsThat {T} {J} ts js id =
    (t : ℤ) (deeds : List Deed) (a : Listed T) (j : J) (a' : Listed T) (j' : J)
    → MayRemove id js
    → id < a.added
    → IsOneAtMost id a.entries
    → AreDone ts js t deeds a j a' j'
    → (rest : List EntryFire) × (filter (is_by instant t) (left_with ts id a.entries) ≡ fires_with id (taken deeds) ++ rest)

-- Over whole turns too, the entry's fires that were run or passed over are the first of its fires.
-- An entry that isn't there has none left, so one that was removed fires no more.
abbrev pub EntryTurnsAreItsFires : {T C J E F : Type 0} → Tables T → ClockCalls C E → JobCalls T J F → ℕ → Type 0
EntryTurnsAreItsFires {T} {C} {J} ts cs js id =
    (turns : List (List Deed)) (most left : ℕ) (c : C) (a : Listed T) (j : J) (c' : C) (a' : Listed T) (j' : J)
    → IsOneAtMost id a.entries
    → AreTurns ts cs (keeping id js) turns most c a j left c' a' j'
    → left_with ts id a.entries ≡ fires_with id (all_taken turns) ++ left_with ts id a'.entries

-- of some fires those up to the greatest of these times
abbrev pub due_by : List Timestamp → List EntryFire → List EntryFire
due_by times fires = filter (is_due instant times) fires

-- However whole turns end, what was due of the entry by the times that the clock showed begins with
-- its fires that were run or passed over. What it still has due comes after them.
abbrev pub EntryTurnsBeginThat : {T C J E F : Type 0} → Tables T → ClockCalls C E → JobCalls T J F → ℕ → Type 0
EntryTurnsBeginThat {T} {C} {J} ts cs js id =
    (turns : List (List Deed)) (most left : ℕ) (c : C) (a : Listed T) (j : J) (c' : C) (a' : Listed T) (j' : J)
    → IsOneAtMost id a.entries
    → (are : AreTurns ts cs (keeping id js) turns most c a j left c' a' j')
    → (times : List Timestamp)
    → times ≡ shown_in ts cs (keeping id js) turns most c a j left c' a' j' are
    → due_by times (left_with ts id a.entries) ≡ fires_with id (all_taken turns) ++ due_by times (left_with ts id a'.entries)

-- Over whole turns, if runs were left, the entry's fires that were run or passed over are all that
-- was due of it. That holds if each turn took fewer than 2^64 - 1 fires.
abbrev pub EntryTurnsAreAllDue : {T C J E F : Type 0} → Tables T → ClockCalls C E → JobCalls T J F → ℕ → Type 0
EntryTurnsAreAllDue {T} {C} {J} ts cs js id =
    (turns : List (List Deed)) (most left : ℕ) (c : C) (a : Listed T) (j : J) (c' : C) (a' : Listed T) (j' : J)
    → IsOneAtMost id a.entries
    → Ascend (left_with ts id a.entries)
    → (are : AreTurns ts cs (keeping id js) turns most c a j left c' a' j')
    → 0 < left
    → TakeFewer turns
    → fires_with id (all_taken turns) ≡ due_by (shown_in ts cs (keeping id js) turns most c a j left c' a' j' are) (left_with ts id a.entries)

-- a run of the job leaves the entry with this id unchanged, if that id was given before, and the id
-- stays given
abbrev pub KeepsEntry : {T J F : Type 0} → ℕ → JobCalls T J F → Type 0
KeepsEntry {T} {J} {F} id js =
    (j : J) (f : AgendaFire) (a : Listed T) (answer : Result ⊤ F) (j' : J) (a' : Listed T)
    → id < a.added
    → js.runs j f a answer j' a'
    → (with_id id a'.entries ≡ with_id id a.entries) × (id < a'.added)

-- An entry stays as it is while others are added and removed; and once it is removed it isn't there.
pub record StaysBesideOthers {T : Type 0} (has : T → Seconds) (id : ℕ) : Type 0 where
  pub added :
      (zones : List TimeZone) (table : T) (zone : ℕ) (fires : TimeZone → List EntryFire) (old : Listed T) (answer : Result ℕ AddError) (new : Listed T)
      → id < old.added
      → Adds has zones table zone fires old answer new
      → (with_id id new.entries ≡ with_id id old.entries) × (id < new.added)
  pub removed : (other : ℕ) (es : List (Entry T)) → (other ≡ id → ⊥) → with_id id (without other es) ≡ with_id id es
  pub gone : (es : List (Entry T)) → with_id id (without id es) ≡ []

-- Where a job keeps an entry, its deeds, looks and turns are those of its calls that leave the entry as it is. So the laws above hold.
pub record StaysThroughout {T C J E F : Type 0} (ts : Tables T) (cs : ClockCalls C E) (js : JobCalls T J F) (id : ℕ) : Type 0 where
  pub deeds :
      (t : ℤ) (deeds : List Deed) (a : Listed T) (j : J) (a' : Listed T) (j' : J)
      → id < a.added
      → AreDone ts js t deeds a j a' j'
      → AreDone ts (keeping id js) t deeds a j a' j'
  pub look :
      (t : ℤ) (most left : ℕ) (deeds : List Deed) (a : Listed T) (j : J) (a' : Listed T) (j' : J)
      → id < a.added
      → RunsDue {E = E} ts js t most deeds a j (Ok left) a' j'
      → RunsDue {E = E} ts (keeping id js) t most deeds a j (Ok left) a' j'
  pub failed :
      (t : ℤ) (most : ℕ) (deeds : List Deed) (a : Listed T) (j : J) (e : F) (a' : Listed T) (j' : J)
      → id < a.added
      → RunsDue {E = E} ts js t most deeds a j (Err (Job e)) a' j'
      → RunsDue {E = E} ts (keeping id js) t most deeds a j (Err (Job e)) a' j'
  pub turns :
      (turns : List (List Deed)) (most left : ℕ) (c : C) (a : Listed T) (j : J) (c' : C) (a' : Listed T) (j' : J)
      → id < a.added
      → AreTurns ts cs js turns most c a j left c' a' j'
      → AreTurns ts cs (keeping id js) turns most c a j left c' a' j'
