-- Which fires of an entry are run in a turn, by its lateness, while jobs add and remove others. A
-- deed is a fire that was taken, and run or passed over.
use Rattle.std.specs.Prelude.{◌≡◌, ◌<◌, ◌-◌, ◌^◌, ◌==◌, ℕ, ℤ, Bool, true, false, List, [], ◌∷◌, Ok, filter, length, map}
use Rattle.cron_agenda.specs.declared.entry.Entry.{Entry}
use Rattle.cron_agenda.specs.declared.fire.AgendaFire.{AgendaFire}
use Rattle.cron_agenda.specs.Entries.{Listed}
use Rattle.cron_agenda_scheduler.specs.declared.lateness.Lateness.{Lateness}
use Rattle.cron_agenda_scheduler.specs.declared.lateness.Lateness.TheVariants.{Each, Within, Latest}
use Rattle.cron_agenda_scheduler.specs.EntryLaws.{keeping, with_id}
use Rattle.cron_agenda_scheduler.specs.Late.{Tables, has_due, is_within}
use Rattle.cron_agenda_scheduler.specs.Turns.{AreDone, Deed, JobCalls, Passed, Ran, RunsDue, fire_of, taken}

-- the tables of these entries have this lateness
abbrev pub HaveLateness : {T : Type 0} → Tables T → Lateness → List (Entry T) → Type 0
HaveLateness ts lateness [] = Unit {0}
HaveLateness ts lateness (e ∷ es) = (ts.lateness e.table ≡ lateness) × HaveLateness ts lateness es

-- the deeds with the fires of the entry with this id, in order
abbrev pub deeds_with : ℕ → List Deed → List Deed
deeds_with id ds = filter (λ d. (fire_of d).id == id) ds

-- the deed of a fire: the job was run for it if this is true, and else it was passed over
abbrev pub done_if : Bool → AgendaFire → Deed
done_if true f = Ran f
done_if false f = Passed f

-- the job was run for the last of some fires, and the others were passed over
abbrev pub last_ran : List AgendaFire → List Deed
last_ran [] = []
last_ran (f ∷ []) = Ran f ∷ []
last_ran (f ∷ g ∷ fs) = Passed f ∷ last_ran (g ∷ fs)

-- If the lateness of an entry that stays is `Each`, the job was run for each of its fires that was
-- taken.
abbrev pub EachIsRun : {T J F : Type 0} → Tables T → JobCalls T J F → ℕ → Type 0
EachIsRun {T} {J} ts js id =
    (t : ℤ) (deeds : List Deed) (a : Listed T) (j : J) (a' : Listed T) (j' : J)
    → HaveLateness ts Each (with_id id a.entries)
    → AreDone ts (keeping id js) t deeds a j a' j'
    → deeds_with id deeds ≡ map Ran (taken (deeds_with id deeds))

-- If the lateness of an entry that stays is `Within`, the job was run for exactly those of its
-- fires that were no older at the look.
abbrev pub WithinIsByAge : {T J F : Type 0} → Tables T → JobCalls T J F → ℕ → Type 0
WithinIsByAge {T} {J} ts js id =
    (t : ℤ) (seconds : ℕ) (deeds : List Deed) (a : Listed T) (j : J) (a' : Listed T) (j' : J)
    → HaveLateness ts (Within seconds) (with_id id a.entries)
    → AreDone ts (keeping id js) t deeds a j a' j'
    → deeds_with id deeds ≡ map (λ f. done_if (is_within seconds t f.fire) f) (taken (deeds_with id deeds))

-- the job was run for the last of some fires, and the others were passed over; if the entry has
-- more due, all were passed over
abbrev pub last_ran_if_none : Bool → List AgendaFire → List Deed
last_ran_if_none true fs = map Passed fs
last_ran_if_none false fs = last_ran fs

-- Let the lateness of an entry that stays be `Latest`. Then the job was run for the last of its
-- fires that were taken, if it has none due any more, and else for none.
abbrev pub LatestRunsNoOther : {T J F : Type 0} → Tables T → JobCalls T J F → ℕ → Type 0
LatestRunsNoOther {T} {J} ts js id =
    (t : ℤ) (deeds : List Deed) (a : Listed T) (j : J) (a' : Listed T) (j' : J)
    → HaveLateness ts Latest (with_id id a.entries)
    → AreDone ts (keeping id js) t deeds a j a' j'
    → deeds_with id deeds ≡ last_ran_if_none (has_due t id a'.entries) (taken (deeds_with id deeds))

-- If the lateness of an entry that stays is `Latest`, the job was run for the last of its fires
-- that were taken. That holds if runs were left and fewer than 2^64 - 1 fires were taken.
abbrev pub LatestRunsTheLast : {T J F : Type 0} → Tables T → JobCalls T J F → ℕ → Type 0 → Type 0
LatestRunsTheLast {T} {J} {F} ts js id E =
    (t : ℤ) (most left : ℕ) (deeds : List Deed) (a : Listed T) (j : J) (a' : Listed T) (j' : J)
    → HaveLateness ts Latest (with_id id a.entries)
    → RunsDue {E = E} ts (keeping id js) t most deeds a j (Ok left) a' j'
    → 0 < left
    → length deeds < 2 ^ 64 - 1
    → deeds_with id deeds ≡ last_ran (taken (deeds_with id deeds))

-- all tables have this lateness, also those of entries that a job adds
abbrev pub AllHave : {T : Type 0} → Tables T → Lateness → Type 0
AllHave {T} ts lateness = (table : T) → ts.lateness table ≡ lateness

-- If the lateness of all tables is `Each`, the job was run for each fire that was taken, whatever
-- it does to the entries.
abbrev pub AllAreRun : {T J F : Type 0} → Tables T → JobCalls T J F → Type 0
AllAreRun {T} {J} ts js =
    (t : ℤ) (deeds : List Deed) (a : Listed T) (j : J) (a' : Listed T) (j' : J)
    → AllHave ts Each
    → AreDone ts js t deeds a j a' j'
    → deeds ≡ map Ran (taken deeds)

-- If the lateness of all tables is `Within` the same seconds, the job was run for exactly the fires
-- that were no older at the look.
abbrev pub AllAreByAge : {T J F : Type 0} → Tables T → JobCalls T J F → Type 0
AllAreByAge {T} {J} ts js =
    (t : ℤ) (seconds : ℕ) (deeds : List Deed) (a : Listed T) (j : J) (a' : Listed T) (j' : J)
    → AllHave ts (Within seconds)
    → AreDone ts js t deeds a j a' j'
    → deeds ≡ map (λ f. done_if (is_within seconds t f.fire) f) (taken deeds)
