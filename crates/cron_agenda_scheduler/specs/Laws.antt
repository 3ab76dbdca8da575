-- Which fires of all entries the deeds of turns and of whole runs are, where the job leaves the
-- agenda unchanged. A deed is a fire that was taken, and run or passed over.
use Rattle.std.specs.Prelude.{◌≡◌, ◌<◌, ◌-◌, ◌^◌, ◌*ℤ◌, ℕ, ℤ, pos, Bool, int_le, List, [], ◌∷◌, ◌++◌, Result, Ok, Err, ⊤, filter, length, map}
use Rattle.cron_agenda.specs.declared.entry.Entry.{Entry}
use Rattle.cron_agenda.specs.declared.fire.AgendaFire.{AgendaFire}
use Rattle.cron_agenda.specs.Entries.{HaveIds, Listed, listed}
use Rattle.cron_agenda.specs.Fires.{instant}
use Rattle.cron_agenda.specs.Merged.{AllAscend, AreTaken, Ascend, OwnFire, left, merged, own_of, owned, IsAnew}
use Rattle.cron_agenda_scheduler.specs.declared.stop.AgendaStop.{AgendaStop}
use Rattle.cron_agenda_scheduler.specs.declared.stop.AgendaStop.TheVariants.{Clock, Zone, Job}
use Rattle.cron_agenda_scheduler.specs.Late.{Tables}
use Rattle.cron_agenda_scheduler.specs.Turns.{AreDone, AreTurns, Deed, EndsRun, JobCalls, RunsDue, RunsLoop, Turns, all_taken, taken}
use Rattle.cron_scheduler.specs.Runs.{ClockCalls}

-- a run of the job leaves the agenda as it is
abbrev pub LeavesAgenda : {T J F : Type 0} → JobCalls T J F → Type 0
LeavesAgenda {T} {J} {F} js = (j : J) (f : AgendaFire) (a : Listed T) (answer : Result ⊤ F) (j' : J) (a' : Listed T) → js.runs j f a answer j' a' → a' ≡ a

-- the instant of a fire is t, which is in nanoseconds since 1970, or comes before it
abbrev pub is_due : ℤ → OwnFire → Bool
is_due t o = int_le (instant o.fire *ℤ pos 1_000_000_000) t

-- What was run and what was passed over are fires that were taken one after another.
abbrev pub DeedsAreTaken : {T J F : Type 0} → (ts : Tables T) → JobCalls T J F → Type 0
DeedsAreTaken {T} {J} ts js =
    (t : ℤ) (deeds : List Deed) (a : Listed T) (j : J) (a' : Listed T) (j' : J)
    → LeavesAgenda js
    → AreDone ts js t deeds a j a' j'
    → AreTaken ts.has ts.zones (taken deeds) a.entries a'.entries

-- What was run and what was passed over is all that was due, in order, each once, if runs were left
-- and fewer than 2^64 - 1 fires were taken.
abbrev pub DeedsAreAllDue : {T J F : Type 0} → (ts : Tables T) → JobCalls T J F → Type 0 → Type 0
DeedsAreAllDue {T} {J} {F} ts js E =
    (t : ℤ) (most left : ℕ) (deeds : List Deed) (a : Listed T) (j : J) (a' : Listed T) (j' : J)
    → LeavesAgenda js
    → AllAscend ts.has ts.zones a.entries
    → RunsDue {E = E} ts js t most deeds a j (Ok left) a' j'
    → 0 < left
    → length deeds < 2 ^ 64 - 1
    → map own_of (taken deeds) ≡ filter (is_due t) (merged ts.has ts.zones a.entries)

-- What the turns of a whole run ran and passed over are fires that were taken one after another.
abbrev pub TurnsAreTaken : {T C J E F : Type 0} → (ts : Tables T) → ClockCalls C E → JobCalls T J F → Type 0
TurnsAreTaken {T} {C} {J} ts cs js =
    (turns : List (List Deed)) (most left : ℕ) (c : C) (a : Listed T) (j : J) (c' : C) (a' : Listed T) (j' : J)
    → LeavesAgenda js
    → AreTurns ts cs js turns most c a j left c' a' j'
    → AreTaken ts.has ts.zones (all_taken turns) a.entries a'.entries

-- A run that ends after any turn may be followed by one from the entries as they were then. Both
-- take what an uncut run would take: a front of all that the entries have, in order, each once.
abbrev pub RunsThatMeetAreOne : {T C J E F : Type 0} → (ts : Tables T) → ClockCalls C E → JobCalls T J F → Type 0
RunsThatMeetAreOne {T} {C} {J} ts cs js =
    (first second : List (List Deed)) (most left more rest : ℕ) (c d e g : C) (a b z : Listed T) (j k l m : J)
    → LeavesAgenda js
    → AllAscend ts.has ts.zones a.entries
    → AreTurns ts cs js first most c a j left d b k
    → AreTurns ts cs js second more e b l rest g z m
    → merged ts.has ts.zones a.entries ≡ (map own_of (all_taken first) ++ map own_of (all_taken second)) ++ merged ts.has ts.zones z.entries

-- After a restart a run may go on from entries that are added anew past all that was run or passed
-- over. Both runs take what an uncut run would take, fire for fire.
abbrev pub RestartedRunsAreOne : {T C J E F : Type 0} → (ts : Tables T) → ClockCalls C E → JobCalls T J F → Type 0
RestartedRunsAreOne {T} {C} {J} ts cs js =
    (first second : List (List Deed)) (most left more rest low high from end : ℕ) (c d e g : C) (a b n z : Listed T) (j k l m : J)
    → LeavesAgenda js
    → AllAscend ts.has ts.zones a.entries
    → HaveIds low a.entries high
    → HaveIds from n.entries end
    → AreTurns ts cs js first most c a j left d b k
    → IsAnew ts.has ts.zones (all_taken first) a.entries n.entries
    → AreTurns ts cs js second more e n l rest g z m
    → map (λ o. o.fire) (merged ts.has ts.zones a.entries)
    ≡ (map (λ f. f.fire) (all_taken first) ++ map (λ f. f.fire) (all_taken second)) ++ map (λ o. o.fire) (merged ts.has ts.zones z.entries)

-- The fires that a run takes of a single entry are its own fires in their order, as a plan of one
-- schedule has them.
abbrev pub OneEntryTakesItsFires : {T C J E F : Type 0} → (ts : Tables T) → ClockCalls C E → JobCalls T J F → Type 0
OneEntryTakesItsFires {T} {C} {J} ts cs js =
    (turns : List (List Deed)) (most runs added room : ℕ) (c d : C) (e : Entry T) (b : Listed T) (j k : J)
    → LeavesAgenda js
    → Ascend (left ts.has ts.zones e)
    → AreTurns ts cs js turns most c (listed (e ∷ []) added room) j runs d b k
    → owned e.id (left ts.has ts.zones e) ≡ map own_of (all_taken turns) ++ merged ts.has ts.zones b.entries

-- the job failed for this fire with this error, and this is what it left of the agenda and of
-- itself
abbrev pub FailsFor : {T J F : Type 0} → JobCalls T J F → AgendaFire → F → Listed T → J → Type 0
FailsFor {T} {J} js f e a' j' = (k : J) × (b : Listed T) × js.runs k f b (Err e) j' a'

-- These are just the fires that a cut turn took: those of its deeds and then, if the job failed,
-- the one for which it failed.
abbrev pub IsCut : {T J E F : Type 0} → JobCalls T J F → List Deed → AgendaStop E F → List AgendaFire → Listed T → J → Type 0
IsCut js ds (Clock e) fires a' j' = fires ≡ taken ds
IsCut js ds (Zone why) fires a' j' = fires ≡ taken ds
IsCut js ds (Job e) fires a' j' = (f : AgendaFire) × (fires ≡ taken ds ++ f ∷ []) × FailsFor js f e a' j'

-- These are just the fires that a run took after its whole turns: none if it ended well, and else
-- those of the turn that was cut.
abbrev pub TookLast : {T C J E F : Type 0} (ts : Tables T) (cs : ClockCalls C E) (js : JobCalls T J F) (turns left : ℕ) (c : C) (a : Listed T) (j : J)
    (answer : Result ⊤ (AgendaStop E F)) (c' : C) (a' : Listed T) (j' : J) → EndsRun ts cs js turns left c a j answer c' a' j' → List AgendaFire → Type 0
TookLast ts cs js turns left c a j (Ok done) c' a' j' ends fires = fires ≡ []
TookLast ts cs js turns left c a j (Err stop) c' a' j' ends fires = IsCut js ends.1 stop fires a' j'

-- A turn that the clock, the job or a missing zone cut took its fires one after another: those of
-- its deeds, and the one for which the job failed.
abbrev pub CutTurnIsTaken : {T C J E F : Type 0} → (ts : Tables T) → ClockCalls C E → JobCalls T J F → Type 0
CutTurnIsTaken {T} {C} {J} {E} {F} ts cs js =
    (most : ℕ) (ds : List Deed) (c : C) (a : Listed T) (j : J) (stop : AgendaStop E F) (c' : C) (a' : Listed T) (j' : J)
    → LeavesAgenda js
    → Turns ts cs js most ds c a j (Err stop) c' a' j'
    → (fires : List AgendaFire) × IsCut js ds stop fires a' j' × AreTaken ts.has ts.zones fires a.entries a'.entries

-- However a run ends, its fires were taken one after another. First come those of its whole turns,
-- and then just those of the turn that was cut. So the run can be continued.
abbrev pub WhatWasTaken : {T C J E F : Type 0} → (ts : Tables T) → ClockCalls C E → JobCalls T J F → Type 0
WhatWasTaken {T} {C} {J} {E} {F} ts cs js =
    (most : ℕ) (c : C) (a : Listed T) (j : J) (answer : Result ⊤ (AgendaStop E F)) (c' : C) (a' : Listed T) (j' : J)
    → LeavesAgenda js
    → (run : RunsLoop ts cs js most c a j answer c' a' j')
    → (last : List AgendaFire)
    × TookLast ts cs js (length run.deeds) run.left run.clock run.agenda run.job answer c' a' j' run.ends last
    × AreTaken ts.has ts.zones (all_taken run.deeds ++ last) a.entries a'.entries

-- Each entry is added anew after a restart, past all the fires of a run that was cut anywhere. Then
-- this run, and one from those entries, take together what an uncut run would take, fire for fire.
abbrev pub RestartedAnywhereIsOne : {T C J E F : Type 0} → (ts : Tables T) → ClockCalls C E → JobCalls T J F → Type 0
RestartedAnywhereIsOne {T} {C} {J} ts cs js =
    (fires : List AgendaFire) (second : List (List Deed)) (more rest low high from end : ℕ) (e g : C) (a b n z : Listed T) (l m : J)
    → LeavesAgenda js
    → AllAscend ts.has ts.zones a.entries
    → HaveIds low a.entries high
    → HaveIds from n.entries end
    → AreTaken ts.has ts.zones fires a.entries b.entries
    → IsAnew ts.has ts.zones fires a.entries n.entries
    → AreTurns ts cs js second more e n l rest g z m
    → map (λ o. o.fire) (merged ts.has ts.zones a.entries)
    ≡ (map (λ f. f.fire) fires ++ map (λ f. f.fire) (all_taken second)) ++ map (λ o. o.fire) (merged ts.has ts.zones z.entries)
