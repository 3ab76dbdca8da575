-- What the loop over an agenda does: turn after turn, each a wait, a look at the clock, and all that is due then.
use Rattle.std.specs.Prelude.{◌≡◌, ◌⊎◌, ◌+◌, ◌-◌, ◌^◌, ◌<◌, ◌*ℤ◌, ℕ, ℤ, pos, Bool, true, false, Option, Some, None, List, [], ◌∷◌, ◌++◌, Result, Ok, Err, ⊤, length, map}
use Rattle.std.proofs.Common.{inl, inr}
use Rattle.std.specs.Option.{is_some}
use Rattle.jiff_core.specs.declared.Timestamp.{Timestamp}
use Rattle.cron_agenda.specs.declared.entry.Entry.{Entry}
use Rattle.cron_agenda.specs.declared.fire.AgendaFire.{AgendaFire}
use Rattle.cron_agenda.specs.Entries.{ComesFirst, Listed, TakesDue}
use Rattle.cron_agenda.specs.Fires.{instant}
use Rattle.cron_scheduler.specs.Runs.{ClockCalls, Wakes}
use Rattle.cron_agenda_scheduler.specs.declared.stop.AgendaStop.{AgendaStop}
use Rattle.cron_agenda_scheduler.specs.declared.stop.AgendaStop.TheVariants.{Clock, Zone, Job}
use Rattle.cron_agenda_scheduler.specs.Late.{IsPicked, Tables}

-- what the calls of a job do: a run, which has the agenda too, and a call for a fire that is passed
-- over
pub record JobCalls (T J F : Type 0) : Type 1 where
  pub runs : J → AgendaFire → Listed T → Result ⊤ F → J → Listed T → Type 0
  pub passes : J → AgendaFire → J → Type 0

abbrev pub job_calls : {T J F : Type 0} → (J → AgendaFire → Listed T → Result ⊤ F → J → Listed T → Type 0) → (J → AgendaFire → J → Type 0) → JobCalls T J F
job_calls runs passes = record { runs = runs; passes = passes }

-- what was done with a fire that was taken: the job was run for it and went well, or it was passed over
pub data Deed : Type 0 where
  Ran : AgendaFire → Deed
  Passed : AgendaFire → Deed

abbrev pub fire_of : Deed → AgendaFire
fire_of (Ran f) = f
fire_of (Passed f) = f

-- the fires that were taken, in order
abbrev pub taken : List Deed → List AgendaFire
taken ds = map fire_of ds

-- how often the job was run
abbrev pub runs_in : List Deed → ℕ
runs_in [] = 0
runs_in (Ran f ∷ ds) = 1 + runs_in ds
runs_in (Passed f ∷ ds) = runs_in ds

-- the first fire that was due by t was taken; the job was run for it, or it was passed over, by the
-- lateness of its entry
abbrev pub IsDone : {T J F : Type 0} → Tables T → JobCalls T J F → ℤ → Deed → Listed T → J → Listed T → J → Type 0
IsDone {T} ts js t (Ran f) a j c k = (b : Listed T) × IsPicked ts t a f true b × js.runs j f b (Ok tt) k c
IsDone ts js t (Passed f) a j c k = IsPicked ts t a f false c × js.passes j f k

-- the deeds were done one after another
abbrev pub AreDone : {T J F : Type 0} → Tables T → JobCalls T J F → ℤ → List Deed → Listed T → J → Listed T → J → Type 0
AreDone ts js t [] a j a' j' = (a' ≡ a) × (j' ≡ j)
AreDone {T} {J} ts js t (d ∷ ds) a j a' j' = (b : Listed T) × (k : J) × IsDone ts js t d a j b k × AreDone ts js t ds b k a' j'

-- before each of these deeds a run was left, of `most` at first
abbrev pub HadRuns : ℕ → List Deed → Type 0
HadRuns most [] = Unit {0}
HadRuns most (Ran f ∷ ds) = (0 < most) × HadRuns (most - 1) ds
HadRuns most (Passed f ∷ ds) = (0 < most) × HadRuns most ds

-- What ended a turn after these deeds, where the job may be run `most` times. Nothing more was due,
-- no run was left, or 2^64 - 1 fires were taken; or a zone was missing; or the job failed for one
-- more.
abbrev pub EndsTurn : {T J E F : Type 0} → Tables T → JobCalls T J F → ℤ → ℕ → List Deed → Listed T → J → Result ℕ (AgendaStop E F) → Listed T → J → Type 0
EndsTurn ts js t most ds a j (Ok left) a' j' =
    (runs_in ds + left ≡ most) × (j' ≡ j)
    × (TakesDue ts.has ts.zones t a (Ok None) a' ⊎ ((a' ≡ a) × ((left ≡ 0) ⊎ (length ds ≡ 2 ^ 64 - 1))))
EndsTurn ts js t most ds a j (Err (Clock e)) a' j' = ⊥
EndsTurn ts js t most ds a j (Err (Zone why)) a' j' = (runs_in ds < most) × (j' ≡ j) × TakesDue ts.has ts.zones t a (Err why) a'
EndsTurn {T} ts js t most ds a j (Err (Job e)) a' j' =
    (runs_in ds < most) × (f : AgendaFire) × (b : Listed T) × IsPicked ts t a f true b × js.runs j f b (Err e) j' a'

-- what an error prints, by what the errors in it print
abbrev pub stop_text : {E F : Type 0} → (E → Option (List ℕ)) → Option (List ℕ) → (F → Option (List ℕ)) → AgendaStop E F → Option (List ℕ)
stop_text clock missing job (Clock e) = clock e
stop_text clock missing job (Zone why) = missing
stop_text clock missing job (Job f) = job f

-- the deeds with all that was due by t, up to the last run or to what ended the turn. They go from
-- an agenda and a job to what these were afterwards
pub record RunsDue {T J E F : Type 0} (ts : Tables T) (js : JobCalls T J F) (t : ℤ) (most : ℕ) (ds : List Deed) (a : Listed T) (j : J)
    (answer : Result ℕ (AgendaStop E F)) (a' : Listed T) (j' : J) : Type 0 where
  pub agenda : Listed T
  pub job : J
  pub are_done : AreDone ts js t ds a j agenda job
  pub had_runs : HadRuns most ds
  pub ends : EndsTurn ts js t most ds agenda job answer a' j'

-- what a turn did after a look at the clock: nothing if that failed, and else all that was due
abbrev pub Looks : {T J E F : Type 0} → Tables T → JobCalls T J F → ℕ → List Deed → Result Timestamp E → Listed T → J → Result (Option ℕ) (AgendaStop E F)
    → Listed T → J → Type 0
Looks ts js most ds (Err e) a j answer a' j' = (answer ≡ Err (Clock e)) × (ds ≡ []) × (a' ≡ a) × (j' ≡ j)
Looks ts js most ds (Ok now) a j (Ok None) a' j' = ⊥
Looks {E = E} ts js most ds (Ok now) a j (Ok (Some left)) a' j' = RunsDue {E = E} ts js now.nanosecond most ds a j (Ok left) a' j'
Looks ts js most ds (Ok now) a j (Err stop) a' j' = RunsDue ts js now.nanosecond most ds a j (Err stop) a' j'

-- A wait until the instant of what fires next, a look, and all that is due then.
pub record Turn {T C J E F : Type 0} (ts : Tables T) (cs : ClockCalls C E) (js : JobCalls T J F) (most : ℕ) (ds : List Deed) (c : C) (a : Listed T) (j : J)
    (answer : Result (Option ℕ) (AgendaStop E F)) (c' : C) (a' : Listed T) (j' : J) : Type 0 where
  pub entry : Entry T
  pub first : ComesFirst a.entries entry
  pub until : Timestamp
  pub is : until.nanosecond ≡ instant entry.fire *ℤ pos 1_000_000_000
  pub look : Result Timestamp E
  pub wakes : Wakes cs.shows cs.waits until c look c'
  pub looks : Looks ts js most ds look a j answer a' j'

-- what a turn does: nothing if there are no entries, and else a wait, a look and all that is due
-- then. The answer says how many of `most` runs are left
abbrev pub Turns : {T C J E F : Type 0} → Tables T → ClockCalls C E → JobCalls T J F → ℕ → List Deed → C → Listed T → J → Result (Option ℕ) (AgendaStop E F)
    → C → Listed T → J → Type 0
Turns ts cs js most ds c a j answer c' a' j' =
    ((answer ≡ Ok None) × (ds ≡ []) × (a.entries ≡ []) × (c' ≡ c) × (a' ≡ a) × (j' ≡ j)) ⊎ Turn ts cs js most ds c a j answer c' a' j'

abbrev pub went : {S : Type 0} → Result (Option ℕ) S → Result Bool S
went (Ok left) = Ok (is_some left)
went (Err stop) = Err stop

-- a step: one turn, of up to 2^64 - 1 runs, and whether there was an entry
pub record Steps {T C J E F : Type 0} (ts : Tables T) (cs : ClockCalls C E) (js : JobCalls T J F) (c : C) (a : Listed T) (j : J)
    (answer : Result Bool (AgendaStop E F)) (c' : C) (a' : Listed T) (j' : J) : Type 0 where
  pub deeds : List Deed
  pub turned : Result (Option ℕ) (AgendaStop E F)
  pub turns : Turns ts cs js (2 ^ 64 - 1) deeds c a j turned c' a' j'
  pub told : answer ≡ went turned

-- turns one after another, with their deeds, each begun while a run was left: from `most` runs to
-- how many are left
abbrev pub AreTurns : {T C J E F : Type 0} → Tables T → ClockCalls C E → JobCalls T J F → List (List Deed) → ℕ → C → Listed T → J → ℕ → C → Listed T → J → Type 0
AreTurns ts cs js [] most c a j left c' a' j' = (left ≡ most) × (c' ≡ c) × (a' ≡ a) × (j' ≡ j)
AreTurns {T} {C} {J} ts cs js (ds ∷ dss) most c a j left c' a' j' =
    (0 < most) × (rest : ℕ) × (d : C) × (b : Listed T) × (k : J) × Turns ts cs js most ds c a j (Ok (Some rest)) d b k
    × AreTurns ts cs js dss rest d b k left c' a' j'

-- the fires that were taken in all turns, in order
abbrev pub all_taken : List (List Deed) → List AgendaFire
all_taken [] = []
all_taken (ds ∷ dss) = taken ds ++ all_taken dss

-- in each of the turns fewer than 2^64 - 1 fires were taken
abbrev pub TakeFewer : List (List Deed) → Type 0
TakeFewer [] = Unit {0}
TakeFewer (ds ∷ dss) = (length ds < 2 ^ 64 - 1) × TakeFewer dss

-- the time that a look showed, if it went well
abbrev pub shown_by : {E : Type 0} → Result Timestamp E → List Timestamp
shown_by (Ok now) = now ∷ []
shown_by (Err e) = []

-- the time that the clock showed in a turn, if it was read
abbrev pub shown_at : {T C J E F : Type 0} (ts : Tables T) (cs : ClockCalls C E) (js : JobCalls T J F) (most : ℕ) (ds : List Deed) (c : C) (a : Listed T) (j : J)
    (answer : Result (Option ℕ) (AgendaStop E F)) (c' : C) (a' : Listed T) (j' : J) → Turns ts cs js most ds c a j answer c' a' j' → List Timestamp
shown_at ts cs js most ds c a j answer c' a' j' (inl none) = []
shown_at ts cs js most ds c a j answer c' a' j' (inr turn) = shown_by turn.look

-- the times that the clock showed in all turns, in order
abbrev pub shown_in : {T C J E F : Type 0} (ts : Tables T) (cs : ClockCalls C E) (js : JobCalls T J F) (dss : List (List Deed)) (most : ℕ) (c : C) (a : Listed T)
    (j : J) (left : ℕ) (c' : C) (a' : Listed T) (j' : J) → AreTurns ts cs js dss most c a j left c' a' j' → List Timestamp
shown_in ts cs js [] most c a j left c' a' j' are = []
shown_in ts cs js (ds ∷ dss) most c a j left c' a' j' are =
    shown_at ts cs js most ds c a j (Ok (Some are.1)) are.2 are.3 are.4 are.5 ++ shown_in ts cs js dss are.1 are.2 are.3 are.4 left c' a' j' are.6

-- how often the job was run in all turns
abbrev pub all_runs : List (List Deed) → ℕ
all_runs [] = 0
all_runs (ds ∷ dss) = runs_in ds + all_runs dss

-- What ended a run after its turns: no run was left, or there were no entries, or there were 2^64 -
-- 1 turns. Or a run was left, and its turn ended with an error.
abbrev pub EndsRun : {T C J E F : Type 0} → Tables T → ClockCalls C E → JobCalls T J F → ℕ → ℕ → C → Listed T → J → Result ⊤ (AgendaStop E F) → C → Listed T → J
    → Type 0
EndsRun ts cs js turns left c a j (Ok done) c' a' j' =
    (c' ≡ c) × (a' ≡ a) × (j' ≡ j) × ((left ≡ 0) ⊎ ((a.entries ≡ []) ⊎ (turns ≡ 2 ^ 64 - 1)))
EndsRun ts cs js turns left c a j (Err stop) c' a' j' = (0 < left) × (ds : List Deed) × Turns ts cs js left ds c a j (Err stop) c' a' j'

-- a run of the loop: its turns, in which the job was run `most` times at most, and what ended it
pub record RunsLoop {T C J E F : Type 0} (ts : Tables T) (cs : ClockCalls C E) (js : JobCalls T J F) (most : ℕ) (c : C) (a : Listed T) (j : J)
    (answer : Result ⊤ (AgendaStop E F)) (c' : C) (a' : Listed T) (j' : J) : Type 0 where
  pub deeds : List (List Deed)
  pub left : ℕ
  pub clock : C
  pub agenda : Listed T
  pub job : J
  pub are_turns : AreTurns ts cs js deeds most c a j left clock agenda job
  pub counted : all_runs deeds + left ≡ most
  pub ends : EndsRun ts cs js (length deeds) left clock agenda job answer c' a' j'
