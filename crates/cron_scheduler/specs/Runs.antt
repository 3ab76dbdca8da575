-- What a run does, call by call, and which fires it runs.
use Rattle.std.specs.Prelude.{◌≡◌, ◌⊎◌, ◌++◌, ◌*ℤ◌, ℤ, pos, ◌-◌, ◌^◌, ℕ, Bool, true, false, ◌||◌, Option, Some, None, MatchOption, List, [], ◌∷◌, Result, Ok, Err, ⊤, length, filter, slice_get}
use Rattle.std.specs.Option.{option_map}
use Rattle.jiff_core.specs.declared.Timestamp.{Timestamp}
use Rattle.cron_seconds.specs.Rules.{is_by}
use Rattle.cron_scheduler.specs.declared.stop.Stop.{Stop}
use Rattle.cron_scheduler.specs.declared.stop.Stop.TheVariants.{Clock, Job}

-- one call with its answer: a wait until an instant, a reading of the clock, or the job for a fire. Fires are of any type that has their instants.
pub data Event (A E F : Type 0) : Type 0 where
  Wait : Timestamp → Result ⊤ E → Event A E F
  Look : Result Timestamp E → Event A E F
  Run : A → Result ⊤ F → Event A E F

-- what the calls of a clock do: a reading of it, and a wait
pub record ClockCalls (C E : Type 0) : Type 1 where
  pub shows : C → Result Timestamp E → C → Type 0
  pub waits : C → Timestamp → Result ⊤ E → C → Type 0

abbrev pub clock_calls : {C E : Type 0} → (C → Result Timestamp E → C → Type 0) → (C → Timestamp → Result ⊤ E → C → Type 0) → ClockCalls C E
clock_calls shows waits = record { shows = shows; waits = waits }

-- a wait until an instant and, if it didn't fail, a reading of the clock; the answer is the
-- reading, or the failure of one of them
abbrev pub Wakes : {C E : Type 0} → (C → Result Timestamp E → C → Type 0) → (C → Timestamp → Result ⊤ E → C → Type 0) → Timestamp
    → C → Result Timestamp E → C → Type 0
Wakes {C} shows waits t c (Ok now) c' = (mid : C) × waits c t (Ok tt) mid × shows mid (Ok now) c'
Wakes {C} shows waits t c (Err e) c' = waits c t (Err e) c' ⊎ ((mid : C) × waits c t (Ok tt) mid × shows mid (Err e) c')

-- The calls were made one after another: from a clock and a job to what they were afterwards.
abbrev pub Happened : {A C J E F : Type 0} → (C → Result Timestamp E → C → Type 0) → (C → Timestamp → Result ⊤ E → C → Type 0)
    → (J → A → Result ⊤ F → J → Type 0) → List (Event A E F) → C → J → C → J → Type 0
Happened shows waits runs [] c j c' j' = (c' ≡ c) × (j' ≡ j)
Happened {A} {C} shows waits runs (Wait t answer ∷ es) c j c' j' = (next : C) × waits c t answer next × Happened shows waits runs es next j c' j'
Happened {A} {C} shows waits runs (Look answer ∷ es) c j c' j' = (next : C) × shows c answer next × Happened shows waits runs es next j c' j'
Happened {A} {C} {J} shows waits runs (Run r answer ∷ es) c j c' j' = (next : J) × runs j r answer next × Happened shows waits runs es c next c' j'

-- the fires for which the job was run, in order
abbrev pub ran : {A E F : Type 0} → List (Event A E F) → List A
ran [] = []
ran (Wait t answer ∷ es) = ran es
ran (Look answer ∷ es) = ran es
ran (Run r answer ∷ es) = r ∷ ran es

-- the times that the clock showed, in order
abbrev pub shown : {A E F : Type 0} → List (Event A E F) → List Timestamp
shown [] = []
shown (Wait t answer ∷ es) = shown es
shown (Look (Ok t) ∷ es) = t ∷ shown es
shown (Look (Err e) ∷ es) = shown es
shown (Run r answer ∷ es) = shown es

-- the fire's instant is at or before one of these times
abbrev pub is_due : {A : Type 0} → (A → ℤ) → List Timestamp → A → Bool
is_due instant [] r = false
is_due instant (t ∷ ts) r = is_by instant t.nanosecond r || is_due instant ts r

-- of some fires those up to the greatest time that the clock showed
abbrev pub due : {A E F : Type 0} → (A → ℤ) → List A → List (Event A E F) → List A
due instant fires es = filter (is_due instant (shown es)) fires

-- the first of the fires for which the job wasn't run
abbrev pub next : {A E F : Type 0} → List A → List (Event A E F) → Option A
next fires es = slice_get fires (length (ran es))

-- the last call was a wait
abbrev pub HasWaited : {A E F : Type 0} → List (Event A E F) → Type 0
HasWaited {A} {E} {F} es = (earlier : List (Event A E F)) × (t : Timestamp) × (es ≡ earlier ++ Wait t (Ok tt) ∷ [])

-- What may be done after what was done before.
abbrev pub MayFollow : {A E F : Type 0} → (A → ℤ) → List A → List (Event A E F) → Event A E F → Type 0
-- once all that is due was run, a wait until the instant of the fire that comes next
MayFollow instant fires before (Wait t answer) =
    (HasWaited before → ⊥) × (ran before ≡ due instant fires before)
    × (option_map (λ r. instant r *ℤ pos 1_000_000_000) (next fires before) ≡ Some t.nanosecond)
-- after a wait, a look at the clock
MayFollow instant fires before (Look answer) = HasWaited before
-- the job for the fire that comes next, if it is due
MayFollow instant fires before (Run r answer) = (next fires before ≡ Some r) × (is_due instant (shown before) r ≡ true)

abbrev pub failure : {A E F : Type 0} → Event A E F → Option (Stop E F)
failure (Wait t (Ok done)) = None
failure (Wait t (Err e)) = Some (Clock e)
failure (Look (Ok t)) = None
failure (Look (Err e)) = Some (Clock e)
failure (Run r (Ok done)) = None
failure (Run r (Err f)) = Some (Job f)

-- what a failure prints, by what the errors in it print
abbrev pub stop_text : {E F : Type 0} → (E → Option (List ℕ)) → (F → Option (List ℕ)) → Stop E F → Option (List ℕ)
stop_text clock job (Clock e) = clock e
stop_text clock job (Job f) = job f

-- The calls end at the first one that fails, and its failure is the answer.
abbrev pub EndsBy : {A E F : Type 0} → List (Event A E F) → Result ⊤ (Stop E F) → Type 0
EndsBy [] answer = answer ≡ Ok tt
EndsBy (e ∷ es) answer = MatchOption (failure e) (EndsBy es answer) (λ stop. (es ≡ []) × (answer ≡ Err stop))

-- What was run in the end. Where nothing failed it is all that was due, which is all of the fires unless the clock was read
-- 2^64 - 1 times, and no wait came last. Where the clock failed it is all that was due. Where the job failed it is a beginning of
-- that, up to and with the fire for which it failed.
abbrev pub RunsWhole : {A E F : Type 0} → (A → ℤ) → Result ⊤ (Stop E F) → List A → List (Event A E F) → Type 0
RunsWhole instant (Ok done) fires es = (ran es ≡ due instant fires es) × ((ran es ≡ fires) ⊎ (length (shown es) ≡ 2 ^ 64 - 1)) × (HasWaited es → ⊥)
RunsWhole instant (Err (Clock e)) fires es = ran es ≡ due instant fires es
RunsWhole {A} instant (Err (Job f)) fires es = (left : List A) × (due instant fires es ≡ ran es ++ left)

-- A run over some fires: its calls, from a clock and a job to what they were afterwards.
pub record IsRun {A C J E F : Type 0} (clock : ClockCalls C E) (runs : J → A → Result ⊤ F → J → Type 0) (instant : A → ℤ) (fires : List A) (old : C × J)
    (answer : Result ⊤ (Stop E F)) (new : C × J) : Type 0 where
  pub calls : List (Event A E F)
  pub happened : Happened clock.shows clock.waits runs calls old.0 old.1 new.0 new.1
  pub in_turn : (before after : List (Event A E F)) (e : Event A E F) → calls ≡ before ++ e ∷ after → MayFollow instant fires before e
  pub ends : EndsBy calls answer
  pub whole : RunsWhole instant answer fires calls
