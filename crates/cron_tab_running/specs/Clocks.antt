-- A clock that notes before each wait how far a run has come, and looks at the files after the
-- wait. A note has the instant up to which everything due was run, the noted instant.
use Rattle.std.specs.Prelude.{◌≡◌, ◌⊎◌, ℕ, Bool, true, false, ◌||◌, int_le, List, Option, Some, None, Result, Ok, Err, ⊤, IsErrAnd, map}
use Rattle.std.specs.IoError.{error_kind}
use Rattle.std.specs.Ordering.{int_eq}
use Rattle.std.specs.declared.io.Error.{Error}
use Rattle.std.specs.declared.io.ErrorKind.TheVariants.{OutOfMemory}
use Rattle.jiff_core.specs.declared.Timestamp.{Timestamp}
use Rattle.cron_agenda_scheduler.specs.declared.stop.AgendaStop.TheVariants as AgendaStop
use Rattle.cron_notes.specs.Changes.{Change}
use Rattle.cron_notes.specs.Replacing.{Replaces}
use Rattle.cron_printing.specs.declared.printer.Printer.{Printer}
use Rattle.cron_tab_running.specs.Noted.{later, note_text, noted_view}
use Rattle.cron_tab_running.specs.declared.failure.Failure.{Failure}
use Rattle.cron_tab_running.specs.declared.failure.Failure.TheVariants.{Stopped}
use Rattle.cron_tab_running.specs.declared.noted.Noted.{Noted}
use Rattle.cron_tab_running.specs.declared.run_clock.Interruption.{Interruption}
use Rattle.cron_tab_running.specs.declared.run_clock.Interruption.TheVariants.{Clock, Unnoted, Changed}
use Rattle.cron_tab_running.specs.declared.run_clock.Notebook.{Notebook}
use Rattle.cron_tab_running.specs.declared.run_clock.RunClock.{RunClock}
use Rattle.cron_tab_running.specs.declared.writer.TabWriter.{TabWriter}

-- what one call of a store may do: the store before it, the change, the answer, and the store after
-- it
abbrev pub Does : Type 0 → Type 1
Does S = S → Change → Result ⊤ Error → S → Type 0

-- The text of the note `n` replaced the file at the notebook's path, up to the first call that
-- failed. Or memory ran out, and no call was made.
abbrev pub Notes : {S : Type 0} → Does S → Noted → Notebook S → Result ⊤ Error → Notebook S → Type 0
Notes does n old answer new =
    (new.path.now ≡ old.path.now)
    × (Replaces does old.path.now (note_text (noted_view n)) old.store answer new.store
    ⊎ (IsErrAnd answer (λ e. error_kind e ≡ OutOfMemory) × (new.store ≡ old.store)))

-- The note was written to the notebook (`Notes`) if there is one. Without one nothing was done.
abbrev pub NotesIn : {S : Type 0} → Does S → Noted → Option (Notebook S) → Result ⊤ Error → Option (Notebook S) → Type 0
NotesIn does n None answer new = (answer ≡ Ok tt) × (new ≡ None)
NotesIn {S} does n (Some old) answer new = (book : Notebook S) × (new ≡ Some book) × Notes does n old answer book

-- All of a run's clock stays but its notebook and `until`, the instant of its last wait with a
-- note.
abbrev pub KeepsAll : {C F S : Type 0} → RunClock C F S → RunClock C F S → Type 0
KeepsAll old new = (new.clock ≡ old.clock) × (new.files ≡ old.files) × (new.noted ≡ old.noted) × (new.seen ≡ old.seen)

-- How far the run has come was noted, if there is a notebook, and nothing else was done.
abbrev pub NotesOnce : {C F S : Type 0} → Does S → RunClock C F S → Result ⊤ Error → RunClock C F S → Type 0
NotesOnce does old answer new = NotesIn does old.noted old.notebook answer new.notebook × KeepsAll old new × (new.until ≡ old.until)

-- whether the last wait with a note was until this instant
abbrev pub is_waited : Option Timestamp → Timestamp → Bool
is_waited None t = false
is_waited (Some until) t = int_eq until.nanosecond t.nanosecond

-- whether an instant is at or before the noted one, so that what fires at it is due already
abbrev pub is_due : Noted → Timestamp → Bool
is_due n t = int_le t.nanosecond n.until.nanosecond

-- whether there is nothing to note before a wait until the instant t: the last wait with a note was
-- until t, or what fires at t is due already
abbrev pub is_settled : {C F S : Type 0} → RunClock C F S → Timestamp → Bool
is_settled clock t = is_waited clock.until t || is_due clock.noted t

-- The instant of the last wait with a note, after a note was tried before a wait until t. It is t
-- if the note was written, and else `old`.
abbrev pub until_behind : Result ⊤ Error → Option Timestamp → Timestamp → Option Timestamp
until_behind (Ok done) old t = Some t
until_behind (Err e) old t = old

-- Before a wait until the instant t a note was written, or that failed, if there was something to
-- note. Else nothing was done.
abbrev pub IsTold : {C F S : Type 0} → Does S → Timestamp → RunClock C F S → Result ⊤ Error → RunClock C F S → Type 0
IsTold does t old answer new =
    ((is_settled old t ≡ true) × (answer ≡ Ok tt) × (new ≡ old))
    ⊎ ((is_settled old t ≡ false) × NotesIn does old.noted old.notebook answer new.notebook × KeepsAll old new
    × (new.until ≡ until_behind answer old.until t))

-- how a run goes on after a look at the files: if they have changed, its clock ends it
abbrev pub went_on : {E : Type 0} → Bool → Result ⊤ (Interruption E)
went_on true = Err Changed
went_on false = Ok tt

-- The time of the last look that found the files unchanged. If this look found a change, it is the
-- time of the one before it.
abbrev pub seen_at : {C F S : Type 0} → Bool → RunClock C F S → Timestamp → Timestamp
seen_at true old now = old.seen
seen_at false old now = later old.noted.until now

-- The clock was read, and then the files were asked whether they have changed; or the clock
-- couldn't be read.
abbrev pub Glances : {C F S E : Type 0} → (C → Result Timestamp E → C → Type 0) → (F → Bool → F → Type 0) → RunClock C F S
    → Result ⊤ (Interruption E) → RunClock C F S → Type 0
Glances {E = E} shows changes old answer new =
    (new.notebook ≡ old.notebook) × (new.noted ≡ old.noted) × (new.until ≡ old.until)
    × (((e : E) × shows old.clock (Err e) new.clock × (new.files ≡ old.files) × (new.seen ≡ old.seen) × (answer ≡ Err (Clock e)))
    ⊎ ((now : Timestamp) × (changed : Bool) × shows old.clock (Ok now) new.clock × changes old.files changed new.files
    × (new.seen ≡ seen_at changed old now) × (answer ≡ went_on changed)))

-- The clock waited until t, and then looked whether the files have changed, unless what fires at t
-- was due already. Or it couldn't wait. No note was written.
abbrev pub WaitsOn : {C F S E : Type 0} → (C → Result Timestamp E → C → Type 0) → (C → Timestamp → Result ⊤ E → C → Type 0) → (F → Bool → F → Type 0)
    → Timestamp → RunClock C F S → Result ⊤ (Interruption E) → RunClock C F S → Type 0
WaitsOn {C} {E = E} shows waits changes t old answer new =
    ((e : E) × waits old.clock t (Err e) new.clock × (new ≡ record old { clock = new.clock }) × (answer ≡ Err (Clock e)))
    ⊎ (((is_due old.noted t ≡ true) × waits old.clock t (Ok tt) new.clock × (new ≡ record old { clock = new.clock }) × (answer ≡ Ok tt))
    ⊎ ((woken : C) × (is_due old.noted t ≡ false) × waits old.clock t (Ok tt) woken × Glances shows changes (record old { clock = woken }) answer new))

-- A wait until t. First a note is written, if there is something to note. If that failed nothing
-- follows; else the clock waits.
abbrev pub Waits : {C F S E : Type 0} → (C → Result Timestamp E → C → Type 0) → (C → Timestamp → Result ⊤ E → C → Type 0) → (F → Bool → F → Type 0)
    → Does S → RunClock C F S → Timestamp → Result ⊤ (Interruption E) → RunClock C F S → Type 0
Waits {C} {F} {S} shows waits changes does old t answer new =
    ((e : Error) × IsTold does t old (Err e) new × (answer ≡ Err (Unnoted e)))
    ⊎ ((between : RunClock C F S) × IsTold does t old (Ok tt) between × WaitsOn shows waits changes t between answer new)

-- What a run's clock makes of a reading of the clock in it: it keeps the latest time shown as the
-- instant noted, and passes an error on.
abbrev pub Sees : {C F S E : Type 0} → RunClock C F S → Result Timestamp (Interruption E) → Result Timestamp E → RunClock C F S → Type 0
Sees old answer (Ok now) new =
    (answer ≡ Ok now) × (new.noted ≡ record old.noted { until = later old.noted.until now })
Sees old answer (Err e) new = (answer ≡ Err (Clock e)) × (new.noted ≡ old.noted)

-- The clock in a run's clock was read. The noted instant may grow, and all else stays.
abbrev pub Shows : {C F S E : Type 0} → (C → Result Timestamp E → C → Type 0) → RunClock C F S → Result Timestamp (Interruption E) → RunClock C F S → Type 0
Shows {E = E} shows old answer new =
    (look : Result Timestamp E) × shows old.clock look new.clock × Sees old answer look new
    × (new.files ≡ old.files) × (new.notebook ≡ old.notebook) × (new.until ≡ old.until) × (new.seen ≡ old.seen)

-- The clock receives the entries of a run, and the instant up to which all their fires were run. No
-- wait was noted yet.
abbrev pub TakesEntries : {C F S : Type 0} → RunClock C F S → Timestamp → List (List ℕ) → RunClock C F S → Type 0
TakesEntries old until entries new =
    (map (λ e. e.items) new.noted.entries.items ≡ entries) × (new.noted.until ≡ until) × (new.clock ≡ old.clock)
    × (new.files ≡ old.files) × (new.notebook ≡ old.notebook) × (new.until ≡ None) × (new.seen ≡ old.seen)

-- ---- a run to its end

abbrev pub noted_end : {E : Type 0} → Result ⊤ Error → Result ⊤ (Failure (Interruption E))
noted_end (Ok done) = Ok tt
noted_end (Err e) = Err (Stopped (AgendaStop.Clock (Unnoted e)))

-- A run ended early; or it ended since no entry fires any more, and then how far it came was noted.
abbrev pub RunsNoted : {C F S E W D : Type 0}
    → (RunClock C F S × TabWriter W × Printer D → Result ⊤ (Failure (Interruption E)) → RunClock C F S × TabWriter W × Printer D → Type 0) → Does S
    → RunClock C F S × TabWriter W × Printer D → Result ⊤ (Failure (Interruption E)) → RunClock C F S × TabWriter W × Printer D → Type 0
RunsNoted {C} {F} {S} {E} {W} {D} runs does old answer new =
    ((stop : Failure (Interruption E)) × runs old (Err stop) new × (answer ≡ Err stop))
    ⊎ ((between : RunClock C F S × TabWriter W × Printer D) × (noted : Result ⊤ Error) × runs old (Ok tt) between × NotesOnce does between.0 noted new.0 × (new.1 ≡ between.1)
    × (answer ≡ noted_end noted))
