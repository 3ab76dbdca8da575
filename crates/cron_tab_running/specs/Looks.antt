-- Looks at crontabs, which read the clock and then the files, and runs of what they found.
use Rattle.std.specs.Prelude.{◌≡◌, ◌⊎◌, ◌-◌, ◌^◌, ◌==◌, ◌+ℤ◌, ℕ, zero, suc, pos, Bool, true, int_lt, nat_lt, List, [], Option, Result, Ok, Err, ⊤, codes, length, map, if◌then◌else◌}
use Rattle.std.specs.String.{string_bytes}
use Rattle.std.specs.declared.alloc.Global.{Global}
use Rattle.std.specs.declared.vec.Vec.{Vec}
use Rattle.jiff_core.specs.declared.Timestamp.{Timestamp}
use Rattle.jiff_tz.specs.declared.timezone.TimeZone.{TimeZone}
use Rattle.cron_agenda_scheduler.specs.declared.stop.AgendaStop.TheVariants as AgendaStop
use Rattle.cron_printing.specs.Printing.{PrintsText, WriterCalls}
use Rattle.cron_printing.specs.declared.printer.Printer.{Printer}
use Rattle.cron_printing.specs.declared.printer.WriteFailed.{WriteFailed}
use Rattle.cron_scheduler.specs.Runs.{ClockCalls}
use Rattle.cron_tab_lines.specs.declared.zones.NamedZone.{NamedZone}
use Rattle.cron_tab_running.specs.Clocks.{Does, Glances, RunsNoted, TakesEntries}
use Rattle.cron_tab_running.specs.Noted.{Noted, later, noted_view}
use Rattle.cron_tab_running.specs.Running.{RunsFiles}
use Rattle.cron_tab_running.specs.declared.crontabs.Tab.{Tab}
use Rattle.cron_tab_running.specs.declared.failure.Failure.{Failure}
use Rattle.cron_tab_running.specs.declared.failure.Failure.TheVariants.{OutOfMemory, Stopped, Untold}
use Rattle.cron_tab_running.specs.declared.looks.FollowError.{FollowError}
use Rattle.cron_tab_running.specs.declared.looks.FollowError.TheVariants.{Files, Run}
use Rattle.cron_tab_running.specs.declared.orders.RunOrders.{RunOrders}
use Rattle.cron_tab_running.specs.declared.orders.TabFile.{TabFile}
use Rattle.cron_tab_running.specs.declared.run_clock.Interruption.{Interruption}
use Rattle.cron_tab_running.specs.declared.run_clock.Interruption.TheVariants.{Clock, Changed}
use Rattle.cron_tab_running.specs.declared.run_clock.RunClock.{RunClock}
use Rattle.cron_tab_running.specs.declared.writer.TabWriter.{TabWriter}

-- whether no entry is noted
abbrev pub has_none : Noted → Bool
has_none n = length n.entries == 0

-- the error of a run that its clock ended
abbrev pub stopped : {E D : Type 0} → Interruption E → FollowError E D
stopped stop = Run (Stopped (AgendaStop.Clock stop))

abbrev pub or_error : {E D : Type 0} → Result (Vec Tab Global) D → Result (Vec Tab Global) (FollowError E D)
or_error (Ok tabs) = Ok tabs
or_error (Err d) = Err (Files d)

-- A look: the clock was read, and then the files; or the clock couldn't be read.
abbrev pub Looks : {C F S E D : Type 0} → (C → Result Timestamp E → C → Type 0) → (F → Result (Vec Tab Global) D → F → Type 0) → RunClock C F S
    → Result (Vec Tab Global) (FollowError E D) → RunClock C F S → Type 0
Looks {E = E} {D = D} shows finds old answer new =
    (new.notebook ≡ old.notebook) × (new.noted ≡ old.noted) × (new.until ≡ old.until)
    × (((e : E) × shows old.clock (Err e) new.clock × (new.files ≡ old.files) × (new.seen ≡ old.seen) × (answer ≡ Err (stopped (Clock e))))
    ⊎ ((now : Timestamp) × (found : Result (Vec Tab Global) D) × shows old.clock (Ok now) new.clock × finds old.files found new.files
    × (new.seen ≡ later old.noted.until now) × (answer ≡ or_error found)))

-- a crontab as it is run: its name and its bytes
abbrev pub run_as : TabFile → List ℕ × List ℕ
run_as file = (file.name.now, file.bytes.now)

abbrev pub found_as : Tab → List ℕ × List ℕ
found_as tab = (string_bytes tab.name, tab.bytes.items)

-- The files that are run have the names and bytes of those that were found.
abbrev pub AreFound : List Tab → List TabFile → Type 0
AreFound tabs files = map run_as files ≡ map found_as tabs

-- what a run of files starts from and leaves: its clock, the writer of texts, and the printer of
-- messages
abbrev pub Around : Type 0 → Type 0 → Type 0 → Type 0 → Type 0 → Type 0
Around C F S W D = RunClock C F S × TabWriter W × Printer D

-- `named` are the orders `o` with these names of zones.
abbrev pub with_names : RunOrders → List NamedZone → RunOrders → Type 0
with_names o names named = (named.tasks.names.now ≡ names) × (named ≡ record o { tasks = record o.tasks { names = named.tasks.names } })

-- Files were run in these zones, which `CRON_TZ` sets by these names.
abbrev pub RunsZoned : {C F S E W D : Type 0} → ClockCalls (RunClock C F S) (Interruption E) → Does S → WriterCalls W → WriterCalls D → RunOrders
    → List NamedZone → List TimeZone → List TabFile → Noted → Option Timestamp
    → Around C F S W D → Result ⊤ (Failure (Interruption E)) → Around C F S W D → Type 0
RunsZoned cs does calls complaints o names zones files noted since old answer new =
    (named : RunOrders) × with_names o names named
    × RunsNoted (RunsFiles cs TakesEntries calls complaints named files zones noted since) does old answer new

-- The files that were found were run; or memory ran out, and nothing was done.
abbrev pub RunsFound : {C F S E W D : Type 0} → ClockCalls (RunClock C F S) (Interruption E) → Does S → WriterCalls W → WriterCalls D → RunOrders
    → List Tab → Noted → Option Timestamp → Around C F S W D → Result ⊤ (Failure (Interruption E)) → Around C F S W D → Type 0
RunsFound cs does calls complaints o tabs noted since old answer new =
    ((answer ≡ Err OutOfMemory) × (new.0 ≡ old.0) × (new.1 ≡ old.1) × (new.2 ≡ old.2))
    ⊎ ((names : List NamedZone) × (zones : List TimeZone) × (files : List TabFile) × AreFound tabs files
    × RunsZoned cs does calls complaints o names zones files noted since old answer new)

-- ---- looks when no entry fires any more

-- `later_one` is a minute after t. It may be any instant if a minute after t is later than the
-- greatest `Timestamp`, 9999-12-30T22:00:00.999999999Z.
abbrev pub is_minute_behind : Timestamp → Timestamp → Type 0
is_minute_behind t later_one =
    (later_one.nanosecond ≡ t.nanosecond +ℤ pos 60_000_000_000) ⊎ (int_lt (pos 253_402_207_200_999_999_999) (t.nanosecond +ℤ pos 60_000_000_000) ≡ true)

-- The clock waited until a minute after the last look, and then looked whether the files have
-- changed. Or it couldn't wait.
abbrev pub Idles : {C F S E : Type 0} → (C → Result Timestamp E → C → Type 0) → (C → Timestamp → Result ⊤ E → C → Type 0) → (F → Bool → F → Type 0)
    → RunClock C F S → Result ⊤ (Interruption E) → RunClock C F S → Type 0
Idles {C} {E = E} shows waits changes old answer new =
    (t : Timestamp) × is_minute_behind old.seen t
    × (((e : E) × waits old.clock t (Err e) new.clock × (new ≡ record old { clock = new.clock }) × (answer ≡ Err (Clock e)))
    ⊎ ((woken : C) × waits old.clock t (Ok tt) woken × Glances shows changes (record old { clock = woken }) answer new))

-- n looks, each a minute after the last, found the files unchanged.
abbrev pub AreIdle : {C F S E : Type 0} → (RunClock C F S → Result ⊤ (Interruption E) → RunClock C F S → Type 0) → ℕ → RunClock C F S → RunClock C F S → Type 0
AreIdle idles zero old new = new ≡ old
AreIdle {C} {F} {S} idles (suc n) old new = (mid : RunClock C F S) × AreIdle idles n old mid × idles mid (Ok tt) new

-- After n looks that found the files unchanged, one found a change, or the clock ended it; or n is
-- 2^64 - 1. The answer is whether n isn't 0.
abbrev pub Stays : {C F S E D : Type 0} → (C → Result Timestamp E → C → Type 0) → (C → Timestamp → Result ⊤ E → C → Type 0) → (F → Bool → F → Type 0)
    → RunClock C F S → Result Bool (FollowError E D) → RunClock C F S → Type 0
Stays {C} {F} {S} {E} shows waits changes old answer new =
    (n : ℕ) × (mid : RunClock C F S) × AreIdle (Idles shows waits changes) n old mid
    × ((Idles shows waits changes mid (Err Changed) new × (answer ≡ Ok (nat_lt 0 n)))
    ⊎ (((stop : Interruption E) × Idles shows waits changes mid (Err stop) new × (answer ≡ Err (stopped stop)))
    ⊎ ((n ≡ 2 ^ 64 - 1) × (new ≡ mid) × (answer ≡ Ok true))))

-- the message that no entry fires any more, after a run of the entries of a note
abbrev pub idle_text : Noted → List ℕ
idle_text n = if has_none n then codes "no entries: waiting for a change\n" else codes "no fires are left: waiting for a change\n"

-- What follows the message that no entry fires any more: the files are looked at until they change.
-- If it couldn't be written, nothing follows.
abbrev pub StaysIfTold : {R E D : Type 0} → (R → Result Bool (FollowError E D) → R → Type 0) → Result ⊤ WriteFailed → R → Result Bool (FollowError E D) → R → Type 0
StaysIfTold stays (Err e) old answer new = (new ≡ old) × (answer ≡ Err (Run Untold))
StaysIfTold stays (Ok done) old answer new = stays old answer new

-- It was told that no entry fires any more, and then the files were looked at until they changed.
abbrev pub TellsIdle : {C F S W E D : Type 0} → WriterCalls W → (RunClock C F S → Result Bool (FollowError E D) → RunClock C F S → Type 0)
    → RunClock C F S × Printer W → Result Bool (FollowError E D) → RunClock C F S × Printer W → Type 0
TellsIdle complaints stays old answer new =
    (told : Result ⊤ WriteFailed) × PrintsText complaints old.1 (idle_text (noted_view old.0.noted)) told new.1
    × StaysIfTold stays told old.0 answer new.0

-- The note is taken from the clock, which keeps its instant but no entries.
abbrev pub LetsGo : {C F S : Type 0} → RunClock C F S → Noted → RunClock C F S → Type 0
LetsGo old noted new =
    (noted ≡ noted_view old.noted) × (new.noted.until ≡ old.noted.until) × (new.noted.entries.items ≡ []) × (new.clock ≡ old.clock)
    × (new.files ≡ old.files) × (new.notebook ≡ old.notebook) × (new.until ≡ old.until) × (new.seen ≡ old.seen)
