-- Crontabs that are followed as they change. A look reads the clock, and then the files. An entry
-- that was there before goes on after the noted instant, and the others begin after the look
-- before.
use Rattle.std.specs.Prelude.{◌≡◌, ◌⊎◌, ◌&&◌, ◌-◌, ◌^◌, Bool, true, false, not, if◌then◌else◌, List, [], ◌∷◌, Option, None, Some, Result, Ok, Err, ⊤, length}
use Rattle.std.specs.Option.{option_map}
use Rattle.std.specs.declared.alloc.Global.{Global}
use Rattle.std.specs.declared.vec.Vec.{Vec}
use Rattle.jiff_core.specs.declared.Timestamp.{Timestamp}
use Rattle.cron_agenda_scheduler.specs.declared.stop.AgendaStop.TheVariants as AgendaStop
use Rattle.cron_printing.specs.Printing.{WriterCalls}
use Rattle.cron_printing.specs.declared.printer.Printer.{Printer}
use Rattle.cron_scheduler.specs.Runs.{clock_calls}
use Rattle.cron_tab_running.specs.Clocks.{Does, Shows, Waits}
use Rattle.cron_tab_running.specs.Looks.{Around, LetsGo, Looks, RunsFound, Stays, TellsIdle, has_none}
use Rattle.cron_tab_running.specs.Noted.{Noted, least_instant, noted_view}
use Rattle.cron_tab_running.specs.declared.crontabs.Tab.{Tab}
use Rattle.cron_tab_running.specs.declared.failure.Failure.{Failure}
use Rattle.cron_tab_running.specs.declared.failure.Failure.TheVariants.{Stopped}
use Rattle.cron_tab_running.specs.declared.following.Left.{Left}
use Rattle.cron_tab_running.specs.declared.looks.FollowError.{FollowError}
use Rattle.cron_tab_running.specs.declared.looks.FollowError.TheVariants.{Run}
use Rattle.cron_tab_running.specs.declared.orders.RunOrders.{RunOrders}
use Rattle.cron_tab_running.specs.declared.run_clock.Interruption.{Interruption}
use Rattle.cron_tab_running.specs.declared.run_clock.Interruption.TheVariants.{Changed}
use Rattle.cron_tab_running.specs.declared.run_clock.RunClock.{RunClock}

-- ---- which entries go on

-- The entries that go on at a look, by the notes left after the looks before it, the last one
-- first. They are the entries of the look before. If that found none, they are those of the look
-- before it, if it found some.
abbrev pub goes_on : List Noted → Noted
goes_on [] = record { until = least_instant; entries = [] }
goes_on (n ∷ []) = n
goes_on (n ∷ m ∷ older) = if has_none n && not (has_none m) then m else n

-- The entries that go on at the next look, if `on` went on at this one, which found `noted`.
-- `before` is whether the look before this one found entries.
abbrev pub going_on : Noted → Noted → Bool → Noted
going_on on noted before = if before && has_none noted then on else noted

-- ---- a round: a look, the run of what it found, and the looks after it up to a change

-- what the calls of a round do: `looks` is a look, `runs` the run of what it found, and `stays` the
-- looks when no entry fires any more, unless that `ends` it
pub record Calls (C F S W D E G : Type 0) : Type 1 where
  pub looks : RunClock C F S → Result (Vec Tab Global) (FollowError E G) → RunClock C F S → Type 0
  pub runs : Bool → List Tab → Noted → Option Timestamp → Around C F S W D → Result ⊤ (Failure (Interruption E)) → Around C F S W D → Type 0
  pub ends : Bool
  pub stays : RunClock C F S × Printer D → Result Bool (FollowError E G) → RunClock C F S × Printer D → Type 0

-- The calls of a round. Entries of `@reboot` are run in the first round only.
abbrev pub round_calls : {C F S W D E G : Type 0} → (C → Result Timestamp E → C → Type 0) → (C → Timestamp → Result ⊤ E → C → Type 0) → (F → Bool → F → Type 0)
    → (F → Result (Vec Tab Global) G → F → Type 0) → Does S → WriterCalls W → WriterCalls D → RunOrders → Calls C F S W D E G
round_calls shows waits changes finds does calls complaints o = record {
  looks = Looks shows finds;
  runs = λ is_first. RunsFound (clock_calls (Shows shows) (Waits shows waits changes does)) does calls complaints (record o { reboot = o.reboot && is_first });
  ends = o.ends;
  stays = TellsIdle complaints (Stays shows waits changes);
}

-- `None` if the clock ended a run because the files have changed, else why it ended it.
abbrev pub unless_told : {E : Type 0} → Interruption E → Option (Interruption E)
unless_told Changed = None
unless_told why = Some why

-- `None` if a run ended because the files have changed, else why it ended early.
abbrev pub unless_changed : {E : Type 0} → Failure (Interruption E) → Option (Failure (Interruption E))
unless_changed (Stopped (AgendaStop.Clock why)) = option_map (λ w. Stopped (AgendaStop.Clock w)) (unless_told why)
unless_changed why = Some why

abbrev pub by_failure : {E G : Type 0} → Option (Failure (Interruption E)) → Result (Option Bool) (FollowError E G)
by_failure None = Ok (Some false)
by_failure (Some why) = Err (Run why)

abbrev pub some_stayed : {E G : Type 0} → Result Bool (FollowError E G) → Result (Option Bool) (FollowError E G)
some_stayed (Ok stayed) = Ok (Some stayed)
some_stayed (Err why) = Err why

-- What follows a run. If the files have changed, or the run ended early, nothing does. If no entry
-- fires any more, that `ends` it; or else it is told, and the files are looked at until they
-- change. The answer is whether a look before that one found them unchanged.
abbrev pub AfterRun : {R P E G : Type 0} → (R × P → Result Bool (FollowError E G) → R × P → Type 0) → Bool → Result ⊤ (Failure (Interruption E)) → R × P
    → Result (Option Bool) (FollowError E G) → R × P → Type 0
AfterRun stays ends (Err why) old answer new = (new.0 ≡ old.0) × (new.1 ≡ old.1) × (answer ≡ by_failure (unless_changed why))
AfterRun stays true (Ok done) old answer new = (new.0 ≡ old.0) × (new.1 ≡ old.1) × (answer ≡ Ok None)
AfterRun {E = E} {G = G} stays false (Ok done) old answer new = (stayed : Result Bool (FollowError E G)) × stays old stayed new × (answer ≡ some_stayed stayed)

-- When the files have changed, the note of the run is taken from the clock. Else nothing is done.
abbrev pub Leaves : {C F S E G : Type 0} → Result (Option Bool) (FollowError E G) → RunClock C F S → Result (Option Left) (FollowError E G) → RunClock C F S → Type 0
Leaves (Err why) old answer new = (new ≡ old) × (answer ≡ Err why)
Leaves (Ok None) old answer new = (new ≡ old) × (answer ≡ Ok None)
Leaves (Ok (Some stayed)) old answer new = (left : Left) × LetsGo old (noted_view left.noted) new × (left.stayed ≡ stayed) × (answer ≡ Ok (Some left))

-- The files were read and run, and what follows the run was done; or they couldn't be read. The
-- entries of `on` go on, and the others begin after the look at `since`.
abbrev pub IsRound : {C F S W D E G : Type 0} → Calls C F S W D E G → Bool → Noted → Option Timestamp → Around C F S W D
    → Result (Option Left) (FollowError E G) → Around C F S W D → Type 0
IsRound {C} {F} {S} {W} {D} {E} {G} k is_first on since old answer new =
    ((why : FollowError E G) × k.looks old.0 (Err why) new.0 × (new.1 ≡ old.1) × (new.2 ≡ old.2) × (answer ≡ Err why))
    ⊎ ((tabs : Vec Tab Global) × (looked : RunClock C F S) × (ran : Result ⊤ (Failure (Interruption E))) × (run : Around C F S W D)
    × (then_ : Result (Option Bool) (FollowError E G)) × (waited : RunClock C F S × Printer D)
    × k.looks old.0 (Ok tabs) looked × k.runs is_first tabs.items on since (looked, old.1, old.2) ran run
    × AfterRun k.stays k.ends ran (run.0, run.2) then_ waited × Leaves then_ waited.0 answer new.0 × (new.1 ≡ run.1) × (new.2 ≡ waited.1))

-- ---- rounds one after another

-- What a round leaves that ended by a change: the note of its run, whether a look found the files
-- unchanged before, and when the last look before it was.
pub record Round : Type 0 where
  pub noted : Noted
  pub stayed : Bool
  pub seen : Timestamp

-- The notes left after the looks of rounds, the last look first, and the note at the start as the
-- end. A round in which the files stayed unchanged counts as two looks.
abbrev pub history : Noted → List Round → List Noted
history start [] = start ∷ []
history start (r ∷ rounds) = if r.stayed then r.noted ∷ r.noted ∷ history start rounds else r.noted ∷ history start rounds

-- the time of the last look of rounds, the last round first; `None` before the first round
abbrev pub last_look : List Round → Option Timestamp
last_look [] = None
last_look (r ∷ rounds) = Some r.seen

abbrev pub is_empty : List Round → Bool
is_empty [] = true
is_empty (r ∷ rounds) = false

-- A round after `rounds`, the last of them first in the list. The entries that go on follow from
-- the looks before it, and the other entries begin after the last of these.
abbrev pub IsNext : {C F S W D E G : Type 0} → Calls C F S W D E G → Noted → List Round → Around C F S W D → Result (Option Left) (FollowError E G)
    → Around C F S W D → Type 0
IsNext k start rounds = IsRound k (is_empty rounds) (goes_on (history start rounds)) (last_look rounds)

-- These rounds were made one after another, from `old` to `new`; the last one is first in the list.
abbrev pub AreRounds : {C F S W D E G : Type 0} → Calls C F S W D E G → Noted → List Round → Around C F S W D → Around C F S W D → Type 0
AreRounds k start [] old new = (new.0 ≡ old.0) × (new.1 ≡ old.1) × (new.2 ≡ old.2)
AreRounds {C} {F} {S} {W} {D} k start (r ∷ rounds) old new =
    (mid : Around C F S W D) × (left : Left) × AreRounds k start rounds old mid × IsNext k start rounds mid (Ok (Some left)) new
    × (r.noted ≡ noted_view left.noted) × (r.stayed ≡ left.stayed) × (r.seen ≡ new.0.seen)

-- Rounds were made, from the note at the start. After them came one that ended otherwise than by a
-- change, or there were 2^64 - 1 of them.
abbrev pub Follows : {C F S W D E G : Type 0} → Calls C F S W D E G → Noted → Around C F S W D → Result ⊤ (FollowError E G) → Around C F S W D → Type 0
Follows {C} {F} {S} {W} {D} {E} {G} k start old answer new =
    (rounds : List Round) × (mid : Around C F S W D) × AreRounds k start rounds old mid
    × ((IsNext k start rounds mid (Ok None) new × (answer ≡ Ok tt))
    ⊎ (((why : FollowError E G) × IsNext k start rounds mid (Err why) new × (answer ≡ Err why))
    ⊎ ((length rounds ≡ 2 ^ 64 - 1) × (new.0 ≡ mid.0) × (new.1 ≡ mid.1) × (new.2 ≡ mid.2) × (answer ≡ Ok tt))))
