-- What the turns of a whole run are of all fires that entries have.
use Rattle.std.proofs.Common.{ℕ, ℤ, List, [], ◌∷◌, ◌++◌, length, inl, inr, refl, sym, ap, subst, ◌∙◌, map, append_assoc}
use Rattle.std.specs.Prelude.{Ok, Err, Result, ⊤}
use Rattle.std.proofs.lemmas.List.{map-append}
use Rattle.std.proofs.lemmas.Simd.{map-map}
use Rattle.jiff_core.specs.declared.Timestamp.{Timestamp}
use Rattle.jiff_tz.specs.declared.timezone.TimeZone.{TimeZone}
use Rattle.cron_time.specs.Seconds.{Seconds}
use Rattle.cron_agenda.specs.declared.entry.Entry.{Entry}
use Rattle.cron_agenda.specs.declared.fire.AgendaFire.{AgendaFire}
use Rattle.cron_agenda.specs.Entries.{IsTaken, Listed}
use Rattle.cron_agenda.specs.Merged.{AreTaken, merged, own_of, OwnFire}
use Rattle.cron_agenda.proofs.AnewLemmas.{restart_of_all_goes_on}
use Rattle.cron_agenda.proofs.MergeLemmas.{one_is_its_fires}
use Rattle.cron_agenda.proofs.RestLemmas.{taken_are_the_front}
use Rattle.cron_scheduler.specs.Runs.{ClockCalls}
use Rattle.cron_agenda_scheduler.specs.declared.stop.AgendaStop.{AgendaStop}
use Rattle.cron_agenda_scheduler.specs.declared.stop.AgendaStop.TheVariants.{Clock, Zone, Job}
use Rattle.cron_agenda_scheduler.specs.Late.{Tables}
use Rattle.cron_agenda_scheduler.specs.Laws.{CutTurnIsTaken, IsCut, LeavesAgenda, OneEntryTakesItsFires, RunsThatMeetAreOne, TookLast, TurnsAreTaken, WhatWasTaken, RestartedAnywhereIsOne, RestartedRunsAreOne}
use Rattle.cron_agenda_scheduler.specs.Turns.{Deed, EndsRun, EndsTurn, JobCalls, Looks, all_taken, taken}
use Rattle.cron_agenda_scheduler.proofs.LawLemmas.{deeds_are_taken}
use Rattle.cron_agenda_scheduler.proofs.TurnLemmas.{turn_is_done}

taken_too : {T : Type 0} (has : T → Seconds) (zones : List TimeZone) (fs gs : List AgendaFire) (old mid new : List (Entry T))
    → AreTaken has zones fs old mid → AreTaken has zones gs mid new → AreTaken has zones (fs ++ gs) old new
taken_too has zones [] gs old mid new same more = subst (λ es. AreTaken has zones gs es new) same more
taken_too has zones (f ∷ fs) gs old mid new first more =
    (first.0, first.1, taken_too has zones fs gs first.0 mid new first.2 more)

pub turns_are_taken : {T C J E F : Type 0} (ts : Tables T) (cs : ClockCalls C E) (js : JobCalls T J F) → TurnsAreTaken ts cs js
turns_are_taken ts cs js [] most left c a j c' a' j' leaves none = ap (λ (x : Listed _). x.entries) none.2
turns_are_taken ts cs js (ds ∷ dss) most left c a j c' a' j' leaves turns =
    let done = turn_is_done ts cs js most turns.1 ds c a j turns.2 turns.3 turns.4 turns.5 in
    taken_too ts.has ts.zones (taken ds) (all_taken dss) a.entries turns.3.entries a'.entries
    (deeds_are_taken ts js done.0 ds a j turns.3 turns.4 leaves done.1)
    (turns_are_taken ts cs js dss turns.1 left turns.2 turns.3 turns.4 c' a' j' leaves turns.6)

pub runs_that_meet : {T C J E F : Type 0} (ts : Tables T) (cs : ClockCalls C E) (js : JobCalls T J F) → RunsThatMeetAreOne ts cs js
runs_that_meet ts cs js first second most left more rest c d e g a b z j k l m leaves up one two =
    let all = taken_too ts.has ts.zones (all_taken first) (all_taken second) a.entries b.entries z.entries
    (turns_are_taken ts cs js first most left c a j d b k leaves one) (turns_are_taken ts cs js second more rest e b l g z m leaves two) in
    (taken_are_the_front ts.has ts.zones (all_taken first ++ all_taken second) a.entries z.entries up all).0
    ∙ ap (λ fires. fires ++ merged ts.has ts.zones z.entries) (map-append own_of (all_taken first) (all_taken second))

pub restarted_anywhere : {T C J E F : Type 0} (ts : Tables T) (cs : ClockCalls C E) (js : JobCalls T J F) → RestartedAnywhereIsOne ts cs js
restarted_anywhere ts cs js fires second more rest low high from end e g a b n z l m leaves up ids ids_new taken_first anew two =
    let fire_of = λ (o : OwnFire). o.fire in
    let told = map (λ (f : AgendaFire). f.fire) in
    let front = taken_are_the_front ts.has ts.zones fires a.entries b.entries up taken_first in
    let goes = restart_of_all_goes_on ts.has ts.zones fires a.entries b.entries n.entries low high from end ids ids_new taken_first anew in
    let then_front = taken_are_the_front ts.has ts.zones (all_taken second) n.entries z.entries (goes.ascend front.1)
    (turns_are_taken ts cs js second more rest e n l g z m leaves two) in
    ap (map fire_of) front.0
    ∙ map-append fire_of (map own_of fires) (merged ts.has ts.zones b.entries)
    ∙ ap (λ l. l ++ map fire_of (merged ts.has ts.zones b.entries)) (map-map fire_of own_of fires)
    ∙ ap (λ l. told fires ++ l)
    (sym goes.fires ∙ ap (map fire_of) then_front.0
    ∙ map-append fire_of (map own_of (all_taken second)) (merged ts.has ts.zones z.entries)
    ∙ ap (λ l. l ++ map fire_of (merged ts.has ts.zones z.entries)) (map-map fire_of own_of (all_taken second)))
    ∙ sym (append_assoc (told fires) (told (all_taken second)) (map fire_of (merged ts.has ts.zones z.entries)))

pub restarted_runs : {T C J E F : Type 0} (ts : Tables T) (cs : ClockCalls C E) (js : JobCalls T J F) → RestartedRunsAreOne ts cs js
restarted_runs ts cs js first second most left more rest low high from end c d e g a b n z j k l m leaves up ids ids_new one anew two =
    restarted_anywhere ts cs js (all_taken first) second more rest low high from end e g a b n z l m leaves up ids ids_new
    (turns_are_taken ts cs js first most left c a j d b k leaves one) anew two

pub one_entry_takes_its_fires : {T C J E F : Type 0} (ts : Tables T) (cs : ClockCalls C E) (js : JobCalls T J F) → OneEntryTakesItsFires ts cs js
one_entry_takes_its_fires ts cs js turns most runs added room c d e b j k leaves up all =
    sym (one_is_its_fires ts.has ts.zones e up)
    ∙ (taken_are_the_front ts.has ts.zones (all_taken turns) (e ∷ []) b.entries (up, tt)
    (turns_are_taken ts cs js turns most runs c _ j d b k leaves all)).0

-- ---- runs that are cut

-- what ends a turn, behind what its deeds took
cut_end : {T J E F : Type 0} (ts : Tables T) (js : JobCalls T J F) (t : ℤ) (most : ℕ) (ds : List Deed) (old : List (Entry T)) (a : Listed T) (j : J)
    (stop : AgendaStop E F) (a' : Listed T) (j' : J) → LeavesAgenda js → AreTaken ts.has ts.zones (taken ds) old a.entries
    → EndsTurn ts js t most ds a j (Err stop) a' j'
    → (fires : List AgendaFire) × IsCut js ds stop fires a' j' × AreTaken ts.has ts.zones fires old a'.entries
cut_end ts js t most ds old a j (Clock e) a' j' leaves done ends = absurd ends
cut_end ts js t most ds old a j (Zone why) a' j' leaves done ends =
    (taken ds, refl, subst (λ (x : Listed _). AreTaken ts.has ts.zones (taken ds) old x.entries) (sym ends.2.2) done)
cut_end ts js t most ds old a j (Job e) a' j' leaves done ends =
    let same = leaves j ends.1 ends.2 (Err e) j' a' ends.4 in
    let last = subst (λ (x : Listed _). IsTaken ts.has ts.zones a.entries ends.1 x.entries) (sym same) ends.3.takes.0.0 in (
      taken ds ++ ends.1 ∷ [],
      (ends.1, refl, (j, ends.2, ends.4)),
      taken_too ts.has ts.zones (taken ds) (ends.1 ∷ []) old a.entries a'.entries done (a'.entries, last, refl),
    )

cut_look : {T J E F : Type 0} (ts : Tables T) (js : JobCalls T J F) (most : ℕ) (ds : List Deed) (look : Result Timestamp E) (a : Listed T) (j : J)
    (stop : AgendaStop E F) (a' : Listed T) (j' : J) → LeavesAgenda js → Looks ts js most ds look a j (Err stop) a' j'
    → (fires : List AgendaFire) × IsCut js ds stop fires a' j' × AreTaken ts.has ts.zones fires a.entries a'.entries
cut_look ts js most ds (Err e) a j (Clock why) a' j' leaves failed = (
  taken ds,
  refl,
  subst (λ (l : List Deed). AreTaken ts.has ts.zones (taken l) a.entries a'.entries) (sym failed.1) (ap (λ (x : Listed _). x.entries) failed.2),
)
cut_look ts js most ds (Err e) a j (Zone why) a' j' leaves failed = absurd (let no = failed.0 in cc)
cut_look ts js most ds (Err e) a j (Job why) a' j' leaves failed = absurd (let no = failed.0 in cc)
cut_look ts js most ds (Ok now) a j stop a' j' leaves runs =
    cut_end ts js now.nanosecond most ds a.entries runs.agenda runs.job stop a' j' leaves
    (deeds_are_taken ts js now.nanosecond ds a j runs.agenda runs.job leaves runs.are_done) runs.ends

pub cut_turn_is_taken : {T C J E F : Type 0} (ts : Tables T) (cs : ClockCalls C E) (js : JobCalls T J F) → CutTurnIsTaken ts cs js
cut_turn_is_taken ts cs js most ds c a j stop c' a' j' leaves (inl none) = absurd (let no = none.0 in cc)
cut_turn_is_taken ts cs js most ds c a j stop c' a' j' leaves (inr turn) = cut_look ts js most ds turn.look a j stop a' j' leaves turn.looks

cut_run : {T C J E F : Type 0} (ts : Tables T) (cs : ClockCalls C E) (js : JobCalls T J F) (turns left : ℕ) (c : C) (a : Listed T) (j : J)
    (answer : Result ⊤ (AgendaStop E F)) (c' : C) (a' : Listed T) (j' : J) → LeavesAgenda js → (ends : EndsRun ts cs js turns left c a j answer c' a' j')
    → (last : List AgendaFire) × TookLast ts cs js turns left c a j answer c' a' j' ends last × AreTaken ts.has ts.zones last a.entries a'.entries
cut_run ts cs js turns left c a j (Ok done) c' a' j' leaves ends = ([], refl, ap (λ (x : Listed _). x.entries) ends.1)
cut_run ts cs js turns left c a j (Err stop) c' a' j' leaves ends = cut_turn_is_taken ts cs js left ends.1 c a j stop c' a' j' leaves ends.2

pub what_was_taken : {T C J E F : Type 0} (ts : Tables T) (cs : ClockCalls C E) (js : JobCalls T J F) → WhatWasTaken ts cs js
what_was_taken ts cs js most c a j answer c' a' j' leaves run =
    let cut = cut_run ts cs js (length run.deeds) run.left run.clock run.agenda run.job answer c' a' j' leaves run.ends in (
      cut.0,
      cut.1,
      taken_too ts.has ts.zones (all_taken run.deeds) cut.0 a.entries run.agenda.entries a'.entries
          (turns_are_taken ts cs js run.deeds most run.left c a j run.clock run.agenda run.job leaves run.are_turns) cut.2,
    )
