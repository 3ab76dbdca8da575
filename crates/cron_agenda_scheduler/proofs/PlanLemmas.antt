-- An agenda of one entry, turn by turn, is a plan over what the entry has left, round by round.
use Rattle.std.proofs.Common.{◌≡◌, ◌⊎◌, ℕ, ◌+◌, ◌-◌, ◌<◌, ◌^◌, pos, ◌*ℤ◌, Option, Some, None, List, [], ◌∷◌, map, take, length, inl, inr, refl, sym, ap, subst, ◌∙◌, arith}
use Rattle.std.specs.Prelude.{Result, Ok, Err, ⊤, slice_get}
use Rattle.std.proofs.Math.Seq.{take-nil}
use Rattle.std.proofs.lemmas.List.{take-map}
use Rattle.jiff_core.specs.declared.Timestamp.{Timestamp}
use Rattle.jiff_tz.specs.declared.timezone.TimeZone.{TimeZone}
use Rattle.cron_time.specs.Seconds.{Seconds}
use Rattle.cron_instants.specs.Fires as shown
use Rattle.cron_dues.specs.Dues.{dues_after, dues_past}
use Rattle.cron_fires.specs.declared.changes.ClockChanges.{ClockChanges}
use Rattle.cron_fires.specs.declared.changes.ClockChanges.TheVariants as rule
use Rattle.cron_agenda.specs.declared.entry.Entry.{Entry}
use Rattle.cron_agenda.specs.declared.fire.EntryFire.{EntryFire}
use Rattle.cron_agenda.specs.declared.fire.EntryFire.TheVariants.{AsShown, Once}
use Rattle.cron_agenda.specs.Entries.{ComesFirst, Listed, entry}
use Rattle.cron_agenda.specs.Fires.{fires_after, fires_past, instant}
use Rattle.cron_agenda.specs.Merged.{Ascend, left, rest_in}
use Rattle.cron_scheduler.specs.declared.stop.Stop.{Stop}
use Rattle.cron_scheduler.specs.declared.stop.Stop.TheVariants as plan
use Rattle.cron_scheduler.specs.Plans.{first_of}
use Rattle.cron_scheduler.specs.Runs.{ClockCalls, IsRun, Wakes}
use Rattle.cron_scheduler.proofs.RunLemmas.{Stands, at_first, clock_fails, ended, job_fails, round, spent}
use Rattle.cron_agenda_scheduler.specs.declared.lateness.Lateness.TheVariants.{Each}
use Rattle.cron_agenda_scheduler.specs.declared.stop.AgendaStop.{AgendaStop}
use Rattle.cron_agenda_scheduler.specs.declared.stop.AgendaStop.TheVariants.{Clock, Job, Zone}
use Rattle.cron_agenda_scheduler.specs.Late.{Tables}
use Rattle.cron_agenda_scheduler.specs.Laws.{LeavesAgenda}
use Rattle.cron_agenda_scheduler.specs.PlanLaws.{LoopIsAPlansRun, OneEntryHasAPlansFires, as_loop, plan_after, plan_past, runs_of}
use Rattle.cron_agenda_scheduler.specs.Turns.{AreTurns, Deed, EndsRun, JobCalls, Looks, Turns}
use Rattle.cron_agenda_scheduler.proofs.AloneLemmas.{Alone, alone_first, deeds_alone, due_alone, failed_alone, first_cut, zone_there}

-- ---- the fires

first_of-map : {A B : Type 0} (f : A → B) (most : Option ℕ) (l : List A) → first_of most (map f l) ≡ map f (first_of most l)
first_of-map f None l = refl
first_of-map f (Some n) l = take-map f n l

after_is : (changes : ClockChanges) (now : Timestamp) (ss : Seconds) (z : TimeZone) (most : Option ℕ)
    → first_of most (fires_after ss z changes now.nanosecond) ≡ plan_after changes now ss z most
after_is rule.AsShown now ss z most = first_of-map AsShown most (shown.fires_after ss z now.nanosecond)
after_is rule.Once now ss z most = first_of-map Once most (dues_after ss z now.nanosecond)

past_is : (last : EntryFire) (ss : Seconds) (z : TimeZone) (most : Option ℕ) → first_of most (fires_past ss z last) ≡ plan_past last ss z most
past_is (AsShown last) ss z most = first_of-map AsShown most (shown.fires_past ss z last)
past_is (Once last) ss z most = first_of-map Once most (dues_past ss z last)

-- what an entry has left, where these are its fires
left_is : {T : Type 0} (has : T → Seconds) (zones : List TimeZone) (id : ℕ) (table : T) (zone : ℕ) (fire : EntryFire) (z : TimeZone)
    (fires : List EntryFire)
    → slice_get zones zone ≡ Some z → fires ≡ fire ∷ fires_past (has table) z fire → left has zones (entry id table zone fire) ≡ fires
left_is has zones id table zone fire z fires lent is = ap (λ o. fire ∷ rest_in (has table) o fire) lent ∙ sym is

pub one_has_a_plans_fires : {T : Type 0} (has : T → Seconds) → OneEntryHasAPlansFires has
one_has_a_plans_fires has = record {
  after = λ zones table zone added room id changes now new adds. (
    adds.0,
    adds.1,
    adds.2,
    ap (λ (l : Listed _). l.entries) adds.5,
    λ most. ap (first_of most) (left_is has zones id table zone adds.1 adds.0 _ adds.2 adds.3) ∙ after_is changes now (has table) adds.0 most,
  );
  past = λ zones table zone added room id last new adds. (
    adds.0,
    adds.1,
    adds.2,
    ap (λ (l : Listed _). l.entries) adds.5,
    λ most. ap (first_of most) (left_is has zones id table zone adds.1 adds.0 _ adds.2 adds.3) ∙ past_is last (has table) adds.0 most,
  );
}

-- ---- turns

module _ {T C J E F : Type 0} (ts : Tables T) (cs : ClockCalls C E) (js : JobCalls T J F) (e : Entry T) (z : TimeZone) (all : List EntryFire) (c0 : C) (j0 : J)
    (leaves : LeavesAgenda js) (each : ts.lateness e.table ≡ Each) (lent : slice_get ts.zones e.zone ≡ Some z) where
  -- what stands between two turns
  record Between (most looks : ℕ) (c : C) (a : Listed T) (j : J) : Type 0 where
    fires : List EntryFire
    stands : Stands cs.shows cs.waits (runs_of js e.id) instant all (take most fires) looks c0 j0 c j
    alone : Alone ts e a.entries fires
    up : Ascend fires
    fits : most < 2 ^ 64

  -- the first fire that is left is that of the entry that comes first
  cut_at_first : (most looks : ℕ) (c : C) (a : Listed T) (j : J) (b : Between most looks c a j) (q : Entry T) → 0 < most → ComesFirst a.entries q
      → (rest : List EntryFire) × (take most b.fires ≡ q.fire ∷ rest)
  cut_at_first most looks c a j b q some first =
      let parts = alone_first ts e a.entries b.fires q b.alone first in
      first_cut b.fires (rest_in (ts.has q.table) (slice_get ts.zones q.zone) q.fire) q.fire most some parts.2.3

  look_on : (most looks left : ℕ) (ds : List Deed) (c : C) (a : Listed T) (j : J) (d : C) (a' : Listed T) (k : J) (q : Entry T) (until : Timestamp)
      (look : Result Timestamp E)
      → Between most looks c a j → 0 < most → ComesFirst a.entries q → until.nanosecond ≡ instant q.fire *ℤ pos 1_000_000_000
      → Wakes cs.shows cs.waits until c look d
      → Looks ts js most ds look a j (Ok (Some left)) a' k → Between left (looks + 1) d a' k
  look_on most looks left ds c a j d a' k q until (Ok now) b some first at wakes runs =
      let cut = cut_at_first most looks c a j b q some first in
      let on = due_alone ts js e now.nanosecond most left ds b.fires a j a' k leaves each b.alone b.up b.fits runs in
      record {
        fires = on.rest;
        stands = round cs.shows cs.waits (runs_of js e.id) instant all (take most b.fires) (take left on.rest) cut.0 looks c0 j0 c j d k q.fire until now
            b.stands cut.1 at wakes on.due;
        alone = on.alone;
        up = on.up;
        fits = on.fits;
      }
  look_on most looks left ds c a j d a' k q until (Err why) b some first at wakes failed = let no = failed.0 in absurd (cc)

  turn_on : (most looks left : ℕ) (ds : List Deed) (c : C) (a : Listed T) (j : J) (d : C) (a' : Listed T) (k : J) → Between most looks c a j → 0 < most
      → Turns ts cs js most ds c a j (Ok (Some left)) d a' k → Between left (looks + 1) d a' k
  turn_on most looks left ds c a j d a' k b some (inl none) = let no = none.0 in absurd (cc)
  turn_on most looks left ds c a j d a' k b some (inr turn) =
      look_on most looks left ds c a j d a' k turn.entry turn.until turn.look b some turn.first turn.is turn.wakes turn.looks

  turns_on : (dss : List (List Deed)) (most looks left then : ℕ) (c : C) (a : Listed T) (j : J) (d : C) (a' : Listed T) (k : J) → looks + length dss ≡ then
      → Between most looks c a j → AreTurns ts cs js dss most c a j left d a' k → Between left then d a' k
  turns_on [] most looks left then c a j d a' k count b none =
      let same : looks ≡ then = omega arith in
      subst (λ n. Between n then d a' k) (sym none.0) (subst (λ n. Between most n d a' k) same
      (subst (λ x. Between most looks x a' k) (sym none.1) (subst (λ x. Between most looks c x k) (sym none.2)
      (subst (λ x. Between most looks c a x) (sym none.3) b))))
  turns_on (ds ∷ dss) most looks left then c a j d a' k count b turns =
      turns_on dss turns.1 (looks + 1) left then turns.2 turns.3 turns.4 d a' k (omega arith)
      (turn_on most looks turns.1 ds c a j turns.2 turns.3 turns.4 b turns.0 turns.5) turns.6

  -- ---- the end

  abbrev Told : Result ⊤ (AgendaStop E F) → C → J → Type 0
  Told answer c' j' = (told : Result ⊤ (Stop E F)) × (answer ≡ as_loop told) × IsRun cs (runs_of js e.id) instant all (c0, j0) told (c', j')

  look_fails : (most looks : ℕ) (ds : List Deed) (c : C) (a : Listed T) (j : J) (d : C) (a' : Listed T) (k : J) (stop : AgendaStop E F) (q : Entry T)
      (until : Timestamp)
      (look : Result Timestamp E) → Between most looks c a j → 0 < most → ComesFirst a.entries q → until.nanosecond ≡ instant q.fire *ℤ pos 1_000_000_000
      → Wakes cs.shows cs.waits until c look d → Looks ts js most ds look a j (Err stop) a' k → Told (Err stop) d k
  look_fails most looks ds c a j d a' k stop q until (Err why) b some first at wakes failed =
      let cut = cut_at_first most looks c a j b q some first in
      let run = clock_fails cs.shows cs.waits (runs_of js e.id) instant all (take most b.fires) cut.0 looks c0 j0 c j d q.fire until why
      b.stands cut.1 at wakes in
      let same : stop ≡ Clock why = let is = failed.0 in cc in
      (Err (plan.Clock why), ap Err same, subst (λ x. IsRun cs (runs_of js e.id) instant all (c0, j0) (Err (plan.Clock why)) (d, x)) (sym failed.3) run)
  look_fails most looks ds c a j d a' k (Clock why) q until (Ok now) b some first at wakes runs = absurd runs.ends
  look_fails most looks ds c a j d a' k (Zone why) q until (Ok now) b some first at wakes runs =
      let front = deeds_alone ts js e now.nanosecond ds b.fires a j runs.agenda runs.job leaves each b.alone runs.are_done in
      absurd (zone_there ts e z runs.agenda.entries front.rest why lent front.alone runs.ends.2.0)
  look_fails most looks ds c a j d a' k (Job why) q until (Ok now) b some first at wakes runs =
      let cut = cut_at_first most looks c a j b q some first in
      let due = failed_alone ts js e now.nanosecond most ds b.fires a j why a' k leaves each b.alone runs in (
        Err (plan.Job why),
        refl,
        job_fails cs.shows cs.waits (runs_of js e.id) instant all (take most b.fires) due.0 cut.0 looks c0 j0 c j d k q.fire until now why
            b.stands cut.1 at wakes due.1,
      )

  turn_fails : (most looks : ℕ) (ds : List Deed) (c : C) (a : Listed T) (j : J) (d : C) (a' : Listed T) (k : J) (stop : AgendaStop E F)
      → Between most looks c a j → 0 < most
      → Turns ts cs js most ds c a j (Err stop) d a' k → Told (Err stop) d k
  turn_fails most looks ds c a j d a' k stop b some (inl none) = let no = none.0 in absurd (cc)
  turn_fails most looks ds c a j d a' k stop b some (inr turn) =
      look_fails most looks ds c a j d a' k stop turn.entry turn.until turn.look b some turn.first turn.is turn.wakes turn.looks

  nothing_left : (es : List (Entry T)) (fires : List EntryFire) → Alone ts e es fires → es ≡ [] → fires ≡ []
  nothing_left [] fires alone none = alone
  nothing_left (q ∷ es) fires alone none = absurd (cc)

  ends_well : (left turns : ℕ) (c : C) (a : Listed T) (j : J) → Between left turns c a j → (left ≡ 0) ⊎ ((a.entries ≡ []) ⊎ (turns ≡ 2 ^ 64 - 1))
      → IsRun cs (runs_of js e.id) instant all (c0, j0) (Ok tt) (c, j)
  ends_well left turns c a j b (inl none) =
      ended cs.shows cs.waits (runs_of js e.id) instant all (take left b.fires) turns c0 j0 c j b.stands (ap (λ n. take n b.fires) none)
  ends_well left turns c a j b (inr (inl none)) =
      ended cs.shows cs.waits (runs_of js e.id) instant all (take left b.fires) turns c0 j0 c j b.stands
      (ap (take left) (nothing_left a.entries b.fires b.alone none) ∙ take-nil left)
  ends_well left turns c a j b (inr (inr all_turns)) =
      spent cs.shows cs.waits (runs_of js e.id) instant all (take left b.fires) turns c0 j0 c j b.stands all_turns

  ends_as : (left turns : ℕ) (c : C) (a : Listed T) (j : J) (answer : Result ⊤ (AgendaStop E F)) (c' : C) (a' : Listed T) (j' : J) → Between left turns c a j
      → EndsRun ts cs js turns left c a j answer c' a' j' → Told answer c' j'
  ends_as left turns c a j (Ok done) c' a' j' b ends = (
    Ok tt,
    refl,
    subst (λ x. IsRun cs (runs_of js e.id) instant all (c0, j0) (Ok tt) (x, j')) (sym ends.0)
        (subst (λ x. IsRun cs (runs_of js e.id) instant all (c0, j0) (Ok tt) (c, x)) (sym ends.2) (ends_well left turns c a j b ends.3)),
  )
  ends_as left turns c a j (Err stop) c' a' j' b ends = turn_fails left turns ends.1 c a j c' a' j' stop b ends.0 ends.2

pub loop_is_a_plans_run : {T C J E F : Type 0} (ts : Tables T) (cs : ClockCalls C E) (js : JobCalls T J F) → LoopIsAPlansRun ts cs js
loop_is_a_plans_run ts cs js most e z c a j answer c' a' j' leaves one each lent up fits runs =
    let fires = left ts.has ts.zones e in
    let all = take most fires in
    let first : Between ts cs js e z all c j leaves each lent most 0 c a j = record {
      fires = fires;
      stands = at_first cs.shows cs.waits (runs_of js e.id) instant all c j;
      alone = subst (λ es. Alone ts e es fires) (sym one) (refl, refl, refl, refl);
      up = up;
      fits = fits;
    } in
    let last = turns_on ts cs js e z all c j leaves each lent runs.deeds most 0 runs.left (length runs.deeds) c a j runs.clock runs.agenda runs.job
    (omega arith) first runs.are_turns in
    ends_as ts cs js e z all c j leaves each lent runs.left (length runs.deeds) runs.clock runs.agenda runs.job answer c' a' j' last runs.ends
