-- An entry that stays as it is while a job adds and removes others.
use Rattle.std.proofs.Common.{◌≡◌, ℕ, ◌<◌, ℤ, Bool, true, false, cond, eqb, List, [], ◌∷◌, ◌++◌, Some, inl, inr, refl, sym, ap, subst, ◌∙◌, append-nil, arith}
use Rattle.std.specs.Prelude.{◌==◌, Ok, Err, Result, not}
use Rattle.std.proofs.lemmas.Bool.{eqb-true}
use Rattle.std.proofs.lemmas.List.Elements.{filter-append}
use Rattle.jiff_core.specs.declared.Timestamp.{Timestamp}
use Rattle.jiff_tz.specs.declared.timezone.TimeZone.{TimeZone}
use Rattle.cron_time.specs.Seconds.{Seconds}
use Rattle.cron_agenda.specs.declared.entry.Entry.{Entry}
use Rattle.cron_agenda.specs.declared.error.AddError.{AddError}
use Rattle.cron_agenda.specs.declared.fire.EntryFire.{EntryFire}
use Rattle.cron_agenda.specs.Entries.{Adds, Listed, entry, without}
use Rattle.cron_scheduler.specs.Runs.{ClockCalls}
use Rattle.cron_agenda_scheduler.specs.declared.stop.AgendaStop.TheVariants.{Job}
use Rattle.cron_agenda_scheduler.specs.EntryLaws.{KeepsEntry, StaysBesideOthers, StaysThroughout, keeping, with_id}
use Rattle.cron_agenda_scheduler.specs.Late.{Tables}
use Rattle.cron_agenda_scheduler.specs.Turns.{AreDone, AreTurns, Deed, JobCalls, Looks, Passed, Ran, RunsDue, Turns}
use Rattle.cron_agenda_scheduler.proofs.LateLemmas.{unlike}
use Rattle.cron_agenda_scheduler.proofs.TurnLemmas.{turn_is_done, turned}

-- ---- beside others

beside_added : {T : Type 0} (has : T → Seconds) (id : ℕ) (zones : List TimeZone) (table : T) (zone : ℕ) (fires : TimeZone → List EntryFire) (old : Listed T)
    (answer : Result ℕ AddError) (new : Listed T) → id < old.added → Adds has zones table zone fires old answer new
    → (with_id id new.entries ≡ with_id id old.entries) × (id < new.added)
beside_added has id zones table zone fires old (Ok given) new less adds =
    let next = adds.4 in
    let one = entry given table zone adds.1 in (
      ap (λ (x : Listed _). with_id id x.entries) adds.5
          ∙ filter-append (λ (e : Entry _). e.id == id) old.entries (one ∷ [])
          ∙ ap (λ b. with_id id old.entries ++ cond b (one ∷ []) []) (unlike given id (λ same. omega arith))
          ∙ append-nil (with_id id old.entries),
      let more = ap (λ (x : Listed _). x.added) adds.5 in omega arith,
    )
beside_added has id zones table zone fires old (Err why) new less adds =
    (ap (λ (x : Listed _). with_id id x.entries) adds.1, subst (λ (x : Listed _). id < x.added) (sym adds.1) less)

beside_removed : {T : Type 0} (id other : ℕ) (es : List (Entry T)) → (other ≡ id → ⊥) → with_id id (without other es) ≡ with_id id es
beside_removed id other [] apart = refl
beside_removed id other (e ∷ es) apart = by_test (eqb e.id other) refl (beside_removed id other es apart)
  where
    by_test : (b : Bool) → eqb e.id other ≡ b → with_id id (without other es) ≡ with_id id es → with_id id (without other (e ∷ es)) ≡ with_id id (e ∷ es)
    by_test true is rest =
        ap (λ t. with_id id (cond (not t) (e ∷ without other es) (without other es))) is
        ∙ rest
        ∙ ap (λ t. cond t (e ∷ with_id id es) (with_id id es)) (sym (unlike e.id id (λ same. apart (sym (eqb-true e.id other is) ∙ same))))
    by_test false is rest =
        ap (λ t. with_id id (cond (not t) (e ∷ without other es) (without other es))) is
        ∙ ap (λ l. cond (e.id == id) (e ∷ l) l) rest

none_removed : {T : Type 0} (id : ℕ) (es : List (Entry T)) → with_id id (without id es) ≡ []
none_removed id [] = refl
none_removed id (e ∷ es) = by_test (eqb e.id id) refl (none_removed id es)
  where
    by_test : (b : Bool) → eqb e.id id ≡ b → with_id id (without id es) ≡ [] → with_id id (without id (e ∷ es)) ≡ []
    by_test true is rest = ap (λ t. with_id id (cond (not t) (e ∷ without id es) (without id es))) is ∙ rest
    by_test false is rest =
        ap (λ t. with_id id (cond (not t) (e ∷ without id es) (without id es))) is
        ∙ ap (λ t. cond t (e ∷ with_id id (without id es)) (with_id id (without id es))) is
        ∙ rest

pub stays_beside_others : {T : Type 0} (has : T → Seconds) (id : ℕ) → StaysBesideOthers has id
stays_beside_others has id =
    record { added = beside_added has id; removed = beside_removed id; gone = none_removed id }

-- ---- throughout

module _ {T C J E F : Type 0} (ts : Tables T) (cs : ClockCalls C E) (js : JobCalls T J F) (id : ℕ) (keeps : KeepsEntry id js) where
  stays_done : (t : ℤ) (ds : List Deed) (a : Listed T) (j : J) (a' : Listed T) (j' : J) → id < a.added → AreDone ts js t ds a j a' j'
      → AreDone ts (keeping id js) t ds a j a' j' × (id < a'.added)
  stays_done t [] a j a' j' less done = (done, subst (λ (x : Listed T). id < x.added) (sym done.0) less)
  stays_done t (Ran f ∷ ds) a j a' j' less done =
      let given = subst (λ n. id < n) (sym done.2.1.takes.0.1) less in
      let kept = keeps j f done.2.0 (Ok tt) done.1 done.0 given done.2.2 in
      let rest = stays_done t ds done.0 done.1 a' j' kept.1 done.3 in
      ((done.0, done.1, (done.2.0, done.2.1, (done.2.2, kept.0)), rest.0), rest.1)
  stays_done t (Passed f ∷ ds) a j a' j' less done =
      let given = subst (λ n. id < n) (sym done.2.0.takes.0.1) less in
      let rest = stays_done t ds done.0 done.1 a' j' given done.3 in ((done.0, done.1, done.2, rest.0), rest.1)

  stays_due : (t : ℤ) (most left : ℕ) (ds : List Deed) (a : Listed T) (j : J) (a' : Listed T) (j' : J) → id < a.added
      → RunsDue {E = E} ts js t most ds a j (Ok left) a' j' → RunsDue {E = E} ts (keeping id js) t most ds a j (Ok left) a' j'
  stays_due t most left ds a j a' j' less runs = record {
    agenda = runs.agenda;
    job = runs.job;
    are_done = (stays_done t ds a j runs.agenda runs.job less runs.are_done).0;
    had_runs = runs.had_runs;
    ends = runs.ends;
  }

  stays_failed : (t : ℤ) (most : ℕ) (ds : List Deed) (a : Listed T) (j : J) (e : F) (a' : Listed T) (j' : J) → id < a.added
      → RunsDue {E = E} ts js t most ds a j (Err (Job e)) a' j' → RunsDue {E = E} ts (keeping id js) t most ds a j (Err (Job e)) a' j'
  stays_failed t most ds a j e a' j' less runs =
      let stays = stays_done t ds a j runs.agenda runs.job less runs.are_done in
      let given = subst (λ n. id < n) (sym runs.ends.3.takes.0.1) stays.1 in
      let kept = keeps runs.job runs.ends.1 runs.ends.2 (Err e) j' a' given runs.ends.4 in record {
        agenda = runs.agenda;
        job = runs.job;
        are_done = stays.0;
        had_runs = runs.had_runs;
        ends = (runs.ends.0, runs.ends.1, runs.ends.2, runs.ends.3, (runs.ends.4, kept.0));
      }

  stays_looked : (most left : ℕ) (ds : List Deed) (look : Result Timestamp E) (a : Listed T) (j : J) (a' : Listed T) (j' : J) → id < a.added
      → Looks ts js most ds look a j (Ok (Some left)) a' j' → Looks ts (keeping id js) most ds look a j (Ok (Some left)) a' j'
  stays_looked most left ds (Ok now) a j a' j' less runs = stays_due now.nanosecond most left ds a j a' j' less runs
  stays_looked most left ds (Err e) a j a' j' less failed = failed

  stays_turned : (most left : ℕ) (ds : List Deed) (c : C) (a : Listed T) (j : J) (c' : C) (a' : Listed T) (j' : J) → id < a.added
      → Turns ts cs js most ds c a j (Ok (Some left)) c' a' j' → Turns ts cs (keeping id js) most ds c a j (Ok (Some left)) c' a' j'
  stays_turned most left ds c a j c' a' j' less (inl none) = inl none
  stays_turned most left ds c a j c' a' j' less (inr turn) =
      inr (turned turn.first turn.until turn.is turn.look turn.wakes (stays_looked most left ds turn.look a j a' j' less turn.looks))

  stay_turned : (dss : List (List Deed)) (most left : ℕ) (c : C) (a : Listed T) (j : J) (c' : C) (a' : Listed T) (j' : J) → id < a.added
      → AreTurns ts cs js dss most c a j left c' a' j' → AreTurns ts cs (keeping id js) dss most c a j left c' a' j'
  stay_turned [] most left c a j c' a' j' less none = none
  stay_turned (ds ∷ dss) most left c a j c' a' j' less turns =
      let done = turn_is_done ts cs js most turns.1 ds c a j turns.2 turns.3 turns.4 turns.5 in
      let given = (stays_done done.0 ds a j turns.3 turns.4 less done.1).1 in (
        turns.0,
        turns.1,
        turns.2,
        turns.3,
        turns.4,
        stays_turned most turns.1 ds c a j turns.2 turns.3 turns.4 less turns.5,
        stay_turned dss turns.1 left turns.2 turns.3 turns.4 c' a' j' given turns.6,
      )

  pub stays_throughout : StaysThroughout ts cs js id
  stays_throughout = record {
    deeds = λ t ds a j a' j' less done. (stays_done t ds a j a' j' less done).0;
    look = stays_due;
    failed = stays_failed;
    turns = stay_turned;
  }
