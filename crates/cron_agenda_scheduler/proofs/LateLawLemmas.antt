-- What the lateness of an entry makes of its deeds at a look.
use Rattle.std.proofs.Common.{◌≡◌, ℕ, ℤ, pos, ◌*ℤ◌, Bool, true, false, ◌&&◌, ◌||◌, cond, List, [], ◌∷◌, ◌++◌, length, map, Option, Some, None, refl, sym, ap, subst, ◌∙◌}
use Rattle.std.specs.Prelude.{◌==◌, filter, int_le, not}
use Rattle.std.specs.List.{list_any}
use Rattle.std.proofs.lemmas.Bool.{eqb-true}
use Rattle.cron_agenda.specs.declared.entry.Entry.{Entry}
use Rattle.cron_agenda.specs.declared.fire.AgendaFire.{AgendaFire}
use Rattle.cron_agenda.specs.Entries.{IsTaken, Listed, gone_on, is_by}
use Rattle.cron_agenda.specs.Fires.{instant}
use Rattle.cron_agenda.proofs.AheadLemmas.{first-one}
use Rattle.cron_agenda_scheduler.specs.declared.lateness.Lateness.{Lateness}
use Rattle.cron_agenda_scheduler.specs.declared.lateness.Lateness.TheVariants.{Each, Within, Latest}
use Rattle.cron_agenda_scheduler.specs.EntryLaws.{keeping, with_id}
use Rattle.cron_agenda_scheduler.specs.Late.{IsPicked, Tables, has_due, is_run, is_within}
use Rattle.cron_agenda_scheduler.specs.LateLaws.{AllAreByAge, AllAreRun, AllHave, EachIsRun, HaveLateness, LatestRunsNoOther, LatestRunsTheLast, WithinIsByAge, deeds_with, done_if, last_ran_if_none}
use Rattle.cron_agenda_scheduler.specs.Turns.{AreDone, Deed, IsDone, JobCalls, Passed, Ran, fire_of, taken}
use Rattle.cron_agenda_scheduler.proofs.EntryLemmas.{with_new, with_old}
use Rattle.cron_agenda_scheduler.proofs.LawLemmas.{ended, not_first}

-- ---- the lateness of the entry with an id

module _ {T : Type 0} (ts : Tables T) (lateness : Lateness) where
  abbrev Have : List (Entry T) → Type 0
  Have es = HaveLateness ts lateness es

  have-front : (l m : List (Entry T)) → Have (l ++ m) → Have l
  have-front [] m have = tt
  have-front (e ∷ l) m have = (have.0, have-front l m have.1)

  have-behind : (l m : List (Entry T)) → Have (l ++ m) → Have m
  have-behind [] m have = have
  have-behind (e ∷ l) m have = have-behind l m have.1

  have-both : (l m : List (Entry T)) → Have l → Have m → Have (l ++ m)
  have-both [] m have more = more
  have-both (e ∷ l) m have more = (have.0, have-both l m have.1 more)

  have-gone : (e : Entry T) (next : Option _) → ts.lateness e.table ≡ lateness → Have (gone_on e next)
  have-gone e None has = tt
  have-gone e (Some q) has = (has, tt)

  module _ (id : ℕ) (f : AgendaFire) (old new : List (Entry T)) (is : IsTaken ts.has ts.zones old f new) (have : Have (with_id id old)) where
    abbrev ahead : List (Entry T)
    ahead = with_id id is.first.before

    abbrev behind : List (Entry T)
    behind = with_id id is.first.after

    have_old : (is.entry.id == id) ≡ true → Have (is.entry ∷ behind)
    have_old told = have-behind ahead (is.entry ∷ behind) (subst Have (with_old ts id f old new is true told) have)

    -- the entry that is taken has it, where it is that one
    has_taken : (is.entry.id == id) ≡ true → ts.lateness is.entry.table ≡ lateness
    has_taken told = (have_old told).0

    -- and what it goes on to
    have_taken : Have (with_id id new)
    have_taken = by_test (is.entry.id == id) refl
      where
        by_test : (t : Bool) → (is.entry.id == id) ≡ t → Have (with_id id new)
        by_test true told =
            subst Have (sym (with_new ts id f old new is true told))
            (have-both ahead (gone_on is.entry is.next ++ behind) (have-front ahead (is.entry ∷ behind) (subst Have (with_old ts id f old new is true told) have))
            (have-both (gone_on is.entry is.next) behind (have-gone is.entry is.next (has_taken told)) (have_old told).1))
        by_test false told = subst Have (with_old ts id f old new is false told ∙ sym (with_new ts id f old new is false told)) have

-- the fire that is taken has the id of its entry
taken_id : {T : Type 0} (ts : Tables T) (id : ℕ) (f : AgendaFire) (old new : List (Entry T)) (is : IsTaken ts.has ts.zones old f new)
    → (f.id == id) ≡ (is.entry.id == id)
taken_id ts id f old new is = ap (λ (v : AgendaFire). v.id == id) is.is

-- ---- one deed

-- what a deed is: its fire was picked, and the job left the entry with the id as it was
picked_of : {T J F : Type 0} (ts : Tables T) (js : JobCalls T J F) (id : ℕ) (t : ℤ) (d : Deed) (a : Listed T) (j : J) (c : Listed T) (k : J)
    → IsDone ts (keeping id js) t d a j c k
    → (b : Listed T) × (run : Bool) × IsPicked ts t a (fire_of d) run b × (with_id id c.entries ≡ with_id id b.entries) × (d ≡ done_if run (fire_of d))
picked_of ts js id t (Ran f) a j c k done = (done.0, true, done.1, done.2.1, refl)
picked_of ts js id t (Passed f) a j c k done = (c, false, done.0, refl, refl)

module _ {T J F : Type 0} (ts : Tables T) (js : JobCalls T J F) (id : ℕ) (t : ℤ) (lateness : Lateness) (d : Deed) (a : Listed T) (j : J) (c : Listed T) (k : J)
    (done : IsDone ts (keeping id js) t d a j c k) (have : HaveLateness ts lateness (with_id id a.entries)) where
  -- the agenda without the fire, as the job gets it
  abbrev agenda_then : Listed T
  agenda_then = (picked_of ts js id t d a j c k done).0

  abbrev picked : IsPicked ts t a (fire_of d) (picked_of ts js id t d a j c k done).1 agenda_then
  picked = (picked_of ts js id t d a j c k done).2

  have_on : HaveLateness ts lateness (with_id id c.entries)
  have_on =
      subst (HaveLateness ts lateness) (sym (picked_of ts js id t d a j c k done).3)
      (have_taken ts lateness id (fire_of d) a.entries agenda_then.entries picked.takes.0.0 have)

  deed_is : ((fire_of d).id == id) ≡ true → d ≡ done_if (is_run lateness t (fire_of d) agenda_then.entries) (fire_of d)
  deed_is told =
      let first = picked.takes.0.0 in
      let has = has_taken ts lateness id (fire_of d) a.entries agenda_then.entries first have (sym (taken_id ts id (fire_of d) a.entries agenda_then.entries first) ∙ told) in
      let same = first-one a.entries picked.entry first.entry picked.first first.first in
      (picked_of ts js id t d a j c k done).4
      ∙ ap (λ r. done_if r (fire_of d)) (picked.told ∙ ap (λ l. is_run l t (fire_of d) agenda_then.entries) (ap (λ (e : Entry T). ts.lateness e.table) same ∙ has))

-- ---- by the fire alone

by_fire : {T J F : Type 0} (ts : Tables T) (js : JobCalls T J F) (id : ℕ) (t : ℤ) (lateness : Lateness) (runs : AgendaFire → Bool)
    → ((f : AgendaFire) (es : List (Entry T)) → is_run lateness t f es ≡ runs f)
    → (ds : List Deed) (a : Listed T) (j : J) (a' : Listed T) (j' : J) → HaveLateness ts lateness (with_id id a.entries) → AreDone ts (keeping id js) t ds a j a' j'
    → deeds_with id ds ≡ map (λ f. done_if (runs f) f) (taken (deeds_with id ds))
by_fire ts js id t lateness runs told [] a j a' j' have done = refl
by_fire {T} ts js id t lateness runs told (d ∷ ds) a j a' j' have done =
    by_test ((fire_of d).id == id) refl
    (by_fire ts js id t lateness runs told ds done.0 done.1 a' j' (have_on ts js id t lateness d a j done.0 done.1 done.2 have) done.3)
  where
    by_test : (s : Bool) → ((fire_of d).id == id) ≡ s → deeds_with id ds ≡ map (λ f. done_if (runs f) f) (taken (deeds_with id ds))
        → cond s (d ∷ deeds_with id ds) (deeds_with id ds) ≡ map (λ f. done_if (runs f) f) (taken (cond s (d ∷ deeds_with id ds) (deeds_with id ds)))
    by_test true is rest =
        ap (λ x. x ∷ deeds_with id ds) (deed_is ts js id t lateness d a j done.0 done.1 done.2 have is
        ∙ ap (λ r. done_if r (fire_of d)) (told (fire_of d) _))
        ∙ ap (λ l. done_if (runs (fire_of d)) (fire_of d) ∷ l) rest
    by_test false is rest = rest

pub each_is_run : {T J F : Type 0} (ts : Tables T) (js : JobCalls T J F) (id : ℕ) → EachIsRun ts js id
each_is_run ts js id t ds a j a' j' have done = by_fire ts js id t Each (λ f. true) (λ f es. refl) ds a j a' j' have done

pub within_is_by_age : {T J F : Type 0} (ts : Tables T) (js : JobCalls T J F) (id : ℕ) → WithinIsByAge ts js id
within_is_by_age ts js id t seconds ds a j a' j' have done =
    by_fire ts js id t (Within seconds) (λ f. is_within seconds t f.fire) (λ f es. refl) ds a j a' j' have done

-- ---- where all tables have one lateness

module _ {T : Type 0} (ts : Tables T) (t : ℤ) (lateness : Lateness) (runs : AgendaFire → Bool)
    (told : (f : AgendaFire) (es : List (Entry T)) → is_run lateness t f es ≡ runs f) (all : AllHave ts lateness) where
  run_is : (a : Listed T) (f : AgendaFire) (run : Bool) (c : Listed T) → IsPicked ts t a f run c → run ≡ runs f
  run_is a f run c picked = picked.told ∙ ap (λ l. is_run l t f c.entries) (all picked.entry.table) ∙ told f c.entries

  all_by_fire : {J F : Type 0} (js : JobCalls T J F) (ds : List Deed) (a : Listed T) (j : J) (a' : Listed T) (j' : J) → AreDone ts js t ds a j a' j'
      → ds ≡ map (λ f. done_if (runs f) f) (taken ds)
  all_by_fire js [] a j a' j' done = refl
  all_by_fire js (Ran f ∷ ds) a j a' j' done =
      ap (λ r. done_if r f ∷ ds) (run_is a f true done.2.0 done.2.1)
      ∙ ap (λ l. done_if (runs f) f ∷ l) (all_by_fire js ds done.0 done.1 a' j' done.3)
  all_by_fire js (Passed f ∷ ds) a j a' j' done =
      ap (λ r. done_if r f ∷ ds) (run_is a f false done.0 done.2.0)
      ∙ ap (λ l. done_if (runs f) f ∷ l) (all_by_fire js ds done.0 done.1 a' j' done.3)

pub all_are_run : {T J F : Type 0} (ts : Tables T) (js : JobCalls T J F) → AllAreRun ts js
all_are_run ts js t ds a j a' j' all done = all_by_fire ts t Each (λ f. true) (λ f es. refl) all js ds a j a' j' done

pub all_are_by_age : {T J F : Type 0} (ts : Tables T) (js : JobCalls T J F) → AllAreByAge ts js
all_are_by_age ts js t seconds ds a j a' j' all done =
    all_by_fire ts t (Within seconds) (λ f. is_within seconds t f.fire) (λ f es. refl) all js ds a j a' j' done

-- ---- the last one alone

-- whether an entry is due is told by the one with its id
due_with : {T : Type 0} (t : ℤ) (id : ℕ) (es : List (Entry T)) → has_due t id es ≡ list_any (is_by t) (with_id id es)
due_with t id [] = refl
due_with t id (e ∷ es) = by_test (e.id == id) (due_with t id es)
  where
    by_test : (s : Bool) → has_due t id es ≡ list_any (is_by t) (with_id id es)
        → ((s && is_by t e) || has_due t id es) ≡ list_any (is_by t) (cond s (e ∷ with_id id es) (with_id id es))
    by_test true rest = ap (λ r. is_by t e || r) rest
    by_test false rest = rest

due_same : {T : Type 0} (t : ℤ) (id : ℕ) (es os : List (Entry T)) → with_id id es ≡ with_id id os → has_due t id es ≡ has_due t id os
due_same t id es os same = due_with t id es ∙ ap (list_any (is_by t)) same ∙ sym (due_with t id os)

any_either : (p q : Bool) → q ≡ true → (p || q) ≡ true
any_either true q is = refl
any_either false q is = is

any-there : {X : Type 0} (p : X → Bool) (x : X) (l m : List X) → p x ≡ true → list_any p (l ++ x ∷ m) ≡ true
any-there p x [] m is = ap (λ s. s || list_any p m) is
any-there p x (y ∷ l) m is = any_either (p y) (list_any p (l ++ x ∷ m)) (any-there p x l m is)

none_there : {T : Type 0} (t : ℤ) (id : ℕ) (es : List (Entry T)) → filter (is_by t) es ≡ [] → has_due t id es ≡ false
none_there t id [] none = refl
none_there t id (e ∷ es) none =
    let parts = not_first (is_by t) e es (is_by t e) refl none in by_test (e.id == id) (is_by t e) parts.0 (none_there t id es parts.1)
  where
    by_test : (s r : Bool) → r ≡ false → has_due t id es ≡ false → ((s && r) || has_due t id es) ≡ false
    by_test true true late rest = absurd (cc)
    by_test true false late rest = rest
    by_test false r late rest = rest

abbrev is_some : {X : Type 0} → List X → Bool
is_some [] = false
is_some (x ∷ l) = true

-- an entry is due exactly if it has a deed, or is due in the end
due_is_done : {T J F : Type 0} (ts : Tables T) (js : JobCalls T J F) (id : ℕ) (t : ℤ) (ds : List Deed) (a : Listed T) (j : J) (a' : Listed T) (j' : J)
    → AreDone ts (keeping id js) t ds a j a' j' → has_due t id a.entries ≡ (is_some (deeds_with id ds) || has_due t id a'.entries)
due_is_done ts js id t [] a j a' j' done = ap (λ (x : Listed _). has_due t id x.entries) (sym done.0)
due_is_done {T} ts js id t (d ∷ ds) a j a' j' done =
    by_test ((fire_of d).id == id) refl (due_is_done ts js id t ds done.0 done.1 a' j' done.3)
  where
    by_test : (s : Bool) → ((fire_of d).id == id) ≡ s → has_due t id done.0.entries ≡ (is_some (deeds_with id ds) || has_due t id a'.entries)
        → has_due t id a.entries ≡ (is_some (cond s (d ∷ deeds_with id ds) (deeds_with id ds)) || has_due t id a'.entries)
    by_test true told rest =
        let is = picked_of ts js id t d a j done.0 done.1 done.2 in
        let first = is.2.takes.0.0 in
        let own = sym (taken_id ts id (fire_of d) a.entries is.0.entries first) ∙ told in
        let due = ap (λ (v : AgendaFire). int_le (instant v.fire *ℤ pos 1_000_000_000) t) (sym first.is) ∙ is.2.takes.1 in
        due_with t id a.entries
        ∙ ap (list_any (is_by t)) (with_old ts id (fire_of d) a.entries is.0.entries first true own)
        ∙ any-there (is_by t) first.entry (with_id id first.first.before) (with_id id first.first.after) due
    by_test false told rest =
        let is = picked_of ts js id t d a j done.0 done.1 done.2 in
        let first = is.2.takes.0.0 in
        let other = sym (taken_id ts id (fire_of d) a.entries is.0.entries first) ∙ told in
        due_same t id a.entries done.0.entries (with_old ts id (fire_of d) a.entries is.0.entries first false other
        ∙ sym (with_new ts id (fire_of d) a.entries is.0.entries first false other) ∙ sym is.3)
        ∙ rest

-- one fire before the others
last_on : (late : Bool) (f : AgendaFire) (l : List Deed) → l ≡ last_ran_if_none late (taken l)
    → done_if (not (is_some l || late)) f ∷ l ≡ last_ran_if_none late (f ∷ taken l)
last_on true f [] rest = refl
last_on false f [] rest = refl
last_on true f (d ∷ l) rest = ap (λ m. Passed f ∷ m) rest
last_on false f (d ∷ l) rest = ap (λ m. Passed f ∷ m) rest

none_ran : (late : Bool) → [] ≡ last_ran_if_none late []
none_ran true = refl
none_ran false = refl

pub latest_runs_no_other : {T J F : Type 0} (ts : Tables T) (js : JobCalls T J F) (id : ℕ) → LatestRunsNoOther ts js id
latest_runs_no_other ts js id t [] a j a' j' have done = none_ran (has_due t id a'.entries)
latest_runs_no_other {T} ts js id t (d ∷ ds) a j a' j' have done =
    by_test ((fire_of d).id == id) refl
    (latest_runs_no_other ts js id t ds done.0 done.1 a' j' (have_on ts js id t Latest d a j done.0 done.1 done.2 have) done.3)
  where
    late : Bool
    late = has_due t id a'.entries

    by_test : (s : Bool) → ((fire_of d).id == id) ≡ s → deeds_with id ds ≡ last_ran_if_none late (taken (deeds_with id ds))
        → cond s (d ∷ deeds_with id ds) (deeds_with id ds) ≡ last_ran_if_none late (taken (cond s (d ∷ deeds_with id ds) (deeds_with id ds)))
    by_test true told rest =
        let is = picked_of ts js id t d a j done.0 done.1 done.2 in
        let again : has_due t (fire_of d).id is.0.entries ≡ (is_some (deeds_with id ds) || late) =
        ap (λ i. has_due t i is.0.entries) (eqb-true (fire_of d).id id told)
        ∙ due_same t id is.0.entries done.0.entries (sym is.3)
        ∙ due_is_done ts js id t ds done.0 done.1 a' j' done.3 in
        ap (λ x. x ∷ deeds_with id ds) (deed_is ts js id t Latest d a j done.0 done.1 done.2 have told
        ∙ ap (λ r. done_if (not r) (fire_of d)) again)
        ∙ last_on late (fire_of d) (deeds_with id ds) rest
    by_test false told rest = rest

pub latest_runs_the_last : {T J E F : Type 0} (ts : Tables T) (js : JobCalls T J F) (id : ℕ) → LatestRunsTheLast ts js id E
latest_runs_the_last ts js id t most left ds a j a' j' have runs some fewer =
    latest_runs_no_other ts js id t ds a j runs.agenda runs.job have runs.are_done
    ∙ ap (λ late. last_ran_if_none late (taken (deeds_with id ds)))
    (none_there t id runs.agenda.entries (ended ts.has ts.zones t left (length ds) runs.agenda a' some fewer runs.ends.2))
